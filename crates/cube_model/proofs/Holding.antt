-- Histories that hold all that another does.
use Rattle.std.proofs.Common.{◌≡◌, true, List, length, ap, ◌∙◌, subst}
use Rattle.cube_model.specs.declared.entry.Entry.{Entry}
use Rattle.cube_model.specs.Cubes.{Public}
use Rattle.cube_model.specs.Entries.{is_allowed}
use Rattle.cube_model.specs.Verdicts.{source, links_of}
use Rattle.cube_model.specs.TwoWorlds.{Extends, HoldsMore}
use Rattle.cube_model.specs.LinkLaws.{SuitsAll}
use Rattle.cube_model.proofs.Finer.{is_finer_trans}
use Rattle.cube_model.proofs.Histories.{AreAllowed, Each-append_left, later_source, links_of-append}
use Rattle.cube_model.proofs.Members.{append_left}

-- what goes on from a history holds all that it does
pub extended : (g : Public) (h k : List Entry) → AreAllowed g k → Extends h k → HoldsMore g h k
extended g h k a e = record {
  sources = λ m s way q. (let r = later_source g h e.0 m s (subst (AreAllowed g) e.1 a) q in (r.0, ap (λ x. source x m) e.1 ∙ r.1, r.2));
  links = λ m xs way s. (let z = subst (λ x. SuitsAll (length g.shape.points) x xs) (ap (λ x. links_of g x m) e.1 ∙ links_of-append g h e.0 m) s in record { long = z.long; small = z.small; all = λ l y. z.all l (append_left l (links_of g h m) (links_of g e.0 m) y) });
}

pub more_trans : (g : Public) (h k last : List Entry) → HoldsMore g h k → HoldsMore g k last → HoldsMore g h last
more_trans g h k last a b = record {
  sources = λ m s way q. (let x = a.sources m s way q in let y = b.sources m x.0 way x.1 in (y.0, y.1, is_finer_trans y.0 x.0 s y.2 x.2));
  links = λ m xs way s. a.links m xs way (b.links m xs way s);
}

-- a history of allowed entries, all of which a last one holds
abbrev pub HeldBy : Public → List Entry → List Entry → Type 0
HeldBy g last k = AreAllowed g k × HoldsMore g k last

pub held_before : (g : Public) (last h k : List Entry) → Extends h k → HeldBy g last k → HeldBy g last h
held_before g last h k e a = (Each-append_left (λ x. is_allowed g x ≡ true) h e.0 (subst (AreAllowed g) e.1 a.0), more_trans g h k last (extended g h k a.0 e) a.1)
