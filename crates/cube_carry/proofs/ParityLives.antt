-- Two lives on a parity measure.
use Rattle.std.proofs.Common.{ap, ◌≡◌, ℕ, ◌<◌, List, [], length, map, ℤ, refl, ◌∙◌, subst}
use Rattle.cube_model.specs.declared.cell.Cell.{Cell}
use Rattle.cube_model.specs.declared.entry.Entry.{Entry}
use Rattle.cube_model.specs.declared.link.Link.{Link}
use Rattle.cube_model.specs.declared.policy.Method.TheVariants.{Parity}
use Rattle.cube_model.specs.Cubes.{Public, World, IsWorld, places, IsIn}
use Rattle.cube_model.specs.Protection.{method, protected, guarded}
use Rattle.cube_model.specs.Links.{basis, pairs_among}
use Rattle.cube_model.specs.Verdicts.{links_of, IsAdmissible}
use Rattle.cube_model.specs.Twins.{by_walks, walks, changes}
use Rattle.cube_model.specs.Runs.{Ask}
use Rattle.cube_model.specs.LinkLaws.{SuitsAll}
use Rattle.cube_model.proofs.Histories.{AreAllowed, admissible_allowed}
use Rattle.cube_model.proofs.LinkFacts.{basis_suits, small_walks}
use Rattle.cube_model.proofs.Members.{map_has}
use Rattle.cube_model.proofs.Parities.{Suits, IsOf, IsSmall, link_places, links_of_places, history_free, freeing, walks_suit, parity_place, changes_walks}
use Rattle.cube_carry.specs.Names.{Named, known, measure_in, carried_place, carried_link}
use Rattle.cube_carry.specs.Carrying.{carried_links}
use Rattle.cube_carry.specs.TwoLives.{AreLives, old_changes}
use Rattle.cube_carry.proofs.Carried.{are_apart, linked_old, linked_carried}
use Rattle.cube_carry.proofs.LatticeLives.{old_changes_by}
use Rattle.cube_carry.proofs.Leaving.{suiting_list, suits_each, IsSigns}
use Rattle.cube_carry.proofs.Measures.{had, is_controlled}
use Rattle.cube_carry.proofs.Silence.{first_end, first_admissible, holds_carried, links_of_carried, later_allowed}
use Rattle.cube_carry.proofs.Spread.{suits_here}

module _ (a b : Named) (old new : List (List ℤ)) (h : List Entry) (before behind : List Ask) (later : List Entry) (lives : AreLives a b old new h before behind later) (m : ℕ) (way : method (known b) m ≡ Parity) where
  abbrev n : ℕ
  n = length a.shape.points

  abbrev n' : ℕ
  n' = length b.shape.points

  abbrev k : ℕ
  k = measure_in b.dims a.dims m

  abbrev last : List Entry
  last = first_end a b old new h before behind later lives

  pub controlled : m < length b.dims.measures
  controlled = is_controlled b new m lives.new_named (λ p. absurd (cc))

  old_way : k < length a.dims.measures → method (known a) k ≡ Parity
  old_way l = (had a b new m lives.new_named lives.continues controlled l).way ∙ way

  last_allowed : AreAllowed (known a) last
  last_allowed = admissible_allowed (known a) [] last (first_admissible a b old new h before behind later lives)

  -- signs that suit the later links suit the carried ones
  suit_carried : (φ : ℕ → ℤ) → ((p : ℕ) → IsSmall (φ p)) → ((l : Link) → IsIn l (links_of (known b) later m) → Suits φ l) → (l : Link) → IsIn l (carried_links a b last m) → Suits φ l
  suit_carried φ small suits l z = suits_each φ n' (carried_links a b last m) (λ x y. link_places n' x (linked_carried a b old new last lives.old_named lives.new_named lives.continues (first_admissible a b old new h before behind later lives) lives.carried m way x y))
      (subst (λ ls. SuitsAll n' ls (map φ (places (known b)))) (links_of_carried a b old new h before behind later lives m way)
      ((holds_carried a b old new h before behind later lives).links m (map φ (places (known b))) way
      (suiting_list φ n' (links_of (known b) later m) small (λ x y. links_of_places (known b) later m x (later_allowed a b old new h before behind later lives) y) suits))) l z

  -- so what they are at old places suits the old links
  suit_old : (φ : ℕ → ℤ) → ((p : ℕ) → IsSmall (φ p)) → ((l : Link) → IsIn l (links_of (known b) later m) → Suits φ l) → (l : Link) → IsIn l (links_of (known a) last k) → Suits (λ i. φ (carried_place a b i)) l
  suit_old φ small suits = suits_each (λ i. φ (carried_place a b i)) n (links_of (known a) last k) (λ x y. links_of_places (known a) last k x last_allowed y)
      ((basis_suits n (links_of (known a) last k) (map (λ i. φ (carried_place a b i)) (places (known a)))).0
      (suiting_list (λ i. φ (carried_place a b i)) n (basis n (links_of (known a) last k)) (λ i. small (carried_place a b i)) (λ x y. in_places x y)
      (λ x y. suits_here a b (are_apart a b old new last lives.old_named lives.new_named lives.continues (first_admissible a b old new h before behind later lives) lives.carried) φ (λ i. φ (carried_place a b i)) x (λ i l. refl) (in_places x y) (suit_carried φ small suits (carried_link a b x) (map_has (carried_link a b) x (basis n (links_of (known a) last k)) y)))))
    where
      in_places : (x : Link) → IsIn x (basis n (links_of (known a) last k)) → IsOf (λ i. i < n) x
      in_places x y = link_places n x (linked_old a b old new last lives.old_named lives.new_named lives.continues (first_admissible a b old new h before behind later lives) lives.carried m way x y)

  -- signs that fit the later history fit the old one at their old places
  pub signs_before : (ch : List ℤ) → IsSigns (known b) later m ch → IsSigns (known a) last k (old_changes a b ch)
  signs_before ch x = record {
    by = λ i. x.by (carried_place a b i);
    small = λ i. x.small (carried_place a b i);
    suits = suit_old x.by x.small x.suits;
    is = ap (old_changes a b) x.is ∙ old_changes_by a b old new lives.old_named lives.new_named lives.continues x.by;
  }

-- the signs that walks over the links from a guarded place give
pub walk_signs : (g : Public) (last : List Entry) (m i : ℕ) (ch : List ℤ) → method g m ≡ Parity → IsAdmissible g last → i < length g.shape.points → IsIn i (guarded g m) → ch ≡ map (by_walks (walks g last m i)) (places g) → IsSigns g last m ch
walk_signs g last m i ch way adm below guards e = record {
  by = by_walks (walks g last m i);
  small = small_walks (length g.shape.points) (pairs_among (links_of g last m)) i;
  suits = walks_suit (length g.shape.points) (links_of g last m) i below (λ x y. links_of_places g last m x (admissible_allowed g [] last adm) y) (freeing (length g.shape.points) (links_of g last m) i (history_free g last m way adm i guards));
  is = e;
}

-- the changes for a protected place fit the history that they are by
pub parity_fits : (w : World) (last : List Entry) (m : ℕ) (t : Cell) → IsWorld w → method w.shown m ≡ Parity → IsAdmissible w.shown last → IsIn t (protected w.shown m) → IsSigns w.shown last m (changes w.shown last m t)
parity_fits w last m t ok way adm is_in =
    let here = parity_place w m t ok way is_in in
    walk_signs w.shown last m here.alone.place (changes w.shown last m t) way adm here.alone.below here.guards (changes_walks w.shown last m t here.alone.place way here.alone.is_first)
