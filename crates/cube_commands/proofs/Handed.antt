-- What a carried history keeps.
use Rattle.std.proofs.Common.{◌≡◌, refl, sym, ap₂, ◌∙◌, subst, ℕ, zero, suc, ◌*◌, ◌≤◌, ◌^◌, List, [], ◌∷◌, ◌++◌, flat_map, map, length, length-append, Option, Some, None, Ok, Err, inl, inr, arith}
use Rattle.std.proofs.lemmas.List.{length-map}
use Rattle.cube_model.specs.declared.entry.Entry.{Entry}
use Rattle.cube_model.specs.declared.entry.Entry.TheVariants.{Linked}
use Rattle.cube_model.specs.declared.link.Link.{Link}
use Rattle.cube_model.specs.declared.policy.Method.{Method}
use Rattle.cube_model.specs.declared.policy.Method.TheVariants.{Plain, Lattice, Parity}
use Rattle.cube_model.specs.Compaction.{source_entry}
use Rattle.cube_model.specs.Cores.{IsCore, shown}
use Rattle.cube_model.specs.Cubes.{count_from}
use Rattle.cube_model.specs.Entries.{requests}
use Rattle.cube_model.specs.Links.{basis}
use Rattle.cube_model.specs.Policies.{IsPolicy}
use Rattle.cube_model.specs.Protection.{method, first}
use Rattle.cube_model.specs.Runs.{Ask, end, by_rules}
use Rattle.cube_model.specs.TwoWorlds.{Extends}
use Rattle.cube_model.specs.Verdicts.{links_of, IsAdmissible}
use Rattle.cube_model.proofs.Alike.{requests-append}
use Rattle.cube_model.proofs.Bases.{basis_is_short}
use Rattle.cube_carry.specs.Carrying.{carried_source, carried_links, carried_by, carried_on, carried_history, IsCarried}
use Rattle.cube_carry.specs.Names.{Named, known, named, measure_in, carried_link}
use Rattle.cube_carry.specs.TwoLives.{AreLives}
use Rattle.cube_carry.proofs.Breaches.{breaches_are}
use Rattle.cube_carry.proofs.Carried.{carried_is_admissible}
use Rattle.cube_carry.proofs.Cores.{cores_are_named}
use Rattle.cube_carry.proofs.Lives.{two_lives}
use Rattle.cube_carry.proofs.OldPlaces.{old_cells}
use Rattle.cube_engine.specs.Kept.{history_of}
use Rattle.cube_engine.proofs.KeepsAll.{written_recovers, written_is_short}
use Rattle.cube_commands.specs.Carrying.{Handing, Carries, GoesOn, IsHanded, IsCarryOf, carried_entries, carried_text}

-- ---- its entries are sources and links alone

module _ (a b : Named) (h : List Entry) where
  none_linked : (m : ℕ) (ls : List Link) → requests (map (Linked m) ls) ≡ []
  none_linked m [] = refl
  none_linked m (l ∷ ls) = none_linked m ls

  none_source : (m : ℕ) (o : Option (List ℕ)) → requests (source_entry m o) ≡ []
  none_source m None = refl
  none_source m (Some c) = refl

  none_by : (way : Method) (m : ℕ) → requests (carried_by way a b h m) ≡ []
  none_by Plain m = refl
  none_by Lattice m = none_source m (carried_source a b h m)
  none_by Parity m = none_linked m (carried_links a b h m)

  none_from : (s n : ℕ) → requests (flat_map (carried_on a b h) (count_from s n)) ≡ []
  none_from s zero = refl
  none_from s (suc n) = requests-append (carried_on a b h s) (flat_map (carried_on a b h) (count_from (suc s) n)) ∙ ap₂ (λ x y. x ++ y) (none_by (method (known b) s) s) (none_from (suc s) n)

  -- ---- there are few of them

  few_by : (way : Method) (m : ℕ) → length a.shape.points ≤ 65536 → length (carried_by way a b h m) ≤ 65536
  few_by Plain m few = omega arith
  few_by Lattice m few = one (carried_source a b h m)
    where
      one : (o : Option (List ℕ)) → length (source_entry m o) ≤ 65536
      one None = omega arith
      one (Some c) = omega arith
  few_by Parity m few =
      let ls = links_of (known a) h (measure_in b.dims a.dims m) in
      let outer = length-map (carried_links a b h m) (Linked m) in
      let inner = length-map (basis (length a.shape.points) ls) (carried_link a b) in
      let short = basis_is_short (length a.shape.points) ls in
      omega (arith, outer, inner, short, few)

  few_from : (s n : ℕ) → length a.shape.points ≤ 65536 → length (flat_map (carried_on a b h) (count_from s n)) ≤ n * 65536
  few_from s zero few = omega arith
  few_from s (suc n) few =
      let here = few_by (method (known b) s) s few in
      let rest = few_from (suc s) n few in
      let both = length-append (carried_on a b h s) (flat_map (carried_on a b h) (count_from (suc s) n)) in
      omega arith

pub entries_alone : (x : Handing) → requests (carried_entries x) ≡ []
entries_alone x = none_from (named x.older x.older_policy) (named x.core x.policy) x.history 0 (length x.policy.methods)

-- ---- the whole

pub carries : (x : Handing) (text : List ℕ) → IsCore x.older → IsPolicy x.older.dims x.older_policy → IsAdmissible (shown x.older x.older_policy) x.history → IsCore x.core → IsPolicy x.core.dims x.policy → IsHanded x → text ≡ carried_text x → Carries x text
carries x text old_core old_policy old_admissible new_core new_policy handed is = record {
  continues = handed.0;
  same_values = handed.1;
  carried = handed.2;
  text_is = is;
  admissible = adm;
  recovers = subst (λ (t : List ℕ). history_of x.core x.policy t ≡ Ok entries) (sym is) (written_recovers x.core x.policy entries new_core new_policy adm alone);
  short = subst (λ (t : List ℕ). length t ≤ 2 ^ 28) (sym is) (let a = written_is_short x.core x.policy entries new_core new_policy adm alone in let b = few in omega arith);
  new_cells = λ begun before behind later m t goes within. two_lives a b x.older.cube x.core.cube begun before behind later m t (lives begun before behind later goes) within;
  old_cells = λ begun before behind later m t goes within. old_cells a b x.older.cube x.core.cube begun before behind later m t (lives begun before behind later goes) within;
}
  where
    a : Named
    a = named x.older x.older_policy

    b : Named
    b = named x.core x.policy

    entries : List Entry
    entries = carried_entries x

    alone : requests entries ≡ []
    alone = entries_alone x

    adm : IsAdmissible (shown x.core x.policy) entries
    adm = carried_is_admissible a b x.older.cube x.core.cube x.history (cores_are_named x.older x.older_policy old_core old_policy) (cores_are_named x.core x.policy new_core new_policy) handed.0 old_admissible handed.2

    few : length entries ≤ 1048576
    few =
        let each = few_from a b x.history 0 (length x.policy.methods) old_core.few_points in
        let measures = new_core.dims.few_measures in
        let same = new_policy.methods in
        omega arith

    lives : (begun : List Entry) (before behind : List Ask) (later : List Entry) → GoesOn x begun before behind later → AreLives a b x.older.cube x.core.cube begun before behind later
    lives begun before behind later goes = record {
      old_named = cores_are_named x.older x.older_policy old_core old_policy;
      new_named = cores_are_named x.core x.policy new_core new_policy;
      continues = handed.0;
      same_values = handed.1;
      admissible = goes.begins;
      carried = subst (IsCarried a b) (sym goes.ended) handed.2;
      later_admissible = goes.admissible;
      extends = subst (λ (h : List Entry). Extends (end by_rules (known b) (carried_history a b h) behind) later) (sym goes.ended) goes.extends;
    }

-- ---- nothing stands in the way of what is handed over

none_first : {X : Type 0} (xs : List X) (x : X) → xs ≡ [] → first xs ≡ Some x → ⊥
none_first [] x e f = cc
none_first (y ∷ ys) x e f = absurd (cc)

pub not_uncarried : (x : Handing) → IsHanded x → (line : List ℕ) → IsCarryOf x (Err line) → ⊥
not_uncarried x handed line (inl e) = none_first _ _ ((breaches_are (named x.older x.older_policy) (named x.core x.policy) x.older.cube x.core.cube).1 (handed.0, handed.1)) e.is_first
not_uncarried x handed line (inr e) = none_first _ _ handed.2 e.is_first
