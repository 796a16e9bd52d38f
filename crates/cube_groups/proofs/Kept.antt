-- What no fault of a groups file says: its groups keep the rules.
use Rattle.std.proofs.Common.{◌≡◌, ℕ, zero, suc, ◌<◌, ◌≤◌, Bool, true, false, not, List, [], ◌∷◌, ◌++◌, append_assoc, append-nil, length, get_or, take, map, codes, refl, sym, ap, subst, ◌∙◌, eqb, Option, Some, None, Result, Ok, Err, arith}
use Rattle.std.specs.Prelude.{is_none, IfOk}
use Rattle.std.specs.List.{list_any}
use Rattle.std.specs.Str.{bytes_eq}
use Rattle.std.proofs.lemmas.Bool.{false≢true, ltb-false}
use Rattle.std.proofs.lemmas.List.{length-map, get_or-map, take-map}
use Rattle.toml.specs.Data.{Data, string, integer, float, boolean, datetime, array, table, Members, no_members}
use Rattle.cube_model.specs.Answers.{Answers}
use Rattle.cube_model.specs.Checks.{unless}
use Rattle.cube_model.specs.Cubes.{Each}
use Rattle.cube_model.proofs.Parts.{list_any-map}
use Rattle.cube_tables.specs.Tables.{as_tables, is_empty_array, items_list, table_in, under}
use Rattle.cube_tables.proofs.Turns.{no_append, no_check, nothing, value, turn_at}
use Rattle.cube_model.specs.Names.{is_group_name}
use Rattle.cube_groups.specs.Rules.{AreNew, AreGroups}
use Rattle.cube_groups.specs.GroupsFile.{tables_of, group_of, group_faults, list_faults, tables_faults, groups_faults, groups_in}
use Rattle.cube_groups.specs.declared.group.GroupFile.{GroupFile}
use Rattle.cube_groups.specs.declared.fault.GroupsFault.{GroupsFault}
use Rattle.cube_groups.specs.declared.fault.GroupsFault.TheVariants.{NoMemory}

not_false : (b : Bool) → not b ≡ false → b ≡ true
not_false true h = refl
not_false false h = sym h

-- ---- how many there are

some_tables : (d : Data) → is_empty_array d ≡ false → is_none (as_tables d) ≡ false → 1 ≤ length (tables_of (Some d))
some_tables (array ds) a b = let long = length-map (items_list ds) table_in in not_empty (length (items_list ds)) a long
  where
    not_empty : (n : ℕ) → eqb n 0 ≡ false → length (map table_in (items_list ds)) ≡ n → 1 ≤ length (map table_in (items_list ds))
    not_empty zero h e = absurd (false≢true (sym h))
    not_empty (suc n) h e = omega (arith, e)
some_tables (string s) a b = absurd (false≢true (sym b))
some_tables (integer s) a b = absurd (false≢true (sym b))
some_tables (float s) a b = absurd (false≢true (sym b))
some_tables (boolean s) a b = absurd (false≢true (sym b))
some_tables (datetime s) a b = absurd (false≢true (sym b))
some_tables (table s) a b = absurd (false≢true (sym b))

record Few (ts : List Members) : Type 0 where
  pub some : 1 ≤ length ts
  pub few : length ts ≤ 16

few_tables : (o : Option Data) → list_faults o ≡ [] → Few (tables_of o)
few_tables None h = absurd (cc)
few_tables (Some d) h =
    let last = no_append _ _ h in
    let parts = no_append _ _ last.0 in
    record {
      some = some_tables d (no_check _ _ parts.0) (no_check _ _ parts.1);
      few = let l = ltb-false 16 (length (tables_of (Some d))) (no_check _ _ last.1) in omega (arith, l);
    }

-- ---- their names

-- what a group without a fault is behind the earlier ones
record Follows (earlier : List GroupFile) (g : GroupFile) : Type 0 where
  pub named : is_group_name g.name ≡ true
  pub new : list_any (λ e. bytes_eq g.name e.name) earlier ≡ false

follows : (earlier : List GroupFile) (t : Members) → group_faults earlier t ≡ [] → Follows earlier (group_of t)
unfolding group_faults group_of
follows earlier t h =
    let names = no_append _ _ (no_append _ _ h).1 in
    record { named = not_false _ (no_check _ _ names.0); new = no_check _ _ names.1 }

-- each item has what is known at each place
each_from : {X : Type 0} (P : X → Type 0) (xs : List X) (d : X) → ((k : ℕ) → k < length xs → P (get_or xs k d)) → Each P xs
each_from P [] d h = tt
each_from P (x ∷ xs) d h = (h zero (omega arith), each_from P xs d (λ k l. h (suc k) (omega (arith, l))))

-- names of which none stands before itself are new one behind another
new_by_turns : (earlier xs : List (List ℕ)) → ((k : ℕ) → k < length xs → list_any (bytes_eq (get_or xs k [])) (earlier ++ take k xs) ≡ false) → AreNew earlier xs
new_by_turns earlier [] h = tt
new_by_turns earlier (x ∷ xs) h = (
  subst (λ (l : List (List ℕ)). list_any (bytes_eq x) l ≡ false) (append-nil earlier) (h zero (omega arith)),
  new_by_turns (earlier ++ x ∷ []) xs (λ k l. subst (λ (ys : List (List ℕ)). list_any (bytes_eq (get_or xs k [])) ys ≡ false) (sym (append_assoc earlier (x ∷ []) (take k xs))) (h (suc k) (omega (arith, l)))),
)

module _ (ts : List Members) (none : tables_faults ts ≡ []) where
  abbrev gs : List GroupFile
  gs = map group_of ts

  follow : (k : ℕ) → k < length ts → Follows (map group_of (take k ts)) (group_of (get_or ts k no_members))
  follow k l = follows (map group_of (take k ts)) (get_or ts k no_members) (turn_at (λ before t. group_faults (map group_of before) t) ts k no_members l none)

  names_kept : Each (λ g. is_group_name g.name ≡ true) gs
  names_kept = each_from (λ g. is_group_name g.name ≡ true) gs (group_of no_members) (λ k l.
      let long = length-map ts group_of in
      let within : k < length ts = omega (arith, long, l) in
      subst (λ g. is_group_name g.name ≡ true) (sym (get_or-map group_of ts k no_members (group_of no_members) within)) (follow k within).named)

  new_kept : AreNew [] (map (λ (g : GroupFile). g.name) gs)
  new_kept = new_by_turns [] (map (λ (g : GroupFile). g.name) gs) (λ k l.
      let long = length-map ts group_of in
      let longer = length-map gs (λ (g : GroupFile). g.name) in
      let within : k < length ts = omega (arith, long, longer, l) in
      let at = get_or-map (λ (g : GroupFile). g.name) gs k (group_of (get_or ts k no_members)) [] (omega (arith, long, within)) ∙ ap (λ (g : GroupFile). g.name) (get_or-map group_of ts k no_members (group_of (get_or ts k no_members)) within) in
      ap (λ x. list_any (bytes_eq x) (take k (map (λ (g : GroupFile). g.name) gs))) at
      ∙ ap (list_any (bytes_eq (group_of (get_or ts k no_members)).name)) (take-map (λ (g : GroupFile). g.name) k gs ∙ ap (map (λ (g : GroupFile). g.name)) (take-map group_of k ts))
      ∙ list_any-map (λ (g : GroupFile). g.name) (bytes_eq (group_of (get_or ts k no_members)).name) (map group_of (take k ts))
      ∙ (follow k within).new)

are_groups : (t : Members) → groups_faults t ≡ [] → AreGroups (groups_in t)
are_groups t h =
    let parts = no_append _ _ h in
    let many = few_tables (under (codes "group") t) parts.0 in
    let ts = tables_of (under (codes "group") t) in
    let long = length-map ts group_of in
    record {
      some = let l = many.some in omega (arith, l, long);
      few = let l = many.few in omega (arith, l, long);
      names = names_kept ts parts.1;
      new_names = new_kept ts parts.1;
    }

-- the groups that are answered keep the rules
pub rules_kept : (t : Members) (r : Result (List GroupFile) GroupsFault) → Answers NoMemory r (unless (groups_faults t) (groups_in t)) → IfOk r (λ groups. AreGroups groups)
rules_kept t (Err e) h = tt
rules_kept t (Ok kept) h = subst AreGroups (value _ _ _ h) (are_groups t (nothing _ _ _ h))
