-- A run over groups that ended at its files.
use Rattle.std.proofs.Common.{◌≡◌, ℕ, List, [], ◌∷◌, ◌++◌, Option, Some, None, inl, inr, refl, sym, subst, arith}
use Rattle.std.specs.Prelude.{IsSomeAnd}
use Rattle.cube_groups.specs.declared.group.GroupFile.{GroupFile}
use Rattle.cube_io.specs.Causes.{Rose}
use Rattle.cube_io.specs.Files.{file_of}
use Rattle.cube_io.specs.Seen.{FolderState, Seen}
use Rattle.cube_model.specs.Cores.{Core}
use Rattle.cube_model.specs.Dims.{Dims}
use Rattle.cube_opening.specs.Opening.{dims_said, facts_said}
use Rattle.cube_opening.specs.Ruling.{groups_said, group_policy_said, one_group, Lists, AreRuledBy, HaveNames, MakesGroups, EndsAtOne, EndsAtRules, EndsUnruled, HasGroups}
use Rattle.cube_opening.specs.declared.cube_files.Rules.{Rules}
use Rattle.cube_opening.specs.declared.cube_files.Rules.TheVariants.{One, Groups}
use Rattle.cube_opening.specs.declared.cube_files.RuledFiles.{RuledFiles}
use Rattle.cube_opening.specs.declared.report.Report.{Report}
use Rattle.cube_opening.specs.declared.ruling.RuledGroup.{RuledGroup}
use Rattle.cube_opening.proofs.Accepted.{accepted_one, founded, one_core, says_one}
use Rattle.cube_opening.proofs.Ended.{IsOfFiles, one_status, one_unasked, other}

-- ---- its status: 3, 5 or 7

at_one : {F : Type 0} (s : Dims) (earlier : List (List ℕ)) (fs : List GroupFile) (folder : Seen FolderState F) (r : Report) → EndsAtOne s earlier fs folder r → IsOfFiles r.status
at_one s earlier [] folder r e = inr (inr e.0.0)
at_one s earlier (f ∷ fs) folder r (inl e) = one_status (group_policy_said s f.name) f.policy folder r e.unopened
at_one s earlier (f ∷ fs) folder r (inr e) = at_one s (earlier ++ f.policy ∷ []) fs folder r e.1

at_rules : {F : Type 0} (s : Dims) (earlier : List (List ℕ)) (rules : Rules) (folder : Seen FolderState F) (r : Report) → EndsAtRules s earlier rules folder r → IsOfFiles r.status
at_rules s earlier (One policy) folder r e = at_one s earlier (one_group policy) folder r e
at_rules s earlier (Groups name) folder r (inl e) = one_status groups_said name folder r e.unopened
at_rules s earlier (Groups name) folder r (inr (fs, says, e)) = at_one s (earlier ++ name ∷ []) fs folder r e

pub status : {F : Type 0} (cube : RuledFiles) (folder : Seen FolderState F) (r : Report) → EndsUnruled cube folder r → IsOfFiles r.status
status cube folder r (inl (inl e)) = one_status dims_said cube.dims folder r e.unopened
status cube folder r (inl (inr e)) = one_status (facts_said e.0) cube.facts folder r e.2.unopened
status cube folder r (inr e) = at_rules e.0.dims (cube.dims ∷ cube.facts ∷ []) cube.rules folder r e.2

pub not_nine : {F : Type 0} (cube : RuledFiles) (folder : Seen FolderState F) (r : Report) → EndsUnruled cube folder r → r.status ≡ 9 → ⊥
not_nine cube folder r e = other r.status 9 (λ k. omega (arith, k)) (λ k. omega (arith, k)) (λ k. omega (arith, k)) (status cube folder r e)

-- ---- it reports no outcomes

one_of_them : {F : Type 0} (s : Dims) (earlier : List (List ℕ)) (fs : List GroupFile) (folder : Seen FolderState F) (r : Report) → EndsAtOne s earlier fs folder r → r.outcomes ≡ []
one_of_them s earlier [] folder r e = e.0.1
one_of_them s earlier (f ∷ fs) folder r (inl e) = one_unasked (group_policy_said s f.name) f.policy folder r e.unopened
one_of_them s earlier (f ∷ fs) folder r (inr e) = one_of_them s (earlier ++ f.policy ∷ []) fs folder r e.1

rules_unasked : {F : Type 0} (s : Dims) (earlier : List (List ℕ)) (rules : Rules) (folder : Seen FolderState F) (r : Report) → EndsAtRules s earlier rules folder r → r.outcomes ≡ []
rules_unasked s earlier (One policy) folder r e = one_of_them s earlier (one_group policy) folder r e
rules_unasked s earlier (Groups name) folder r (inl e) = one_unasked groups_said name folder r e.unopened
rules_unasked s earlier (Groups name) folder r (inr (fs, says, e)) = one_of_them s (earlier ++ name ∷ []) fs folder r e

pub unasked : {F : Type 0} (cube : RuledFiles) (folder : Seen FolderState F) (r : Report) → EndsUnruled cube folder r → r.outcomes ≡ []
unasked cube folder r (inl (inl e)) = one_unasked dims_said cube.dims folder r e.unopened
unasked cube folder r (inl (inr e)) = one_unasked (facts_said e.0) cube.facts folder r e.2.unopened
unasked cube folder r (inr e) = rules_unasked e.0.dims (cube.dims ∷ cube.facts ∷ []) cube.rules folder r e.2

-- ---- where its files are accepted it is for want of memory

module _ {F : Type 0} (folder : Seen FolderState F) (known : List (List ℕ × List ℕ)) (r : Report) (is : folder.before.files ≡ Some known) (q : ¬ Rose folder.before.faults folder.after.faults) where
  one_accepted : (s : Dims) (earlier : List (List ℕ)) (fs : List GroupFile) (gs : List RuledGroup) → HaveNames fs gs → AreRuledBy s known fs gs → EndsAtOne s earlier fs folder r → r.status ≡ 7
  one_accepted s earlier [] gs named a e = e.0.0
  one_accepted s earlier (f ∷ fs) [] named a e = cc
  one_accepted s earlier (f ∷ fs) (g ∷ gs) named a (inl e) = accepted_one (group_policy_said s f.name) f.policy folder known r g.policy is a.0 q e.unopened
  one_accepted s earlier (f ∷ fs) (g ∷ gs) named a (inr e) = one_accepted s (earlier ++ f.policy ∷ []) fs gs (tail_is named) a.1 e.1
    where
      tail_is : HaveNames (f ∷ fs) (g ∷ gs) → HaveNames fs gs
      tail_is k = cc

  rules_accepted : (s : Dims) (earlier : List (List ℕ)) (rules : Rules) (fs : List GroupFile) (gs : List RuledGroup) → HaveNames fs gs → Lists rules known fs → AreRuledBy s known fs gs → EndsAtRules s earlier rules folder r → r.status ≡ 7
  rules_accepted s earlier (One policy) fs gs named lists a e = one_accepted s earlier (one_group policy) gs (subst (λ (l : List GroupFile). HaveNames l gs) lists named) (subst (λ (l : List GroupFile). AreRuledBy s known l gs) lists a) e
  rules_accepted s earlier (Groups name) fs gs named lists a (inl e) = accepted_one groups_said name folder known r fs is lists q e.unopened
  rules_accepted s earlier (Groups name) fs gs named lists a (inr (other, says, e)) =
      let same : other ≡ fs = says_one groups_said other fs (file_of known name) (rw is at says) lists in
      one_accepted s (earlier ++ name ∷ []) fs gs named a (subst (λ (l : List GroupFile). EndsAtOne s (earlier ++ name ∷ []) l folder r) same e)

  accepted : (cube : RuledFiles) (core : Core) (fs : List GroupFile) (gs : List RuledGroup) → HaveNames fs gs → MakesGroups cube core fs gs known → EndsUnruled cube folder r → r.status ≡ 7
  accepted cube core fs gs named m (inl e) = founded cube.dims cube.facts folder known r core is m.founded q e
  accepted cube core fs gs named m (inr (other, makes, e)) =
      let same : other ≡ core = sym (one_core cube.dims cube.facts core other known m.founded (rw is at makes)) in
      rules_accepted core.dims (cube.dims ∷ cube.facts ∷ []) cube.rules fs gs named m.listed m.ruled (subst (λ (x : Core). EndsAtRules x.dims (cube.dims ∷ cube.facts ∷ []) cube.rules folder r) same e)

within : {F : Type 0} (cube : RuledFiles) (folder : Seen FolderState F) (r : Report) (files : Option (List (List ℕ × List ℕ))) → folder.before.files ≡ files → EndsUnruled cube folder r
    → IsSomeAnd files (λ known. (core : Core) × ((fs : List GroupFile) × ((gs : List RuledGroup) × (HaveNames fs gs × MakesGroups cube core fs gs known)))) → ¬ Rose folder.before.faults folder.after.faults → r.status ≡ 7
within cube folder r None is e h q = absurd h
within cube folder r (Some known) is e (core, (fs, (gs, (named, m)))) q = accepted folder known r is q cube core fs gs named m e

pub all_accepted : {F : Type 0} (cube : RuledFiles) (folder : Seen FolderState F) (r : Report) → EndsUnruled cube folder r → HasGroups cube folder.before → ¬ Rose folder.before.faults folder.after.faults → r.status ≡ 7
all_accepted cube folder r e h q = within cube folder r folder.before.files refl e h q
