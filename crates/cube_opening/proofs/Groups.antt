-- The policy files of groups, read one behind another.
use Rattle.std.proofs.Common.{true, ◌≡◌, ◌∙◌, ◌≤◌, ℕ, suc, List, [], ◌∷◌, ◌++◌, map, length, take, drop, get_or, ◌-◌, arith, Option, Some, None, Ok, inl, inr, refl, sym, ap, ap₂, subst, append_assoc, append-nil}
use Rattle.std.specs.Prelude.{IfSome, Result}
use Rattle.std.proofs.lemmas.List.{take_all}
use Rattle.cube_model.specs.Cubes.{Each}
use Rattle.cube_model.specs.Dims.{Dims}
use Rattle.cube_model.specs.Policies.{IsPolicy}
use Rattle.cube_model.specs.Names.{is_group_name}
use Rattle.cube_groups.specs.Rules.{AreNew}
use Rattle.cube_groups.specs.Rules as listing
use Rattle.std.proofs.lemmas.Bool.Decides.{nat_tests}
use Rattle.cube_groups.specs.declared.group.GroupFile.{GroupFile}
use Rattle.cube_io.specs.Seen.{FolderState, Seen, seen}
use Rattle.cube_opening.specs.Opening.{AskedFor, AskedUpTo, EndsAt, FileSays}
use Rattle.cube_opening.specs.Reports.{NoMessage}
use Rattle.cube_opening.specs.Ruling.{group_policy_said, IsRuledBy, AreRuledBy, AreGroups, HaveNames, IsAlone, most_groups, EndsAtOne, EndsAtRules, groups_said, one_group}
use Rattle.cube_opening.specs.declared.cube_files.Rules.{Rules}
use Rattle.cube_opening.specs.declared.cube_files.Rules.TheVariants.{One, Groups as Listed}
use Rattle.cube_opening.specs.declared.report.Report.{Report}
use Rattle.cube_opening.specs.declared.ruling.RuledGroup.{RuledGroup}
use Rattle.cube_opening.proofs.Behind.{asked_then, failed_behind, unopened_behind}

-- ---- lists

-- a list that has a first item
pub front_of : (list : List GroupFile) (f : GroupFile) → 1 ≤ length list → f ≡ get_or list 0 f → f ∷ take (length list - 1) (drop 1 list) ≡ list
front_of [] f some is = absurd (omega (arith, some))
front_of (x ∷ xs) f some is = ap₂ (λ (y : GroupFile) (ys : List GroupFile). y ∷ ys) is (take_all (length (x ∷ xs) - 1) xs (omega arith))

-- ---- how a run ends at them

-- behind files that were read, for want of memory
pub none_left : {F : Type 0} (s : Dims) (earlier : List (List ℕ)) (fs : List GroupFile) (folder : Seen FolderState F) (r : Report) → AskedFor earlier folder → NoMessage r → EndsAtOne s earlier fs folder r
none_left s earlier [] folder r asked none = (none, asked)
none_left s earlier (f ∷ fs) folder r asked none = inl (record { unopened = inl none; asked = inr (asked, inl none.0) })

module _ {F : Type 0} (tells : F → FolderState) (old mid new : F) (r : Report) (xs : List (List ℕ)) (before : AskedFor xs (seen tells old mid)) (same : (tells mid).files ≡ (tells old).files) (steady : (tells mid).faults ≡ (tells old).faults) where
  at_more : {X : Type 0} (e : List (List ℕ)) (said : List ℕ → Result X (List ℕ)) (name : List ℕ) → EndsAt e said name (seen tells mid new) r → EndsAt (xs ++ e) said name (seen tells old new) r
  at_more e said name ends = record {
    unopened = unopened_behind said name tells old mid new r same steady ends.unopened;
    asked = by_asked ends.asked;
  }
    where
      by_asked : AskedUpTo e name (seen tells mid new) r → AskedUpTo (xs ++ e) name (seen tells old new) r
      by_asked (inl h) = inl (subst (λ (ns : List (List ℕ)). AskedFor ns (seen tells old new)) (sym (append_assoc xs e (name ∷ []))) (asked_then xs (e ++ name ∷ []) tells old mid new before h))
      by_asked (inr h) = inr (asked_then xs e tells old mid new before h.0, failed_behind tells old mid new r steady h.1)

  -- the same in a later call
  pub one_behind : (s : Dims) (e : List (List ℕ)) (fs : List GroupFile) → EndsAtOne s e fs (seen tells mid new) r → EndsAtOne s (xs ++ e) fs (seen tells old new) r
  one_behind s e [] ends = (ends.0, asked_then xs e tells old mid new before ends.1)
  one_behind s e (f ∷ fs) (inl ends) = inl (at_more e (group_policy_said s f.name) f.policy ends)
  one_behind s e (f ∷ fs) (inr ((policy, says), ends)) = inr (
    (policy, subst (λ (o : Option (List (List ℕ × List ℕ))). IfSome o (λ known. FileSays (group_policy_said s f.name) f.policy known (Ok policy))) same says),
    subst (λ (ns : List (List ℕ)). EndsAtOne s ns fs (seen tells old new) r) (sym (append_assoc xs e (f.policy ∷ []))) (one_behind s (e ++ f.policy ∷ []) fs ends),
  )

  -- at what rules the users
  pub rules_behind : (s : Dims) (e : List (List ℕ)) (rules : Rules) → EndsAtRules s e rules (seen tells mid new) r → EndsAtRules s (xs ++ e) rules (seen tells old new) r
  rules_behind s e (One policy) ends = one_behind s e (one_group policy) ends
  rules_behind s e (Listed name) (inl ends) = inl (at_more e groups_said name ends)
  rules_behind s e (Listed name) (inr (fs, says, ends)) = inr (
    fs,
    subst (λ (o : Option (List (List ℕ × List ℕ))). IfSome o (λ known. FileSays groups_said name known (Ok fs))) same says,
    subst (λ (ns : List (List ℕ)). EndsAtOne s ns fs (seen tells old new) r) (sym (append_assoc xs e (name ∷ []))) (one_behind s (e ++ name ∷ []) fs ends),
  )

-- ---- what they hold

-- what is read of the groups that are left, behind those that were read
abbrev pub Read : Dims → Option (List (List ℕ × List ℕ)) → List GroupFile → List RuledGroup → List RuledGroup → Type 0
Read s files fs gs all = (more : List RuledGroup) × (all ≡ gs ++ more) × HaveNames fs more × Each (λ g. IsPolicy s g.policy) more × IfSome files (λ known. AreRuledBy s known fs more)

untold : (files : Option (List (List ℕ × List ℕ))) (s : Dims) → IfSome files (λ known. AreRuledBy s known [] [])
untold None s = tt
untold (Some known) s = tt

pub read_none : (s : Dims) (files : Option (List (List ℕ × List ℕ))) (gs : List RuledGroup) → Read s files [] gs gs
read_none s files gs = ([], sym (append-nil gs), refl, tt, untold files s)

told_more : (s : Dims) (files mid : Option (List (List ℕ × List ℕ))) (f : GroupFile) (fs : List GroupFile) (g : RuledGroup) (gs : List RuledGroup) → mid ≡ files → IfSome files (λ known. IsRuledBy s known f g) → IfSome mid (λ known. AreRuledBy s known fs gs) → IfSome files (λ known. AreRuledBy s known (f ∷ fs) (g ∷ gs))
told_more s None mid f fs g gs same h k = tt
told_more s (Some known) mid f fs g gs same h k = (h, rw same at k)

pub read_more : (s : Dims) (files mid : Option (List (List ℕ × List ℕ))) (f : GroupFile) (fs : List GroupFile) (g : RuledGroup) (gs gs' all : List RuledGroup) → mid ≡ files → gs' ≡ gs ++ g ∷ [] → g.name ≡ f.name → IsPolicy s g.policy → IfSome files (λ known. IsRuledBy s known f g)
    → Read s mid fs gs' all → Read s files (f ∷ fs) gs all
read_more s files mid f fs g gs gs' all same grown named policy here (more, whole, names, policies, said) = (
  g ∷ more,
  whole ∙ ap (λ (x : List RuledGroup). x ++ more) grown ∙ append_assoc gs (g ∷ []) more,
  ap₂ (λ (n : List ℕ) (ns : List (List ℕ)). n ∷ ns) named names,
  (policy, policies),
  told_more s files mid f fs g more same here said,
)

-- ---- all groups

map_length : {X Y : Type 0} (f : X → Y) (xs : List X) → length (map f xs) ≡ length xs
map_length f [] = refl
map_length f (x ∷ xs) = ap suc (map_length f xs)

named_length : (fs : List GroupFile) (gs : List RuledGroup) → HaveNames fs gs → length gs ≡ length fs
named_length fs gs named = sym (map_length (λ (g : RuledGroup). g.name) gs) ∙ ap (λ (ns : List (List ℕ)). length ns) named ∙ map_length (λ (f : GroupFile). f.name) fs

-- a name as short as that of a group
abbrev IsShort : List ℕ → Type 0
IsShort name = length name ≤ 32

short_names : (ns : List (List ℕ)) (gs : List RuledGroup) → map (λ (g : RuledGroup). g.name) gs ≡ ns → Each IsShort ns → Each (λ g. length g.name ≤ 32) gs
short_names ns [] e h = tt
short_names [] (g ∷ gs) e h = cc
short_names (n ∷ ns) (g ∷ gs) e h = (subst IsShort (sym (head_is e)) h.0, short_names ns gs (tail_is e) h.1)
  where
    head_is : g.name ∷ map (λ (x : RuledGroup). x.name) gs ≡ n ∷ ns → g.name ≡ n
    head_is k = cc

    tail_is : g.name ∷ map (λ (x : RuledGroup). x.name) gs ≡ n ∷ ns → map (λ (x : RuledGroup). x.name) gs ≡ ns
    tail_is k = cc

each_name : (fs : List GroupFile) → Each (λ f. length f.name ≤ 32) fs → Each IsShort (map (λ (f : GroupFile). f.name) fs)
each_name [] h = tt
each_name (f ∷ fs) h = (h.0, each_name fs h.1)

-- a name of a group is short
by_rule : (f : GroupFile) → is_group_name f.name ≡ true → length f.name ≤ 32
by_rule f h = grind (arith, nat_tests, h)

short_all : (fs : List GroupFile) → Each (λ f. is_group_name f.name ≡ true) fs → Each (λ f. length f.name ≤ 32) fs
short_all [] h = tt
short_all (f ∷ fs) h = (by_rule f h.0, short_all fs h.1)

pub short_groups : (fs : List GroupFile) → listing.AreGroups fs → Each (λ f. length f.name ≤ 32) fs
short_groups fs h = short_all fs h.names

-- what is read of a list behind nothing are its groups
pub read_groups : (s : Dims) (files : Option (List (List ℕ × List ℕ))) (fs : List GroupFile) (all : List RuledGroup) → 1 ≤ length fs → length fs ≤ 16 → Each (λ f. length f.name ≤ 32) fs → AreNew [] (map (λ (f : GroupFile). f.name) fs) → Read s files fs [] all → AreGroups s all
read_groups s files fs all some few short new (more, whole, named, policies, said) =
    let is : all ≡ more = whole in
    let long = named_length fs more named in
    subst (AreGroups s) (sym is) (record {
      some = omega (arith, some, long);
      few = omega (arith, few, long);
      short = short_names (map (λ (f : GroupFile). f.name) fs) more named (each_name fs short);
      apart = subst (AreNew []) (sym named) new;
      policies = policies;
    })

-- there are at most so many as the rules allow
pub at_most : (rules : Rules) (s : Dims) (fs : List GroupFile) (gs : List RuledGroup) → IsAlone rules fs → HaveNames fs gs → AreGroups s gs → length gs ≤ most_groups rules
at_most (One policy) s fs gs alone named are =
    let one : length fs ≡ 1 = ap (λ (l : List GroupFile). length l) alone in
    omega (arith, named_length fs gs named, one)
at_most (Listed name) s fs gs alone named are = are.few
