-- What was asked of a folder in several calls, and how a run ends behind files that were read.
use Rattle.std.proofs.Common.{◌≡◌, ◌∙◌, ℕ, List, [], ◌∷◌, ◌++◌, Option, Some, None, Ok, Err, inl, inr, ap, sym, subst, append_assoc, append-nil}
use Rattle.std.specs.Prelude.{IfSome, IfOk, IfErr, OnOk, IsSomeAnd, Result}
use Rattle.cube_model.specs.Cores.{Core}
use Rattle.cube_model.specs.Dims.{Dims}
use Rattle.cube_io.specs.Causes.{Rose}
use Rattle.cube_io.specs.Seen.{FolderState, seen}
use Rattle.cube_opening.specs.Opening.{dims_said, facts_said, FileSays, Unopened, Failed, AskedFor, AskedUpTo, EndsAt, MakesCore}
use Rattle.cube_opening.specs.declared.report.Report.{Report}

-- ---- what holds of a result

pub if_ok : {X E : Type 0} (P Q : X → Type 0) (r : Result X E) → ((x : X) → P x → Q x) → IfOk r P → IfOk r Q
if_ok P Q (Ok x) f p = f x p
if_ok P Q (Err e) f p = tt

pub if_two : {X E : Type 0} (P Q R : X → Type 0) (r : Result X E) → ((x : X) → P x → Q x → R x) → IfOk r P → IfOk r Q → IfOk r R
if_two P Q R (Ok x) f p q = f x p q
if_two P Q R (Err e) f p q = tt

pub if_err : {X E : Type 0} (P Q : E → Type 0) (r : Result X E) → ((e : E) → P e → Q e) → IfErr r P → IfErr r Q
if_err P Q (Ok x) f p = tt
if_err P Q (Err e) f p = f e p

pub on_two : {X E : Type 0} (P Q R : Type 0) (r : Result X E) → (P → Q → R) → OnOk r P → OnOk r Q → OnOk r R
on_two P Q R (Ok x) f p q = f p q
on_two P Q R (Err e) f p q = tt

-- ---- what was asked

-- names behind names
asked_by : (a b c : Option (List (List ℕ))) (xs ys : List (List ℕ)) → IfSome a (λ o. IsSomeAnd b (λ n. n ≡ o ++ xs)) → IfSome b (λ o. IsSomeAnd c (λ n. n ≡ o ++ ys)) → IfSome a (λ o. IsSomeAnd c (λ n. n ≡ o ++ (xs ++ ys)))
asked_by None b c xs ys h k = tt
asked_by (Some o) None c xs ys h k = absurd h
asked_by (Some o) (Some m) None xs ys h k = absurd k
asked_by (Some o) (Some m) (Some n) xs ys h k = k ∙ ap (λ (l : List (List ℕ)). l ++ ys) h ∙ append_assoc o xs ys

pub asked_then : {F : Type 0} (xs ys : List (List ℕ)) (tells : F → FolderState) (old mid new : F) → AskedFor xs (seen tells old mid) → AskedFor ys (seen tells mid new) → AskedFor (xs ++ ys) (seen tells old new)
asked_then xs ys tells old mid new h k = asked_by (tells old).asked (tells mid).asked (tells new).asked xs ys h k

-- no name behind names
pub asked_no_more : {F : Type 0} (xs : List (List ℕ)) (tells : F → FolderState) (old mid new : F) → AskedFor xs (seen tells old mid) → AskedFor [] (seen tells mid new) → AskedFor xs (seen tells old new)
asked_no_more xs tells old mid new h k = by_asked (tells old).asked (tells mid).asked (tells new).asked h k
  where
    by_asked : (a b c : Option (List (List ℕ))) → IfSome a (λ o. IsSomeAnd b (λ n. n ≡ o ++ xs)) → IfSome b (λ o. IsSomeAnd c (λ n. n ≡ o ++ [])) → IfSome a (λ o. IsSomeAnd c (λ n. n ≡ o ++ xs))
    by_asked None b c h k = tt
    by_asked (Some o) None c h k = absurd h
    by_asked (Some o) (Some m) None h k = absurd k
    by_asked (Some o) (Some m) (Some n) h k = let same : m ++ [] ≡ m = append-nil m in k ∙ same ∙ h

-- memory ran out, or the folder failed, in a later call
pub failed_behind : {F : Type 0} (tells : F → FolderState) (old mid new : F) (r : Report) → (tells mid).faults ≡ (tells old).faults → Failed (seen tells mid new) r → Failed (seen tells old new) r
failed_behind tells old mid new r steady (inl e) = inl e
failed_behind tells old mid new r steady (inr e) = inr (e.0, subst (λ (n : ℕ). Rose n (tells new).faults) steady e.1)

pub unopened_behind : {X F : Type 0} (said : List ℕ → Result X (List ℕ)) (name : List ℕ) (tells : F → FolderState) (old mid new : F) (r : Report) → (tells mid).files ≡ (tells old).files → (tells mid).faults ≡ (tells old).faults
    → Unopened said name (seen tells mid new) r → Unopened said name (seen tells old new) r
unopened_behind said name tells old mid new r same steady (inl e) = inl e
unopened_behind said name tells old mid new r same steady (inr (inl e)) = inr (inl e)
unopened_behind said name tells old mid new r same steady (inr (inr (inl e))) = inr (inr (inl (e.0, subst (λ (n : ℕ). Rose n (tells new).faults) steady e.1)))
unopened_behind said name tells old mid new r same steady (inr (inr (inr e))) =
    inr (inr (inr (e.0, subst (λ (fs : Option (List (List ℕ × List ℕ))). IfSome fs (λ known. FileSays said name known (Err r.text))) same e.1)))

-- a run that ended at a file in a later call, behind files that were read in earlier ones
pub ends_behind : {X F : Type 0} (earlier : List (List ℕ)) (said : List ℕ → Result X (List ℕ)) (name : List ℕ) (tells : F → FolderState) (old mid new : F) (r : Report)
    → AskedFor earlier (seen tells old mid) → (tells mid).files ≡ (tells old).files → (tells mid).faults ≡ (tells old).faults → EndsAt [] said name (seen tells mid new) r → EndsAt earlier said name (seen tells old new) r
ends_behind earlier said name tells old mid new r before same steady e = record {
  unopened = unopened_behind said name tells old mid new r same steady e.unopened;
  asked = by_asked e.asked;
}
  where
    by_asked : AskedUpTo [] name (seen tells mid new) r → AskedUpTo earlier name (seen tells old new) r
    by_asked (inl h) = inl (asked_then earlier (name ∷ []) tells old mid new before h)
    by_asked (inr h) = inr (asked_no_more earlier tells old mid new before h.0, failed_behind tells old mid new r steady h.1)

-- ---- what was read

-- two files that were read make a core
pub makes_of : (dims facts : List ℕ) (core : Core) (s : Dims) (files mid : Option (List (List ℕ × List ℕ))) → mid ≡ files → core.dims ≡ s → IfSome files (λ known. FileSays dims_said dims known (Ok s))
    → IfSome mid (λ known. FileSays (facts_said s) facts known (Ok core)) → IfSome files (MakesCore dims facts core)
makes_of dims facts core s None mid same is h k = tt
makes_of dims facts core s (Some known) mid same is h k =
    let says : FileSays (facts_said s) facts known (Ok core) = rw same at k in
    record { dims_are = subst (λ (x : Dims). FileSays dims_said dims known (Ok x)) (sym is) h; facts_are = subst (λ (x : Dims). FileSays (facts_said x) facts known (Ok core)) (sym is) says }
