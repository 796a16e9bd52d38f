-- What is put of the answers to the lines of an input, and over which store.
use Rattle.std.specs.Prelude.{◌≡◌, ℕ, ◌≤◌, IsTrue, List, ◌++◌, length, Some}
use Rattle.std.specs.declared.option.Option.{Option}
use Rattle.std.specs.Io.KnownBytes.{Appends}
use Rattle.cube_io.specs.Seen.{StoreState}

-- Who answers lines goes from one state to another. Lines were answered in turn, and this piece of the answers comes next. The answers to
-- the first lines stand written. Behind those came lines that left the count of what is kept as it was, and then one line at most. Of the
-- answers to these, some part stands written, and the piece stands behind it. The last state has all these lines behind it.
pub record IsNext {X : Type 0} (says : X → List (List ℕ) → X → List ℕ → Type 0) (kept : X → ℕ) (x : X) (start : Option (List ℕ)) (now : X) (stands_now : Option (List ℕ)) (piece : List ℕ) : Type 0 where
  pub first : List (List ℕ)
  pub after_first : X
  pub written : List ℕ
  pub answered : says x first after_first written
  pub idle : List (List ℕ)
  pub after_idle : X
  pub text : List ℕ
  pub kept_none : says after_first idle after_idle text
  pub same : kept after_idle ≡ kept after_first
  pub last : List (List ℕ)
  pub reply : List ℕ
  pub answered_last : says after_idle last now reply
  pub one : length last ≤ 1
  pub part : List ℕ
  pub stands : Appends start stands_now (written ++ part)
  pub rest : List ℕ
  pub whole : text ++ reply ≡ part ++ (piece ++ rest)

-- a state of who answers with that of a store
abbrev pub says_over : {A B : Type 0} → (A → B → List (List ℕ) → A → B → List ℕ → Type 0) → A × B → List (List ℕ) → A × B → List ℕ → Type 0
says_over says x ls y text = says x.0 x.1 ls y.0 y.1 text

-- whatever lines are answered from here on, each piece that comes next may be put, over the store as it stands then, where that tells itself
abbrev pub Permits : {A B : Type 0} → (A → B → List (List ℕ) → A → B → List ℕ → Type 0) → (A → ℕ) → (B → StoreState) → (StoreState → List ℕ → List ℕ → Type 0) → A → B → Option (List ℕ) → Type 0
Permits {A} {B} says kept state allows a b start = (a' : A) (b' : B) (bytes piece : List ℕ) → IsTrue (state b').told
    → IsNext {X = A × B} (says_over says) (λ x. kept x.0) (a, b) start (a', b') (Some bytes) piece → allows (state b') bytes piece

-- this text may be put in whatever pieces, over this store, where that tells itself
abbrev pub MayPut : (StoreState → List ℕ → List ℕ → Type 0) → StoreState → Option (List ℕ) → List ℕ → Type 0
MayPut allows store written text = IsTrue store.told → (bytes said piece rest : List ℕ) → Appends written (Some bytes) said → text ≡ said ++ (piece ++ rest) → allows store bytes piece

-- whatever is answered to these lines may be put behind what waits
abbrev pub MayAnswer : {A B : Type 0} → (A → B → List (List ℕ) → A → B → List ℕ → Type 0) → (B → StoreState) → (StoreState → List ℕ → List ℕ → Type 0) → A → B → List (List ℕ) → Option (List ℕ) → List ℕ → Type 0
MayAnswer {A} {B} says state allows a b ls written waiting = (a' : A) (b' : B) (text : List ℕ) → says a b ls a' b' text → MayPut allows (state b') written (waiting ++ text)

-- the store tells itself where it did before, and there no piece was put without a store in sight
pub record InSight (before after : StoreState) (loose loose' : ℕ) : Type 0 where
  pub told_stays : after.told ≡ before.told
  pub sight : IsTrue before.told → loose' ≡ loose
