-- A file that is emptied, filled and put in the place of another one.
use Rattle.std.proofs.Common.{◌≡◌, ℕ, Bool, true, false, List, [], ◌∷◌, ◌++◌, length, nat_lt, refl, sym, ◌∙◌, ap, append_assoc, append-nil}
use Rattle.std.specs.Prelude.{OnOk, Result, Ok, Err}
use Rattle.cube_io.specs.States.{State, Log, Appended, appended, shortened, shortened_if, joined, grown, last_of}

pub on_ok : {T E P Q : Type 0} → (r : Result T E) → (P → Q) → OnOk r P → OnOk r Q
on_ok (Ok t) f h = f h
on_ok (Err e) f h = tt

now_grown : (s : State) (ps : List (List ℕ)) → (last_of s (grown s ps)).now ≡ s.now ++ joined ps
now_grown s [] = sym (append-nil s.now)
now_grown s (p ∷ ps) = now_grown (appended s p) ps ∙ append_assoc s.now p (joined ps)

-- what is cut to nothing holds nothing
pub emptied : (s : State) → (shortened s 0).now ≡ []
emptied s = by (nat_lt 0 (length s.safe))
  where
    by : (b : Bool) → (shortened_if b s 0).now ≡ []
    by true = refl
    by false = refl

-- what held nothing and was then written to holds just the piece
pub filled : (piece unsaid : List ℕ) (b c : Log) → b.state.now ≡ [] → Appended piece unsaid b c → unsaid ≡ [] → c.state.now ≡ piece
filled piece unsaid b c none more all =
    ap (λ (t : State). t.now) more.passed.state ∙ now_grown b.state more.parts ∙ ap (λ (l : List ℕ). l ++ joined more.parts) none
    ∙ sym (more.split ∙ ap (λ (l : List ℕ). joined more.parts ++ l) all ∙ append-nil (joined more.parts))
