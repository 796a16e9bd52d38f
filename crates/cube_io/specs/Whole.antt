-- However the calls went: what is safe, followed by some tail, is what a read gives.
use Rattle.std.proofs.Common.{◌≡◌, inl, inr, ℕ, zero, suc, ◌+◌, ◌-◌, ◌≤◌, Bool, true, false, List, [], ◌∷◌, ◌++◌, length, take, drop, map, nat_lt, refl, sym, ◌∙◌, ap, arith, append_assoc, take-append-drop}
use Rattle.std.proofs.lemmas.Bool.Decides.{nat_tests}
use Rattle.std.proofs.lemmas.List.{append-nil, drop_at, take-append-le}
use Rattle.cube_model.specs.Cubes.{IsIn}
use Rattle.cube_io.specs.declared.record.Change.TheVariants.{Nothing, Cut, HalfCut, Sync}
use Rattle.cube_io.specs.declared.record.Target.TheVariants.{Names, End}
use Rattle.cube_io.specs.States.{Log, State, settled, appended, shortened_if, IsWhole}
use Rattle.cube_io.specs.Mem.{Deed, log_after, begun, stepped, moved_if}
use Rattle.cube_io.specs.Mem.Deed.{Did, Wrote}

at_end : {A : Type 0} (xs : List A) (x : A) → IsIn x (xs ++ x ∷ [])
at_end [] x = inl refl
at_end (y ∷ ys) x = inr (at_end ys x)

before_end : {A : Type 0} (xs : List A) (x y : A) → IsIn x xs → IsIn x (xs ++ y ∷ [])
before_end [] x y h = absurd h
before_end (z ∷ zs) x y (inl e) = inl e
before_end (z ∷ zs) x y (inr h) = inr (before_end zs x y h)

in_map : (f : List ℕ → List ℕ) (xs : List (List ℕ)) (x : List ℕ) → IsIn x xs → IsIn (f x) (map f xs)
in_map f [] x h = absurd h
in_map f (y ∷ ys) x (inl e) = inl (ap f e)
in_map f (y ∷ ys) x (inr h) = inr (in_map f ys x h)

take_past : (xs ys : List ℕ) (m n : ℕ) → m ≡ length xs + n → take m (xs ++ ys) ≡ xs ++ take n ys
take_past [] ys m n is = let same : m ≡ n = omega arith in ap (λ (k : ℕ). take k ys) same
take_past (x ∷ xs) ys zero n is = absurd (omega arith)
take_past (x ∷ xs) ys (suc m) n is = ap (λ (l : List ℕ). x ∷ l) (take_past xs ys m n (omega arith))

-- what begins so is its beginning and the rest
again : (xs ys zs : List ℕ) → xs ++ ys ≡ zs → xs ++ drop (length xs) zs ≡ zs
again xs ys zs e = ap (λ (l : List ℕ). xs ++ drop (length xs) l) (sym e) ∙ ap (λ (l : List ℕ). xs ++ l) (drop_at xs ys (length xs) refl) ∙ e

pub whole_settled : (bytes : List ℕ) → IsWhole (settled bytes)
whole_settled bytes = ([], inl refl, append-nil bytes)

pub whole_appended : (s : State) (p : List ℕ) → IsWhole s → IsWhole (appended s p)
whole_appended s p w = (drop (length s.safe) (s.now ++ p), at_end s.tails _, again s.safe (w.0 ++ p) (s.now ++ p) (sym (append_assoc s.safe w.0 p) ∙ ap (λ (l : List ℕ). l ++ p) w.2))

shortened_whole : (b : Bool) (s : State) (len : ℕ) → nat_lt len (length s.safe) ≡ b → IsWhole s → IsWhole (shortened_if b s len)
shortened_whole true s len is w =
    let below : len ≤ length s.safe = grind (arith, nat_tests) in
    ([], at_end (map (λ tail. drop len s.safe ++ tail) s.tails) [], append-nil (take len s.safe) ∙ sym (take-append-le len s.safe w.0 below) ∙ ap (λ (l : List ℕ). take len l) w.2)
shortened_whole false s len is w =
    let above : length s.safe ≤ len = grind (arith, nat_tests) in
    let more = len - length s.safe in
    let cut : take len s.now ≡ s.safe ++ take more w.0 = ap (λ (l : List ℕ). take len l) (sym w.2) ∙ take_past s.safe w.0 len more (omega arith) in
    (drop (length s.safe) (take len s.now), at_end s.tails _, again s.safe (take more w.0) (take len s.now) (sym cut))

half_whole : (b : Bool) (s : State) (len : ℕ) → IsWhole s → IsWhole (record { now = s.now; safe = (shortened_if b s len).safe; tails = (shortened_if b s len).tails })
half_whole true s len w = (drop len s.safe ++ w.0, before_end _ _ [] (in_map (λ tail. drop len s.safe ++ tail) s.tails w.0 w.1), sym (append_assoc (take len s.safe) (drop len s.safe) w.0) ∙ ap (λ (l : List ℕ). l ++ w.0) (take-append-drop len s.safe) ∙ w.2)
half_whole false s len w = (w.0, before_end s.tails w.0 _ w.1, w.2)

moved_whole : (b : Bool) (l : Log) (s : State) → IsWhole l.state → IsWhole s → IsWhole (moved_if b l s).state
moved_whole true l s old new = new
moved_whole false l s old new = old

stepped_whole : (k : ℕ) (l : Log) (d : Deed) → IsWhole l.state → IsWhole (stepped k l d).state
stepped_whole k l (Did Nothing) w = w
stepped_whole k l (Did (Cut log len)) w = moved_whole _ l _ w (shortened_whole _ l.state len refl w)
stepped_whole k l (Did (HalfCut log len)) w = moved_whole _ l _ w (half_whole _ l.state len w)
stepped_whole k l (Did (Sync log)) w = moved_whole _ l _ w (whole_settled l.state.now)
stepped_whole k l (Wrote Names name) w = w
stepped_whole k l (Wrote (End log) piece) w = moved_whole _ l _ w (whole_appended l.state piece w)

run_whole : (k : ℕ) (l : Log) (ds : List Deed) → IsWhole l.state → IsWhole (log_after k l ds).state
run_whole k l [] w = w
run_whole k l (d ∷ ds) w = run_whole k (stepped k l d) ds (stepped_whole k l d w)

pub whole_after : (k : ℕ) (contents : List (List ℕ)) (ds : List Deed) → IsWhole (log_after k (begun contents k) ds).state
whole_after k contents ds = run_whole k (begun contents k) ds (whole_settled _)
