-- What was done to a file in memory, and its log, which follows from that.
use Rattle.std.specs.Bool.{⊤}
use Rattle.std.proofs.Common.{◌≡◌, inl, inr, ℕ, zero, suc, ◌+◌, ◌-◌, ◌≤◌, Bool, true, false, List, [], ◌∷◌, ◌++◌, length, take, drop, map, nat_lt, refl, sym, ◌∙◌, ap, arith}
use Rattle.std.proofs.lemmas.Bool.Decides.{nat_tests}
use Rattle.std.proofs.lemmas.List.{append-nil, drop_at, take-append-le}
use Rattle.cube_model.specs.Cubes.{IsIn}
use Rattle.cube_io.specs.States.{State, Log, IsWhole, settled, appended, shortened, shortened_if}
use Rattle.cube_io.specs.Whole.{whole_settled, whole_appended}
use Rattle.cube_edge.specs.Disks.{no_log}
use Rattle.trial_worlds.specs.declared.mem_log.Deed.{Deed}
use Rattle.trial_worlds.specs.declared.mem_log.Deed.TheVariants as deed

-- the log at a state more
abbrev pub onto : Log → State → Log
onto l s = record { state = s; trail = l.trail ++ s ∷ [] }

abbrev pub stepped : Log → Deed → Log
stepped l (deed.Put piece) = onto l (appended l.state piece)
stepped l (deed.Cut len) = onto l (shortened l.state len)
stepped l deed.Sync = onto l (settled l.state.now)
stepped l (deed.Become bytes) = onto l (settled bytes)

abbrev pub log_after : Log → List Deed → Log
log_after l [] = l
log_after l (d ∷ ds) = log_after (stepped l d) ds

-- of a file that began with nothing
abbrev pub log_of : List Deed → Log
log_of ds = log_after no_log ds

-- what a read gives then
abbrev pub now_after : List ℕ → Deed → List ℕ
now_after now (deed.Put piece) = now ++ piece
now_after now (deed.Cut len) = take len now
now_after now deed.Sync = now
now_after now (deed.Become bytes) = bytes

-- all of it is on the disk then
abbrev pub settles : Deed → Bool
settles (deed.Put piece) = false
settles (deed.Cut len) = false
settles deed.Sync = true
settles (deed.Become bytes) = true

-- a cut is to a length that the file has
abbrev pub CanBe : List ℕ → Deed → Type 0
CanBe now (deed.Put piece) = ⊤
CanBe now (deed.Cut len) = len ≤ length now
CanBe now deed.Sync = ⊤
CanBe now (deed.Become bytes) = ⊤

-- ---- what is safe, followed by some tail, is what a read gives

at_end : {A : Type 0} (xs : List A) (x : A) → IsIn x (xs ++ x ∷ [])
at_end [] x = inl refl
at_end (y ∷ ys) x = inr (at_end ys x)

take_past : (xs ys : List ℕ) (m n : ℕ) → m ≡ length xs + n → take m (xs ++ ys) ≡ xs ++ take n ys
take_past [] ys m n is = let same : m ≡ n = omega arith in ap (λ (k : ℕ). take k ys) same
take_past (x ∷ xs) ys zero n is = absurd (omega arith)
take_past (x ∷ xs) ys (suc m) n is = ap (λ (l : List ℕ). x ∷ l) (take_past xs ys m n (omega arith))

shortened_whole : (b : Bool) (s : State) (len : ℕ) → nat_lt len (length s.safe) ≡ b → IsWhole s → IsWhole (shortened_if b s len)
shortened_whole true s len is w =
    let below : len ≤ length s.safe = grind (arith, nat_tests) in
    ([], at_end (map (λ tail. drop len s.safe ++ tail) s.tails) [], append-nil (take len s.safe) ∙ sym (take-append-le len s.safe w.0 below) ∙ ap (λ (l : List ℕ). take len l) w.2)
shortened_whole false s len is w =
    let above : length s.safe ≤ len = grind (arith, nat_tests) in
    let cut : take len s.now ≡ s.safe ++ take (len - length s.safe) w.0 = ap (λ (l : List ℕ). take len l) (sym w.2) ∙ take_past s.safe w.0 len (len - length s.safe) (omega arith) in
    let rest : drop (length s.safe) (take len s.now) ≡ take (len - length s.safe) w.0 = ap (λ (l : List ℕ). drop (length s.safe) l) cut ∙ drop_at s.safe (take (len - length s.safe) w.0) (length s.safe) refl in
    (drop (length s.safe) (take len s.now), at_end s.tails _, ap (λ (l : List ℕ). s.safe ++ l) rest ∙ sym cut)

stepped_whole : (l : Log) (d : Deed) → IsWhole l.state → IsWhole (stepped l d).state
stepped_whole l (deed.Put piece) w = whole_appended l.state piece w
stepped_whole l (deed.Cut len) w = shortened_whole _ l.state len refl w
stepped_whole l deed.Sync w = whole_settled l.state.now
stepped_whole l (deed.Become bytes) w = whole_settled bytes

after_whole : (l : Log) (ds : List Deed) → IsWhole l.state → IsWhole (log_after l ds).state
after_whole l [] w = w
after_whole l (d ∷ ds) w = after_whole (stepped l d) ds (stepped_whole l d w)

pub log_whole : (ds : List Deed) → IsWhole (log_of ds).state
log_whole ds = after_whole no_log ds (whole_settled [])
