-- The files of two logs are two files.
use Rattle.std.proofs.Common.{◌≡◌, ◌≢◌, ◌<◌, ◌≤◌, ◌^◌, ℕ, ◌+◌, ◌-◌, ◌%◌, ◌==◌, Bool, true, false, List, [], ◌∷◌, ◌++◌, length, nat_lt, if◌then◌else◌, refl, sym, ◌∙◌, ap, subst, arith, append_assoc, append-nil}
use Rattle.std.specs.Prelude.{⊤, IsTrue, codes, decimal}
use Rattle.std.proofs.lemmas.Bool.Decides.{nat_tests}
use Rattle.std.proofs.lemmas.Fmt.{decimal_injective, decimal_by_steps}
use Rattle.std.proofs.lemmas.List.{append_cancel_left, append_cancel_right}
use Rattle.cube_io.specs.declared.store.TheConstants.{SEAL_LOG}
use Rattle.cube_edge.specs.Disks.{DiskState, WorksAt, is_seal_log, journal_path, path_of, logs_of, no_log}

-- what stands behind the name in the path of a journal, and in that of a log
abbrev behind : ℕ → List ℕ
behind log = if log == 0 then [] else codes "." ++ decimal log

abbrev ending : ℕ → List ℕ
ending log = if is_seal_log log then behind (SEAL_LOG - log) ++ codes ".seal" else behind log

journal_ended : (name : List ℕ) (log : ℕ) → journal_path name log ≡ name ++ behind log
journal_ended name log = by (log == 0)
  where
    by : (b : Bool) → (if b then name else name ++ codes "." ++ decimal log) ≡ name ++ (if b then [] else codes "." ++ decimal log)
    by true = sym (append-nil name)
    by false = append_assoc name (codes ".") (decimal log)

ended : (name : List ℕ) (log : ℕ) → path_of name log ≡ name ++ ending log
ended name log = by (is_seal_log log)
  where
    by : (b : Bool) → (if b then journal_path name (SEAL_LOG - log) ++ codes ".seal" else journal_path name log) ≡ name ++ (if b then behind (SEAL_LOG - log) ++ codes ".seal" else behind log)
    by true = ap (λ (l : List ℕ). l ++ codes ".seal") (journal_ended name (SEAL_LOG - log)) ∙ append_assoc name (behind (SEAL_LOG - log)) (codes ".seal")
    by false = journal_ended name log

-- no byte is a letter
abbrev IsLow : List ℕ → Type 0
IsLow [] = ⊤
IsLow (d ∷ ds) = (d ≤ 57) × IsLow ds

low_more : (ds : List ℕ) (d : ℕ) → d ≤ 57 → IsLow ds → IsLow (ds ++ d ∷ [])
low_more [] d few h = (few, tt)
low_more (x ∷ xs) d few h = (h.0, low_more xs d few h.1)

low_decimal : (n : ℕ) → n < 2 ^ 64 → IsLow (decimal n)
low_decimal n few = decimal_by_steps (λ m ds. IsLow ds) (λ m small. (omega (arith, small), tt)) (λ m ds big h. low_more ds (48 + m % 10) (omega arith) h) n few

low_behind : (log : ℕ) → log < 2 ^ 64 → IsLow (behind log)
low_behind log few = by (log == 0)
  where
    by : (b : Bool) → IsLow (if b then [] else codes "." ++ decimal log)
    by true = tt
    by false = (omega arith, low_decimal log few)

low_rest : (xs ys : List ℕ) → IsLow (xs ++ ys) → IsLow ys
low_rest [] ys h = h
low_rest (x ∷ xs) ys h = low_rest xs ys h.1

no_seal : (xs ds : List ℕ) → IsLow ds → ds ≢ xs ++ codes ".seal"
no_seal xs ds low e = absurd (let h = low_rest xs (codes ".seal") (subst IsLow e low) in omega (arith, h.1.0))

some_bytes : (l : List ℕ) → l ≡ [] → 0 < length l → ⊥
some_bytes l e some = let short = ap length e in omega (arith, short, some)

behind_alike : (a b : ℕ) → a < 2 ^ 64 → b < 2 ^ 64 → behind a ≡ behind b → a ≡ b
behind_alike a b few_a few_b = by (a == 0) (b == 0) (λ h. grind (arith, nat_tests)) (λ h. grind (arith, nat_tests))
  where
    by : (x y : Bool) → (x ≡ true → a ≡ 0) → (y ≡ true → b ≡ 0) → (if x then [] else codes "." ++ decimal a) ≡ (if y then [] else codes "." ++ decimal b) → a ≡ b
    by true true is_a is_b e = is_a refl ∙ sym (is_b refl)
    by true false is_a is_b e = absurd (some_bytes (codes "." ++ decimal b) (sym e) (omega arith))
    by false true is_a is_b e = absurd (some_bytes (codes "." ++ decimal a) e (omega arith))
    by false false is_a is_b e = decimal_injective a b few_a few_b (append_cancel_left (codes ".") (decimal a) (decimal b) e)

endings_differ : (k log : ℕ) → k < 2 ^ 32 → log < 2 ^ 32 → k ≢ log → ending k ≢ ending log
endings_differ k log few_k few_log differs = by (is_seal_log k) (is_seal_log log)
  where
    by : (a b : Bool) → (if a then behind (SEAL_LOG - k) ++ codes ".seal" else behind k) ≢ (if b then behind (SEAL_LOG - log) ++ codes ".seal" else behind log)
    by true true e =
        let same = behind_alike (SEAL_LOG - k) (SEAL_LOG - log) (omega arith) (omega arith) (append_cancel_right (behind (SEAL_LOG - k)) (behind (SEAL_LOG - log)) (codes ".seal") e) in
        differs (omega (arith, same, few_k, few_log))
    by true false e = no_seal (behind (SEAL_LOG - k)) (behind log) (low_behind log (omega (arith, few_log))) (sym e)
    by false true e = no_seal (behind (SEAL_LOG - log)) (behind k) (low_behind k (omega (arith, few_k))) e
    by false false e = differs (behind_alike k log (omega (arith, few_k)) (omega (arith, few_log)) e)

pub paths_differ : (name : List ℕ) (k log : ℕ) → k < 2 ^ 32 → log < 2 ^ 32 → k ≢ log → path_of name k ≢ path_of name log
paths_differ name k log few_k few_log differs e = endings_differ k log few_k few_log differs (append_cancel_left name (ending k) (ending log) (sym (ended name k) ∙ e ∙ ended name log))

-- work on the file of one log of the name leaves the others
pub others_stay : (a b : DiskState) (log : ℕ) (name : List ℕ) → log < 2 ^ 32 → name ≡ a.name → WorksAt (path_of name log) a b → IsTrue a.told → (k : ℕ) → k ≢ log → logs_of b k ≡ logs_of a k
others_stay a b log name few is_name at told k differs = by_number (nat_lt k (2 ^ 32)) refl
  where
    works : WorksAt (path_of a.name log) a b
    works = subst (λ (n : List ℕ). WorksAt (path_of n log) a b) is_name at

    by_number : (c : Bool) → nat_lt k (2 ^ 32) ≡ c → (if c then b.logs (path_of b.name k) else no_log) ≡ (if c then a.logs (path_of a.name k) else no_log)
    by_number true is = ap (λ (n : List ℕ). b.logs (path_of n k)) works.name ∙ works.others told (path_of a.name k) (paths_differ a.name k log (grind (arith, nat_tests)) few differs)
    by_number false is = refl

-- the same of the view of a store: its disk, whether it was attached, its faults and the logs whose files are open
pub view_stays : {D : Type 0} (state : D → DiskState) (old : D) (attached : Bool) (rest : ℕ × List ℕ) (view : D × (Bool × (ℕ × List ℕ))) (new : DiskState) (log : ℕ) (name : List ℕ) → (old, (attached, rest)) ≡ view
    → (IsTrue attached → IsTrue (state old).told → name ≡ (state old).name) → IsTrue view.1.0 → log < 2 ^ 32 → WorksAt (path_of name log) (state old) new
    → IsTrue (state view.0).told → (k : ℕ) → k ≢ log → logs_of new k ≡ logs_of (state view.0) k
view_stays {D} state old attached rest view new log name is =
    subst (λ (v : D × (Bool × (ℕ × List ℕ))). (IsTrue attached → IsTrue (state old).told → name ≡ (state old).name) → IsTrue v.1.0 → log < 2 ^ 32 → WorksAt (path_of name log) (state old) new → IsTrue (state v.0).told → (k : ℕ) → k ≢ log → logs_of new k ≡ logs_of (state v.0) k) is
    (λ named on few works told. others_stay (state old) new log name few (named on told) works told)
