-- What is recovered of a log that is begun or repaired.
use Rattle.std.proofs.Common.{◌≡◌, ⊎_elim, ℕ, Bool, true, false, List, [], ◌∷◌, ◌++◌, refl, sym, ◌∙◌, ap, Some, Ok, Err, if◌then◌else◌, nat_eq}
use Rattle.std.specs.List.{starts_with}
use Rattle.std.proofs.lemmas.Slice.Eq.{bytes_eq-Decides}
use Rattle.cube_model.specs.Dims.{Dims}
use Rattle.cube_model.specs.declared.entry.Entry.{Entry}
use Rattle.cube_model.specs.declared.policy.Policy.{Policy}
use Rattle.cube_io.specs.States.{State, IsImage}
use Rattle.cube_journal.specs.Digests.{is_digest}
use Rattle.cube_journal.specs.Lines.{IsPrefix, ended_lines}
use Rattle.cube_journal.specs.Keeping.{Restores}
use Rattle.cube_journal.specs.Recovery.{head_words, first_line, version_of, with_version, lines_in, recovered_from, recovered}
use Rattle.cube_journal.specs.declared.fault.JournalFault.TheVariants.{Damaged, OtherCube}
use Rattle.cube_journal.specs.declared.first.Version.TheVariants.{One, Two}
use Rattle.cube_journal.proofs.LineFacts.{torn_lines}
use Rattle.cube_journal.proofs.Digits.{head_clean}
use Rattle.cube_journal.proofs.OpeningSteps.{starts_true}

begins_by : (t : Bool) (h : List Entry) → (if t then Ok [] else Err (Damaged 1)) ≡ Ok h → t ≡ true
begins_by true h e = refl
begins_by false h e = absurd (cc)

-- a log without a line that ends, of which something is recovered, begins a first line
pub begins : (digest : List ℕ) (s : Dims) (p : Policy) (n : ℕ) (x : List ℕ) (h : List Entry) → recovered digest s p n x ≡ Ok h → ended_lines x ≡ [] → starts_with nat_eq (first_line digest) x ≡ true
unfolding recovered
begins digest s p n x h is none = begins_by (starts_with nat_eq (first_line digest) x) h (sym (ap (recovered_from digest s p n x) none) ∙ is)

reads_one : (digest : List ℕ) → is_digest digest ≡ true → version_of (head_words One ++ digest) ≡ Some One
reads_one digest lower = rw lower refl

pub reads_two : (digest : List ℕ) → is_digest digest ≡ true → version_of (head_words Two ++ digest) ≡ Some Two
reads_two digest lower = rw lower refl

-- the beginning of a first line is an empty journal
pub front_recovers : (digest : List ℕ) (s : Dims) (p : Policy) (n : ℕ) (b : List ℕ) → is_digest digest ≡ true → IsPrefix b (first_line digest) → recovered digest s p n b ≡ Ok []
unfolding recovered
front_recovers digest s p n b lower prefix =
    ⊎_elim
    (λ none. ap (recovered_from digest s p n b) none ∙ ap (λ (t : Bool). if t then Ok [] else Err (Damaged 1)) (starts_true (first_line digest) b prefix.0 prefix.1))
    (λ one. ap (recovered_from digest s p n b) one ∙ ap (with_version digest s p n (head_words One ++ digest) []) (reads_one digest lower)
    ∙ ap (λ (t : Bool). if t then lines_in s p n One [] else Err (OtherCube digest digest)) ((bytes_eq-Decides digest digest).1 refl))
    (torn_lines (head_words One ++ digest) b prefix.0 (head_clean One digest lower) prefix.1)

-- with some lines that end, the lines alone say what is recovered
lines_recover : (digest : List ℕ) (s : Dims) (p : Policy) (n : ℕ) (b x : List ℕ) (ls : List (List ℕ)) → (ls ≡ [] → ⊥) → recovered_from digest s p n b ls ≡ recovered_from digest s p n x ls
lines_recover digest s p n b x [] some = absurd (some refl)
lines_recover digest s p n b x (l ∷ ls) some = refl

pub same_lines : (digest : List ℕ) (s : Dims) (p : Policy) (n : ℕ) (b x : List ℕ) → (ended_lines x ≡ [] → ⊥) → ended_lines b ≡ ended_lines x → recovered digest s p n b ≡ recovered digest s p n x
unfolding recovered
same_lines digest s p n b x some e = ap (recovered_from digest s p n b) e ∙ lines_recover digest s p n b x (ended_lines x) some

pub begun_recovers : (digest : List ℕ) (s : Dims) (p : Policy) (n : ℕ) (x : List ℕ) → starts_with nat_eq (first_line digest) x ≡ true → ended_lines x ≡ [] → recovered digest s p n x ≡ Ok []
unfolding recovered
begun_recovers digest s p n x starts none = ap (recovered_from digest s p n x) none ∙ ap (λ (t : Bool). if t then Ok [] else Err (Damaged 1)) starts

pub restored : (digest : List ℕ) (s : Dims) (p : Policy) (n : ℕ) (x : List ℕ) (h : List Entry) → is_digest digest ≡ true → recovered digest s p n x ≡ Ok h
    → (state : State) → Restores (first_line digest) x state → (b : List ℕ) → IsImage state b → recovered digest s p n b ≡ recovered digest s p n x
restored digest s p n x h lower is state r b image = ⊎_elim
    (λ begun. front_recovers digest s p n b lower (begun.1 b image) ∙ sym (begun_recovers digest s p n x (begins digest s p n x h is begun.0) begun.0))
    (λ kept. same_lines digest s p n b x kept.0 (kept.1 b image))
    r
