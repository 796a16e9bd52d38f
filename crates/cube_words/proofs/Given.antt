-- The options that a command needs have values, and the values that are numbers are in their range.
use Rattle.std.proofs.Common.{◌≡◌, ℕ, List, [], ◌∷◌, ◌++◌, Bool, true, false, not, ◌||◌, length, ◌+◌, Some, None, refl, sym, ◌∙◌}
use Rattle.std.specs.Str.{bytes_eq}
use Rattle.std.proofs.lemmas.Slice.Eq.{bytes_eq-Decides}
use Rattle.std.proofs.lemmas.Bool.{false≢true}
use Rattle.cube_model.specs.Cubes.{IsIn}
use Rattle.cube_model.proofs.Members.{tested, find_none}
use Rattle.cube_words.specs.declared.words.Command.{Command}
use Rattle.cube_words.specs.declared.words.Setting.{Setting}
use Rattle.cube_words.specs.declared.words.Setting.TheVariants.{Requests, Idle, Number, Size}
use Rattle.cube_words.specs.Words.{option_word, needed, is_option, is_requests, is_idle, is_number, is_size, is_wrong_value, stands_in, options_in, first_wrong, value_behind, value_of, IsRight}

pub not_none : {X : Type 0} (x : X) → Some x ≡ None → ⊥
not_none x e = cc

pub same_some : (a b : ℕ) → Some a ≡ Some b → a ≡ b
same_some a b e = cc

-- words in pairs, none of them wrong, have a value behind each option that stands there
behind_option : (c : Command) (before words : List (List ℕ)) (o : List ℕ) → first_wrong c before words ≡ None → stands_in o (options_in words) ≡ true → (v : List ℕ) × (value_behind o words ≡ Some v)
behind_option c before [] o right there = absurd (false≢true there)
behind_option c before (option ∷ []) o right there = absurd (cc)
behind_option c before (option ∷ value ∷ more) o right there = tested (bytes_eq option o)
    (λ t. (value, rw t refl))
    (λ f. tested (not (is_option c option) || stands_in option (options_in before))
    (λ wrong. absurd (not_none (length before + 1) (sym (rw wrong refl) ∙ right)))
    (λ fine. tested (is_wrong_value option value)
    (λ wrong. absurd (not_none (length before + 2) (sym (rw (fine, wrong) refl) ∙ right)))
    (λ good. (
    let rest = behind_option c (before ++ option ∷ value ∷ []) more o (rw (fine, good) at right) (rw f at there) in
    (rest.0, rw f rest.1)))))

stands : (b : Bool) → not b ≡ false → b ≡ true
stands true e = refl
stands false e = absurd (false≢true (sym e))

-- the words behind a command of which none is wrong and none is missing have a value for each option that it needs
pub given : (c : Command) (words : List (List ℕ)) (s : Setting) → IsRight c words → IsIn s (needed c) → (v : List ℕ) × (value_behind (option_word s) words ≡ Some v)
given c words s right h =
    let there = find_none (λ x. not (stands_in (option_word x) (options_in words))) s (needed c) right.1 h in
    behind_option c [] words (option_word s) right.0 (stands (stands_in (option_word s) (options_in words)) there)

-- words in pairs, none of them wrong, have no wrong value
right_behind : (c : Command) (before words : List (List ℕ)) (o v : List ℕ) → first_wrong c before words ≡ None → value_behind o words ≡ Some v → is_wrong_value o v ≡ false
right_behind c before [] o v right there = absurd (cc)
right_behind c before (option ∷ []) o v right there = absurd (cc)
right_behind c before (option ∷ value ∷ more) o v right there = tested (not (is_option c option) || stands_in option (options_in before))
    (λ wrong. absurd (not_none (length before + 1) (sym (rw wrong refl) ∙ right)))
    (λ fine. tested (is_wrong_value option value)
    (λ wrong. absurd (not_none (length before + 2) (sym (rw (fine, wrong) refl) ∙ right)))
    (λ good. tested (bytes_eq option o)
    (λ t. (
    let same : Some value ≡ Some v = rw t at there in
    let is : value ≡ v = cc in
    let named : option ≡ o = (bytes_eq-Decides option o).0 t in
    rw (sym is, sym named) good))
    (λ f. right_behind c (before ++ option ∷ value ∷ []) more o v (rw (fine, good) at right) (rw f at there))))

unwrong : (b : Bool) → not b ≡ false → b ≡ true
unwrong true e = refl
unwrong false e = absurd (false≢true (sym e))

left_of : (a b : Bool) → (a || b) ≡ false → a ≡ false
left_of true b e = e
left_of false b e = refl

-- so a stated number of asks, one of seconds, a number and a size are ones
pub stated : (c : Command) (words : List (List ℕ)) (v : List ℕ) → IsRight c words → value_behind (option_word Requests) words ≡ Some v → is_requests v ≡ true
stated c words v right there =
    unwrong (is_requests v) (left_of (not (is_requests v)) false (left_of (not (is_requests v) || false) false (left_of ((not (is_requests v) || false) || false) false (right_behind c [] words (option_word Requests) v right.0 there))))

pub still : (c : Command) (words : List (List ℕ)) (v : List ℕ) → IsRight c words → value_behind (option_word Idle) words ≡ Some v → is_idle v ≡ true
still c words v right there = unwrong (is_idle v) (right_behind c [] words (option_word Idle) v right.0 there)

pub numbered : (c : Command) (words : List (List ℕ)) → IsRight c words → IsIn Number (needed c) → is_number (value_of Number words) ≡ true
numbered c words right h =
    let there = given c words Number right h in
    let good = unwrong (is_number there.0) (left_of (not (is_number there.0)) false (left_of (not (is_number there.0) || false) false (right_behind c [] words (option_word Number) there.0 right.0 there.1))) in
    rw there.1 good

pub sized : (c : Command) (words : List (List ℕ)) → IsRight c words → IsIn Size (needed c) → is_size (value_of Size words) ≡ true
sized c words right h =
    let there = given c words Size right h in
    let good = unwrong (is_size there.0) (left_of (not (is_size there.0)) false (right_behind c [] words (option_word Size) there.0 right.0 there.1)) in
    rw there.1 good
