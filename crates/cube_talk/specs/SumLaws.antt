-- The lines of `sum` are answered each by itself.
use Rattle.std.proofs.Common.{◌≡◌, ◌<◌, ℕ, List, [], ◌∷◌, ◌++◌, length, true, refl, sym, ap, ◌∙◌, length-append, arith, nat_lt, codes}
use Rattle.std.proofs.lemmas.Bool.Decides.{nat_tests}
use Rattle.std.proofs.lemmas.List.Concat.{flat_map-append}
use Rattle.cube_facts.specs.Flat.{Flat}
use Rattle.cube_talk.specs.Sums.{AnswersSums, answer, answers}
use Rattle.cube_talk.specs.declared.sums.Sums.{Sums}

pub none : (x : Sums) → AnswersSums x x [] []
none x = record { flat = refl; counted = omega arith; few = λ h. h; text_is = refl }

pub answers_append : (flat : Flat) (xs ys : List (List ℕ)) → answers flat (xs ++ ys) ≡ answers flat xs ++ answers flat ys
answers_append flat xs ys = flat_map-append (answer flat) xs ys

pub onward : (x y z : Sums) (first more : List (List ℕ)) (text behind : List ℕ) → AnswersSums x y first text → AnswersSums y z more behind → AnswersSums x z (first ++ more) (text ++ behind)
onward x y z first more text behind h k = record {
  flat = k.flat ∙ h.flat;
  counted = rw length-append (omega (arith, h.counted, k.counted));
  few = λ e. k.few (h.few e);
  text_is = ap (λ (l : List ℕ). l ++ behind) h.text_is ∙ ap (λ (l : List ℕ). answers x.flat first ++ l) (k.text_is ∙ ap (λ (f : Flat). answers f more) h.flat) ∙ sym (answers_append x.flat first more);
}

too_long : (flat : Flat) (line : List ℕ) → 65536 < length line → answers flat (line ∷ []) ≡ codes "bad line: too long\n"
too_long flat line h =
    let t : nat_lt 65536 (length line) ≡ true = grind (arith, nat_tests) in rw t refl

pub alike : (x y : Sums) (line other text : List ℕ) → 65536 < length line → 65536 < length other → AnswersSums x y (line ∷ []) text → AnswersSums x y (other ∷ []) text
alike x y line other text long longer h = record {
  flat = h.flat;
  counted = h.counted;
  few = h.few;
  text_is = h.text_is ∙ too_long x.flat line long ∙ sym (too_long x.flat other longer);
}
