-- The lines of tallies are those of their rows.
use Rattle.std.proofs.Common.{◌≡◌, refl, sym, ap, ap₂, ◌∙◌, ℕ, List, [], ◌∷◌, ◌++◌, flat_map}
use Rattle.std.proofs.lemmas.Grind.{flat_map-append}
use Rattle.cube_model.specs.declared.answer.AnswerRow.{AnswerRow}
use Rattle.cube_model.specs.declared.policy.Policy.{Policy}
use Rattle.cube_model.specs.declared.request.Request.{Request}
use Rattle.cube_model.specs.Cores.{Core, world}
use Rattle.cube_model.specs.Dims.{Dims}
use Rattle.cube_model.specs.Requests.{answer}
use Rattle.cube_core.specs.Grouping.{pointed}
use Rattle.cube_core.specs.Tallies.{row_of_tally, AreTallies}
use Rattle.cube_core.specs.declared.tally.Tally.{Tally}
use Rattle.cube_answers.specs.AnswerText.{row_line, answer_text}
use Rattle.cube_answers.specs.Sums.{values_of, lines_of_tally}

pub lines_of_rows : (s : Dims) (points : List (List ℕ)) (r : Request) (ts : List Tally) → flat_map (lines_of_tally s points r) ts ≡ flat_map (row_line s r) (flat_map (row_of_tally (pointed s points) r) ts)
lines_of_rows s points r [] = refl
lines_of_rows s points r (t ∷ ts) = ap (λ (l : List ℕ). lines_of_tally s points r t ++ l) (lines_of_rows s points r ts) ∙ sym (flat_map-append (row_line s r) (row_of_tally (pointed s points) r t) (flat_map (row_of_tally (pointed s points) r) ts))

-- what the tallies of a core come to is the answer
pub tallied_is : (core : Core) (p : Policy) (r : Request) (s : Dims) (points : List (List ℕ)) (ts us : List Tally) (text : List ℕ) → s ≡ core.dims → points ≡ core.shape.points → us ≡ ts → AreTallies core r (values_of core r.what) ts
    → text ≡ answer_text s r (flat_map (row_of_tally (pointed s points) r) us) → text ≡ answer_text core.dims r (answer (world core p) r)
tallied_is core p r s points ts us text dims places same made e =
    e ∙ ap (λ (l : List Tally). answer_text s r (flat_map (row_of_tally (pointed s points) r) l)) same
    ∙ ap₂ (λ (x : Dims) (xs : List (List ℕ)). answer_text x r (flat_map (row_of_tally (pointed x xs) r) ts)) dims places
    ∙ ap (λ (rows : List AnswerRow). answer_text core.dims r rows) (made.rows p)
