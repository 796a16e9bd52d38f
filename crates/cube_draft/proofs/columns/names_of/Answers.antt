use Rattle.std.proofs.Common.{[], ◌∷◌, ◌++◌, List, ℕ, ap, sym, ◌∙◌}
use Rattle.csv.specs.Records.{fields_of}
use Rattle.cube_facts.proofs.Fields.{fields_more}
use Rattle.cube_draft.proofs.columns.names_of.Goals as goal

pub loop-place-preserved : goal.loop-place-preserved
loop-place-preserved c =
    let names = c.loop-place.names in
    fields_more [] names c.push.new.self (fields_of c.args.row.now) c.loop-place.place c.in-Some.name.now c.loop-place.invariant
    (c.in_ok-push.ensures.ok ∙ ap (λ (x : List ℕ). names ++ x ∷ []) c.in_ok-copy_name.ensures)
    (sym c.in-Some.ensures.value)
