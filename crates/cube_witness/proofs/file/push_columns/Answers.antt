use Rattle.std.proofs.Common.{◌≡◌, ◌-◌, ◌++◌, ◌∷◌, [], length, map, take, ap, arith}
use Rattle.std.proofs.lemmas.Result.{on_ok_weaker}
use Rattle.cube_model.specs.Dims.{NamedDimension, NamedMeasure, column_names}
use Rattle.cube_witness.proofs.Files.{line_done, columns_apart}
use Rattle.cube_witness.proofs.file.push_columns.Goals as goal

pub returns : goal.returns
returns c =
    let ms = c.measures-measures.result.now in
    let last = length ms - 1 in
    let xs = map (λ (d : NamedDimension). d.column) c.dimensions.result.now in
    let same = ap length c.measures-measures.ensures.measures in
    let some = c.measures-measures.ensures.rules.has_measures in
    let all = columns_apart c.args.dims.now ms c.index-measures-last.result xs c.column.result.now last c.measures-measures.ensures.measures (omega (arith, same, some)) (omega (arith, same, some)) c.index-measures-last.is c.column.ensures.column (ap (map (λ (d : NamedDimension). d.column)) c.dimensions.ensures.dimensions) in
    on_ok_weaker c.push.result
    (λ (e : c.push.new.self ≡ c.push_field.new.text ++ 10 ∷ []).
    line_done c.args.text.now c.push_dimension_columns.new.text c.push_measure_columns.new.text c.push_field.new.text c.push.new.self xs (map (λ (k : NamedMeasure). k.column) (take last ms)) (column_names c.args.dims.now) c.column.result.now c.in_ok-push_dimension_columns.ensures c.in_ok-push_measure_columns.ensures c.in_ok-push_field.ensures e all)
    c.push.ensures.ok
