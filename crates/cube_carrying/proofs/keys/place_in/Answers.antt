use Rattle.std.proofs.Common.{rules, List, ℕ, ap, sym, ◌∙◌}
use Rattle.std.proofs.lemmas.List.Sorted.{IsPartitionPoint-from_clause}
use Rattle.cube_model.specs.Cubes.{before, same}
use Rattle.cube_carrying.proofs.Searches.{parted, ends, found_there, not_there, all_below}
use Rattle.cube_carrying.proofs.keys.place_in.Goals as goal
use Rattle.cube_carrying.proofs.keys.place_in.Goals.{else-place-keys-via-then-place-keys+else-is_same, else-place-keys-via-else-place-keys}

pub returns-then-is_same : goal.returns-then-is_same
returns-then-is_same c =
    let x = c.args.key.now in
    let ks = c.args.keys.now in
    let point = IsPartitionPoint-from_clause (λ k. before k x) _ _ c.partition_point-place.ensures.partitioned (parted x ks c.requires) (λ a r q k. search rules) in
    found_there x c.index-keys-place.result ks c.partition_point-place.result (ends x ks c.partition_point-place.result c.partition_point-place.ensures.bound point) c.if-place-keys.true c.index-keys-place.is
    (ap (λ (y : List ℕ). same y x) (sym c.as_slice.ensures) ∙ sym c.is_same.ensures ∙ c.if-is_same.true)

pub returns-else-place-keys : goal.returns-else-place-keys
returns-else-place-keys c =
    let x = c.args.key.now in
    let ks = c.args.keys.now in
    let point = IsPartitionPoint-from_clause (λ k. before k x) _ _ c.partition_point-place.ensures.partitioned (parted x ks c.requires) (λ a r q k. search rules) in
    let there = ends x ks c.partition_point-place.result c.partition_point-place.ensures.bound point in
    elim c.else-place-keys.branch [
      | else-place-keys-via-then-place-keys+else-is_same w ↦ not_there x w.index-keys-place.result ks c.partition_point-place.result c.requires there w.if-place-keys.true w.index-keys-place.is
          (ap (λ (y : List ℕ). same y x) (sym w.as_slice.ensures) ∙ sym w.is_same.ensures ∙ w.if-is_same.false)
      | else-place-keys-via-else-place-keys w ↦ all_below x ks c.partition_point-place.result there w.if-place-keys.false
    ]
