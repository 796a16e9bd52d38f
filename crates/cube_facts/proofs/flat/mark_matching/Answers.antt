use Rattle.std.proofs.Common.{◌<◌, ◌+◌, length, get_or, false, arith}
use Rattle.cube_facts.proofs.Block.{row_from, row_enough, mark_last, mark_more}
use Rattle.cube_facts.proofs.flat.mark_matching.Goals as goal

pub returns-in_default : goal.returns-in_default
returns-in_default c = λ k l.
    let inv = c.parts.invariant in
    let last = rw c.in_default.is at c.cut_part.ensures.last in
    let in_parts : k < length c.parts.kept = omega (arith, l, c.parts.auto.kept) in
    let column : c.parts.column < c.args.width = let w = rw last at inv.within in omega (arith, w) in
    let row = row_from c.args.width c.args.fields.now (c.args.start + k) c.parts.column column (row_enough c.args.width c.args.start (length c.args.kept.now) k (length c.args.fields.now) l c.requires.long) in
    mark_last (get_or c.parts.kept k false) (get_or c.keep_where.new.kept k false) _ c.cut_part.result.0.now _ _ _ _ last row (inv.same k in_parts) (c.keep_where.ensures k in_parts)

pub parts-preserved : goal.parts-preserved
parts-preserved c =
    let inv = c.parts.invariant in
    let more = rw c.in-Some.is at c.cut_part.ensures.more in
    let column : c.parts.column < c.args.width = let w = rw more at inv.within in omega (arith, w) in
    record {
      within = let w = rw more at inv.within in omega (arith, w);
      same = λ k l.
          let in_parts : k < length c.parts.kept = omega (arith, l, c.keep_where.auto.kept) in
          let in_all : k < length c.args.kept.now = omega (arith, in_parts, c.parts.auto.kept) in
          let row = row_from c.args.width c.args.fields.now (c.args.start + k) c.parts.column column (row_enough c.args.width c.args.start (length c.args.kept.now) k (length c.args.fields.now) in_all c.requires.long) in
          mark_more (get_or c.parts.kept k false) (get_or c.keep_where.new.kept k false) _ c.cut_part.result.0.now _ _ _ _ _ more row (inv.same k in_parts) (c.keep_where.ensures k in_parts);
    }
