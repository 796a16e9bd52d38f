use Rattle.std.proofs.Common.{◌∙◌}
use Rattle.csv.specs.Records.{fields_of}
use Rattle.cube_draft.proofs.Steps.{noted_more}
use Rattle.cube_draft.proofs.table.note_fields.Goals as goal

pub loop-place-preserved : goal.loop-place-preserved
loop-place-preserved c =
    let (a, b, noted) = c.loop-place.invariant in (
      c.note_column-read.ensures.decimals ∙ a,
      c.note_column-read.ensures.turned ∙ b,
      λ sound. noted_more c.args.members.now c.args.decimals.now.items c.loop-place.decimals.items c.note_column-read.new.decimals.items (fields_of c.args.row.now) c.loop-place.place
          (noted (c.both-sound.ensures.one sound))
          (c.note_column-read.ensures.steady (c.both-sound.ensures.other sound))
          (c.note_column-read.ensures.read (c.both-sound.ensures.other sound)),
    )
