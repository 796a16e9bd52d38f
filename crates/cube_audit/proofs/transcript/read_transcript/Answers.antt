use Rattle.std.proofs.Common.{inr, sym, ap, subst}
use Rattle.cube_model.specs.Answers.{Answers}
use Rattle.cube_audit.specs.Transcripts.{json_said, transcript_of}
use Rattle.cube_audit.specs.declared.transcript.TranscriptFault.TheVariants.{NoMemory}
use Rattle.cube_audit.proofs.transcript.read_transcript.Goals as goal

pub returns-in_default-clause-said : goal.returns-in_default-clause-said
unfolding transcript_of
returns-in_default-clause-said c =
    let none = rw c.in_default.is at c.in_ok-value.ensures in
    inr (ap json_said (sym none))

pub returns-clause-said : goal.returns-clause-said
unfolding transcript_of
returns-clause-said c =
    let found = rw c.in-Some.is at c.in_ok-value.ensures in
    subst (λ o. Answers NoMemory c.read_array.result (json_said o)) found c.read_array.ensures.said
