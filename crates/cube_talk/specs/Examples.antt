-- A desk that says its ask again, to try the talk on.
use Rattle.std.specs.Prelude.{[], ◌∷◌, ◌++◌}
use Rattle.cube_model.specs.declared.ask.Ask.{Ask}
use Rattle.cube_model.specs.declared.ask.Question.{Question}
use Rattle.cube_model.specs.declared.ask.Question.TheVariants.{Query, Witness, Shape}
use Rattle.cube_model.specs.declared.outcome.Outcome.{Outcome}
use Rattle.cube_model.specs.declared.outcome.Outcome.TheVariants.{Given, JournalFault, NoMemory}
use Rattle.cube_model.specs.declared.reply.Fixed.TheVariants as constant
use Rattle.cube_model.specs.declared.reply.Kind.TheVariants.{Plain}
use Rattle.cube_model.specs.declared.reply.Reply.{Reply}
use Rattle.cube_model.specs.declared.reply.Reply.TheVariants.{Made, Fixed}
use Rattle.cube_io.specs.Desks.{Manner}

abbrev pub said_again : Question → Reply
said_again (Query text) = Made 200 Plain (text ++ 10 ∷ [])
said_again (Witness text) = Fixed constant.NoPath
said_again Shape = Fixed constant.NoPath

abbrev pub echo_reply : Ask → Outcome → Reply
echo_reply ask Given = said_again ask.question
echo_reply ask JournalFault = Fixed constant.JournalFault
echo_reply ask NoMemory = Fixed constant.NoMemory

abbrev pub echo : Manner
echo = record { reply = λ rooms ask o. echo_reply ask o; next = λ rooms ask o. rooms }
