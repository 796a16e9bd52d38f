-- How a cube replies in words, and with it the rooms of a desk: the one stepper of the rules (`cube_model` `Runs.Stepper`), with texts for
-- its questions and its replies.
use Rattle.std.specs.Prelude.{ℕ, List, codes}
use Rattle.std.specs.declared.option.Option.{Option}
use Rattle.std.specs.declared.option.Option.TheVariants.{Some, None}
use Rattle.std.specs.declared.result.Result.{Result}
use Rattle.std.specs.declared.result.Result.TheVariants.{Ok, Err}
use Rattle.cube_model.specs.declared.ask.Ask.{Ask}
use Rattle.cube_model.specs.declared.ask.Question.{Question}
use Rattle.cube_model.specs.declared.ask.Question.TheVariants.{Query, Witness, Shape}
use Rattle.cube_model.specs.declared.entry.Entry.{Entry}
use Rattle.cube_model.specs.declared.outcome.Outcome.{Outcome}
use Rattle.cube_model.specs.declared.reply.Fixed.TheVariants as constant
use Rattle.cube_model.specs.declared.reply.Kind.TheVariants.{Csv, Json, Plain}
use Rattle.cube_model.specs.declared.reply.Reply.{Reply}
use Rattle.cube_model.specs.declared.reply.Reply.TheVariants.{Made, Fixed}
use Rattle.cube_model.specs.declared.request.Request.{Request}
use Rattle.cube_model.specs.Cubes.{Public, World}
use Rattle.cube_model.specs.Dims.{Dims}
use Rattle.cube_model.specs.Rooms.{Call, reply_in, next_in}
use Rattle.cube_model.specs.Runs.{Question as question, QueryReply, QueryReply as told, Stepper, told as told_by, grown}
use Rattle.cube_model.specs.Verdicts.{verdict}
use Rattle.cube_query.specs.Faults.{request_of, fault_status, fault_body}
use Rattle.cube_query.specs.declared.fault.RequestFault.{RequestFault}
use Rattle.cube_io.specs.Desks.{Manner}
use Rattle.cube_answers.specs.AnswerText.{answer_text}
use Rattle.cube_answers.specs.VerdictText.{verdict_text}
use Rattle.cube_shape.specs.ShapeText.{shape_text}
use Rattle.cube_engine.specs.Changes.{changes_for, text_of}

-- ---- what is said to a question where all goes well

abbrev pub fault_reply : RequestFault → Reply
fault_reply fault = Made (fault_status fault) Plain (fault_body fault)

-- an answer as CSV, a refusal as the line that names its rule
abbrev pub in_words : Dims → Public → Request → QueryReply → Reply
in_words s g r (told.Answered rows) = Made 200 Csv (answer_text s r rows)
in_words s g r (told.Refused v) = Made 403 Plain (verdict_text s g v)

-- the reply to a request, or to the fault of its text
abbrev pub reply_where_read : Dims → World → List Entry → Result Request RequestFault → Reply
reply_where_read s w h (Ok r) = in_words s w.shown r (told_by w r (verdict w.shown h r))
reply_where_read s w h (Err fault) = fault_reply fault

abbrev pub history_where_read : Public → List Entry → Result Request RequestFault → List Entry
history_where_read g h (Ok r) = grown (question.Query r) g h
history_where_read g h (Err fault) = h

-- a text as CSV, or the status and the line that say why there is none
abbrev pub text_reply : Result (List ℕ) (ℕ × List ℕ) → Reply
text_reply (Ok text) = Made 200 Csv text
text_reply (Err why) = Made why.0 Plain why.1

abbrev pub given_reply : Dims → Question → World → List Entry → Reply
given_reply s (Query text) w h = reply_where_read s w h (request_of s text)
given_reply s (Witness text) w h = text_reply (text_of s w.shown (changes_for s w.shown h text))
given_reply s Shape w h = Made 200 Json (shape_text s w.shown)

-- the history behind it: a query alone may add to it
abbrev pub given_history : Dims → Question → Public → List Entry → List Entry
given_history s (Query text) g h = history_where_read g h (request_of s text)
given_history s (Witness text) g h = h
given_history s Shape g h = h

-- ---- the stepper

-- the reply where no room has the name
abbrev pub missed : Option (List ℕ) → Reply
missed None = Fixed constant.NoPath
missed (Some name) = Made 404 Plain (codes "unknown group\n")

-- how a cube whose dimensions have these names replies
abbrev pub by_words : Dims → Stepper Question Reply
by_words s = record { given = given_reply s; grown = given_history s; journal_fault = Fixed constant.JournalFault; no_memory = Fixed constant.NoMemory; missed = missed }

-- an ask, by what became of it
abbrev pub call : Ask → Outcome → Call Question
call a o = record { group = a.group; turn = record { question = a.question; outcome = o } }

-- what a desk over rooms does with an ask: the reply of the room that it names, or of the one with the empty name
abbrev pub manner : Dims → Manner
manner s = record { reply = λ rooms a o. reply_in (by_words s) rooms (call a o); next = λ rooms a o. next_in (by_words s) rooms (call a o) }
