-- A manner of the trials: a query is answered by a table, whatever was asked before, and no room changes.
use Rattle.std.specs.Prelude.{refl, ℕ, Bool, true, false, List, Option, Some, None}
use Rattle.std.specs.List.{find}
use Rattle.std.specs.Str.{bytes_eq}
use Rattle.cube_model.specs.declared.ask.Ask.{Ask}
use Rattle.cube_model.specs.declared.ask.Question.{Question}
use Rattle.cube_model.specs.declared.ask.Question.TheVariants as question
use Rattle.cube_model.specs.declared.outcome.Outcome.{Outcome}
use Rattle.cube_model.specs.declared.outcome.Outcome.TheVariants.{Given, JournalFault, NoMemory}
use Rattle.cube_model.specs.declared.reply.Fixed.TheVariants as constant
use Rattle.cube_model.specs.declared.reply.Kind.TheVariants as kind
use Rattle.cube_model.specs.declared.reply.Reply.{Reply}
use Rattle.cube_model.specs.declared.reply.Reply.TheVariants as reply
use Rattle.cube_io.specs.Desks.{Manner, IsConstant}

-- the text of a query, whether it is refused, and the body of its reply
abbrev pub Row : Type 0
Row = List ℕ × Bool × List ℕ

abbrev pub made_of : Bool → List ℕ → Reply
made_of true body = reply.Made 403 kind.Plain body
made_of false body = reply.Made 200 kind.Csv body

abbrev pub reply_by : Option Row → Reply
reply_by (Some (query, refused, body)) = made_of refused body
reply_by None = reply.Fixed constant.NoPath

abbrev pub said_of : List Row → List ℕ → Reply
said_of table query = reply_by (find (λ row. bytes_eq query row.0) table)

abbrev pub said_by : List Row → Question → Reply
said_by table (question.Query text) = said_of table text
said_by table (question.Witness text) = reply.Fixed constant.NoPath
said_by table question.Shape = reply.Fixed constant.NoPath

abbrev pub answered_by : List Row → Ask → Outcome → Reply
answered_by table a Given = said_by table a.question
answered_by table a JournalFault = reply.Fixed constant.JournalFault
answered_by table a NoMemory = reply.Fixed constant.NoMemory

abbrev pub by_table : List Row → Manner
by_table table = record { reply = λ rooms a o. answered_by table a o; next = λ rooms a o. rooms }

-- what failed gets its constant reply
pub table_is_constant : (table : List Row) → IsConstant (by_table table)
table_is_constant table = record { fault = λ rooms a. (refl, refl); memory = λ rooms a. (refl, refl) }
