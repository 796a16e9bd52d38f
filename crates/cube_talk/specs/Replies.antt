-- What is said to a line, as text.
use Rattle.std.specs.Prelude.{ℕ, List, [], ◌∷◌, ◌++◌, length, decimal}
use Rattle.cube_model.specs.declared.reply.Reply.{Reply}
use Rattle.cube_http.specs.Responses.{status_of, body_of}
use Rattle.cube_talk.specs.declared.replies.Said.{Said}
use Rattle.cube_talk.specs.declared.replies.Said.TheVariants as said

-- the line before the body of a reply: its status and its length
abbrev pub head_text : ℕ → ℕ → List ℕ
head_text status len = decimal status ++ 32 ∷ decimal len ++ 10 ∷ []

-- a reply as the line of an input gets it
abbrev pub reply_text : Reply → List ℕ
reply_text r = head_text (status_of r) (length (body_of r)) ++ body_of r

abbrev pub said_text : Said → List ℕ
said_text (said.Text text) = text
said_text (said.Reply reply) = reply_text reply
