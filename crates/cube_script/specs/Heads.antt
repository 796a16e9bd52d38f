-- The lines of the text of a log.
use Rattle.std.specs.Prelude.{ℕ, List, [], ◌∷◌, ◌++◌, length, codes}
use Rattle.std.specs.Fmt.{decimal}

-- the line before the bytes of a send
abbrev pub sent_head : ℕ → List ℕ → List ℕ
sent_head c piece = codes "sent " ++ decimal c ++ codes " " ++ decimal (length piece) ++ 10 ∷ []

abbrev pub shut_line : ℕ → List ℕ
shut_line c = codes "shut " ++ decimal c ++ 10 ∷ []
