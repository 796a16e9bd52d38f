-- What is done with one piece of an input.
use Rattle.std.specs.Prelude.{◌≡◌, ⊤, List, ℕ, [], ◌∷◌, ◌++◌, Bool, true, map, Option, Some, None}
use Rattle.std.specs.Io.KnownBytes.{Appends}
use Rattle.std.specs.Str.Lines.{strip_carriage_return}
use Rattle.cube_io.specs.Content.{AppendsPrefix}
use Rattle.cube_talk.specs.Lines.{front, parts, ended_lines, open_line}
use Rattle.cube_talk.specs.Talk.{IsKept, Spoke, Puts}
use Rattle.cube_talk.specs.declared.talk.Ending.{Ending}
use Rattle.cube_talk.specs.declared.talk.Ending.TheVariants as ending
use Rattle.cube_talk.specs.declared.talk.Heard.{Heard}
use Rattle.cube_talk.specs.declared.talk.Heard.TheVariants.{All, Spent, NoMemory, OutputFailed}

-- a text was said, or a put of it failed
abbrev pub PieceSays : Heard → List ℕ → List ℕ → Option (List ℕ) → Option (List ℕ) → List ℕ → Type 0
PieceSays All waiting waiting' written written' text = Spoke text waiting waiting' written written'
PieceSays Spent waiting waiting' written written' text = Spoke text waiting waiting' written written'
PieceSays NoMemory waiting waiting' written written' text = Spoke text waiting waiting' written written'
PieceSays OutputFailed waiting waiting' written written' text = AppendsPrefix written written' (waiting ++ text)

-- one line was answered
pub record HeardLine {A B : Type 0} (says : A → B → List (List ℕ) → A → B → List ℕ → Type 0) (Went : List ℕ → Type 0) (a a' : A) (b b' : B) (line : List ℕ) : Type 0 where
  pub text : List ℕ
  pub answered : says a b (line ∷ []) a' b' text
  pub went : Went text

-- each line that ends in the piece was answered, the first together with what was open before
pub record HeardAll {A B : Type 0} (says : A → B → List (List ℕ) → A → B → List ℕ → Type 0) (Went : List ℕ → Type 0) (a a' : A) (b b' : B) (open_part piece carry' : List ℕ) : Type 0 where
  pub text : List ℕ
  pub answered : says a b (ended_lines (open_part ++ piece)) a' b' text
  pub went : Went text
  pub kept : IsKept carry' (open_line (open_part ++ piece))

-- the first lines that end in the piece were answered
pub record HeardSome {A B : Type 0} (says : A → B → List (List ℕ) → A → B → List ℕ → Type 0) (Went : List ℕ → Type 0) (a a' : A) (b b' : B) (open_part piece : List ℕ) : Type 0 where
  pub first : List (List ℕ)
  pub more : List (List ℕ)
  pub split : front (parts (open_part ++ piece)) ≡ first ++ more
  pub text : List ℕ
  pub answered : says a b (map strip_carriage_return first) a' b' text
  pub went : Went text

-- what waited is written, and the talk goes on, or it ends
abbrev pub PutsBy : Option Ending → Option (List ℕ) → Option (List ℕ) → List ℕ → Type 0
PutsBy None written written' text = Appends written written' text
PutsBy (Some e) written written' text = Puts e written written' text

-- how a talk goes on behind lines that were answered so far
abbrev pub Follows : Heard → Option Ending → Type 0
Follows heard None = heard ≡ All
Follows heard (Some ending.Ended) = ⊥
Follows heard (Some ending.InputFailed) = ⊥
Follows heard (Some ending.OutputFailed) = ⊤
Follows heard (Some ending.NoMemory) = heard ≡ NoMemory
Follows heard (Some ending.Spent) = heard ≡ Spent

-- how a talk ends in a piece
abbrev pub Stops : Ending → Bool → Bool → Type 0
Stops ending.Ended done lacks = ⊥
Stops ending.InputFailed done lacks = ⊥
Stops ending.OutputFailed done lacks = ⊤
Stops ending.NoMemory done lacks = lacks ≡ true
Stops ending.Spent done lacks = done ≡ true
