-- The other cube as files: the files of a run with the fact file of the twin in the place of its own.
use Rattle.std.specs.Prelude.{◌≡◌, ◌≢◌, ℕ, ◌<◌, List, length, ℤ}
use Rattle.std.specs.declared.option.Option.TheVariants.{Some, None}
use Rattle.cube_model.specs.declared.cell.Cell.{Cell}
use Rattle.cube_model.specs.declared.change.Change.{Change}
use Rattle.cube_model.specs.declared.entry.Entry.{Entry}
use Rattle.cube_model.specs.declared.policy.Policy.{Policy}
use Rattle.cube_model.specs.Cores.{Core, IsCore, shown, world}
use Rattle.cube_model.specs.Cubes.{World, IsIn}
use Rattle.cube_model.specs.Protection.{protected}
use Rattle.cube_model.specs.Rooms.{alone}
use Rattle.cube_model.specs.Twins.{changes, moves}
use Rattle.cube_model.specs.TwoWorlds.{Extends}
use Rattle.cube_model.specs.Verdicts.{IsAdmissible}
use Rattle.cube_io.specs.Files.{file_of}
use Rattle.cube_io.specs.Wires.{Arrival, LogEntry}
use Rattle.cube_witness.specs.TwinFile.{twin_cube, facts_text, first_beyond}
use Rattle.cube_engine.specs.Headline.{twin_by, Hides}
use Rattle.cube_engine.specs.Steps.{manner}
use Rattle.cube_opening.specs.Opening.{MakesAll}
use Rattle.cube_opening.specs.declared.cube_files.CubeFiles.{CubeFiles}
use Rattle.cube_server.specs.Logs.{Luck, log_of}
use Rattle.cube_talk.specs.Asks.{Talk, Says}
use Rattle.cube_talk.specs.declared.talk.Ending.TheVariants.{OutputFailed}

-- the changes for a cell of a measure by a history, as `witness` prints them
abbrev pub changes_by : Core → Policy → List Entry → ℕ → Cell → List Change
changes_by core policy last m t = moves (shown core policy) (changes (shown core policy) last m t)

-- A cell, with a history by which changes hide it.
pub record Hidden : Type 0 where
  pub last : List Entry
  pub measure : ℕ
  pub cell : Cell

-- the values of the cube with the changes, and the fact file of it, as `twin` prints it
abbrev pub cube_with : Core → Policy → Hidden → List (List ℤ)
cube_with core policy h = twin_cube core h.measure (changes_by core policy h.last h.measure h.cell)

-- Files of these names, and the core and the policy that they make.
pub record Loaded : Type 0 where
  pub cube : CubeFiles
  pub known : List (List ℕ × List ℕ)
  pub core : Core
  pub policy : Policy
  pub makes : MakesAll cube core policy known

-- The second files are the same but for the fact file, which is that of the cube with the changes. No value of it is beyond its bound.
pub record AreTwins (a b : Loaded) (h : Hidden) : Type 0 where
  pub dims : file_of b.known b.cube.dims ≡ file_of a.known a.cube.dims
  pub policies : file_of b.known b.cube.policy ≡ file_of a.known a.cube.policy
  pub facts : file_of b.known b.cube.facts ≡ Some (facts_text a.core.dims a.core.shape (cube_with a.core a.policy h))
  pub within : first_beyond a.core.shape (cube_with a.core a.policy h) h.measure ≡ None

-- They make the same dimensions, and the world with the changes.
pub record MakeTwins (a b : Loaded) (h : Hidden) : Type 0 where
  pub dims : b.core.dims ≡ a.core.dims
  pub worlds : world b.core b.policy ≡ twin_by (world a.core a.policy) h.last h.measure h.cell

-- where such files are read, they make that
abbrev pub TwinFilesMakeTwins : Type 0
TwinFilesMakeTwins = (a b : Loaded) (h : Hidden) → IsCore a.core → h.measure < length a.core.dims.measures → AreTwins a b h → MakeTwins a b h

-- What a talk wrote behind a text, by the world of these files, or by this one.
abbrev pub Wrote : Loaded → World → List Entry → Talk → List ℕ → List ℕ → List ℕ → Type 0
Wrote a w first talk text before after = Says talk.ending (manner a.core.dims) (alone w first) talk.stated talk.outcomes text (Some before) (Some after)

-- the log of a wire, by these events and this luck, of a world over these files
abbrev pub Logged : Loaded → World → List Entry → List Arrival → Luck → List LogEntry → Type 0
Logged a w first events luck log = log ≡ log_of (manner a.core.dims) (alone w first) events luck

-- Files and those of their twin, for a protected cell. What was observed of the first cube hides it up to some history, and the changes are
-- by that one, or by one that goes on from it.
pub record TwinsOf (a b : Loaded) (h : Hidden) (observed : World → Type 0) : Type 0 where
  pub core : IsCore a.core
  pub measure : h.measure < length a.core.dims.measures
  pub protects : IsIn h.cell (protected (shown a.core a.policy) h.measure)
  pub files : AreTwins a b h
  pub last : List Entry
  pub hides : Hides a.core a.policy last observed
  pub goes_on : Extends last h.last
  pub admissible : IsAdmissible (shown a.core a.policy) h.last

-- `ask` over the files of the twin writes what it wrote over the first ones: from the same history on, behind the same bytes of the input, by
-- the same outcomes and the same ending, but where a put failed.
abbrev pub TwinTalksAreTheSame : Type 0
TwinTalksAreTheSame = (a b : Loaded) (h : Hidden) (first : List Entry) (talk : Talk) (text before after after' : List ℕ) → TwinsOf a b h (λ w. Wrote a w first talk text before after) → talk.ending ≢ OutputFailed
    → Wrote b (world b.core b.policy) first talk text before after' → after' ≡ after

-- The log of a wire over the files of the twin, which `replay` writes, is that over the first ones: from the same history on, by the same
-- events and the same luck.
abbrev pub TwinLogsAreTheSame : Type 0
TwinLogsAreTheSame = (a b : Loaded) (h : Hidden) (first : List Entry) (events : List Arrival) (luck : Luck) (log log' : List LogEntry) → TwinsOf a b h (λ w. Logged a w first events luck log)
    → Logged b (world b.core b.policy) first events luck log' → log' ≡ log
