-- The objects outside of a run, in one value: before the run and after it, and which of them it uses.
use Rattle.std.specs.Prelude.{◌≡◌}
use Rattle.cube_io.specs.Seen.{FolderState, SourceState, SinkState, StoreState, WireState, Seen, Unused, seen}
use Rattle.cube_opening.specs.Causes.{Counts, of_files, of_store, of_input, of_out, of_wire}
use Rattle.cube_opening.specs.declared.world.World.{World}

pub record Outside (F S I O W : Type 0) : Type 0 where
  pub files : Seen FolderState F
  pub store : Seen StoreState S
  pub input : Seen SourceState I
  pub out : Seen SinkState O
  pub wire : Seen WireState W

-- ---- as a call sees them, of what they tell

abbrev pub outside : {F S I O W : Type 0} → (F → FolderState) → (S → StoreState) → (I → SourceState) → (O → SinkState) → (W → WireState) → World F S I O W → World F S I O W → Outside F S I O W
outside files store input out wire old new = record {
  files = seen files old.files new.files;
  store = seen store old.store new.store;
  input = seen input old.input new.input;
  out = seen out old.out new.out;
  wire = seen wire old.wire new.wire;
}

-- what they counted
abbrev pub counted : {F S I O W : Type 0} → Outside F S I O W → Counts
counted x = record { files = of_files x.files; store = of_store x.store; input = of_input x.input; out = of_out x.out; wire = of_wire x.wire }

-- ---- which of them a run uses: the others are as they were

-- the output alone
abbrev pub UsesOutput : {F S I O W : Type 0} → Outside F S I O W → Type 0
UsesOutput x = Unused x.files × Unused x.store × Unused x.input × Unused x.wire

-- the files and the output
abbrev pub UsesFiles : {F S I O W : Type 0} → Outside F S I O W → Type 0
UsesFiles x = Unused x.store × Unused x.input × Unused x.wire

-- the files, the input and the output
abbrev pub UsesLines : {F S I O W : Type 0} → Outside F S I O W → Type 0
UsesLines x = Unused x.store × Unused x.wire

-- the files, the store and the output
abbrev pub UsesJournal : {F S I O W : Type 0} → Outside F S I O W → Type 0
UsesJournal x = Unused x.input × Unused x.wire

-- the files, the store and the wire
abbrev pub UsesWire : {F S I O W : Type 0} → Outside F S I O W → Type 0
UsesWire x = Unused x.input × Unused x.out

-- all but the wire
abbrev pub UsesNoWire : {F S I O W : Type 0} → Outside F S I O W → Type 0
UsesNoWire x = Unused x.wire

-- none
abbrev pub UsesNone : {F S I O W : Type 0} → Outside F S I O W → Type 0
UsesNone x = Unused x.files × Unused x.store × Unused x.input × Unused x.out × Unused x.wire
