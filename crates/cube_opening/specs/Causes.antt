-- Why a run ended as it did: what the objects outside counted.
use Rattle.std.specs.Prelude.{◌≡◌, ◌≢◌, ◌⊎◌, ℕ, []}
use Rattle.cube_io.specs.Causes.{Rose}
use Rattle.cube_io.specs.Seen.{FolderState, SourceState, SinkState, StoreState, WireState, Seen}
use Rattle.cube_opening.specs.declared.report.Report.{Report}

-- how many faults an object counted before a run, and after it
pub record Count : Type 0 where
  pub before : ℕ
  pub after : ℕ

abbrev pub Rises : Count → Type 0
Rises c = Rose c.before c.after

abbrev pub IsStill : Count → Type 0
IsStill c = c.after ≡ c.before

-- those of the five objects outside
pub record Counts : Type 0 where
  pub files : Count
  pub store : Count
  pub input : Count
  pub out : Count
  pub wire : Count

-- ---- of what a call holds

-- an object that it does not hold counts nothing
abbrev pub unheld : Count
unheld = record { before = 0; after = 0 }

abbrev pub of_files : {F : Type 0} → Seen FolderState F → Count
of_files x = record { before = x.before.faults; after = x.after.faults }

abbrev pub of_store : {S : Type 0} → Seen StoreState S → Count
of_store x = record { before = x.before.faults; after = x.after.faults }

abbrev pub of_input : {I : Type 0} → Seen SourceState I → Count
of_input x = record { before = x.before.faults; after = x.after.faults }

abbrev pub of_out : {O : Type 0} → Seen SinkState O → Count
of_out x = record { before = x.before.faults; after = x.after.faults }

abbrev pub of_wire : {W : Type 0} → Seen WireState W → Count
of_wire x = record { before = x.before.faults; after = x.after.faults }

abbrev pub only_files : {F : Type 0} → Seen FolderState F → Counts
only_files files = record { files = of_files files; store = unheld; input = unheld; out = unheld; wire = unheld }

abbrev pub only_store : {S : Type 0} → Seen StoreState S → Counts
only_store store = record { files = unheld; store = of_store store; input = unheld; out = unheld; wire = unheld }

abbrev pub only_out : {O : Type 0} → Seen SinkState O → Counts
only_out out = record { files = unheld; store = unheld; input = unheld; out = of_out out; wire = unheld }

abbrev pub only_wire : {W : Type 0} → Seen WireState W → Counts
only_wire wire = record { files = unheld; store = unheld; input = unheld; out = unheld; wire = of_wire wire }

-- ---- the causes

-- a status for which nothing outside counted a fault: all was done, a file or a query is refused, or the journal, memory ran out, as
-- much was taken as is taken at most, or what was to be shown is not so
abbrev pub IsOwn : ℕ → Type 0
IsOwn n = (n ≡ 0) ⊎ (n ≡ 3) ⊎ (n ≡ 4) ⊎ (n ≡ 7) ⊎ (n ≡ 10) ⊎ (n ≡ 1)

-- or one of an object outside: the files or the input, the output, the wire, or the store
abbrev pub IsStatus : ℕ → Type 0
IsStatus n = IsOwn n ⊎ (n ≡ 5) ⊎ (n ≡ 6) ⊎ (n ≡ 8) ⊎ (n ≡ 9)

-- A fault of an object outside is reported only where it was counted in this run, and of the counts but the store's at most one rises. Where
-- the store failed no outcomes are reported.
pub record HasCauses (counts : Counts) (r : Report) : Type 0 where
  pub status : IsStatus r.status
  pub unreadable : r.status ≡ 5 → (Rises counts.files × IsStill counts.input) ⊎ (Rises counts.input × IsStill counts.files)
  pub output : r.status ≡ 6 → Rises counts.out
  pub unheard : r.status ≡ 8 → Rises counts.wire
  pub unkept : r.status ≡ 9 → Rises counts.store × (r.outcomes ≡ [])
  pub steady : r.status ≢ 5 → IsStill counts.files × IsStill counts.input
  pub output_steady : r.status ≢ 6 → IsStill counts.out
  pub wire_steady : r.status ≢ 8 → IsStill counts.wire
