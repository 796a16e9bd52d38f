-- A history written down as what it holds.
use Rattle.std.specs.Prelude.{◌≡◌, ℕ, ◌≤◌, ◌↔◌, List, [], ◌∷◌, length, map, flat_map, ℤ, Option, Some, None}
use Rattle.cube_model.specs.declared.cell.Cell.{Cell}
use Rattle.cube_model.specs.declared.entry.Entry.{Entry}
use Rattle.cube_model.specs.declared.entry.Entry.TheVariants.{Source, Linked}
use Rattle.cube_model.specs.declared.policy.Method.{Method}
use Rattle.cube_model.specs.declared.policy.Method.TheVariants.{Plain, Lattice, Parity}
use Rattle.cube_model.specs.declared.verdict.Verdict.TheVariants.{Full}
use Rattle.cube_model.specs.Cubes.{Public, World, IsWorld, Each, IsIn, count_from}
use Rattle.cube_model.specs.Protection.{method, protected}
use Rattle.cube_model.specs.Links.{basis}
use Rattle.cube_model.specs.Entries.{requests}
use Rattle.cube_model.specs.Verdicts.{source, links_of, IsAdmissible}
use Rattle.cube_model.specs.Twins.{changes, twin}
use Rattle.cube_model.specs.Runs.{Ask, Reply, replies, end, by_rules}
use Rattle.cube_model.specs.Runs.QueryReply.{Refused}
use Rattle.cube_model.specs.Runs.Reply.{ToQuery}
use Rattle.cube_model.specs.TwoWorlds.{IsOpen}
use Rattle.cube_model.specs.LinkLaws.{SuitsAll}

-- one entry with the source, where there is one
abbrev pub source_entry : ℕ → Option (List ℕ) → List Entry
source_entry m None = []
source_entry m (Some c) = Source m c ∷ []

-- what stands for the entries on a measure
abbrev pub compacted_by : Method → Public → List Entry → ℕ → List Entry
compacted_by Plain g h m = []
compacted_by Lattice g h m = source_entry m (source h m)
compacted_by Parity g h m = map (Linked m) (basis (length g.shape.points) (links_of g h m))

abbrev pub compacted_on : Public → List Entry → ℕ → List Entry
compacted_on g h m = compacted_by (method g m) g h m

-- The history written down as what it holds: measure after measure its source, or the basis of its links.
abbrev pub compacted : Public → List Entry → List Entry
compacted g h = flat_map (compacted_on g h) (count_from 0 (length g.policy.methods))

-- two histories hold the same: each lattice measure has one source, and the same lists suit the links of each parity measure
pub record HoldTheSame (g : Public) (h k : List Entry) : Type 0 where
  pub sources : (m : ℕ) → method g m ≡ Lattice → source k m ≡ source h m
  pub links : (m : ℕ) → method g m ≡ Parity → (xs : List ℤ) → SuitsAll (length g.shape.points) (links_of g k m) xs ↔ SuitsAll (length g.shape.points) (links_of g h m) xs

-- a history stands for another: it is admissible too, holds the same with no request, and gives the same changes
pub record StandsFor (g : Public) (h c : List Entry) : Type 0 where
  pub admissible : IsAdmissible g c
  pub alike : HoldTheSame g h c
  pub no_requests : requests c ≡ []
  pub same_changes : (m : ℕ) (t : Cell) → IsIn t (protected g m) → changes g c m t ≡ changes g h m t

abbrev pub CompactedStands : Type 0
CompactedStands = (w : World) (h : List Entry) → IsWorld w → IsAdmissible w.shown h → StandsFor w.shown h (compacted w.shown h)

-- no reply says that the history is full
abbrev pub NoneIsFull : List Reply → Type 0
NoneIsFull rs = Each (λ x. (held : ℕ) → x ≡ ToQuery (Refused (Full held)) → ⊥) rs

-- the replies are the same, and at the end the histories hold the same
pub record RunAlike (w : World) (h k : List Entry) (asks : List Ask) : Type 0 where
  pub same_replies : replies by_rules w k asks ≡ replies by_rules w h asks
  pub alike_at_end : HoldTheSame w.shown (end by_rules w.shown h asks) (end by_rules w.shown k asks)

-- Histories that hold the same give the same replies, until the first is full.
abbrev pub AlikeRunAlike : Type 0
AlikeRunAlike = (w : World) (h k : List Entry) (asks : List Ask) → IsWorld w → IsAdmissible w.shown h → IsAdmissible w.shown k → HoldTheSame w.shown h k → length (requests k) ≤ length (requests h) → NoneIsFull (replies by_rules w h asks) → RunAlike w h k asks

-- So does the compacted history.
abbrev pub CompactedRunsAlike : Type 0
CompactedRunsAlike = (w : World) (h : List Entry) (asks : List Ask) → IsWorld w → IsAdmissible w.shown h → NoneIsFull (replies by_rules w h asks) → RunAlike w h (compacted w.shown h) asks

-- The changes of a later life that began with the compacted history hold for all replies of the earlier one too.
abbrev pub EarlierLivesStayOpen : Type 0
EarlierLivesStayOpen = (w : World) (h : List Entry) (asks later : List Ask) (m : ℕ) (t : Cell) → IsWorld w → IsAdmissible w.shown h → IsIn t (protected w.shown m) → IsOpen w (twin w m (changes w.shown (end by_rules w.shown (compacted w.shown (end by_rules w.shown h asks)) later) m t)) h asks m t
