-- What the entries of a log leave.
use Rattle.std.specs.Prelude.{◌≡◌, ◌↔◌, ℕ, suc, Bool, true, false, List, [], ◌∷◌, ◌++◌, length, if◌then◌else◌}
use Rattle.cube_model.specs.declared.cell.Cell.{Cell}
use Rattle.cube_model.specs.declared.entry.Entry.{Entry}
use Rattle.cube_model.specs.declared.entry.Entry.TheVariants.{Asked, Source, Linked}
use Rattle.cube_model.specs.declared.entry.Taken.{Taken as Taking}
use Rattle.cube_model.specs.declared.entry.Taken.TheVariants.{Taken, Passed, Refused}
use Rattle.cube_model.specs.declared.link.Link.{Link}
use Rattle.cube_model.specs.declared.request.Request.{Request}
use Rattle.cube_model.specs.declared.verdict.Verdict.TheVariants.{Answer}
use Rattle.cube_model.specs.Cubes.{Public, Each, IsIn}
use Rattle.cube_model.specs.Protection.{protected, guarded, is_cut}
use Rattle.cube_model.specs.Links.{follows, is_free}
use Rattle.cube_model.specs.Entries.{is_allowed}
use Rattle.cube_model.specs.Verdicts.{source, links_of, narrowed, holds_grain, verdict, taken, IsAdmissible}
use Rattle.cube_model.specs.Compaction.{HoldTheSame}

-- a history, or the number of the first entry that is refused
pub data Left : Type 0 where
  Leaves : (history : List Entry) → Left
  Stops : (number : ℕ) → Left

abbrev pub is_refused : Taking → Bool
is_refused Taken = false
is_refused Passed = false
is_refused Refused = true

abbrev pub is_taken : Taking → Bool
is_taken Taken = true
is_taken Passed = false
is_taken Refused = false

-- Entries judged in order, numbered from n on: a taken one becomes the last of the history, one that is passed over doesn't.
abbrev pub left : Public → List Entry → ℕ → List Entry → Left
left g h n [] = Leaves h
left g h n (e ∷ es) = if is_refused (taken g h e) then Stops n else left g (if is_taken (taken g h e) then h ++ e ∷ [] else h) (suc n) es

-- what a log of allowed entries leaves is admissible
abbrev pub LeftIsAdmissible : Type 0
LeftIsAdmissible = (g : Public) (es h : List Entry) (n : ℕ) → Each (λ e. is_allowed g e ≡ true) es → left g [] n es ≡ Leaves h → IsAdmissible g h

-- an admissible history is left as it is
abbrev pub AdmissibleIsLeft : Type 0
AdmissibleIsLeft = (g : Public) (h : List Entry) (n : ℕ) → IsAdmissible g h → left g [] n h ≡ Leaves h

-- when an entry is taken: a request by a fresh answer; a source that isn't held yet and leaves each protected cell cut; a link that doesn't follow and leaves each guarded place free
pub record TakenIs (g : Public) (h : List Entry) : Type 0 where
  pub request : (r : Request) → (taken g h (Asked r) ≡ Taken) ↔ (verdict g h r ≡ Answer true)
  pub source : (m : ℕ) (c : List ℕ) → (taken g h (Source m c) ≡ Taken) ↔ ((holds_grain (source h m) c ≡ false) × ((t : Cell) → IsIn t (protected g m) → is_cut g (narrowed (source h m) c) t ≡ true))
  pub link : (m : ℕ) (l : Link) → (taken g h (Linked m l) ≡ Taken) ↔ ((follows (length g.shape.points) (links_of g h m) l ≡ false) × ((i : ℕ) → IsIn i (guarded g m) → is_free (length g.shape.points) (links_of g h m ++ l ∷ []) i ≡ true))

abbrev pub EntriesAreTaken : Type 0
EntriesAreTaken = (g : Public) (h : List Entry) → TakenIs g h

-- an entry that is passed over would bring nothing
abbrev pub PassedBringsNothing : Type 0
PassedBringsNothing = (g : Public) (h : List Entry) (e : Entry) → taken g h e ≡ Passed → HoldTheSame g h (h ++ e ∷ [])
