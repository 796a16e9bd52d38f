-- Which requests bring something, when the history is full, and what never enters it.
use Rattle.std.specs.List.{list_all}
use Rattle.std.specs.Prelude.{◌≡◌, ℕ, ◌≤◌, ◌↔◌, Bool, true, false, not, List, length}
use Rattle.cube_model.specs.declared.entry.Entry.{Entry}
use Rattle.cube_model.specs.declared.policy.Method.{Method}
use Rattle.cube_model.specs.declared.policy.Method.TheVariants.{Plain, Lattice, Parity}
use Rattle.cube_model.specs.declared.request.Request.{Request}
use Rattle.cube_model.specs.declared.request.What.{What}
use Rattle.cube_model.specs.declared.request.What.TheVariants.{Count, Measure}
use Rattle.cube_model.specs.declared.verdict.Verdict.TheVariants.{Answer, Full}
use Rattle.cube_model.specs.Cubes.{Public}
use Rattle.cube_model.specs.Requests.{grain}
use Rattle.cube_model.specs.Protection.{method}
use Rattle.cube_model.specs.Links.{links, follows}
use Rattle.cube_model.specs.Entries.{requests}
use Rattle.cube_model.specs.Verdicts.{source, links_of, holds_grain, most_held, verdict}
use Rattle.cube_model.specs.Runs.{Ask, next, by_rules}
use Rattle.cube_model.specs.Runs.Question.{Query}

-- the request narrows the source, or one of its links does not follow; on an open measure nothing is fresh
abbrev pub is_fresh_by : Method → Public → List Entry → Request → ℕ → Bool
is_fresh_by Plain g h r m = false
is_fresh_by Lattice g h r m = not (holds_grain (source h m) (grain r))
is_fresh_by Parity g h r m = not (list_all (follows (length g.shape.points) (links_of g h m)) (links g r))

abbrev pub is_fresh_on : What → Public → List Entry → Request → Bool
is_fresh_on Count g h r = false
is_fresh_on (Measure m) g h r = is_fresh_by (method g m) g h r m

abbrev pub is_fresh : Public → List Entry → Request → Bool
is_fresh g h r = is_fresh_on r.what g h r

-- what is not fresh, and nothing else, is answered without entering the history
abbrev pub NotFreshIsAnswered : Type 0
NotFreshIsAnswered = (g : Public) (h : List Entry) (r : Request) → (verdict g h r ≡ Answer false) ↔ (is_fresh g h r ≡ false)

-- full is said exactly where a fresh request meets as many requests as a history holds
abbrev pub FullIs : Type 0
FullIs = (g : Public) (h : List Entry) (r : Request) (held : ℕ) → (verdict g h r ≡ Full held) ↔ ((is_fresh g h r ≡ true) × (most_held ≤ length (requests h)) × (held ≡ length (requests h)))

-- everybody may see what is asked for: the count, or an open measure
abbrev pub is_open_by : Method → Bool
is_open_by Plain = true
is_open_by Lattice = false
is_open_by Parity = false

abbrev pub is_open : Public → What → Bool
is_open g Count = true
is_open g (Measure m) = is_open_by (method g m)

-- what is open leaves the history
abbrev pub OpenLeavesHistory : Type 0
OpenLeavesHistory = (g : Public) (h : List Entry) (a : Ask) (r : Request) → a.question ≡ Query r → is_open g r.what ≡ true → next by_rules g h a ≡ h
