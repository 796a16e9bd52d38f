-- What a history holds, and the verdict on a request behind it.
use Rattle.std.specs.List.{list_all}
use Rattle.std.specs.Prelude.{◌≡◌, ℕ, ◌-◌, Bool, true, false, not, nat_le, List, [], ◌∷◌, ◌++◌, length, flat_map, find, fold, take, slice_index_or, if◌then◌else◌, ⊤, Option, Some, None, ℤ, is_some, is_none, unwrap_or}
use Rattle.cube_model.specs.declared.cell.Cell.{Cell}
use Rattle.cube_model.specs.declared.entry.Entry.{Entry}
use Rattle.cube_model.specs.declared.entry.Entry.TheVariants.{Asked, Source, Linked}
use Rattle.cube_model.specs.declared.entry.Taken.{Taken as Taking}
use Rattle.cube_model.specs.declared.entry.Taken.TheVariants.{Taken, Passed, Refused}
use Rattle.cube_model.specs.declared.link.Link.{Link}
use Rattle.cube_model.specs.declared.link.Link.TheVariants.{Pair, Single}
use Rattle.cube_model.specs.declared.policy.Method.{Method}
use Rattle.cube_model.specs.declared.policy.Method.TheVariants.{Plain, Lattice, Parity}
use Rattle.cube_model.specs.declared.request.Request.{Request}
use Rattle.cube_model.specs.declared.request.What.{What}
use Rattle.cube_model.specs.declared.request.What.TheVariants.{Count, Measure}
use Rattle.cube_model.specs.declared.verdict.Verdict.{Verdict}
use Rattle.cube_model.specs.declared.verdict.Verdict.TheVariants.{Answer, Full, SourceWould, Pair as PairFixes, Single as SingleFixes}
use Rattle.cube_model.specs.Cubes.{Public, same, meet, count_from}
use Rattle.cube_model.specs.Requests.{grain}
use Rattle.cube_model.specs.Protection.{method, guarded, uncut}
use Rattle.cube_model.specs.Links.{links, suiting, has_plus, follows}
use Rattle.cube_model.specs.Entries.{is_allowed, requests, on, levels_in, links_in}

-- a source under one more grain
abbrev pub narrowed : Option (List ℕ) → List ℕ → List ℕ
narrowed None c = c
narrowed (Some s) c = meet s c

-- the meet of the levels that the entries on the measure bring, or none
unfoldable pub source : List Entry → ℕ → Option (List ℕ)
source h m = fold (λ s c. Some (narrowed s c)) None (flat_map levels_in (on m h))

-- the links that the entries on the measure bring, in order
unfoldable pub links_of : Public → List Entry → ℕ → List Link
links_of g h m = flat_map (links_in g) (on m h)

-- the most requests that a history holds; what stands for earlier ones is not counted
abbrev pub most_held : ℕ
most_held = 16384

-- the source is as fine as the grain already
abbrev pub holds_grain : Option (List ℕ) → List ℕ → Bool
holds_grain None c = false
holds_grain (Some s) c = same (meet s c) s

-- the first of the guarded places that no list has +1 at
abbrev pub fixed_by : List (List ℤ) → List ℕ → Option ℕ
fixed_by lists guards = find (λ i. not (has_plus lists i)) guards

-- the least k such that the links kept and the first k others leave some guarded place not free
abbrev pub first_stop : ℕ → List ℕ → List Link → List Link → Option ℕ
first_stop n guards kept others = find (λ k. is_some (fixed_by (suiting n (kept ++ take k others)) guards)) (count_from 1 (length others))

abbrev pub unless_uncut : List ℕ → Option Cell → Verdict
unless_uncut c None = Answer true
unless_uncut c (Some t) = SourceWould c t

-- the verdict where a link, counted from 1, fixes a protected place
abbrev pub fixes : ℕ → Link → ℕ → Verdict
fixes k (Pair i j) t = PairFixes k i j t
fixes k (Single i) t = SingleFixes k i t

-- the stop, with the first guarded place that is not free
abbrev pub stopped_at : ℕ → List ℕ → List Link → List Link → ℕ → Verdict
stopped_at n guards kept others k = fixes k (slice_index_or others (k - 1) (Single 0)) (unwrap_or (fixed_by (suiting n (kept ++ take k others)) guards) 0)

abbrev pub unless_stopped : (ℕ → Verdict) → Option ℕ → Verdict
unless_stopped stop None = Answer true
unless_stopped stop (Some k) = stop k

-- the verdict on a request on a measure
abbrev pub judged : Method → Public → List Entry → Request → ℕ → Verdict
judged Plain g h r m = Answer false
judged Lattice g h r m =
    if holds_grain (source h m) (grain r) then Answer false
    else if nat_le most_held (length (requests h)) then Full (length (requests h))
    else unless_uncut (narrowed (source h m) (grain r)) (uncut g (narrowed (source h m) (grain r)) m)
judged Parity g h r m =
    if list_all (follows (length g.shape.points) (links_of g h m)) (links g r) then Answer false
    else if nat_le most_held (length (requests h)) then Full (length (requests h))
    else unless_stopped (stopped_at (length g.shape.points) (guarded g m) (links_of g h m) (links g r)) (first_stop (length g.shape.points) (guarded g m) (links_of g h m) (links g r))

abbrev pub judged_what : What → Public → List Entry → Request → Verdict
judged_what Count g h r = Answer false
judged_what (Measure m) g h r = judged (method g m) g h r m

-- The verdict. It has no cube among its arguments.
unfoldable pub verdict : Public → List Entry → Request → Verdict
verdict g h r = judged_what r.what g h r

-- a fresh answer is taken, another answer is passed over
abbrev pub taken_by : Verdict → Taking
taken_by (Answer fresh) = if fresh then Taken else Passed
taken_by (Full held) = Refused
taken_by (SourceWould c t) = Refused
taken_by (PairFixes k x y i) = Refused
taken_by (SingleFixes k x i) = Refused

-- What becomes of an entry behind a history: taken, passed over where it brings nothing, or refused. A source has to cut each
-- protected cell, and each guarded place has to stay free.
unfoldable pub taken : Public → List Entry → Entry → Taking
taken g h (Asked r) = taken_by (verdict g h r)
taken g h (Source m c) =
    if holds_grain (source h m) c then Passed
    else if is_none (uncut g (narrowed (source h m) c) m) then Taken else Refused
taken g h (Linked m l) =
    if follows (length g.shape.points) (links_of g h m) l then Passed
    else if is_none (fixed_by (suiting (length g.shape.points) (links_of g h m ++ l ∷ [])) (guarded g m)) then Taken else Refused

-- each entry is allowed, and taken behind those before it
abbrev pub AdmissibleFrom : Public → List Entry → List Entry → Type 0
AdmissibleFrom g h [] = ⊤
AdmissibleFrom g h (e ∷ es) = (is_allowed g e ≡ true) × (taken g h e ≡ Taken) × AdmissibleFrom g (h ++ e ∷ []) es

abbrev pub IsAdmissible : Public → List Entry → Type 0
IsAdmissible g h = AdmissibleFrom g [] h
