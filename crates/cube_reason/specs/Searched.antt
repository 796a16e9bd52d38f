-- A search along joints.
use Rattle.std.specs.Prelude.{◌≡◌, ℕ, suc, ◌+◌, ◌*◌, ◌<◌, Bool, true, false, not, List, [], ◌∷◌, ◌++◌, length, slice_index_or, slice_set, if◌then◌else◌}
use Rattle.cube_model.specs.Cubes.{IsIn}
use Rattle.cube_reason.specs.declared.joints.Joint.{Joint}
use Rattle.cube_reason.specs.declared.searching.Visit.{Visit}
use Rattle.cube_reason.specs.declared.ties.Bringer.TheVariants.{Entry, Own}

-- the number of a place at evenly or at oddly many steps
abbrev pub state_of : ℕ → Bool → ℕ
state_of place odd = if odd then 2 * place + 1 else 2 * place

abbrev pub no_visit : Visit
no_visit = record { place = 0; odd = false; back = 0; by = Entry 0 }

abbrev pub first_visit : ℕ → Visit
first_visit place = record { place = place; odd = false; back = 0; by = Own 0 }

abbrev pub visit_at : List Visit → ℕ → Visit
visit_at visits k = slice_index_or visits k no_visit

abbrev pub is_seen : List Bool → ℕ → Bool → Bool
is_seen seen place odd = slice_index_or seen (state_of place odd) false

-- the visit behind those before, unless it was made
abbrev pub visited : List Visit → List Bool → Visit → List Visit
visited visits seen v = if is_seen seen v.place v.odd then visits else visits ++ v ∷ []

abbrev pub marked : List Bool → Visit → List Bool
marked seen v = if is_seen seen v.place v.odd then seen else slice_set seen (state_of v.place v.odd) true

-- how many are marked
abbrev pub tally : List Bool → ℕ
tally [] = 0
tally (true ∷ seen) = suc (tally seen)
tally (false ∷ seen) = tally seen

-- joints lead to places that have joints, or none
abbrev pub AreWithin : List (List Joint) → Type 0
AreWithin joints = (a : ℕ) (x : Joint) → IsIn x (slice_index_or joints a []) → x.to < length joints

-- a visit is of a place at evenly or at oddly many steps
pub record IsReached (visits : List Visit) (place : ℕ) (odd : Bool) : Type 0 where
  pub number : ℕ
  pub below : number < length visits
  pub place_is : (visit_at visits number).place ≡ place
  pub odd_is : (visit_at visits number).odd ≡ odd

-- a visit but the first comes from an earlier one, along a joint
pub record ComesFrom (joints : List (List Joint)) (visits : List Visit) (k : ℕ) : Type 0 where
  pub before : (visit_at visits k).back < k
  pub joint : IsIn (record { to = (visit_at visits k).place; by = (visit_at visits k).by }) (slice_index_or joints (visit_at visits (visit_at visits k).back).place [])
  pub odd : (visit_at visits k).odd ≡ not (visit_at visits (visit_at visits k).back).odd

-- the visits of a search, as far as it has come
pub record IsSearch (joints : List (List Joint)) (visits : List Visit) (seen : List Bool) : Type 0 where
  pub long : length seen ≡ 2 * length joints
  pub there : (k : ℕ) → k < length visits → (visit_at visits k).place < length joints
  pub trail : (k : ℕ) → 0 < k → k < length visits → ComesFrom joints visits k
  pub seen_is : (place : ℕ) (odd : Bool) → is_seen seen place odd ≡ true → IsReached visits place odd
  pub many : length visits ≡ tally seen

-- where the joints of a visit's place lead is reached, at one step more
abbrev pub IsPassed : List (List Joint) → List Visit → ℕ → Type 0
IsPassed joints visits k = (x : Joint) → IsIn x (slice_index_or joints (visit_at visits k).place []) → IsReached visits x.to (not (visit_at visits k).odd)

-- visits behind others
pub record Extends (old new : List Visit) : Type 0 where
  pub more : List Visit
  pub is : new ≡ old ++ more

pub record WentOn (joints : List (List Joint)) (at : ℕ) (old new : List Visit) (seen : List Bool) : Type 0 where
  pub search : IsSearch joints new seen
  pub extends : Extends old new
  pub passed : IsPassed joints new at

-- all that can be reached from a place
pub record HasSearched (joints : List (List Joint)) (start : ℕ) (visits : List Visit) : Type 0 where
  pub some : 0 < length visits
  pub first : visit_at visits 0 ≡ first_visit start
  pub there : (k : ℕ) → k < length visits → (visit_at visits k).place < length joints
  pub trail : (k : ℕ) → 0 < k → k < length visits → ComesFrom joints visits k
  pub closed : (k : ℕ) → k < length visits → IsPassed joints visits k
