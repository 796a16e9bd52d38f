-- Links with where they come from, and the places that their pairs join.
use Rattle.std.specs.Prelude.{◌≡◌, ℕ, ◌<◌, ◌≤◌, ◌==◌, ◌⊎◌, List, [], ◌∷◌, ◌++◌, length, if◌then◌else◌, flat_map, slice_index_or}
use Rattle.cube_model.specs.declared.entry.Entry.{Entry as EntryOf}
use Rattle.cube_model.specs.declared.link.Link.{Link}
use Rattle.cube_model.specs.declared.link.Link.TheVariants.{Pair, Single}
use Rattle.cube_model.specs.Cubes.{Public, IsIn}
use Rattle.cube_model.specs.LinkLaws.{IsOfPlaces}
use Rattle.cube_model.specs.Reasons as said
use Rattle.cube_model.specs.Reasons.{numbered, links_on, at_most_one}
use Rattle.cube_model.specs.Reasons.Origin.{By, Own as OwnLink}
use Rattle.cube_reason.specs.declared.joints.Joint.{Joint}
use Rattle.cube_reason.specs.declared.ties.Bringer.{Bringer}
use Rattle.cube_reason.specs.declared.ties.Bringer.TheVariants.{Entry, Own}
use Rattle.cube_reason.specs.declared.ties.Tie.{Tie}

abbrev pub tied : Link → Bringer → Tie
tied l b = record { link = l; by = b }

abbrev pub bringer_view : Bringer → said.Origin
bringer_view (Entry n) = By n
bringer_view (Own k) = OwnLink k

abbrev pub bringer_of : said.Origin → Bringer
bringer_of (By n) = Entry n
bringer_of (OwnLink k) = Own k

-- the ties are the links that origins name, each with its origin
pub record AreTies (named : said.Origin → List Link) (ties : List Tie) : Type 0 where
  pub sound : (t : Tie) → IsIn t ties → IsIn t.link (named (bringer_view t.by))
  pub complete : (o : said.Origin) (l : Link) → IsIn l (named o) → IsIn (tied l (bringer_of o)) ties

-- a link of the entry with a number
pub record IsOfEntry (g : Public) (h : List EntryOf) (m : ℕ) (t : Tie) : Type 0 where
  pub number : ℕ
  pub by : t.by ≡ Entry number
  pub link : IsIn t.link (links_on g m (numbered number h))

-- the ties are the links of the first so many entries
pub record EntriesTied (g : Public) (h : List EntryOf) (m many : ℕ) (ties : List Tie) : Type 0 where
  pub sound : (t : Tie) → IsIn t ties → IsOfEntry g h m t
  pub complete : (n : ℕ) (l : Link) → n ≤ many → IsIn l (links_on g m (numbered n h)) → IsIn (tied l (Entry n)) ties

-- one of the links, with its number
pub record IsOwn (links : List Link) (t : Tie) : Type 0 where
  pub number : ℕ
  pub by : t.by ≡ Own number
  pub link : IsIn t.link (at_most_one (numbered number links))

-- the first so many of the links are tied behind the ties before
pub record OwnTied (links : List Link) (many : ℕ) (before ties : List Tie) : Type 0 where
  pub kept : (t : Tie) → IsIn t before → IsIn t ties
  pub sound : (t : Tie) → IsIn t ties → IsIn t before ⊎ IsOwn links t
  pub complete : (k : ℕ) (l : Link) → k ≤ many → IsIn l (at_most_one (numbered k links)) → IsIn (tied l (Own k)) ties

-- ties of so many places
abbrev pub OfPlaces : ℕ → List Tie → Type 0
OfPlaces n ties = (t : Tie) → IsIn t ties → IsOfPlaces n t.link

-- the joint at a place, where this is the place
abbrev pub joint_at : ℕ → ℕ → ℕ → Bringer → List Joint
joint_at a i j o = if i == a then record { to = j; by = o } ∷ [] else []

-- where a link leads from a place
abbrev pub led_by : ℕ → Link → Bringer → List Joint
led_by a (Pair i j) o = joint_at a i j o ++ joint_at a j i o
led_by a (Single i) o = []

abbrev pub joints_at : ℕ → List Tie → List Joint
joints_at a ties = flat_map (λ t. led_by a t.link t.by) ties

-- for each of so many places, where the ties lead from it
pub record AreJoints (n : ℕ) (ties : List Tie) (joints : List (List Joint)) : Type 0 where
  pub long : length joints ≡ n
  pub at : (a : ℕ) → a < n → slice_index_or joints a [] ≡ joints_at a ties
