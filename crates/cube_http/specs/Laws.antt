-- The laws of a stream that goes on.
use Rattle.std.specs.Prelude.{◌≡◌, ℕ, ◌+◌, List, [], ◌∷◌, ◌++◌, length, filter, map, nat_le, Option, Some, None}
use Rattle.cube_http.specs.Head.{front, rest}
use Rattle.cube_http.specs.Stream.{Request, Placed, is_break, items}
use Rattle.cube_http.specs.Stream.Item.{Whole}

-- However a stream goes on, what was heard of it stays: the items of the longer one, up to where it stood, are those that it had.
abbrev pub StreamsGoOn : Type 0
StreamsGoOn = (xs ys : List ℕ) → filter (λ p. nat_le p.ends (length xs)) (items (xs ++ ys)) ≡ items xs

-- the same items so many bytes further on
abbrev pub later : ℕ → List Placed → List Placed
later n ps = map (λ p. record { ends = n + p.ends; item = p.item }) ps

abbrev pub last_or : Placed → List Placed → Placed
last_or p [] = p
last_or p (q ∷ qs) = last_or q qs

abbrev pub last_of : List Placed → Option Placed
last_of [] = None
last_of (p ∷ ps) = Some (last_or p ps)

-- Behind a whole request the stream starts anew.
abbrev pub StreamsStartAnew : Type 0
StreamsStartAnew = (xs ys : List ℕ) (r : Request) → last_of (items xs) ≡ Some (record { ends = length xs; item = Whole r })
    → items (xs ++ ys) ≡ items xs ++ later (length xs) (items ys)

-- Line ends before a head say nothing, and may be dropped as they come.
abbrev pub BreaksSayNothing : Type 0
BreaksSayNothing = (text more : List ℕ) → items (text ++ more) ≡ later (length (front is_break text)) (items (rest is_break text ++ more))
