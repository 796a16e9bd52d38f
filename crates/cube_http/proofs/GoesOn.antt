-- However a stream goes on, what was heard of it stays.
use Rattle.std.proofs.Common.{◌≡◌, ℕ, zero, suc, ◌+◌, ◌<◌, ◌≤◌, Bool, true, false, List, [], ◌∷◌, ◌++◌, length, take, drop, filter, nat_le, refl, sym, ◌∙◌, ap, arith, length-append, length-drop, if◌then◌else◌}
use Rattle.std.specs.List.{AllByRecursion}
use Rattle.std.proofs.lemmas.List.{take-append-le, drop-append-le}
use Rattle.httparse.specs.Grammar.{RequestHead}
use Rattle.cube_http.specs.Checks.{body_len, wants_continue}
use Rattle.cube_http.specs.Stream.{Placed, Opening, request_at, head_len, opening, heard_of, items_from, items}
use Rattle.cube_http.specs.Stream.Item.{Continue, Whole, Bad}
use Rattle.cube_http.specs.Stream.Opening.{Unended, Refused, Headed}
use Rattle.cube_http.specs.Laws.{StreamsGoOn}
use Rattle.cube_http.proofs.Openings.{le_true, le_false, le_of, lt_of, Settled, Beyond, Goes, goes}
use Rattle.cube_http.proofs.Openings.Goes.{Stays, Comes}

abbrev pub Finder : Type 0
Finder = ℕ → List ℕ → List Placed

abbrev Above : ℕ → List Placed → Type 0
Above b ps = AllByRecursion (λ p. b < p.ends) ps

abbrev keep : ℕ → List Placed → List Placed
keep n ps = filter (λ p. nat_le p.ends n) ps

above_less : (a b : ℕ) (ps : List Placed) → a ≤ b → Above b ps → Above a ps
above_less a b [] le h = tt
above_less a b (p ∷ ps) le h = (omega (arith, h.0), above_less a b ps le h.1)

keep_none : (n : ℕ) (ps : List Placed) → Above n ps → keep n ps ≡ []
keep_none n [] h = refl
keep_none n (p ∷ ps) h = rw (le_false p.ends n h.0) (keep_none n ps h.1)

keep_here : (n : ℕ) (p : Placed) (ps : List Placed) → p.ends ≤ n → keep n (p ∷ ps) ≡ p ∷ keep n ps
keep_here n p ps le = rw (le_true p.ends n le) refl

abbrev pub whole : ℕ → ℕ → RequestHead → List ℕ → Placed
whole at n h text = record { ends = at + (n + body_len h); item = Whole (request_at n h text) }

-- what is heard of the body, and of what follows it
abbrev pub body : Finder → ℕ → ℕ → RequestHead → List ℕ → List Placed
body more at n h text = if nat_le (n + body_len h) (length text) then whole at n h text ∷ more (at + (n + body_len h)) (drop (n + body_len h) text) else []

pub body_is : (more : Finder) (at n : ℕ) (h : RequestHead) (text : List ℕ) → n + body_len h ≤ length text → body more at n h text ≡ whole at n h text ∷ more (at + (n + body_len h)) (drop (n + body_len h) text)
body_is more at n h text le = ap (λ (t : Bool). if t then whole at n h text ∷ more (at + (n + body_len h)) (drop (n + body_len h) text) else []) (le_true (n + body_len h) (length text) le)

pub body_is_not : (more : Finder) (at n : ℕ) (h : RequestHead) (text : List ℕ) → length text < n + body_len h → body more at n h text ≡ []
body_is_not more at n h text lt = ap (λ (t : Bool). if t then whole at n h text ∷ more (at + (n + body_len h)) (drop (n + body_len h) text) else []) (le_false (n + body_len h) (length text) lt)

abbrev leave : ℕ → RequestHead → List Placed
leave at h = if wants_continue h then record { ends = at; item = Continue } ∷ [] else []

-- all items lie behind where the text begins
abbrev IsBehind : Finder → Type 0
IsBehind more = (at : ℕ) (text : List ℕ) → Above at (more at text)

above_body : (more : Finder) (at n : ℕ) (h : RequestHead) (text : List ℕ) (b : ℕ) → IsBehind more → b < at + (n + body_len h) → Above b (body more at n h text)
above_body more at n h text b behind lt = by (nat_le (n + body_len h) (length text))
  where
    by : (t : Bool) → Above b (if t then whole at n h text ∷ more (at + (n + body_len h)) (drop (n + body_len h) text) else [])
    by true = (lt, above_less b (at + (n + body_len h)) _ (omega arith) (behind (at + (n + body_len h)) (drop (n + body_len h) text)))
    by false = tt

above_heard : (more : Finder) (at : ℕ) (text : List ℕ) (o : Opening) (b : ℕ) → IsBehind more → Beyond b o → Above (at + b) (heard_of more at text o)
above_heard more at text Unended b behind beyond = tt
above_heard more at text (Refused n f) b behind beyond = (omega (arith, beyond), tt)
above_heard more at text (Headed n h) b behind beyond = by (wants_continue h)
  where
    others : Above (at + b) (body more at n h text)
    others = above_body more at n h text (at + b) behind (omega (arith, beyond))

    by : (t : Bool) → Above (at + b) ((if t then record { ends = at + n; item = Continue } ∷ [] else []) ++ body more at n h text)
    by true = (omega (arith, beyond), others)
    by false = others

beyond_zero : (text : List ℕ) → Beyond 0 (opening text)
beyond_zero text = by (goes [] text)
  where
    by : Goes [] text → Beyond 0 (opening text)
    by (Stays s e) = absurd (elim (opening []) as (λ o. Settled 0 o → ⊥) [ Unended ↦ λ h. h | Refused k f ↦ λ h. omega (arith, h) | Headed k h ↦ λ g. omega (arith, g) ] s)
    by (Comes e b) = b

pub items_behind : (n at : ℕ) (text : List ℕ) → Above at (items_from n at text)
items_behind zero at text = tt
items_behind (suc n) at text = let e : at + 0 ≡ at = omega arith in rw e at (above_heard (items_from n) at text (opening text) 0 (λ a t. items_behind n a t) (beyond_zero text))

-- the items behind a request continue those of a longer text
abbrev Continues : List ℕ → Finder → Finder → ℕ → Type 0
Continues ys more more' n = (at : ℕ) (text : List ℕ) → length text < n → keep (at + length text) (more' at (text ++ ys)) ≡ more at text

body_same : (more more' : Finder) (ys xs : List ℕ) (at n : ℕ) (h : RequestHead) → Continues ys more more' (length xs) → IsBehind more' → 0 < n → n ≤ length xs → keep (at + length xs) (body more' at n h (xs ++ ys)) ≡ body more at n h xs
body_same more more' ys xs at n h goes behind pos le = by (nat_le (n + body_len h) (length xs)) refl
  where
    longer : length xs ≤ length (xs ++ ys)
    longer = omega (arith, length-append xs ys)

    by : (t : Bool) → nat_le (n + body_len h) (length xs) ≡ t → keep (at + length xs) (body more' at n h (xs ++ ys)) ≡ body more at n h xs
    by true t =
        let m = n + body_len h in
        let le_m : m ≤ length xs = le_of m (length xs) t in
        let inner : take (body_len h) (drop n (xs ++ ys)) ≡ take (body_len h) (drop n xs) = ap (λ (l : List ℕ). take (body_len h) l) (drop-append-le n xs ys le) ∙ take-append-le (body_len h) (drop n xs) ys (omega (arith, length-drop n xs, le_m)) in
        let first : whole at n h (xs ++ ys) ≡ whole at n h xs = ap (λ (l : List ℕ). let q : Placed = record { ends = at + m; item = Whole (record { head = h; body = l }) } in q) inner in
        let place : at + length xs ≡ (at + m) + length (drop m xs) = omega (arith, length-drop m xs, le_m) in
        let shorter : length (drop m xs) < length xs = omega (arith, length-drop m xs, le_m, pos) in
        let others : keep (at + length xs) (more' (at + m) (drop m (xs ++ ys))) ≡ more (at + m) (drop m xs) =
        ap (λ (l : List ℕ). keep (at + length xs) (more' (at + m) l)) (drop-append-le m xs ys le_m) ∙ ap (λ (k : ℕ). keep k (more' (at + m) (drop m xs ++ ys))) place ∙ goes (at + m) (drop m xs) shorter in
        ap (keep (at + length xs)) (body_is more' at n h (xs ++ ys) (omega (arith, le_m, longer))) ∙ keep_here (at + length xs) (whole at n h (xs ++ ys)) _ (omega (arith, le_m))
        ∙ ap (λ (ps : List Placed). whole at n h (xs ++ ys) ∷ ps) others ∙ ap (λ (q : Placed). q ∷ more (at + m) (drop m xs)) first ∙ sym (body_is more at n h xs le_m)
    by false t =
        let lt : length xs < n + body_len h = lt_of (n + body_len h) (length xs) t in
        keep_none (at + length xs) (body more' at n h (xs ++ ys)) (above_body more' at n h (xs ++ ys) (at + length xs) behind (omega (arith, lt))) ∙ sym (body_is_not more at n h xs lt)

heard_same : (more more' : Finder) (ys xs : List ℕ) (at : ℕ) (o : Opening) → Continues ys more more' (length xs) → IsBehind more' → Settled (length xs) o → keep (at + length xs) (heard_of more' at (xs ++ ys) o) ≡ heard_of more at xs o
heard_same more more' ys xs at Unended goes behind settled = refl
heard_same more more' ys xs at (Refused n f) goes behind settled = keep_here (at + length xs) (record { ends = at + n; item = Bad f }) [] (omega (arith, settled))
heard_same more more' ys xs at (Headed n h) goes behind settled = by (wants_continue h)
  where
    others : keep (at + length xs) (body more' at n h (xs ++ ys)) ≡ body more at n h xs
    others = body_same more more' ys xs at n h goes behind settled.0 settled.1

    by : (t : Bool) → keep (at + length xs) ((if t then record { ends = at + n; item = Continue } ∷ [] else []) ++ body more' at n h (xs ++ ys)) ≡ (if t then record { ends = at + n; item = Continue } ∷ [] else []) ++ body more at n h xs
    by true = keep_here (at + length xs) (record { ends = at + n; item = Continue }) (body more' at n h (xs ++ ys)) (omega (arith, settled)) ∙ ap (λ (ps : List Placed). record { ends = at + n; item = Continue } ∷ ps) others
    by false = others

pub opening_none : opening [] ≡ Unended
unfolding opening head_len
opening_none = refl

go : (n m at : ℕ) (xs ys : List ℕ) → length xs ≤ n → length (xs ++ ys) ≤ m → keep (at + length xs) (items_from m at (xs ++ ys)) ≡ items_from n at xs
go zero m at [] ys le le' = keep_none (at + 0) (items_from m at ys) (above_less (at + 0) at (items_from m at ys) (omega arith) (items_behind m at ys))
go zero m at (x ∷ xs) ys le le' = absurd (omega arith)
go (suc n) zero at [] [] le le' = ap (heard_of (items_from n) at []) (sym opening_none)
go (suc n) zero at [] (y ∷ ys) le le' = absurd (omega arith)
go (suc n) zero at (x ∷ xs) ys le le' = absurd (omega arith)
go (suc n) (suc m) at xs ys le le' = by (λ a t lt short. go n m a t ys lt short) (goes xs ys)
  where
    by : ((a : ℕ) (t : List ℕ) → length t ≤ n → length (t ++ ys) ≤ m → keep (a + length t) (items_from m a (t ++ ys)) ≡ items_from n a t) → Goes xs ys → keep (at + length xs) (items_from (suc m) at (xs ++ ys)) ≡ items_from (suc n) at xs
    by again (Comes e beyond) = keep_none (at + length xs) _ (above_heard (items_from m) at (xs ++ ys) (opening (xs ++ ys)) (length xs) (items_behind m) beyond) ∙ ap (heard_of (items_from n) at xs) (sym e)
    by again (Stays settled e) =
        let on : Continues ys (items_from n) (items_from m) (length xs) = λ p t lt. again p t (omega (arith, lt, le)) (omega (arith, lt, le', length-append t ys, length-append xs ys)) in
        ap (λ (o : Opening). keep (at + length xs) (heard_of (items_from m) at (xs ++ ys) o)) e ∙ heard_same (items_from n) (items_from m) ys xs at (opening xs) on (items_behind m) settled

pub goes_on : StreamsGoOn
unfolding items
goes_on xs ys = let e : length xs ≡ 0 + length xs = omega arith in ap (λ (k : ℕ). keep k (items_from (length (xs ++ ys)) 0 (xs ++ ys))) e ∙ go (length xs) (length (xs ++ ys)) 0 xs ys (omega arith) (omega arith)
