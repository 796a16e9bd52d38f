-- Where a stream starts anew, and what line ends before a head say.
use Rattle.std.proofs.Common.{◌≡◌, ◌⊎◌, inl, inr, ℕ, zero, suc, ◌+◌, ◌<◌, ◌≤◌, Bool, true, false, List, [], ◌∷◌, ◌++◌, length, take, drop, nat_le, refl, sym, ◌∙◌, ap, arith, append_assoc, length-append, length-drop, Option, Some, None, if◌then◌else◌}
use Rattle.std.proofs.lemmas.List.{take-append-le, drop-append-le, drop_all, drop-drop, map-append}
use Rattle.httparse.specs.Grammar.{RequestHead}
use Rattle.cube_model.specs.declared.reply.Fixed.{Fixed}
use Rattle.cube_model.specs.declared.reply.Fixed.TheVariants.{HeadTooLarge}
use Rattle.cube_http.specs.Head.{front, rest, head_of}
use Rattle.cube_http.specs.Checks.{check, body_len, wants_continue}
use Rattle.cube_http.specs.Stream.{Request, Placed, Item, Opening, is_break, most_head, head_len, checked, parsed, measured, request_at, opening, heard_of, items_from, items}
use Rattle.cube_http.specs.Stream.Item.{Continue, Whole, Bad}
use Rattle.cube_http.specs.Stream.Opening.{Unended, Refused, Headed}
use Rattle.cube_http.specs.Laws.{later, last_or, last_of, StreamsStartAnew}
use Rattle.cube_http.proofs.Openings.{le_true, le_false, le_of, lt_of, Settled, Goes, goes}
use Rattle.cube_http.proofs.Openings.Goes.{Stays, Comes}
use Rattle.cube_http.proofs.GoesOn.{Finder, whole, body, opening_none}

-- an opening lies in so many bytes
abbrev pub Lies : ℕ → Opening → Type 0
Lies n Unended = Unit {0}
Lies n (Refused k fixed) = (0 < k) × (k ≤ n)
Lies n (Headed k h) = (0 < k) × (k ≤ n)

settled_lies : (n : ℕ) (o : Opening) → Settled n o → Lies n o
settled_lies n Unended s = tt
settled_lies n (Refused k f) s = s
settled_lies n (Headed k h) s = s

pub lies : (text : List ℕ) → Lies (length text) (opening text)
lies text = by (goes text [])
  where
    by : Goes text [] → Lies (length text) (opening text)
    by (Stays s e) = settled_lies (length text) (opening text) s
    by (Comes e b) = rw e tt

-- two ways to go on that agree on shorter texts
abbrev Alike : Finder → Finder → ℕ → Type 0
Alike more more' n = (at : ℕ) (text : List ℕ) → length text < n → more at text ≡ more' at text

heard_alike : (more more' : Finder) (at : ℕ) (text : List ℕ) (o : Opening) → Alike more more' (length text) → Lies (length text) o → heard_of more at text o ≡ heard_of more' at text o
heard_alike more more' at text Unended same lie = refl
heard_alike more more' at text (Refused n f) same lie = refl
heard_alike more more' at text (Headed n h) same lie = ap (λ (ps : List Placed). (if wants_continue h then record { ends = at + n; item = Continue } ∷ [] else []) ++ ps) (by (nat_le (n + body_len h) (length text)) refl)
  where
    m : ℕ
    m = n + body_len h

    by : (t : Bool) → nat_le m (length text) ≡ t → (if t then whole at n h text ∷ more (at + m) (drop m text) else []) ≡ (if t then whole at n h text ∷ more' (at + m) (drop m text) else [])
    by true t = let le : m ≤ length text = le_of m (length text) t in
        let pos : 0 < m = omega (arith, lie) in
        ap (λ (ps : List Placed). whole at n h text ∷ ps) (same (at + m) (drop m text) (omega (arith, length-drop m text, le, pos)))
    by false t = refl

-- how many requests are looked for makes no difference, where they are enough
pub fuel : (n m at : ℕ) (text : List ℕ) → length text ≤ n → length text ≤ m → items_from n at text ≡ items_from m at text
fuel zero zero at text le le' = refl
fuel zero (suc m) at [] le le' = ap (heard_of (items_from m) at []) (sym opening_none)
fuel zero (suc m) at (x ∷ text) le le' = absurd (omega arith)
fuel (suc n) zero at [] le le' = ap (heard_of (items_from n) at []) opening_none
fuel (suc n) zero at (x ∷ text) le le' = absurd (omega arith)
fuel (suc n) (suc m) at text le le' = heard_alike (items_from n) (items_from m) at text (opening text) (λ a t lt. fuel n m a t (omega arith) (omega arith)) (lies text)

-- what is heard further on in the stream
heard_later : (more : Finder) (a at : ℕ) (text : List ℕ) (o : Opening) → ((p : ℕ) (t : List ℕ) → more (a + p) t ≡ later a (more p t)) → heard_of more (a + at) text o ≡ later a (heard_of more at text o)
heard_later more a at text Unended on = refl
heard_later more a at text (Refused n f) on = let e : a + at + n ≡ a + (at + n) = omega arith in ap (λ (k : ℕ). let p : Placed = record { ends = k; item = Bad f } in p ∷ []) e
heard_later more a at text (Headed n h) on = by (wants_continue h) (nat_le m (length text))
  where
    m : ℕ
    m = n + body_len h

    leave : Bool → ℕ → List Placed
    leave t k = if t then record { ends = k; item = Continue } ∷ [] else []

    other : Bool → ℕ → List Placed
    other t p = if t then record { ends = p + m; item = Whole (request_at n h text) } ∷ more (p + m) (drop m text) else []

    first : (t : Bool) → (if t then record { ends = a + at + n; item = Continue } ∷ [] else []) ≡ later a (if t then record { ends = at + n; item = Continue } ∷ [] else [])
    first true = let e : a + at + n ≡ a + (at + n) = omega arith in ap (λ (k : ℕ). let p : Placed = record { ends = k; item = Continue } in p ∷ []) e
    first false = refl

    second : (t : Bool) → (if t then record { ends = a + at + m; item = Whole (request_at n h text) } ∷ more (a + at + m) (drop m text) else []) ≡ later a (if t then record { ends = at + m; item = Whole (request_at n h text) } ∷ more (at + m) (drop m text) else [])
    second true = let e : a + at + m ≡ a + (at + m) = omega arith in
        ap (λ (k : ℕ). let p : Placed = record { ends = k; item = Whole (request_at n h text) } in p ∷ more k (drop m text)) e
        ∙ ap (λ (ps : List Placed). let p : Placed = record { ends = a + (at + m); item = Whole (request_at n h text) } in p ∷ ps) (on (at + m) (drop m text))
    second false = refl

    by : (s t : Bool) → (if s then record { ends = a + at + n; item = Continue } ∷ [] else []) ++ (if t then record { ends = a + at + m; item = Whole (request_at n h text) } ∷ more (a + at + m) (drop m text) else [])
        ≡ later a ((if s then record { ends = at + n; item = Continue } ∷ [] else []) ++ (if t then record { ends = at + m; item = Whole (request_at n h text) } ∷ more (at + m) (drop m text) else []))
    by s t = ap (λ (ps : List Placed). ps ++ (if t then record { ends = a + at + m; item = Whole (request_at n h text) } ∷ more (a + at + m) (drop m text) else [])) (first s)
        ∙ ap (λ (ps : List Placed). later a (if s then record { ends = at + n; item = Continue } ∷ [] else []) ++ ps) (second t)
        ∙ sym (map-append (λ (p : Placed). let q : Placed = record { ends = a + p.ends; item = p.item } in q) (if s then record { ends = at + n; item = Continue } ∷ [] else []) (if t then record { ends = at + m; item = Whole (request_at n h text) } ∷ more (at + m) (drop m text) else []))

pub items_later : (n a at : ℕ) (text : List ℕ) → items_from n (a + at) text ≡ later a (items_from n at text)
items_later zero a at text = refl
items_later (suc n) a at text = heard_later (items_from n) a at text (opening text) (λ p t. items_later n a p t)

-- an opening behind so many bytes more
abbrev moved : ℕ → Opening → Opening
moved d Unended = Unended
moved d (Refused n f) = Refused (d + n) f
moved d (Headed n h) = Headed (d + n) h

checked_moved : (d n : ℕ) (h : RequestHead) (o : Option Fixed) → checked (d + n) h o ≡ moved d (checked n h o)
checked_moved d n h None = refl
checked_moved d n h (Some f) = refl

parsed_moved : (d n : ℕ) (o : Option RequestHead) → parsed (d + n) o ≡ moved d (parsed n o)
parsed_moved d n None = refl
parsed_moved d n (Some h) = checked_moved d n h (check h)

measured_moved : (d : ℕ) (r : List ℕ) (o : Option ℕ) → measured d r o ≡ moved d (measured 0 r o)
measured_moved d r None = by (nat_le most_head (length r))
  where
    by : (t : Bool) → (if t then Refused (d + most_head) HeadTooLarge else Unended) ≡ moved d (if t then Refused (0 + most_head) HeadTooLarge else Unended)
    by true = refl
    by false = refl
measured_moved d r (Some n) = by (nat_le n most_head)
  where
    by : (t : Bool) → (if t then parsed (d + n) (head_of (take n r)) else Refused (d + most_head) HeadTooLarge) ≡ moved d (if t then parsed (0 + n) (head_of (take n r)) else Refused (0 + most_head) HeadTooLarge)
    by true = let e : 0 + n ≡ n = omega arith in rw e (parsed_moved d n (head_of (take n r)))
    by false = refl

-- what is left behind the line ends begins with none
pub rest_rest : (text : List ℕ) → (rest is_break (rest is_break text) ≡ rest is_break text) × (front is_break (rest is_break text) ≡ []) × (drop (length (front is_break text)) text ≡ rest is_break text) × (length text ≡ length (front is_break text) + length (rest is_break text))
rest_rest [] = (refl, refl, refl, refl)
rest_rest (x ∷ xs) = by (is_break x) refl (rest_rest xs)
  where
    by : (t : Bool) → is_break x ≡ t → (rest is_break (rest is_break xs) ≡ rest is_break xs) × (front is_break (rest is_break xs) ≡ []) × (drop (length (front is_break xs)) xs ≡ rest is_break xs) × (length xs ≡ length (front is_break xs) + length (rest is_break xs))
        → (rest is_break (rest is_break (x ∷ xs)) ≡ rest is_break (x ∷ xs)) × (front is_break (rest is_break (x ∷ xs)) ≡ []) × (drop (length (front is_break (x ∷ xs))) (x ∷ xs) ≡ rest is_break (x ∷ xs)) × (length (x ∷ xs) ≡ length (front is_break (x ∷ xs)) + length (rest is_break (x ∷ xs)))
    by true t h = rw t (h.0, h.1, h.2, omega (arith, h.3))
    by false t h = rw (t, t) (refl, refl, refl, omega arith)

opening_moved : (text : List ℕ) → opening text ≡ moved (length (front is_break text)) (opening (rest is_break text))
unfolding opening
opening_moved text =
    let r = rest is_break text in
    let f = rest_rest text in
    let inner : measured (length (front is_break r)) (rest is_break r) (head_len (rest is_break r)) ≡ measured 0 r (head_len r) =
    ap (λ (l : List ℕ). measured (length l) (rest is_break r) (head_len (rest is_break r))) f.1 ∙ ap (λ (l : List ℕ). measured 0 l (head_len l)) f.0 in
    measured_moved (length (front is_break text)) r (head_len r) ∙ ap (moved (length (front is_break text))) (sym inner)

le_moved : (d a b : ℕ) → nat_le (d + a) (d + b) ≡ nat_le a b
le_moved d a b = by (nat_le a b) refl
  where
    by : (t : Bool) → nat_le a b ≡ t → nat_le (d + a) (d + b) ≡ t
    by true t = let le : a ≤ b = le_of a b t in le_true (d + a) (d + b) (omega arith)
    by false t = let lt : b < a = lt_of a b t in le_false (d + a) (d + b) (omega arith)

heard_moved : (more : Finder) (d : ℕ) (text r : List ℕ) (o : Opening) → drop d text ≡ r → length text ≡ d + length r → heard_of more 0 text (moved d o) ≡ heard_of more d r o
heard_moved more d text r Unended dropped size = refl
heard_moved more d text r (Refused n f) dropped size = let e : 0 + (d + n) ≡ d + n = omega arith in rw e refl
heard_moved more d text r (Headed n h) dropped size =
    let b = body_len h in
    let p : 0 + (d + n) ≡ d + n = omega arith in
    let q : 0 + (d + n + b) ≡ d + (n + b) = omega arith in
    let s : d + n + b ≡ d + (n + b) = omega arith in
    let test : nat_le (d + n + b) (length text) ≡ nat_le (n + b) (length r) = rw (s, size) (le_moved d (n + b) (length r)) in
    let behind : drop (d + n + b) text ≡ drop (n + b) r = rw s (sym (drop-drop (n + b) d text) ∙ ap (drop (n + b)) dropped) in
    let inner : take b (drop (d + n) text) ≡ take b (drop n r) = ap (take b) (sym (drop-drop n d text) ∙ ap (drop n) dropped) in
    ap (λ (k : ℕ). (if wants_continue h then record { ends = k; item = Continue } ∷ [] else []) ++ body more 0 (d + n) h text) p
    ∙ ap (λ (ps : List Placed). (if wants_continue h then record { ends = d + n; item = Continue } ∷ [] else []) ++ ps)
    (ap (λ (t : Bool). if t then whole 0 (d + n) h text ∷ more (0 + (d + n + b)) (drop (d + n + b) text) else []) test
    ∙ ap (λ (k : ℕ). if nat_le (n + b) (length r) then record { ends = k; item = Whole (record { head = h; body = take b (drop (d + n) text) }) } ∷ more k (drop (d + n + b) text) else []) q
    ∙ ap (λ (l : List ℕ). if nat_le (n + b) (length r) then record { ends = d + (n + b); item = Whole (record { head = h; body = l }) } ∷ more (d + (n + b)) (drop (d + n + b) text) else []) inner
    ∙ ap (λ (l : List ℕ). if nat_le (n + b) (length r) then record { ends = d + (n + b); item = Whole (request_at n h r) } ∷ more (d + (n + b)) l else []) behind)

-- the items of a text are what is heard of it
pub items_are : (text : List ℕ) → items text ≡ heard_of (items_from (length text)) 0 text (opening text)
unfolding items
items_are text = fuel (length text) (suc (length text)) 0 text (omega arith) (omega arith)

-- line ends before a head say nothing
pub breaks : (text : List ℕ) → items text ≡ later (length (front is_break text)) (items (rest is_break text))
unfolding items
breaks text =
    let d = length (front is_break text) in
    let r = rest is_break text in
    let f = rest_rest text in
    let zero_d : d + 0 ≡ d = omega arith in
    items_are text ∙ ap (heard_of (items_from (length text)) 0 text) (opening_moved text) ∙ heard_moved (items_from (length text)) d text r (opening r) f.2 f.3
    ∙ fuel (suc (length text)) (length r) d r (omega (arith, f.3)) (omega arith) ∙ ap (λ (k : ℕ). items_from (length r) k r) (sym zero_d) ∙ items_later (length r) d 0 r

none_last : (p : Placed) → None ≡ Some p → ⊥
none_last p e = cc

some_last : (p q : Placed) → Some p ≡ Some q → p ≡ q
some_last p q e = cc

not_whole : (i : Item) (r : Request) → (i ≡ Continue) ⊎ ((f : Fixed) × (i ≡ Bad f)) → i ≡ Whole r → ⊥
not_whole i r (inl e) w = cc
not_whole i r (inr (f, e)) w = cc

-- the last of what is heard of a request and of those behind it
last_heard : (s : Bool) (c p : Placed) (ps : List Placed) → last_of ((if s then c ∷ [] else []) ++ p ∷ ps) ≡ Some (last_or p ps)
last_heard true c p ps = refl
last_heard false c p ps = refl

-- what is heard of a request that ends a text, and of the text behind it
abbrev Anew : ℕ → ℕ → ℕ → List ℕ → List ℕ → Type 0
Anew n m at xs ys = (r : Request) → last_of (items_from n at xs) ≡ Some (record { ends = at + length xs; item = Whole r }) → items_from m at (xs ++ ys) ≡ items_from n at xs ++ items_from m (at + length xs) ys

anew_by : (n m at : ℕ) (xs ys : List ℕ) (o : Opening) (r : Request) → length xs ≤ suc n → length (xs ++ ys) ≤ suc m → Settled (length xs) o
    → ((a : ℕ) (t : List ℕ) → length t < length xs → Anew n m a t ys)
    → last_of (heard_of (items_from n) at xs o) ≡ Some (record { ends = at + length xs; item = Whole r })
    → heard_of (items_from m) at (xs ++ ys) o ≡ heard_of (items_from n) at xs o ++ items_from (suc m) (at + length xs) ys
anew_by n m at xs ys Unended r le le' settled again last = absurd (none_last _ last)
anew_by n m at xs ys (Refused k f) r le le' settled again last =
    let p : Placed = record { ends = at + k; item = Bad f } in
    let q : Placed = record { ends = at + length xs; item = Whole r } in
    absurd (not_whole (Bad f) r (inr (f, refl)) (ap (λ (z : Placed). z.item) (some_last p q last)))
anew_by n m at xs ys (Headed k h) r le le' settled again last = by (nat_le b (length xs)) refl last
  where
    b : ℕ
    b = k + body_len h

    c : Placed
    c = record { ends = at + k; item = Continue }

    q : Placed
    q = record { ends = at + length xs; item = Whole r }

    short : (s : Bool) → last_of ((if s then c ∷ [] else []) ++ []) ≡ Some q → ⊥
    short true e = not_whole Continue r (inl refl) (ap (λ (z : Placed). z.item) (some_last c q e))
    short false e = none_last q e

    sizes : length (xs ++ ys) ≡ length xs + length ys
    sizes = length-append xs ys

    same_request : b ≤ length xs → whole at k h (xs ++ ys) ≡ whole at k h xs
    same_request fits = ap (λ (l : List ℕ). let z : Placed = record { ends = at + b; item = Whole (record { head = h; body = l }) } in z)
        (ap (take (body_len h)) (drop-append-le k xs ys settled.1) ∙ take-append-le (body_len h) (drop k xs) ys (omega (arith, length-drop k xs, fits)))

    longer : b ≤ length xs → body (items_from m) at k h (xs ++ ys) ≡ whole at k h xs ∷ items_from m (at + b) (drop b xs ++ ys)
    longer fits = ap (λ (t : Bool). if t then whole at k h (xs ++ ys) ∷ items_from m (at + b) (drop b (xs ++ ys)) else []) (le_true b (length (xs ++ ys)) (omega (arith, fits, sizes)))
        ∙ ap (λ (z : Placed). z ∷ items_from m (at + b) (drop b (xs ++ ys))) (same_request fits) ∙ ap (λ (l : List ℕ). whole at k h xs ∷ items_from m (at + b) l) (drop-append-le b xs ys fits)

    -- with the items behind the request
    inner : (ps : List Placed) → b ≤ length xs → items_from n (at + b) (drop b xs) ≡ ps → Some (last_or (whole at k h xs) ps) ≡ Some q
        → items_from m (at + b) (drop b xs ++ ys) ≡ ps ++ items_from (suc m) (at + length xs) ys
    inner [] fits e l =
        let place : at + b ≡ at + length xs = ap (λ (z : Placed). z.ends) (some_last (whole at k h xs) q l) in
        let gone : drop b xs ≡ [] = drop_all b xs (omega (arith, place)) in
        ap (λ (l : List ℕ). items_from m (at + b) (l ++ ys)) gone ∙ ap (λ (z : ℕ). items_from m z ys) place ∙ fuel m (suc m) (at + length xs) ys (omega (arith, settled, sizes, le')) (omega (arith, settled, sizes, le'))
    inner (p ∷ ps) fits e l =
        let t = drop b xs in
        let place : at + b + length t ≡ at + length xs = omega (arith, length-drop b xs, fits) in
        let pos : 0 < b = omega (arith, settled) in
        let lt : length t < length xs = omega (arith, length-drop b xs, fits, pos) in
        let ending : last_of (items_from n (at + b) t) ≡ Some (record { ends = at + b + length t; item = Whole r }) =
        ap last_of e ∙ l ∙ ap (λ (z : ℕ). let w : Placed = record { ends = z; item = Whole r } in Some w) (sym place) in
        again (at + b) t lt r ending ∙ ap (λ (l : List Placed). l ++ items_from m (at + b + length t) ys) e
        ∙ ap (λ (z : ℕ). (p ∷ ps) ++ items_from m z ys) place ∙ ap (λ (l : List Placed). (p ∷ ps) ++ l) (fuel m (suc m) (at + length xs) ys (omega (arith, settled, sizes, le')) (omega (arith, settled, sizes, le')))

    by : (t : Bool) → nat_le b (length xs) ≡ t → last_of ((if wants_continue h then c ∷ [] else []) ++ (if t then whole at k h xs ∷ items_from n (at + b) (drop b xs) else [])) ≡ Some q
        → (if wants_continue h then c ∷ [] else []) ++ body (items_from m) at k h (xs ++ ys)
        ≡ ((if wants_continue h then c ∷ [] else []) ++ (if t then whole at k h xs ∷ items_from n (at + b) (drop b xs) else [])) ++ items_from (suc m) (at + length xs) ys
    by true t l =
        let fits : b ≤ length xs = le_of b (length xs) t in
        ap (λ (ps : List Placed). (if wants_continue h then c ∷ [] else []) ++ ps)
        (longer fits ∙ ap (λ (ps : List Placed). whole at k h xs ∷ ps) (inner (items_from n (at + b) (drop b xs)) fits refl (sym (last_heard (wants_continue h) c (whole at k h xs) (items_from n (at + b) (drop b xs))) ∙ l)))
        ∙ sym (append_assoc (if wants_continue h then c ∷ [] else []) (whole at k h xs ∷ items_from n (at + b) (drop b xs)) (items_from (suc m) (at + length xs) ys))
    by false t l = absurd (short (wants_continue h) l)

anew_of : (n m at : ℕ) (xs ys : List ℕ) → length xs ≤ n → length (xs ++ ys) ≤ m → Anew n m at xs ys
anew_of zero m at xs ys le le' r last = absurd (none_last _ last)
anew_of (suc n) zero at [] ys le le' r last = absurd (none_last _ (sym (ap (λ (o : Opening). last_of (heard_of (items_from n) at [] o)) opening_none) ∙ last))
anew_of (suc n) zero at (x ∷ xs) ys le le' r last = absurd (omega arith)
anew_of (suc n) (suc m) at xs ys le le' r last = by (goes xs ys) (λ a t lt. anew_of n m a t ys (omega arith) (omega (arith, length-append t ys, length-append xs ys)))
  where
    by : Goes xs ys → ((a : ℕ) (t : List ℕ) → length t < length xs → Anew n m a t ys) → items_from (suc m) at (xs ++ ys) ≡ items_from (suc n) at xs ++ items_from (suc m) (at + length xs) ys
    by (Comes e b) again = absurd (none_last _ (sym (ap (λ (o : Opening). last_of (heard_of (items_from n) at xs o)) e) ∙ last))
    by (Stays settled e) again = ap (heard_of (items_from m) at (xs ++ ys)) e ∙ anew_by n m at xs ys (opening xs) r le le' settled again last

pub anew : StreamsStartAnew
unfolding items
anew xs ys r last =
    let n = length xs in
    let m = length (xs ++ ys) in
    let zero_n : 0 + n ≡ n = omega arith in
    let n_zero : n + 0 ≡ n = omega arith in
    let premise : last_of (items_from n 0 xs) ≡ Some (record { ends = 0 + n; item = Whole r }) = rw zero_n last in
    anew_of n m 0 xs ys (omega arith) (omega arith) r premise
    ∙ ap (λ (ps : List Placed). items_from n 0 xs ++ ps) (ap (λ (k : ℕ). items_from m k ys) (zero_n ∙ sym n_zero) ∙ items_later m n 0 ys
    ∙ ap (later n) (fuel m (length ys) 0 ys (omega (arith, length-append xs ys)) (omega arith)))
