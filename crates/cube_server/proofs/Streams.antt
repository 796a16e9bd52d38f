-- The items of a stream that is heard piece by piece.
use Rattle.std.proofs.Common.{◌≡◌, ℕ, zero, suc, ◌+◌, ◌<◌, ◌≤◌, Bool, true, false, List, [], ◌∷◌, ◌++◌, length, map, filter, drop, nat_le, nat_lt, refl, sym, ◌∙◌, ap, subst, arith, append_assoc, Some, length-append, if◌then◌else◌}
use Rattle.std.specs.List.{AllByRecursion}
use Rattle.std.proofs.lemmas.List.{append-nil, map-append, append_cancel_left}
use Rattle.std.proofs.lemmas.Bool.Decides.{nat_tests}
use Rattle.httparse.specs.Grammar.{RequestHead}
use Rattle.cube_http.specs.Checks.{body_len, wants_continue}
use Rattle.cube_http.specs.Head.{front, rest}
use Rattle.cube_http.specs.Hearing.{Hears}
use Rattle.cube_http.specs.Laws.{later, last_of}
use Rattle.cube_http.specs.Stream.{Placed, Item, Opening, Request, is_break, opening, heard_of, items_from, items}
use Rattle.cube_http.specs.Stream.Item.{Continue, Whole}
use Rattle.cube_http.specs.Stream.Opening.{Unended, Refused, Headed}
use Rattle.cube_http.specs.declared.connection.Conn.{Conn}
use Rattle.cube_http.specs.declared.connection.Conn.TheVariants as conn
use Rattle.cube_http.specs.declared.connection.Heard.{Heard}
use Rattle.cube_http.specs.declared.connection.Heard.TheVariants as heard
use Rattle.cube_http.proofs.Anew.{anew}
use Rattle.cube_http.proofs.GoesOn.{Finder, items_behind, goes_on, whole}
use Rattle.cube_http.proofs.Heads.{breaks_say_nothing}
use Rattle.cube_http.proofs.Openings.{le_of, lt_of}
use Rattle.cube_server.specs.declared.lines.Ear.{Ear}
use Rattle.cube_server.specs.declared.lines.Ear.TheVariants as ear
use Rattle.cube_server.specs.Ears.{Keeps, Fits, said, said_before, kept_bytes}
use Rattle.cube_server.specs.Logs.{behind}

-- ---- the order of items

-- all items end at a place or behind it
abbrev From : ℕ → List Placed → Type 0
From n ps = AllByRecursion (λ p. n ≤ p.ends) ps

-- no item ends before an earlier one
abbrev Ordered : List Placed → Type 0
Ordered [] = Unit {0}
Ordered (p ∷ ps) = From p.ends ps × Ordered ps

from_above : (n m : ℕ) (ps : List Placed) → n ≤ m → AllByRecursion (λ p. m < p.ends) ps → From n ps
from_above n m [] le h = tt
from_above n m (p ∷ ps) le h = (omega (arith, h.0, le), from_above n m ps le h.1)

-- the body of a request and what follows are in order, and end behind the head
ordered_body : (more : Finder) (at n : ℕ) (h : RequestHead) (text : List ℕ) → ((a : ℕ) (t : List ℕ) → AllByRecursion (λ p. a < p.ends) (more a t)) → ((a : ℕ) (t : List ℕ) → Ordered (more a t)) → (t : Bool)
    → From (at + n) (if t then whole at n h text ∷ more (at + (n + body_len h)) (drop (n + body_len h) text) else []) × Ordered (if t then whole at n h text ∷ more (at + (n + body_len h)) (drop (n + body_len h) text) else [])
ordered_body more at n h text above order true =
    let end = at + (n + body_len h) in
    let rest = drop (n + body_len h) text in (
      (omega arith, from_above (at + n) end (more end rest) (omega arith) (above end rest)),
      (from_above end end (more end rest) (omega arith) (above end rest), order end rest),
    )
ordered_body more at n h text above order false = (tt, tt)

ordered_heard : (more : Finder) (at : ℕ) (text : List ℕ) (o : Opening) → ((a : ℕ) (t : List ℕ) → AllByRecursion (λ p. a < p.ends) (more a t)) → ((a : ℕ) (t : List ℕ) → Ordered (more a t)) → Ordered (heard_of more at text o)
ordered_heard more at text Unended above order = tt
ordered_heard more at text (Refused n f) above order = (tt, tt)
ordered_heard more at text (Headed n h) above order = by (wants_continue h) (ordered_body more at n h text above order (nat_le (n + body_len h) (length text)))
  where
    body : List Placed
    body = if nat_le (n + body_len h) (length text) then whole at n h text ∷ more (at + (n + body_len h)) (drop (n + body_len h) text) else []

    by : (w : Bool) → From (at + n) body × Ordered body → Ordered ((if w then record { ends = at + n; item = Continue } ∷ [] else []) ++ body)
    by true (f, o) = (f, o)
    by false (f, o) = o

ordered_items : (n at : ℕ) (text : List ℕ) → Ordered (items_from n at text)
ordered_items zero at text = tt
ordered_items (suc n) at text = ordered_heard (items_from n) at text (opening text) (λ a t. items_behind n a t) (λ a t. ordered_items n a t)

ordered : (text : List ℕ) → Ordered (items text)
unfolding items
ordered text = ordered_items (length text) 0 text

-- ---- the items behind a place

abbrev upto : ℕ → List Placed → List Placed
upto n ps = filter (λ p. nat_le p.ends n) ps

abbrev beyond : ℕ → List Placed → List Placed
beyond n ps = filter (λ p. nat_lt n p.ends) ps

all_beyond : (n : ℕ) (ps : List Placed) → AllByRecursion (λ p. n < p.ends) ps → (upto n ps ≡ []) × (beyond n ps ≡ ps)
all_beyond n [] h = (refl, refl)
all_beyond n (p ∷ ps) h =
    let a : nat_le p.ends n ≡ false = grind (arith, nat_tests, h.0) in
    let b : nat_lt n p.ends ≡ true = grind (arith, nat_tests, h.0) in
    let (e, f) = all_beyond n ps h.1 in
    (rw a e, rw b (ap (λ (l : List Placed). p ∷ l) f))

from_beyond : (n m : ℕ) (ps : List Placed) → n < m → From m ps → AllByRecursion (λ p. n < p.ends) ps
from_beyond n m [] lt h = tt
from_beyond n m (p ∷ ps) lt h = (omega (arith, h.0, lt), from_beyond n m ps lt h.1)

-- what is in order falls into two at each place
parted : (n : ℕ) (ps : List Placed) → Ordered ps → ps ≡ upto n ps ++ beyond n ps
parted n [] o = refl
parted n (p ∷ ps) o = by (nat_le p.ends n) refl (parted n ps o.1)
  where
    by : (t : Bool) → nat_le p.ends n ≡ t → ps ≡ upto n ps ++ beyond n ps → p ∷ ps ≡ upto n (p ∷ ps) ++ beyond n (p ∷ ps)
    by true t more =
        let le : p.ends ≤ n = le_of p.ends n t in
        let b : nat_lt n p.ends ≡ false = grind (arith, nat_tests) in
        rw (t, b) (ap (λ (l : List Placed). p ∷ l) more)
    by false t more =
        let lt : n < p.ends = lt_of p.ends n t in
        let b : nat_lt n p.ends ≡ true = grind (arith, nat_tests) in
        let (e, f) = all_beyond n ps (from_beyond n p.ends ps lt o.0) in
        sym (rw (t, b, e, f) refl)

-- the items of a longer stream are those of the shorter one and those behind it
pub grows : (xs ys : List ℕ) → items (xs ++ ys) ≡ items xs ++ beyond (length xs) (items (xs ++ ys))
grows xs ys = parted (length xs) (items (xs ++ ys)) (ordered (xs ++ ys)) ∙ ap (λ (l : List Placed). l ++ beyond (length xs) (items (xs ++ ys))) (goes_on xs ys)

-- what lies behind a stream lies in the next piece or behind that
pub behind_piece : (xs ys zs : List ℕ) → behind (length xs) (xs ++ (ys ++ zs)) ≡ behind (length xs) (xs ++ ys) ++ behind (length (xs ++ ys)) (xs ++ (ys ++ zs))
behind_piece xs ys zs =
    let whole = items (xs ++ (ys ++ zs)) in
    let a : whole ≡ items xs ++ beyond (length xs) whole = grows xs (ys ++ zs) in
    let b : whole ≡ items (xs ++ ys) ++ beyond (length (xs ++ ys)) whole = rw (append_assoc xs ys zs) at (grows (xs ++ ys) zs) in
    let d : items (xs ++ ys) ≡ items xs ++ beyond (length xs) (items (xs ++ ys)) = grows xs ys in
    let e : beyond (length xs) whole ≡ beyond (length xs) (items (xs ++ ys)) ++ beyond (length (xs ++ ys)) whole =
    append_cancel_left (items xs) _ _ (sym a ∙ b ∙ ap (λ (l : List Placed). l ++ beyond (length (xs ++ ys)) whole) d ∙ append_assoc (items xs) (beyond (length xs) (items (xs ++ ys))) (beyond (length (xs ++ ys)) whole)) in
    ap (map (λ p. p.item)) e ∙ map-append (λ p. p.item) (beyond (length xs) (items (xs ++ ys))) (beyond (length (xs ++ ys)) whole)

-- nothing lies behind all of a stream
pub behind_all : (xs : List ℕ) → behind (length xs) xs ≡ []
behind_all xs =
    let a : items xs ≡ items xs ++ beyond (length xs) (items xs) = rw append-nil at (grows xs []) in
    ap (map (λ p. p.item)) (append_cancel_left (items xs) (beyond (length xs) (items xs)) [] (sym a ∙ sym (append-nil (items xs))))

-- ---- what is kept

later_more : (a b : ℕ) (ps : List Placed) → later a (later b ps) ≡ later (a + b) ps
later_more a b [] = refl
later_more a b (p ∷ ps) = let e : a + (b + p.ends) ≡ a + b + p.ends = omega arith in
    ap (λ (k : ℕ). let q : Placed = record { ends = k; item = p.item } in q ∷ later a (later b ps)) e ∙ ap (λ (qs : List Placed). let q : Placed = record { ends = a + b + p.ends; item = p.item } in q ∷ qs) (later_more a b ps)

later_none : (ps : List Placed) → later 0 ps ≡ ps
later_none [] = refl
later_none (p ∷ ps) = let e : 0 + p.ends ≡ p.ends = omega arith in ap (λ (k : ℕ). let q : Placed = record { ends = k; item = p.item } in q ∷ later 0 ps) e ∙ ap (λ (qs : List Placed). p ∷ qs) (later_none ps)

-- an item stays the same further on
later_items : (n : ℕ) (ps : List Placed) → map (λ p. p.item) (later n ps) ≡ map (λ p. p.item) ps
later_items n [] = refl
later_items n (p ∷ ps) = ap (λ (l : List Item). p.item ∷ l) (later_items n ps)

-- a new connection keeps a new stream
pub keeps_none : Keeps [] []
keeps_none = record { past = []; far = 0; goes_on = λ more. sym (later_none (items more)) }

-- the items of a stream, by what is kept
keeps_items : (stream bytes : List ℕ) (k : Keeps stream bytes) → items stream ≡ k.past ++ later k.far (items bytes)
keeps_items stream bytes k = rw (append-nil stream, append-nil bytes) at (k.goes_on [])

-- what the kept bytes say with a piece is what the stream says with it
said_of : (stream bytes piece : List ℕ) (news : List Placed) → Keeps stream bytes → items (bytes ++ piece) ≡ items bytes ++ news → behind (length stream) (stream ++ piece) ≡ map (λ p. p.item) news
said_of stream bytes piece news k e =
    let a : items (stream ++ piece) ≡ items stream ++ later k.far news =
    k.goes_on piece ∙ ap (λ (l : List Placed). k.past ++ later k.far l) e
    ∙ ap (λ (l : List Placed). k.past ++ l) (map-append (λ p. let q : Placed = record { ends = k.far + p.ends; item = p.item } in q) (items bytes) news)
    ∙ sym (append_assoc k.past (later k.far (items bytes)) (later k.far news)) ∙ ap (λ (l : List Placed). l ++ later k.far news) (sym (keeps_items stream bytes k)) in
    let b : beyond (length stream) (items (stream ++ piece)) ≡ later k.far news = append_cancel_left (items stream) _ _ (sym (grows stream piece) ∙ a) in
    ap (map (λ p. p.item)) b ∙ later_items k.far news

-- a stream goes on as the bytes without the line ends before them do
goes_rest : (stream bytes piece : List ℕ) → Keeps stream bytes → Keeps (stream ++ piece) (rest is_break (bytes ++ piece))
goes_rest stream bytes piece k = record {
  past = k.past;
  far = k.far + length (front is_break (bytes ++ piece));
  goes_on = λ more.
      ap items (append_assoc stream piece more) ∙ k.goes_on (piece ++ more)
      ∙ ap (λ (l : List ℕ). k.past ++ later k.far (items l)) (sym (append_assoc bytes piece more))
      ∙ ap (λ (l : List Placed). k.past ++ later k.far l) (breaks_say_nothing (bytes ++ piece) more)
      ∙ ap (λ (l : List Placed). k.past ++ l) (later_more k.far (length (front is_break (bytes ++ piece))) (items (rest is_break (bytes ++ piece) ++ more)));
}

-- behind a whole request it goes on as a new one
goes_anew : (stream bytes piece : List ℕ) (q : Request) → Keeps stream bytes → last_of (items (bytes ++ piece)) ≡ Some (record { ends = length (bytes ++ piece); item = Whole q }) → Keeps (stream ++ piece) []
goes_anew stream bytes piece q k last =
    let n = length (bytes ++ piece) in
    record {
      past = k.past ++ later k.far (items (bytes ++ piece));
      far = k.far + n;
      goes_on = λ more.
          ap items (append_assoc stream piece more) ∙ k.goes_on (piece ++ more)
          ∙ ap (λ (l : List ℕ). k.past ++ later k.far (items l)) (sym (append_assoc bytes piece more))
          ∙ ap (λ (l : List Placed). k.past ++ later k.far l) (anew (bytes ++ piece) more q last)
          ∙ ap (λ (l : List Placed). k.past ++ l) (map-append (λ p. let r : Placed = record { ends = k.far + p.ends; item = p.item } in r) (items (bytes ++ piece)) (later n (items more)))
          ∙ sym (append_assoc k.past (later k.far (items (bytes ++ piece))) (later k.far (later n (items more))))
          ∙ ap (λ (l : List Placed). (k.past ++ later k.far (items (bytes ++ piece))) ++ l) (later_more k.far n (items more));
    }

last_or_end : (q : Placed) (ps : List Placed) (p : Placed) → last_of (q ∷ (ps ++ p ∷ [])) ≡ Some p
last_or_end q [] p = refl
last_or_end q (r ∷ ps) p = last_or_end r ps p

last_of_end : (ps : List Placed) (p : Placed) → last_of (ps ++ p ∷ []) ≡ Some p
last_of_end [] p = refl
last_of_end (q ∷ ps) p = last_or_end q ps p

-- items that end at a place
abbrev at_place : ℕ → List Item → List Placed
at_place n xs = map (λ i. let p : Placed = record { ends = n; item = i } in p) xs

at_place_items : (n : ℕ) (xs : List Item) → map (λ p. p.item) (at_place n xs) ≡ xs
at_place_items n [] = refl
at_place_items n (x ∷ xs) = ap (λ (l : List Item). x ∷ l) (at_place_items n xs)

hears_news : (before : List Placed) (text : List ℕ) (h : Heard) (n : Conn) → Hears before text h n → items text ≡ before ++ at_place (length text) (said h n)
hears_news before text heard.More (conn.Head k) e = e.0 ∙ sym (append-nil before)
hears_news before text heard.More (conn.Body k) e = e.0 ∙ sym (append-nil before)
hears_news before text heard.More (conn.Done q) e = absurd e
hears_news before text heard.More (conn.Dead d) e = absurd e
hears_news before text heard.Continue (conn.Head k) e = absurd e
hears_news before text heard.Continue (conn.Body k) e = e.0
hears_news before text heard.Continue (conn.Done q) e = absurd e
hears_news before text heard.Continue (conn.Dead d) e = absurd e
hears_news before text heard.Whole (conn.Head k) e = absurd e
hears_news before text heard.Whole (conn.Body k) e = absurd e
hears_news before text heard.Whole (conn.Done q) e = e
hears_news before text heard.Whole (conn.Dead d) e = absurd e
hears_news before text (heard.Bad f) (conn.Head k) e = absurd e
hears_news before text (heard.Bad f) (conn.Body k) e = absurd e
hears_news before text (heard.Bad f) (conn.Done q) e = absurd e
hears_news before text (heard.Bad f) (conn.Dead d) e = e

pub hears_fits : (before : List Placed) (text : List ℕ) (h : Heard) (n : Conn) → Hears before text h n → Fits h n
hears_fits before text h (conn.Head k) e = tt
hears_fits before text h (conn.Body k) e = tt
hears_fits before text h (conn.Done q) e = tt
hears_fits before text heard.More (conn.Dead d) e = absurd e
hears_fits before text heard.Continue (conn.Dead d) e = absurd e
hears_fits before text heard.Whole (conn.Dead d) e = absurd e
hears_fits before text (heard.Bad f) (conn.Dead d) e = tt

-- what is kept behind what was heard goes on as the stream does
abbrev pub GoesOn : List ℕ → Conn → Type 0
GoesOn stream (conn.Head bytes) = Keeps stream bytes
GoesOn stream (conn.Body bytes) = Keeps stream bytes
GoesOn stream (conn.Done request) = Keeps stream []
GoesOn stream (conn.Dead dead) = Unit {0}

hears_keeps : (before : List Placed) (stream bytes piece : List ℕ) (h : Heard) (n : Conn) → Keeps stream bytes → Hears before (bytes ++ piece) h n → GoesOn (stream ++ piece) n
hears_keeps before stream bytes piece heard.More (conn.Head kept) k e = subst (Keeps (stream ++ piece)) (sym e.1) (goes_rest stream bytes piece k)
hears_keeps before stream bytes piece heard.More (conn.Body kept) k e = subst (Keeps (stream ++ piece)) (sym e.1) (goes_rest stream bytes piece k)
hears_keeps before stream bytes piece heard.More (conn.Done q) k e = absurd e
hears_keeps before stream bytes piece heard.More (conn.Dead d) k e = absurd e
hears_keeps before stream bytes piece heard.Continue (conn.Head kept) k e = absurd e
hears_keeps before stream bytes piece heard.Continue (conn.Body kept) k e = subst (Keeps (stream ++ piece)) (sym e.1) (goes_rest stream bytes piece k)
hears_keeps before stream bytes piece heard.Continue (conn.Done q) k e = absurd e
hears_keeps before stream bytes piece heard.Continue (conn.Dead d) k e = absurd e
hears_keeps before stream bytes piece heard.Whole (conn.Head kept) k e = absurd e
hears_keeps before stream bytes piece heard.Whole (conn.Body kept) k e = absurd e
hears_keeps before stream bytes piece heard.Whole (conn.Done q) k e = goes_anew stream bytes piece q k (ap last_of e ∙ last_of_end before _)
hears_keeps before stream bytes piece heard.Whole (conn.Dead d) k e = absurd e
hears_keeps before stream bytes piece (heard.Bad f) (conn.Head kept) k e = absurd e
hears_keeps before stream bytes piece (heard.Bad f) (conn.Body kept) k e = absurd e
hears_keeps before stream bytes piece (heard.Bad f) (conn.Done q) k e = absurd e
hears_keeps before stream bytes piece (heard.Bad f) (conn.Dead d) k e = tt

-- what is said at a later place was not said before
upto_later : (n m : ℕ) (xs : List Item) → n < m → upto n (at_place m xs) ≡ []
upto_later n m [] lt = refl
upto_later n m (x ∷ xs) lt = let t : nat_le m n ≡ false = grind (arith, nat_tests) in rw t (upto_later n m xs lt)

-- what these bytes had said already is what they say
before_is : (e : Ear) (piece : List ℕ) (h : Heard) (n : Conn) → 0 < length piece → Hears (said_before e) (kept_bytes e ++ piece) h n → said_before e ≡ items (kept_bytes e)
before_is (ear.Head bytes) piece h n some e =
    let long : length bytes < length (bytes ++ piece) = omega (arith, length-append bytes piece, some) in
    sym (sym (goes_on bytes piece) ∙ ap (upto (length bytes)) (hears_news [] (bytes ++ piece) h n e) ∙ upto_later (length bytes) (length (bytes ++ piece)) (said h n) long)
before_is (ear.Body bytes) piece h n some e = refl

-- The items of a stream with one more piece, and what is kept behind it.
pub record OneHeard (stream piece : List ℕ) (h : Heard) (n : Conn) : Type 0 where
  pub says : behind (length stream) (stream ++ piece) ≡ said h n
  pub goes : GoesOn (stream ++ piece) n

pub one_heard : (e : Ear) (stream piece : List ℕ) (h : Heard) (n : Conn) → Keeps stream (kept_bytes e) → 0 < length piece → Hears (said_before e) (kept_bytes e ++ piece) h n → OneHeard stream piece h n
one_heard e stream piece h n k some hears = record {
  says = said_of stream (kept_bytes e) piece (at_place (length (kept_bytes e ++ piece)) (said h n)) k
      (hears_news (said_before e) (kept_bytes e ++ piece) h n hears ∙ ap (λ (l : List Placed). l ++ at_place (length (kept_bytes e ++ piece)) (said h n)) (before_is e piece h n some hears))
      ∙ at_place_items (length (kept_bytes e ++ piece)) (said h n);
  goes = hears_keeps (said_before e) stream (kept_bytes e) piece h n k hears;
}
