-- What a text says that is one request, or the front of one.
use Rattle.std.proofs.Common.{◌≡◌, ◌≢◌, inl, inr, ℕ, ◌+◌, ◌-◌, ◌<◌, ◌≤◌, ◌&&◌, Bool, true, false, not, ◌==◌, codes, List, [], ◌∷◌, ◌++◌, length, take, drop, nat_lt, refl, sym, ◌∙◌, ap, arith, append_assoc, length-append, Option, Some, None, Ok, Err, if◌then◌else◌, bytes_eq}
use Rattle.std.proofs.lemmas.Bool.Decides.{nat_tests}
use Rattle.std.proofs.lemmas.List.{append-nil, take_all, drop_all, drop_at, take-take, drop-take, take-append-drop}
use Rattle.httparse.specs.Grammar.{RequestHead, print_request}
use Rattle.cube_model.specs.declared.reply.Fixed.{Fixed}
use Rattle.cube_model.specs.declared.reply.Fixed.TheVariants.{HeadTooLarge, BadHead, LengthRequired, TooLarge}
use Rattle.cube_http.specs.declared.head.HeadFacts.{HeadFacts}
use Rattle.cube_http.specs.Head.{at_end, front, rest, guess, is_valid, head_of}
use Rattle.cube_http.specs.Checks.{named, fields_of, stated_len, is_hostless, is_bad_length, is_only, check, body_len, wants_continue}
use Rattle.cube_http.specs.Facts.{Judges}
use Rattle.cube_http.specs.Stream.{Placed, Item, is_break, ends_head, head_len, most_head, parsed, measured, opening, items_from, heard_of, items}
use Rattle.cube_http.specs.Stream.Item.{Continue, Whole, Bad}
use Rattle.cube_http.specs.Stream.Opening.{Unended, Refused, Headed}
use Rattle.cube_http.specs.Buffers.{GoesOn, Stops, IsRead, KeepsBody}
use Rattle.cube_http.specs.declared.connection.Conn.{Conn}
use Rattle.cube_http.specs.declared.connection.Conn.TheVariants as state
use Rattle.cube_http.specs.declared.connection.Heard.{Heard}
use Rattle.cube_http.specs.declared.connection.Heard.TheVariants as heard
use Rattle.cube_http.specs.declared.connection.Kept.{Kept}
use Rattle.cube_http.specs.Hearing.{Adds, Hears}
use Rattle.cube_http.specs.Laws.{later}
use Rattle.cube_http.specs.Methods.{kind_of, is_post}
use Rattle.cube_http.proofs.Openings.{le_true, le_false, Goes, goes}
use Rattle.cube_http.proofs.Openings.Goes.{Stays, Comes}
use Rattle.cube_http.proofs.GoesOn.{whole, body_is, body_is_not}
use Rattle.cube_http.proofs.Anew.{lies, fuel, items_are, rest_rest, breaks}
use Rattle.cube_http.proofs.Heads.{rest_of, rest_more}

-- the opening of a text that begins with no line end
opening_begun : (text : List ℕ) → at_end text ≡ false → opening text ≡ measured 0 text (head_len text)
unfolding opening
opening_begun text begins =
    let r = rest_of text begins in
    let f : front is_break text ≡ [] = sym (ap (front is_break) r) ∙ (rest_rest text).1 in
    ap (λ (l : List ℕ). measured (length l) (rest is_break text) (head_len (rest is_break text))) f ∙ ap (λ (l : List ℕ). measured 0 l (head_len l)) r

-- a head that goes on says nothing yet
pub says_nothing : (head : List ℕ) → GoesOn head → items head ≡ []
says_nothing head on =
    let open_head : opening head ≡ Unended = opening_begun head on.begins ∙ ap (measured 0 head) on.unended ∙ ap (λ (t : Bool). if t then Refused (0 + most_head) HeadTooLarge else Unended) (le_false most_head (length head) on.short) in
    items_are head ∙ ap (heard_of (items_from (length head)) 0 head) open_head

refused_says : (text : List ℕ) (fixed : Fixed) → opening text ≡ Refused (length text) fixed → Adds [] text (Bad fixed)
refused_says text fixed e =
    let zero_n : 0 + length text ≡ length text = omega arith in
    items_are text ∙ ap (heard_of (items_from (length text)) 0 text) e ∙ ap (λ (n : ℕ). let p : Placed = record { ends = n; item = Bad fixed } in p ∷ []) zero_n

-- a head that is full and has no end is refused
pub full_says : (head : List ℕ) → Stops head → ends_head head ≡ false → Adds [] head (Bad HeadTooLarge)
full_says head stops unended = refused_says head HeadTooLarge (opening_begun head stops.begins ∙ ap (measured 0 head) none ∙ ap (λ (t : Bool). if t then Refused (0 + most_head) HeadTooLarge else Unended) (le_true most_head (length head) (omega (arith, size))) ∙ ap (λ (n : ℕ). Refused n HeadTooLarge) (omega (arith, size)))
  where
    none : head_len head ≡ None
    none = stops.ended ∙ ap (λ (t : Bool). if t then Some (length head) else None) unended

    size : length head ≡ most_head
    size = elim stops.full [ inl e ↦ absurd (let clash : true ≡ false = sym e ∙ unended in cc) | inr e ↦ e ]

-- the opening of a head that has ended
ended_opens : (head : List ℕ) → Stops head → ends_head head ≡ true → opening head ≡ parsed (length head) (head_of head)
ended_opens head stops ended =
    let found : head_len head ≡ Some (length head) = stops.ended ∙ ap (λ (t : Bool). if t then Some (length head) else None) ended in
    let zero_n : 0 + length head ≡ length head = omega arith in
    opening_begun head stops.begins ∙ ap (measured 0 head) found
    ∙ ap (λ (t : Bool). if t then parsed (0 + length head) (head_of (take (length head) head)) else Refused (0 + most_head) HeadTooLarge) (le_true (length head) most_head stops.short)
    ∙ ap (λ (n : ℕ). parsed n (head_of (take (length head) head))) zero_n ∙ ap (λ (l : List ℕ). parsed (length head) (head_of l)) (take_all (length head) head (omega arith))

-- what is judged bad is refused
pub judged_bad : (head : List ℕ) (fixed : Fixed) → Stops head → ends_head head ≡ true → Judges head (head_of head) (Err fixed) → Adds [] head (Bad fixed)
judged_bad head fixed stops ended judged = refused_says head fixed (ended_opens head stops ended ∙ by (head_of head) judged)
  where
    by : (o : Option RequestHead) → Judges head o (Err fixed) → parsed (length head) o ≡ Refused (length head) fixed
    by None e = ap (Refused (length head)) (sym e)
    by (Some h) e = rw e refl

some_head : (h k : RequestHead) → Some h ≡ Some k → h ≡ k
some_head h k e = cc

none_head : (h : RequestHead) → None ≡ Some h → ⊥
none_head h e = cc

-- the head that bytes are is the one that they are guessed to be
guessed : (text : List ℕ) (h : RequestHead) → head_of text ≡ Some h → guess text ≡ h
unfolding head_of
guessed text h e = by (is_valid (guess text) && bytes_eq (print_request (guess text)) text) e
  where
    by : (t : Bool) → (if t then Some (guess text) else None) ≡ Some h → guess text ≡ h
    by true f = some_head (guess text) h f
    by false f = absurd (none_head h f)

small_by : (a b c d e : Bool) (f g h i j : Fixed) → (if a then Some f else if b then Some g else if c then Some h else if d then Some i else if e then Some j else None) ≡ None → d ≡ false
small_by true b c d e f g h i j k = cc
small_by false true c d e f g h i j k = cc
small_by false false true d e f g h i j k = cc
small_by false false false true e f g h i j k = cc
small_by false false false false e f g h i j k = refl

-- a head that passes all checks states no large body
pub small_body : (h : RequestHead) → check h ≡ None → body_len h ≤ 65536
unfolding check body_len
small_body h e =
    let fields = fields_of h in
    let d : nat_lt 65536 (stated_len fields) ≡ false =
    small_by (is_hostless h.minor (named (codes "host") fields)) (not (length (named (codes "transfer-encoding") fields) == 0)) (is_bad_length (named (codes "content-length") fields)) (nat_lt 65536 (stated_len fields))
    (is_post (kind_of h.method) && length (named (codes "content-length") fields) == 0) BadHead LengthRequired BadHead TooLarge LengthRequired e in
    grind (arith, nat_tests)

-- what is judged good is read
pub judged_good : (head : List ℕ) (facts : HeadFacts) → Stops head → ends_head head ≡ true → Judges head (head_of head) (Ok facts) → IsRead head facts
judged_good head facts stops ended judged = by (head_of head) refl judged
  where
    by : (o : Option RequestHead) → head_of head ≡ o → Judges head o (Ok facts) → IsRead head facts
    by None e j = absurd j
    by (Some h) e j =
        let is : guess head ≡ h = guessed head h e in
        record { begins = stops.begins; opens = ended_opens head stops ended ∙ ap (parsed (length head)) e ∙ rw (j.0, is) refl; tells = rw is j.1; small = rw j.1.size (small_body h j.0) }

headed_stays : (xs ys : List ℕ) (n : ℕ) (h : RequestHead) → opening xs ≡ Headed n h → opening (xs ++ ys) ≡ Headed n h
headed_stays xs ys n h e = by (goes xs ys)
  where
    by : Goes xs ys → opening (xs ++ ys) ≡ Headed n h
    by (Stays s same) = same ∙ e
    by (Comes none b) = absurd (let clash : Unended ≡ Headed n h = sym none ∙ e in cc)

-- leave to send the body is asked for at the end of the head
abbrev pub leave : ℕ → RequestHead → List Placed
leave n h = if wants_continue h then record { ends = n; item = Continue } ∷ [] else []

-- a request whose body goes on
pub unfinished_says : (head more : List ℕ) (facts : HeadFacts) → IsRead head facts → length more < facts.length → items (head ++ more) ≡ leave (length head) (guess head)
unfinished_says head more facts read lt =
    let h = guess head in
    let n = length head in
    let text = head ++ more in
    let zero_n : 0 + n ≡ n = omega arith in
    items_are text ∙ ap (heard_of (items_from (length text)) 0 text) (headed_stays head more n h read.opens)
    ∙ ap (λ (ps : List Placed). (if wants_continue h then record { ends = 0 + n; item = Continue } ∷ [] else []) ++ ps) (body_is_not (items_from (length text)) 0 n h text (omega (arith, length-append head more, lt, read.tells.size)))
    ∙ append-nil (if wants_continue h then record { ends = 0 + n; item = Continue } ∷ [] else []) ∙ ap (λ (k : ℕ). leave k h) zero_n

items_nothing : (n at : ℕ) → items_from n at [] ≡ []
items_nothing n at = fuel n 0 at [] (omega arith) (omega arith)

-- a request whose body is whole
pub whole_says : (head more : List ℕ) (facts : HeadFacts) → IsRead head facts → length more ≡ facts.length
    → items (head ++ more) ≡ leave (length head) (guess head) ++ record { ends = length (head ++ more); item = Whole (record { head = guess head; body = more }) } ∷ []
whole_says head more facts read size =
    let h = guess head in
    let n = length head in
    let b = body_len h in
    let text = head ++ more in
    let zero_n : 0 + n ≡ n = omega arith in
    let all : n + b ≡ length text = omega (arith, length-append head more, size, read.tells.size) in
    let place : 0 + (n + b) ≡ length text = omega (arith, all) in
    let inner : take b (drop n text) ≡ more = ap (take b) (drop_at head more n refl) ∙ take_all b more (omega (arith, size, read.tells.size)) in
    let gone : items_from (length text) (0 + (n + b)) (drop (n + b) text) ≡ [] = ap (items_from (length text) (0 + (n + b))) (drop_all (n + b) text (omega (arith, all))) ∙ items_nothing (length text) (0 + (n + b)) in
    items_are text ∙ ap (heard_of (items_from (length text)) 0 text) (headed_stays head more n h read.opens)
    ∙ ap (λ (ps : List Placed). (if wants_continue h then record { ends = 0 + n; item = Continue } ∷ [] else []) ++ ps)
    (body_is (items_from (length text)) 0 n h text (omega (arith, all)) ∙ ap (λ (ps : List Placed). whole 0 n h text ∷ ps) gone
    ∙ ap (λ (l : List ℕ). let p : Placed = record { ends = 0 + (n + b); item = Whole (record { head = h; body = l }) } in p ∷ []) inner
    ∙ ap (λ (k : ℕ). let p : Placed = record { ends = k; item = Whole (record { head = h; body = more }) } in p ∷ []) place)
    ∙ ap (λ (k : ℕ). leave k h ++ record { ends = length text; item = Whole (record { head = h; body = more }) } ∷ []) zero_n

-- nobody waits for leave to send nothing
pub nothing_waits : (h : RequestHead) → body_len h ≡ 0 → wants_continue h ≡ false
unfolding wants_continue body_len
nothing_waits h e = by (h.minor == 1)
  where
    by : (t : Bool) → (t && nat_lt 0 (stated_len (fields_of h)) && is_only (codes "100-continue") (named (codes "expect") (fields_of h))) ≡ false
    by true = rw e refl
    by false = refl

-- a request without a body is whole where its head ends
pub bodiless : (head more : List ℕ) (facts : HeadFacts) → IsRead head facts → facts.length ≡ 0 → more ≡ [] → Adds [] head (Whole (record { head = guess head; body = more }))
bodiless head more facts read size none =
    let says = whole_says head [] facts read (sym size) in
    let quiet : leave (length head) (guess head) ≡ [] = ap (λ (t : Bool). if t then record { ends = length head; item = Continue } ∷ [] else []) (nothing_waits (guess head) (sym read.tells.size ∙ size)) in
    rw none (rw (append-nil, quiet) at says)

-- where a body comes, leave is asked for or nothing is said
pub begun : (head : List ℕ) (facts : HeadFacts) → IsRead head facts → 0 < facts.length → items head ≡ leave (length head) (guess head)
begun head facts read pos = rw append-nil at (unfinished_says head [] facts read pos)

pub asks_leave : (head : List ℕ) (facts : HeadFacts) → IsRead head facts → 0 < facts.length → facts.waits ≡ true → Adds [] head Continue
asks_leave head facts read pos waits = begun head facts read pos ∙ ap (λ (t : Bool). if t then record { ends = length head; item = Continue } ∷ [] else []) (sym read.tells.waits ∙ waits)

pub asks_nothing : (head : List ℕ) (facts : HeadFacts) → IsRead head facts → 0 < facts.length → facts.waits ≡ false → items head ≡ []
asks_nothing head facts read pos waits = begun head facts read pos ∙ ap (λ (t : Bool). if t then record { ends = length head; item = Continue } ∷ [] else []) (sym read.tells.waits ∙ waits)

-- a head that stops has bytes
pub stops_some : (head : List ℕ) → Stops head → 0 < length head
stops_some [] stops = absurd (elim stops.full [ inl e ↦ let clash : false ≡ true = e in cc | inr e ↦ omega (arith, e) ])
stops_some (x ∷ xs) stops = omega arith

-- what is left behind the line ends, with more behind it
pub rest_on : (head more : List ℕ) → at_end head ≡ false → 0 < length head → rest is_break (head ++ more) ≡ head ++ more
rest_on [] more e some = absurd (omega arith)
rest_on (x ∷ xs) more e some = rw e refl

-- what is heard of a text is what is heard of it without the line ends before it
pub heard_behind : (text : List ℕ) (said : Heard) (conn : Conn) → Hears [] (rest is_break text) said conn → Hears [] text said conn
heard_behind text said conn h = by said conn h
  where
    d : ℕ
    d = length (front is_break text)

    f : (rest is_break (rest is_break text) ≡ rest is_break text) × (front is_break (rest is_break text) ≡ []) × (drop (length (front is_break text)) text ≡ rest is_break text) × (length text ≡ length (front is_break text) + length (rest is_break text))
    f = rest_rest text

    nothing : items (rest is_break text) ≡ [] → items text ≡ []
    nothing e = breaks text ∙ ap (later d) e

    adds : (i : Item) → Adds [] (rest is_break text) i → Adds [] text i
    adds i e = breaks text ∙ ap (later d) e ∙ ap (λ (n : ℕ). let p : Placed = record { ends = n; item = i } in p ∷ []) (sym f.3)

    by : (said : Heard) (conn : Conn) → Hears [] (rest is_break text) said conn → Hears [] text said conn
    by heard.More (state.Head kept) h = (nothing h.0, h.1 ∙ f.0)
    by heard.More (state.Body kept) h = (nothing h.0, h.1 ∙ f.0)
    by heard.More (state.Done r) h = h
    by heard.More (state.Dead u) h = h
    by heard.Continue (state.Head kept) h = h
    by heard.Continue (state.Body kept) h = (adds Continue h.0, h.1 ∙ f.0)
    by heard.Continue (state.Done r) h = h
    by heard.Continue (state.Dead u) h = h
    by heard.Whole (state.Head kept) h = h
    by heard.Whole (state.Body kept) h = h
    by heard.Whole (state.Done r) h = adds (Whole r) h
    by heard.Whole (state.Dead u) h = h
    by (heard.Bad fixed) (state.Head kept) h = h
    by (heard.Bad fixed) (state.Body kept) h = h
    by (heard.Bad fixed) (state.Done r) h = h
    by (heard.Bad fixed) (state.Dead u) h = adds (Bad fixed) h

read_some : (head : List ℕ) (facts : HeadFacts) → IsRead head facts → 0 < length head
read_some head facts read = (rw read.opens at (lies head)).0

-- a body that becomes whole
pub body_whole : (head old part new : List ℕ) (facts : HeadFacts) → IsRead head facts → length old < facts.length → new ≡ old ++ part → length new ≡ facts.length
    → Adds (items (head ++ old)) ((head ++ old) ++ part) (Whole (record { head = guess head; body = new }))
body_whole head old part new facts read lt is size =
    let text : (head ++ old) ++ part ≡ head ++ new = append_assoc head old part ∙ ap (λ (l : List ℕ). head ++ l) (sym is) in
    rw (text, unfinished_says head old facts read lt) (whole_says head new facts read size)

-- a body that goes on
pub body_more : (head old part new : List ℕ) (facts : HeadFacts) → IsRead head facts → length old < facts.length → new ≡ old ++ part → length part ≤ facts.length - length old → length new ≢ facts.length
    → (items ((head ++ old) ++ part) ≡ items (head ++ old)) × (head ++ new ≡ rest is_break ((head ++ old) ++ part))
body_more head old part new facts read lt is few unfinished =
    let lt' : length new < facts.length = omega (arith, ap length is, length-append old part, few, unfinished) in
    let text : (head ++ old) ++ part ≡ head ++ new = append_assoc head old part ∙ ap (λ (l : List ℕ). head ++ l) (sym is) in (
      ap items text ∙ unfinished_says head new facts read lt' ∙ sym (unfinished_says head old facts read lt),
      sym (ap (rest is_break) text ∙ rest_on head new read.begins (read_some head facts read)),
    )

-- a head that goes on
pub head_more : (old piece new : List ℕ) → new ≡ rest is_break (old ++ piece) → GoesOn new → (items (old ++ piece) ≡ []) × (new ≡ rest is_break (old ++ piece))
head_more old piece new is on = heard_behind (old ++ piece) heard.More (state.Head new) (rw (← is) (says_nothing new on, sym (rest_of new on.begins)))

take_split : (n m : ℕ) (xs : List ℕ) → n ≤ m → take m xs ≡ take n xs ++ take (m - n) (drop n xs)
take_split n m xs le =
    let e : n + (m - n) ≡ m = omega arith in
    let f : take m xs ≡ take n (take m xs) ++ drop n (take m xs) = sym (take-append-drop n (take m xs)) in
    f ∙ ap (λ (l : List ℕ). l ++ drop n (take m xs)) (take-take n m xs le) ∙ ap (λ (k : ℕ). take n xs ++ drop n (take k xs)) (sym e) ∙ ap (λ (l : List ℕ). take n xs ++ l) (drop-take n (m - n) xs)

-- a head that stops in a piece, and what is heard behind it
pub head_stops : (old piece new : List ℕ) (n m : ℕ) (said : Heard) (conn : Conn) → new ≡ rest is_break (old ++ take n piece) → Stops new → n ≤ m → Hears [] (new ++ take (m - n) (drop n piece)) said conn → Hears [] (old ++ take m piece) said conn
head_stops old piece new n m said conn is stops le h =
    let more = take (m - n) (drop n piece) in
    let text : old ++ take m piece ≡ (old ++ take n piece) ++ more = ap (λ (l : List ℕ). old ++ l) (take_split n m piece le) ∙ sym (append_assoc old (take n piece) more) in
    let left : rest is_break (old ++ take m piece) ≡ new ++ more =
    ap (rest is_break) text ∙ sym (rest_more (old ++ take n piece) more) ∙ ap (λ (l : List ℕ). rest is_break (l ++ more)) (sym is) ∙ rest_on new more stops.begins (stops_some new stops) in
    heard_behind (old ++ take m piece) said conn (rw left h)

-- a body that becomes whole, in what is kept
pub whole_kept : (old new : Kept) (part : List ℕ) → KeepsBody old → (new.head ≡ old.head) × (new.facts ≡ old.facts) → new.body.items ≡ old.body.items ++ part → length new.body.items ≡ new.facts.length
    → Adds (items (old.head.items ++ old.body.items)) ((old.head.items ++ old.body.items) ++ part) (Whole (record { head = guess new.head.items; body = new.body.items }))
whole_kept old new part keeps same body size =
    rw same.0 (body_whole old.head.items old.body.items part new.body.items old.facts keeps.read keeps.unfinished body (size ∙ ap (λ (f : HeadFacts). f.length) same.1))

-- a body that goes on, in what is kept
pub more_kept : (old new : Kept) (part : List ℕ) → KeepsBody old → (new.head ≡ old.head) × (new.facts ≡ old.facts) → new.body.items ≡ old.body.items ++ part → length part ≤ old.facts.length - length old.body.items
    → length new.body.items ≢ new.facts.length
    → (items ((old.head.items ++ old.body.items) ++ part) ≡ items (old.head.items ++ old.body.items)) × (new.head.items ++ new.body.items ≡ rest is_break ((old.head.items ++ old.body.items) ++ part))
more_kept old new part keeps same body few unfinished =
    rw same.0 (body_more old.head.items old.body.items part new.body.items old.facts keeps.read keeps.unfinished body few (λ e. unfinished (e ∙ ap (λ (f : HeadFacts). f.length) (sym same.1))))
