-- Connections by their numbers: those that are kept, and those that are open behind a log.
use Rattle.std.proofs.Common.{◌≡◌, ℕ, ◌==◌, ◌||◌, Bool, true, false, List, [], ◌∷◌, ◌++◌, length, refl, sym, ◌∙◌, ap, arith}
use Rattle.std.proofs.lemmas.Bool.Decides.{nat_tests}
use Rattle.cube_io.specs.Wires.{LogEntry, IsSound, sound_after, arrival_of}
use Rattle.cube_io.specs.Wires.Arrival.{Opened, Closed}
use Rattle.cube_io.specs.Wires.LogEntry.{Heard}
use Rattle.cube_io.specs.declared.wire.Event.{Event}
use Rattle.cube_io.specs.declared.wire.Event.TheVariants as event
use Rattle.cube_server.specs.declared.lines.Ear.{Ear}
use Rattle.cube_server.specs.declared.lines.Line.{Line}
use Rattle.cube_server.specs.Ears.{Keeps, kept_bytes, AreKept, AreOpen, AreOpenBut, AreOpenAt, has}
use Rattle.cube_server.specs.Logs.{is_open, came_on, without}
use Rattle.cube_server.proofs.Spoken.{sound_more}

abbrev pub line : ℕ → Ear → Line
line c ear = record { number = c; ear = ear }

either_way : (a b : ℕ) → (a == b) ≡ (b == a)
either_way a b = grind (arith, nat_tests)

itself : (c : ℕ) → (c == c) ≡ true
itself c = grind (arith, nat_tests)

equal_of : (a b : ℕ) → (a == b) ≡ true → a ≡ b
equal_of a b e = grind (arith, nat_tests)

-- the parts of a test that is false of each
or_false : (a b : Bool) → (a || b) ≡ false → (a ≡ false) × (b ≡ false)
or_false true b e = cc
or_false false b e = (refl, e)

-- ---- what is kept

pub taken_kept : (c : ℕ) (ear : Ear) (front after : List Line) (conns : List (ℕ × List ℕ)) → has c front ≡ false → AreKept (front ++ line c ear ∷ after) conns
    → (is_open c conns ≡ true) × Keeps (came_on c conns) (kept_bytes ear) × AreKept (front ++ after) (without c conns)
taken_kept c ear [] after [] none k = absurd k
taken_kept c ear [] after (o ∷ conns) none k =
    let e : (o.0 == c) ≡ true = rw (← k.0) (itself c) in
    rw e (refl, k.1, k.2)
taken_kept c ear (l ∷ front) after [] none k = absurd k
taken_kept c ear (l ∷ front) after (o ∷ conns) none k =
    let no = or_false (l.number == c) (has c front) none in
    let e : (o.0 == c) ≡ false = rw k.0 at no.0 in
    let more = taken_kept c ear front after conns no.1 k.2 in
    rw e (more.0, more.1, (k.0, k.1, more.2))

pub none_kept : (c : ℕ) (lines : List Line) (conns : List (ℕ × List ℕ)) → has c lines ≡ false → AreKept lines conns → (is_open c conns ≡ false) × (without c conns ≡ conns)
none_kept c [] [] none k = (refl, refl)
none_kept c [] (o ∷ conns) none k = absurd k
none_kept c (l ∷ lines) [] none k = absurd k
none_kept c (l ∷ lines) (o ∷ conns) none k =
    let no = or_false (l.number == c) (has c lines) none in
    let e : (o.0 == c) ≡ false = rw k.0 at no.0 in
    let more = none_kept c lines conns no.1 k.2 in
    rw e (more.0, ap (λ (l : List (ℕ × List ℕ)). o ∷ l) more.1)

pub as_many : (lines : List Line) (conns : List (ℕ × List ℕ)) → AreKept lines conns → length conns ≡ length lines
as_many [] [] k = refl
as_many [] (o ∷ conns) k = absurd k
as_many (l ∷ lines) [] k = absurd k
as_many (l ∷ lines) (o ∷ conns) k = omega (arith, as_many lines conns k.2)

pub put_kept : (c : ℕ) (ear : Ear) (stream : List ℕ) (lines : List Line) (conns : List (ℕ × List ℕ)) → AreKept lines conns → Keeps stream (kept_bytes ear) → AreKept (lines ++ line c ear ∷ []) (conns ++ (c, stream) ∷ [])
put_kept c ear stream [] [] k s = (refl, s, tt)
put_kept c ear stream [] (o ∷ conns) k s = absurd k
put_kept c ear stream (l ∷ lines) [] k s = absurd k
put_kept c ear stream (l ∷ lines) (o ∷ conns) k s = (k.0, k.1, put_kept c ear stream lines conns k.2 s)

-- ---- what is open

-- the connections but for this one stay open where the others do
abbrev pub OthersStay : ℕ → List LogEntry → List LogEntry → Type 0
OthersStay c log log' = (d : ℕ) → (c == d) ≡ false → sound_after d false log' ≡ sound_after d false log

pub others_stay : (c : ℕ) (lines : List Line) (log log' : List LogEntry) → OthersStay c log log' → AreOpenBut c lines log → AreOpenBut c lines log'
others_stay c [] log log' s o = tt
others_stay c (l ∷ lines) log log' s o = ((λ e. rw (s l.number e) (o.0 e)), o.1, others_stay c lines log log' s o.2)

pub but_one : (c : ℕ) (lines : List Line) (log : List LogEntry) → AreOpen lines log → AreOpenBut c lines log
but_one c [] log o = tt
but_one c (l ∷ lines) log o = ((λ e. o.0), o.1, but_one c lines log o.2)

-- all of them, where it is not among them
pub all_open : (c : ℕ) (lines : List Line) (log : List LogEntry) → has c lines ≡ false → AreOpenBut c lines log → AreOpen lines log
all_open c [] log none o = tt
all_open c (l ∷ lines) log none o =
    let no = or_false (l.number == c) (has c lines) none in
    (o.0 (either_way c l.number ∙ no.0), o.1, all_open c lines log no.1 o.2)

has_parts : (c : ℕ) (front after : List Line) → has c (front ++ after) ≡ (has c front || has c after)
has_parts c [] after = refl
has_parts c (l ∷ front) after = by (l.number == c) (has_parts c front after)
  where
    by : (b : Bool) → has c (front ++ after) ≡ (has c front || has c after) → (b || has c (front ++ after)) ≡ ((b || has c front) || has c after)
    by true e = refl
    by false e = e

false_or : (a b : Bool) → a ≡ false → b ≡ false → (a || b) ≡ false
false_or true b e f = cc
false_or false b e f = f

-- what is behind the one that was taken out has another number
pub taken_open : (c : ℕ) (ear : Ear) (front after : List Line) (log : List LogEntry) → has c front ≡ false → AreOpenBut c (front ++ line c ear ∷ after) log
    → (has c (front ++ after) ≡ false) × AreOpen (front ++ after) log
taken_open c ear [] after log none o = (o.1, all_open c after log o.1 o.2)
taken_open c ear (l ∷ front) after log none o =
    let no = or_false (l.number == c) (has c front) none in
    let more = taken_open c ear front after log no.1 o.2 in
    let apart = or_false (has l.number front) (has l.number (line c ear ∷ after)) (sym (has_parts l.number front (line c ear ∷ after)) ∙ o.1) in
    let behind = or_false (c == l.number) (has l.number after) apart.1 in
    let alone : has l.number (front ++ after) ≡ false = has_parts l.number front after ∙ false_or _ _ apart.0 behind.1 in
    (false_or (l.number == c) (has c (front ++ after)) no.0 more.0, (o.0 (either_way c l.number ∙ no.0), alone, more.1))

-- it is open itself
pub taken_is_open : (c : ℕ) (ear : Ear) (front after : List Line) (log : List LogEntry) → AreOpen (front ++ line c ear ∷ after) log → IsSound c log
taken_is_open c ear [] after log o = o.0
taken_is_open c ear (l ∷ front) after log o = taken_is_open c ear front after log o.2

-- one more at the end
pub put_open : (c : ℕ) (ear : Ear) (lines : List Line) (log : List LogEntry) → has c lines ≡ false → AreOpen lines log → IsSound c log → AreOpen (lines ++ line c ear ∷ []) log
put_open c ear [] log none o here = (here, refl, tt)
put_open c ear (l ∷ lines) log none o here =
    let no = or_false (l.number == c) (has c lines) none in
    let last : has l.number (line c ear ∷ []) ≡ false = false_or (c == l.number) false (either_way c l.number ∙ no.0) refl in
    (o.0, has_parts l.number lines (line c ear ∷ []) ∙ false_or _ _ o.1 last, put_open c ear lines log no.1 o.2 here)

-- ---- behind an event

stay_open : (lines : List Line) (log log' : List LogEntry) → ((d : ℕ) → sound_after d false log' ≡ sound_after d false log) → AreOpen lines log → AreOpen lines log'
stay_open [] log log' s o = tt
stay_open (l ∷ lines) log log' s o = (rw (s l.number) o.0, o.1, stay_open lines log log' s o.2)

-- what is known of the connections behind an event, where they were open before it
pub event_open : (e : Event) (buf : List ℕ) (lines : List Line) (log log' : List LogEntry) → AreOpen lines log → log' ≡ log ++ Heard (arrival_of e buf) ∷ [] → AreOpenAt e lines log'
event_open (event.Opened c) buf lines log log' o grows = rw grows (
  others_stay c lines log (log ++ Heard (Opened c) ∷ []) (λ d n. sound_more d false log (Heard (Opened c) ∷ []) ∙ rw n refl) (but_one c lines log o),
  rw (sound_more c false log (Heard (Opened c) ∷ []), itself c) refl,
)
event_open (event.Piece c n) buf lines log log' o grows = rw grows (stay_open lines log (log ++ Heard (arrival_of (event.Piece c n) buf) ∷ []) (λ d. sound_more d false log (Heard (arrival_of (event.Piece c n) buf) ∷ [])) o)
event_open (event.Closed c) buf lines log log' o grows = rw grows (
    others_stay c lines log (log ++ Heard (Closed c) ∷ []) (λ d n. sound_more d false log (Heard (Closed c) ∷ []) ∙ rw n refl) (but_one c lines log o)
    )
event_open event.End buf lines log log' o grows = rw grows (stay_open lines log (log ++ Heard (arrival_of event.End buf) ∷ []) (λ d. sound_more d false log (Heard (arrival_of event.End buf) ∷ [])) o)
