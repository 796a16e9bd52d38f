-- One entry more at the end of a log, and the space that is owed behind it.
use Rattle.std.proofs.Common.{◌≡◌, ℕ, ◌+◌, ◌≤◌, ◌==◌, ◌||◌, not, Bool, true, false, List, [], ◌∷◌, ◌++◌, length, take, drop, map, refl, sym, ◌∙◌, ap, arith, length-append, if◌then◌else◌}
use Rattle.std.specs.List.{list_any}
use Rattle.std.proofs.lemmas.Bool.Decides.{nat_tests}
use Rattle.std.proofs.lemmas.List.{map-append, drop_at, take_all, take-append-le, drop-append-le, length-drop}
use Rattle.cube_model.specs.Cubes.{Each}
use Rattle.cube_io.proofs.Trails.{each_append, each_map}
use Rattle.cube_io.specs.Mem.{part}
use Rattle.cube_io.specs.Scrolls.{Act, entry_of, entry, IsInside, open_act, sound_act, cut_out, acted, conns_after, owed_by, is_event, owes}
use Rattle.cube_io.specs.Scrolls.Act.{Add, Cut, Stay}
use Rattle.cube_io.specs.Wires.{LogEntry, IsOpen, IsSound, open_by, open_after, sound_by, sound_after}
use Rattle.cube_io.specs.Wires.{Arrival as arrival}
use Rattle.cube_io.specs.Wires.LogEntry.{Heard, Sent, Torn, Shut}
use Rattle.cube_io.specs.declared.scroll.Note.{Note}
use Rattle.cube_io.specs.declared.scroll.Note.TheVariants as note
use Rattle.cube_io.specs.declared.scroll.Written.{Written}

-- ---- one entry more

part_grows : (bytes more : List ℕ) (start len : ℕ) → start + len ≤ length bytes → part (bytes ++ more) start len ≡ part bytes start len
part_grows bytes more start len le = ap (take len) (drop-append-le start bytes more (omega (arith, le))) ∙ take-append-le len (drop start bytes) more (omega (arith, le, length-drop start bytes))

entries_grow : (bytes more : List ℕ) (ws : List Written) → Each (IsInside (length bytes)) ws → map (entry (bytes ++ more)) ws ≡ map (entry bytes) ws
entries_grow bytes more [] h = refl
entries_grow bytes more (w ∷ ws) h = ap (λ (b : List ℕ). entry_of w.note b ∷ map (entry (bytes ++ more)) ws) (part_grows bytes more w.start w.len h.0) ∙ ap (λ (l : List LogEntry). entry bytes w ∷ l) (entries_grow bytes more ws h.1)

abbrev pub last : Note → List ℕ → List ℕ → Written
last n bytes piece = record { note = n; start = length bytes; len = length piece }

pub entries_write : (bytes piece : List ℕ) (ws : List Written) (n : Note) → Each (IsInside (length bytes)) ws → map (entry (bytes ++ piece)) (ws ++ last n bytes piece ∷ []) ≡ map (entry bytes) ws ++ entry_of n piece ∷ []
entries_write bytes piece ws n h =
    let end : part (bytes ++ piece) (length bytes) (length piece) ≡ piece = ap (take (length piece)) (drop_at bytes piece (length bytes) refl) ∙ take_all (length piece) piece (omega arith) in
    map-append (entry (bytes ++ piece)) ws (last n bytes piece ∷ []) ∙ ap (λ (l : List LogEntry). l ++ entry (bytes ++ piece) (last n bytes piece) ∷ []) (entries_grow bytes piece ws h)
    ∙ ap (λ (b : List ℕ). map (entry bytes) ws ++ entry_of n b ∷ []) end

pub inside_write : (bytes piece : List ℕ) (ws : List Written) (n : Note) → Each (IsInside (length bytes)) ws → Each (IsInside (length (bytes ++ piece))) (ws ++ last n bytes piece ∷ [])
inside_write bytes piece ws n h =
    let long : length bytes ≤ length (bytes ++ piece) = omega (arith, length-append bytes piece) in
    each_append (IsInside (length (bytes ++ piece))) ws (last n bytes piece ∷ []) (each_map (IsInside (length bytes)) (IsInside (length (bytes ++ piece))) ws (λ w i. omega (arith, i, long)) h) (omega (arith, length-append bytes piece), tt)

-- ---- the space that is owed

after_one : (act : LogEntry → Act) (conns : List ℕ) (log : List LogEntry) (e : LogEntry) → conns_after act conns (log ++ e ∷ []) ≡ acted (act e) (conns_after act conns log)
after_one act conns [] e = refl
after_one act conns (x ∷ log) e = after_one act (acted (act x) conns) log e

abbrev among : ℕ → List ℕ → Bool
among c conns = list_any (λ d. d == c) conns

-- what an act says of one connection
abbrev held : Act → ℕ → Bool → Bool
held (Add d) c was = if d == c then true else was
held (Cut d) c was = if d == c then false else was
held Stay c was = was

no_way : true ≡ false → ⊥
no_way e = cc

same_or_not : (x d c : ℕ) → (x == d) ≡ true → (d == c) ≡ (x == c)
same_or_not x d c e = let same : x ≡ d = grind (arith, nat_tests) in ap (λ (n : ℕ). n == c) (sym same)

other_one : (x d c : ℕ) → (x == d) ≡ false → (d == c) ≡ true → (x == c) ≡ false
other_one x d c e f = grind (arith, nat_tests)

kept_or_not : (t : Bool) (c x : ℕ) (xs : List ℕ) → among c (if not t then x ∷ xs else xs) ≡ (if t then among c xs else ((x == c) || among c xs))
kept_or_not true c x xs = refl
kept_or_not false c x xs = refl

cases : (t u v r w : Bool) → (t ≡ true → u ≡ v) → (t ≡ false → u ≡ true → v ≡ false) → r ≡ (if u then false else w) → (if t then r else (v || r)) ≡ (if u then false else (v || w))
cases true true true r w a b e = e
cases true true false r w a b e = e
cases true false true r w a b e = absurd (no_way (sym (a refl)))
cases true false false r w a b e = e
cases false true true r w a b e = absurd (no_way (b refl refl))
cases false true false r w a b e = e
cases false false true r w a b e = refl
cases false false false r w a b e = e

cut_among : (d c : ℕ) (conns : List ℕ) → among c (cut_out d conns) ≡ (if d == c then false else among c conns)
cut_among d c [] = by (d == c)
  where
    by : (t : Bool) → false ≡ (if t then false else false)
    by true = refl
    by false = refl
cut_among d c (x ∷ xs) = kept_or_not (x == d) c x (cut_out d xs) ∙ cases (x == d) (d == c) (x == c) (among c (cut_out d xs)) (among c xs) (same_or_not x d c) (other_one x d c) (cut_among d c xs)

held_among : (a : Act) (c : ℕ) (conns : List ℕ) → among c (acted a conns) ≡ held a c (among c conns)
held_among (Add d) c conns = by (d == c) (cut_among d c conns)
  where
    by : (t : Bool) → among c (cut_out d conns) ≡ (if t then false else among c conns) → (t || among c (cut_out d conns)) ≡ (if t then true else among c conns)
    by true e = refl
    by false e = e
held_among (Cut d) c conns = cut_among d c conns
held_among Stay c conns = refl

open_held : (e : LogEntry) (c : ℕ) (was : Bool) → open_by c was e ≡ held (open_act e) c was
open_held (Heard (arrival.Opened d)) c was = refl
open_held (Heard (arrival.Came d bytes)) c was = refl
open_held (Heard (arrival.Closed d)) c was = refl
open_held (Heard arrival.End) c was = refl
open_held (Sent d bytes) c was = refl
open_held (Torn d bytes size) c was = refl
open_held (Shut d) c was = refl

sound_held : (e : LogEntry) (c : ℕ) (was : Bool) → sound_by c was e ≡ held (sound_act e) c was
sound_held (Heard (arrival.Opened d)) c was = refl
sound_held (Heard (arrival.Came d bytes)) c was = refl
sound_held (Heard (arrival.Closed d)) c was = refl
sound_held (Heard arrival.End) c was = refl
sound_held (Sent d bytes) c was = refl
sound_held (Torn d bytes size) c was = refl
sound_held (Shut d) c was = refl

open_among : (c : ℕ) (conns : List ℕ) (log : List LogEntry) → open_after c (among c conns) log ≡ among c (conns_after open_act conns log)
open_among c conns [] = refl
open_among c conns (e ∷ log) = ap (λ (b : Bool). open_after c b log) (open_held e c (among c conns) ∙ sym (held_among (open_act e) c conns)) ∙ open_among c (acted (open_act e) conns) log

sound_among : (c : ℕ) (conns : List ℕ) (log : List LogEntry) → sound_after c (among c conns) log ≡ among c (conns_after sound_act conns log)
sound_among c conns [] = refl
sound_among c conns (e ∷ log) = ap (λ (b : Bool). sound_after c b log) (sound_held e c (among c conns) ∙ sym (held_among (sound_act e) c conns)) ∙ sound_among c (acted (sound_act e) conns) log

-- one that is taken out makes them fewer
cut_short : (d : ℕ) (conns : List ℕ) → length (cut_out d conns) ≤ length conns
cut_short d [] = omega arith
cut_short d (x ∷ xs) = by (x == d) (cut_short d xs)
  where
    by : (t : Bool) → length (cut_out d xs) ≤ length xs → length (if not t then x ∷ cut_out d xs else cut_out d xs) ≤ length (x ∷ xs)
    by true e = omega (arith, e)
    by false e = omega (arith, e)

cut_one : (d : ℕ) (conns : List ℕ) → among d conns ≡ true → length (cut_out d conns) + 1 ≤ length conns
cut_one d [] h = absurd (cc)
cut_one d (x ∷ xs) h = by (x == d) h (λ m. cut_one d xs m) (cut_short d xs)
  where
    by : (t : Bool) → (t || among d xs) ≡ true → (among d xs ≡ true → length (cut_out d xs) + 1 ≤ length xs) → length (cut_out d xs) ≤ length xs → length (if not t then x ∷ cut_out d xs else cut_out d xs) + 1 ≤ length (x ∷ xs)
    by true e f g = omega (arith, g)
    by false e f g = omega (arith, f e)

acted_few : (a : Act) (n : ℕ) (conns : List ℕ) → n ≡ length conns → length (acted a conns) ≤ n + 1
acted_few (Add d) n conns e = omega (arith, cut_short d conns, e)
acted_few (Cut d) n conns e = omega (arith, cut_short d conns, e)
acted_few Stay n conns e = omega (arith, e)

-- behind an event no more is owed than it owes
pub event_owes : (n : Note) (bytes : List ℕ) (log : List LogEntry) → is_event n ≡ true → owed_by (log ++ entry_of n bytes ∷ []) ≤ owed_by log + owes n
event_owes (note.Opened c) bytes log h = rw (after_one open_act [] log (Heard (arrival.Opened c)), after_one sound_act [] log (Heard (arrival.Opened c))) (omega (arith, cut_short c (conns_after open_act [] log), cut_short c (conns_after sound_act [] log)))
event_owes (note.Came c) bytes log h = rw (after_one open_act [] log (Heard (arrival.Came c bytes)), after_one sound_act [] log (Heard (arrival.Came c bytes))) (omega arith)
event_owes (note.Closed c) bytes log h = rw (after_one open_act [] log (Heard (arrival.Closed c)), after_one sound_act [] log (Heard (arrival.Closed c))) (omega (arith, cut_short c (conns_after open_act [] log), cut_short c (conns_after sound_act [] log)))
event_owes note.End bytes log h = rw (after_one open_act [] log (Heard arrival.End), after_one sound_act [] log (Heard arrival.End)) (omega arith)
event_owes (note.Sent c) bytes log h = absurd (cc)
event_owes (note.Torn c size) bytes log h = absurd (cc)
event_owes (note.Shut c) bytes log h = absurd (cc)

-- a send that went well owes no more
pub sent_owes : (c : ℕ) (bytes : List ℕ) (log : List LogEntry) → owed_by (log ++ Sent c bytes ∷ []) ≤ owed_by log
sent_owes c bytes log = rw (after_one open_act [] log (Sent c bytes), after_one sound_act [] log (Sent c bytes)) (omega arith)

-- one that failed pays one entry
pub torn_pays : (c : ℕ) (bytes : List ℕ) (size : ℕ) (log : List LogEntry) → IsSound c log → owed_by (log ++ Torn c bytes size ∷ []) + 1 ≤ owed_by log
torn_pays c bytes size log sound =
    let here : among c (conns_after sound_act [] log) ≡ true = sym (sound_among c [] log) ∙ sound in
    rw (after_one open_act [] log (Torn c bytes size), after_one sound_act [] log (Torn c bytes size)) (omega (arith, cut_one c (conns_after sound_act [] log) here))

-- and so does a close
pub shut_pays : (c : ℕ) (log : List LogEntry) → IsOpen c log → owed_by (log ++ Shut c ∷ []) + 1 ≤ owed_by log
shut_pays c log opens =
    let here : among c (conns_after open_act [] log) ≡ true = sym (open_among c [] log) ∙ opens in
    rw (after_one open_act [] log (Shut c), after_one sound_act [] log (Shut c)) (omega (arith, cut_one c (conns_after open_act [] log) here, cut_short c (conns_after sound_act [] log)))
