-- How a script is read, and how its play ends.
use Rattle.std.proofs.Common.{◌≡◌, ◌≤◌, ◌∙◌, refl, sym, ap, subst, ℕ, Bool, true, false, List, [], ◌∷◌, ◌++◌, length, append_assoc, Some, None, inl, inr, arith}
use Rattle.std.proofs.lemmas.Bool.Decides.{nat_tests}
use Rattle.std.proofs.lemmas.Bool.{false≢true}
use Rattle.std.specs.List.{list_any}
use Rattle.std.specs.Option.{option_map}
use Rattle.std.specs.Str.{bytes_eq}
use Rattle.cube_model.proofs.Members.{tested}
use Rattle.std.specs.Prelude.{◌⊎◌, ◌≢◌, ◌<◌, ◌+◌, ◌==◌, ◌||◌, Result, Ok, Err, codes, decimal, nat_lt, is_err, OnOk, OnErr}
use Rattle.std.specs.declared.option.Option.{Option}
use Rattle.std.specs.Io.KnownBytes.{Appends}
use Rattle.cube_model.specs.declared.outcome.Outcome.{Outcome}
use Rattle.cube_io.specs.Causes.{Rose}
use Rattle.cube_io.specs.declared.faults.Failed.{Failed as Fault}
use Rattle.cube_io.specs.Content.{AppendsPrefix}
use Rattle.cube_io.specs.Seen.{SinkState, Seen}
use Rattle.cube_io.specs.Wires.{Arrival, LogEntry, events_in, render}
use Rattle.cube_io.specs.Wires.Arrival.{Opened, Came, Closed, End}
use Rattle.cube_io.specs.Files.{max_file}
use Rattle.cube_opening.specs.Opening.{fault_text, faulted, unless_long}
use Rattle.cube_opening.specs.declared.report.Report.{Report}
use Rattle.cube_script.specs.Playing.{Playing, IsPlaying, Overran, starting, started, has_torn}
use Rattle.cube_script.specs.Scripts.{connection_of, bytes_of, came_of, event_of, words, lines, with_event, events_of, script_of}
use Rattle.cube_script.specs.declared.script_wire.SendCapacity.{SendCapacity}
use Rattle.cube_script.specs.declared.play.ScriptFault.TheVariants.{Line, NoMemory}
use Rattle.cube_server.specs.Logs.{Call}
use Rattle.cube_server.specs.Seen.{DeskState}
use Rattle.cube_server.specs.Steps.{Serves, has_end, is_end, luck_of, sends_in, stated_at}
use Rattle.cube_server.specs.declared.serving.ServeFault.{ServeFault}
use Rattle.cube_server.specs.declared.serving.ServeFault.TheVariants.{WireFailed, Spent}
use Rattle.cube_server.proofs.Closings.{fails_last, closed_last}
use Rattle.cube_serving.specs.Serving.{Ends}
use Rattle.cube_serving.specs.Replaying.{EndsOverrun, script_said, played_status, played_text, Writes}

-- ---- what a script says

pub started_ok : (said : Result (List Arrival) ℕ) (w : Playing) (most : SendCapacity) → started said most ≡ Ok w → (script : List Arrival) × (said ≡ Ok script) × (w ≡ starting script most)
started_ok (Ok script) w most e = (script, refl, cc)
started_ok (Err n) w most e = cc

pub started_err : (said : Result (List Arrival) ℕ) (n : ℕ) (most : SendCapacity) → (Line n ≡ NoMemory) ⊎ (started said most ≡ Err (Line n)) → said ≡ Err n
started_err said n most (inl e) = cc
started_err (Ok script) n most (inr e) = cc
started_err (Err m) n most (inr e) = cc

short_said : (kind bytes : List ℕ) (said : Result (List Arrival) (List ℕ)) → length bytes ≤ max_file → unless_long kind bytes said ≡ said
short_said kind bytes said short = tested (nat_lt max_file (length bytes))
    (λ t. absurd (long (nat_lt max_file (length bytes)) refl t))
    (λ f. rw f refl)
  where
    long : (b : Bool) → nat_lt max_file (length bytes) ≡ b → b ≡ true → ⊥
    long b is t = grind (arith, nat_tests, is, t, short)

pub said_ok : (bytes : List ℕ) (script : List Arrival) → length bytes ≤ max_file → script_of bytes ≡ Ok script → script_said bytes ≡ Ok script
said_ok bytes script short said = short_said (codes "script") bytes (faulted (λ n. fault_text (codes "script") (codes "line " ++ decimal n)) (script_of bytes)) short ∙ ap (λ (r : Result (List Arrival) ℕ). faulted (λ n. fault_text (codes "script") (codes "line " ++ decimal n)) r) said

pub said_err : (bytes : List ℕ) (n : ℕ) → length bytes ≤ max_file → script_of bytes ≡ Err n → script_said bytes ≡ Err (fault_text (codes "script") (codes "line " ++ decimal n))
said_err bytes n short said = short_said (codes "script") bytes (faulted (λ n. fault_text (codes "script") (codes "line " ++ decimal n)) (script_of bytes)) short ∙ ap (λ (r : Result (List Arrival) ℕ). faulted (λ n. fault_text (codes "script") (codes "line " ++ decimal n)) r) said

-- ---- no line of a script is the end

some_is : (x e : Arrival) → Some x ≡ Some e → x ≡ e
some_is x e k = cc

opened_more : (o : Option ℕ) (e : Arrival) → option_map Opened o ≡ Some e → is_end e ≡ false
opened_more None e k = cc
opened_more (Some c) e k = subst (λ (x : Arrival). is_end x ≡ false) (some_is (Opened c) e k) refl

closed_more : (o : Option ℕ) (e : Arrival) → option_map Closed o ≡ Some e → is_end e ≡ false
closed_more None e k = cc
closed_more (Some c) e k = subst (λ (x : Arrival). is_end x ≡ false) (some_is (Closed c) e k) refl

came_more : (o : Option ℕ) (bytes : Option (List ℕ)) (e : Arrival) → came_of o bytes ≡ Some e → is_end e ≡ false
came_more None bytes e k = cc
came_more (Some c) None e k = cc
came_more (Some c) (Some b) e k = subst (λ (x : Arrival). is_end x ≡ false) (some_is (Came c b) e k) refl

event_more : (ws : List (List ℕ)) (e : Arrival) → event_of ws ≡ Some e → is_end e ≡ false
event_more [] e k = cc
event_more (kind ∷ []) e k = cc
event_more (kind ∷ c ∷ []) e k = tested (bytes_eq kind (codes "open"))
    (λ t. opened_more (connection_of c) e (rw t at k))
    (λ f. tested (bytes_eq kind (codes "close"))
    (λ t. closed_more (connection_of c) e (rw (f, t) at k))
    (λ g. absurd (none (rw (f, g) at k))))
  where
    none : None ≡ Some e → ⊥
    none k = cc
event_more (kind ∷ c ∷ digits ∷ []) e k = tested (bytes_eq kind (codes "data"))
    (λ t. came_more (connection_of c) (bytes_of digits) e (rw t at k))
    (λ f. absurd (none (rw f at k)))
  where
    none : None ≡ Some e → ⊥
    none k = cc
event_more (kind ∷ c ∷ digits ∷ word ∷ ws) e k = cc

one_more : (x : Arrival) (es : List Arrival) → is_end x ≡ false → list_any is_end es ≡ false → list_any is_end (x ∷ es) ≡ false
one_more x es a b = rw (a, b) refl

abbrev accepted : List Arrival → Result (List Arrival) ℕ
accepted es = Ok es

ok_is : (x y : List Arrival) → accepted x ≡ accepted y → x ≡ y
ok_is x y k = cc

with_more : (n : ℕ) (o : Option Arrival) (rest : Result (List Arrival) ℕ) (es : List Arrival) → ((e : Arrival) → o ≡ Some e → is_end e ≡ false) → ((others : List Arrival) → rest ≡ Ok others → list_any is_end others ≡ false) → with_event n o rest ≡ Ok es → list_any is_end es ≡ false
with_more n None rest es a b k = cc
with_more n (Some e) (Err m) es a b k = cc
with_more n (Some e) (Ok others) es a b k = subst (λ (x : List Arrival). list_any is_end x ≡ false) (ok_is (e ∷ others) es k) (one_more e others (a e refl) (b others refl))

events_more : (n : ℕ) (ls : List (List ℕ)) (es : List Arrival) → events_of n ls ≡ Ok es → list_any is_end es ≡ false
events_more n [] es k = subst (λ (x : List Arrival). list_any is_end x ≡ false) (ok_is [] es k) refl
events_more n (last ∷ []) es k = tested (length last == 0)
    (λ t. subst (λ (x : List Arrival). list_any is_end x ≡ false) (ok_is [] es (rw t at k)) refl)
    (λ f. absurd (none (rw f at k)))
  where
    none : Err n ≡ Ok es → ⊥
    none k = cc
events_more n (line ∷ next ∷ more) es k = with_more n (event_of (words line)) (events_of (n + 1) (next ∷ more)) es (λ e a. event_more (words line) e a) (λ others b. events_more (n + 1) (next ∷ more) others b) k

pub script_more : (text : List ℕ) (script : List Arrival) → script_of text ≡ Ok script → list_any is_end script ≡ false
script_more text script k = events_more 1 (lines text) script k

-- ---- why a play ends

either : (a b : Bool) → b ≡ true → (a || b) ≡ true
either true b k = refl
either false b k = k

ends_in : (es : List Arrival) → list_any is_end (es ++ End ∷ []) ≡ true
ends_in [] = refl
ends_in (x ∷ es) = either (is_end x) (list_any is_end (es ++ End ∷ [])) (ends_in es)

-- behind the whole of a script the end was heard
whole_ends : (events : List Arrival) (log : List LogEntry) (rest : List Arrival) → events ++ End ∷ [] ≡ events_in log ++ rest → has_end log ≡ false → length (events_in log) < length (events ++ End ∷ [])
whole_ends events log rest e none = by_rest rest e
  where
    no_rest : (es : List Arrival) → es ++ [] ≡ es
    no_rest [] = refl
    no_rest (x ∷ es) = ap (λ (y : List Arrival). x ∷ y) (no_rest es)

    more : (es : List Arrival) (x : Arrival) (xs : List Arrival) → length es < length (es ++ x ∷ xs)
    more [] x xs = omega arith
    more (y ∷ es) x xs = let on = more es x xs in omega (arith, on)

    by_rest : (rest : List Arrival) → events ++ End ∷ [] ≡ events_in log ++ rest → length (events_in log) < length (events ++ End ∷ [])
    by_rest [] e = absurd (false≢true (sym none ∙ ap (λ (es : List Arrival). list_any is_end es) (sym (e ∙ no_rest (events_in log))) ∙ ends_in events))
    by_rest (x ∷ xs) e = subst (λ (es : List Arrival). length (events_in log) < length es) (sym e) (more (events_in log) x xs)

-- where the end came, all of the script was given
pub whole : (events es : List Arrival) (log : List LogEntry) (rest : List Arrival) → events ++ End ∷ [] ≡ events_in log ++ rest → list_any is_end events ≡ false → events_in log ≡ es ++ End ∷ [] → events_in log ≡ events ++ End ∷ []
whole events es log rest e none ended = ended ∙ ap (λ (x : List Arrival). x ++ End ∷ []) (same es events (sym (append_assoc es (End ∷ []) rest) ∙ sym (e ∙ ap (λ (x : List Arrival). x ++ rest) ended)) none)
  where
    head_is : (x y : Arrival) (xs ys : List Arrival) → x ∷ xs ≡ y ∷ ys → x ≡ y
    head_is x y xs ys k = cc

    tail_is : (x y : Arrival) (xs ys : List Arrival) → x ∷ xs ≡ y ∷ ys → xs ≡ ys
    tail_is x y xs ys k = cc

    no_more : (es rest : List Arrival) → es ++ End ∷ rest ≡ [] → ⊥
    no_more [] rest k = cc
    no_more (x ∷ es) rest k = cc

    left_off : (a b : Bool) → (a || b) ≡ false → a ≡ false
    left_off false b k = refl
    left_off true b k = k

    right_off : (a b : Bool) → (a || b) ≡ false → b ≡ false
    right_off false b k = k
    right_off true b k = absurd (false≢true (sym k))

    same : (es events : List Arrival) → es ++ End ∷ rest ≡ events ++ End ∷ [] → list_any is_end events ≡ false → es ≡ events
    same [] [] k none = refl
    same [] (x ∷ events) k none = absurd (false≢true (sym (left_off (is_end x) (list_any is_end events) none) ∙ ap is_end (sym (head_is End x rest (events ++ End ∷ []) k))))
    same (y ∷ es) [] k none = absurd (no_more es rest (tail_is y End (es ++ End ∷ rest) [] k))
    same (y ∷ es) (x ∷ events) k none = by (head_is y x (es ++ End ∷ rest) (events ++ End ∷ []) k) (same es events (tail_is y x (es ++ End ∷ rest) (events ++ End ∷ []) k) (right_off (is_end x) (list_any is_end events) none))
      where
        by : y ≡ x → es ≡ events → y ∷ es ≡ x ∷ events
        by a b = rw (a, b) refl

-- the wire fails only behind a send that failed
pub unfailed : (w : Playing) (events : List Arrival) (end : Result (Unit {0}) ServeFault) → IsPlaying w → w.script ≡ events ++ End ∷ [] → w.spilled ≡ false → (end ≡ Err WireFailed → 0 < w.faults) → OnErr end (has_end w.log ≡ false) → has_torn w.log ≡ false → end ≡ Err WireFailed → ⊥
unfailed w events end playing is quiet failed none sound e =
    let begun = playing.events in
    let less = whole_ends events w.log begun.0 (sym is ∙ begun.1) (subst (λ x. OnErr x (has_end w.log ≡ false)) e none) in
    let zero = playing.steady sound quiet (subst (λ (es : List Arrival). length (events_in w.log) < length es) (sym is) less) in
    omega (arith, failed e, zero)

-- why a send failed: where no event came behind it, it is the last but for the close
pub overran : (w : Playing) (old new : DeskState) (events : ℕ) (calls : List Call) (capacity : SendCapacity) → IsPlaying w → w.most ≡ capacity → Serves old new events w.log calls → has_torn w.log ≡ true → EndsOverrun capacity w.log
overran w old new events calls capacity playing is served some =
    let o : Overran capacity w.log = subst (λ (most : SendCapacity). Overran most w.log) is (playing.fails.cause some) in
    let (more, shut, waits) = fails_last old.manner old.rooms (events_in w.log) (luck_of (stated_at old events) served.outcomes (sends_in w.log) served.starved) o.before o.behind o.conn [] o.size (sym served.told ∙ o.whole) in
    record { overran = o; last = closed_last o.conn o.behind more shut waits o.unheard }

-- ---- what is written

pub writes : {O : Type 0} (done : Result (Unit {0}) Fault) (end : Result (Unit {0}) ServeFault) (log : List LogEntry) (os : List Outcome) (out : Seen SinkState O) (r : Report) → r.outcomes ≡ os → OnOk done (Appends out.before.written out.after.written (render log)) → OnErr done (AppendsPrefix out.before.written out.after.written (render log))
    → OnOk done ((r.status ≡ played_status (has_torn log) end) × (r.text ≡ played_text (has_torn log) end os log)) → (is_err done ≡ true → (r.status ≡ 6) × (r.text ≡ codes "output failed\n")) → Writes end log out r
writes (Ok u) end log os out r same grows part put unput = inl (put.0, put.1 ∙ ap (λ (o : List Outcome). played_text (has_torn log) end o log) (sym same), grows)
writes (Err e) end log os out r same grows part put unput = inr ((unput refl).0, (unput refl).1, part)

pub on_ok : {E : Type 0} {P : Type 0} (done : Result (Unit {0}) E) → P → OnOk done P
on_ok (Ok u) p = p
on_ok (Err e) p = tt

-- the end of a play as a status
pub finish : (torn : Bool) (end : Result (Unit {0}) ServeFault) (status : ℕ) → status ≡ played_status torn end → status ≢ 10 → (torn ≡ false → end ≡ Err WireFailed → ⊥) → (status ≡ 0) ⊎ (status ≡ 7)
finish true end status is some none = absurd (some is)
finish false (Ok u) status is some none = inl is
finish false (Err WireFailed) status is some none = absurd (none refl refl)
finish false (Err (Spent requests events)) status is some none = absurd (some is)

pub finished : (done : Result (Unit {0}) Fault) (torn : Bool) (end : Result (Unit {0}) ServeFault) (r : Report) (P Q : Type 0) → OnOk done ((r.status ≡ played_status torn end) × P) → OnErr done Q → ¬ Q → r.status ≢ 10 → (torn ≡ false → end ≡ Err WireFailed → ⊥) → (r.status ≡ 0) ⊎ (r.status ≡ 7)
finished (Ok u) torn end r P Q put err quiet some none = finish torn end r.status put.0 some none
finished (Err e) torn end r P Q put err quiet some none = absurd (quiet err)

-- what `Ends` says of a log that is told
pub ends_none : (end : Result (Unit {0}) ServeFault) (old new : DeskState) (log : List LogEntry) → Ends end true old new log → OnErr end (has_end log ≡ false)
ends_none (Ok u) old new log e = tt
ends_none (Err fault) old new log e = e.1 refl

pub ends_whole : (end : Result (Unit {0}) ServeFault) (u : Unit {0}) (old new : DeskState) (log : List LogEntry) → Ends end true old new log → end ≡ Ok u → (es : List Arrival) × (events_in log ≡ es ++ End ∷ [])
ends_whole (Ok v) u old new log e k = let x = e.1 refl in (x.0, x.1)
ends_whole (Err fault) u old new log e k = absurd (none k)
  where
    none : Err fault ≡ Ok u → ⊥
    none k = cc

-- a count that was 0 and rose
pub rose_from : (before now : ℕ) → before ≡ 0 → Rose before now → 0 < now
rose_from before now is rose = omega (arith, is, rose)

-- space for so many sends and for so many bytes of them
room_of : ℕ → ℕ → SendCapacity
room_of sends bytes = record { sends = sends; bytes = bytes }

pub same_room : (a b : SendCapacity) → a.sends ≡ b.sends → a.bytes ≡ b.bytes → a ≡ b
unfolding room_of
same_room a b sends bytes = ap (λ (n : ℕ). room_of n a.bytes) sends ∙ ap (λ (n : ℕ). room_of b.sends n) bytes
