-- How a call stands between two events, and the log where it ends.
use Rattle.std.proofs.Common.{◌≡◌, ℕ, ◌+◌, ◌-◌, ◌<◌, ◌==◌, ◌||◌, Bool, true, false, List, [], ◌∷◌, ◌++◌, length, refl, sym, ◌∙◌, ap, subst, arith, append_assoc, length-append, Option, if◌then◌else◌}
use Rattle.std.proofs.lemmas.List.{append-nil}
use Rattle.std.specs.List.{list_any}
use Rattle.std.proofs.lemmas.Bool.Decides.{nat_tests}
use Rattle.cube_model.specs.declared.outcome.Outcome.{Outcome}
use Rattle.cube_model.specs.Rooms.{Room}
use Rattle.cube_io.specs.Desks.{Manner}
use Rattle.cube_io.specs.Wires.{Arrival, LogEntry, events_in}
use Rattle.cube_io.specs.Wires.Arrival.{End}
use Rattle.cube_io.specs.Wires.LogEntry.{Heard}
use Rattle.cube_server.specs.declared.lines.Line.{Line}
use Rattle.cube_server.specs.Ears.{AreKept, AreOpen}
use Rattle.cube_server.specs.Crashes.{FailedFresh, Called}
use Rattle.cube_server.specs.Logs.{Call, Run, met, taken as took, is_over, run_on, begin, run_of}
use Rattle.cube_server.specs.Seen.{DeskState}
use Rattle.cube_server.specs.Steps.{Takes, Serves, course, run, luck_of, stated_at, sends_in, has_end, is_end}
use Rattle.cube_server.proofs.Enduring.{called_none, called_then}
use Rattle.cube_server.proofs.Spoken.{sends_more, events_more}

-- one event more
abbrev once : Manner → Arrival → Run → Run
once m e r = if is_over r then r else met m e (took e r)

run_more : (m : Manner) (es : List Arrival) (e : Arrival) (r : Run) → run_on m (es ++ e ∷ []) r ≡ once m e (run_on m es r)
run_more m [] e r = refl
run_more m (x ∷ es) e r = by (is_over r) refl (run_more m es e (met m x (took x r)))
  where
    by : (b : Bool) → is_over r ≡ b → run_on m (es ++ e ∷ []) (met m x (took x r)) ≡ once m e (run_on m es (met m x (took x r))) → run_on m (x ∷ es ++ e ∷ []) r ≡ once m e (run_on m (x ∷ es) r)
    by true o more = rw o (sym (ap (λ (b : Bool). if b then r else met m e (took e r)) o))
    by false o more = rw o more

going : (conns : List (ℕ × List ℕ)) (events : ℕ) (rooms : List Room) (asks : ℕ) (os : List Outcome) (ss : List (Option ℕ)) (bs : List Bool) (cs : List Call) (log : List LogEntry) → 0 < events → 0 < asks
    → is_over (run conns events (course rooms asks os ss bs cs log)) ≡ false
going conns events rooms asks os ss bs cs log some more =
    let a : (events == 0) ≡ false = grind (arith, nat_tests) in
    let b : (asks == 0) ≡ false = grind (arith, nat_tests) in
    rw (a, b) refl

-- How a call stands: its log is that of the definition's run so far, whatever luck is left.
pub record Stands (start now : DeskState) (events0 events : ℕ) (log : List LogEntry) (lines : List Line) (calls : List Call) : Type 0 where
  pub manner : now.manner ≡ start.manner
  pub conns : List (ℕ × List ℕ)
  pub kept : 0 < now.capacity → AreKept lines conns
  pub live : AreOpen lines log
  pub unended : has_end log ≡ false
  pub asked : Called start now calls
  pub starved : List Bool
  pub runs : (os : List Outcome) (ss : List (Option ℕ)) (bs : List Bool)
      → run_of start.manner start.rooms (events_in log) (luck_of (stated_at start events0) (asked.added ++ os) (sends_in log ++ ss) (starved ++ bs)) ≡ run conns events (course now.rooms now.capacity os ss bs calls log)

pub stands_start : (desk : DeskState) (events : ℕ) (log : List LogEntry) (lines : List Line) → log ≡ [] → lines ≡ [] → Stands desk desk events events log lines []
unfolding run_of
stands_start desk events log lines l e = rw (l, e) (record {
  manner = refl;
  conns = [];
  kept = λ some. tt;
  live = tt;
  unended = refl;
  asked = called_none desk;
  starved = [];
  runs = λ os ss bs. refl;
})

one_event : (log : List LogEntry) (e : Arrival) → events_in (log ++ Heard e ∷ []) ≡ events_in log ++ e ∷ []
one_event log e = events_more log (Heard e ∷ [])

no_send : (log : List LogEntry) (e : Arrival) → sends_in (log ++ Heard e ∷ []) ≡ sends_in log
no_send log e = sends_more log (Heard e ∷ []) ∙ append-nil (sends_in log)

any_more : (es : List Arrival) (e : Arrival) → list_any is_end es ≡ false → is_end e ≡ false → list_any is_end (es ++ e ∷ []) ≡ false
any_more [] e none last = rw last refl
any_more (x ∷ es) e none last = by (is_end x) none (λ n. any_more es e n last)
  where
    by : (b : Bool) → (b || list_any is_end es) ≡ false → (list_any is_end es ≡ false → list_any is_end (es ++ e ∷ []) ≡ false) → (b || list_any is_end (es ++ e ∷ [])) ≡ false
    by true n more = cc
    by false n more = more n

-- the run so far, with one event more
run_once : (start now : DeskState) (events0 events : ℕ) (log : List LogEntry) (lines : List Line) (calls : List Call) (e : Arrival) → (s : Stands start now events0 events log lines calls) → 0 < events → 0 < now.capacity
    → (os : List Outcome) (ss : List (Option ℕ)) (bs : List Bool) → run_of start.manner start.rooms (events_in log ++ e ∷ []) (luck_of (stated_at start events0) (s.asked.added ++ os) (sends_in log ++ ss) (s.starved ++ bs))
    ≡ met start.manner e (run s.conns (events - 1) (course now.rooms now.capacity os ss bs calls (log ++ Heard e ∷ [])))
unfolding run_of
run_once start now events0 events log lines calls e s some more os ss bs =
    run_more start.manner (events_in log) e (begin start.rooms (luck_of (stated_at start events0) (s.asked.added ++ os) (sends_in log ++ ss) (s.starved ++ bs)))
    ∙ ap (once start.manner e) (s.runs os ss bs)
    ∙ ap (λ (b : Bool). if b then run s.conns events (course now.rooms now.capacity os ss bs calls log) else met start.manner e (took e (run s.conns events (course now.rooms now.capacity os ss bs calls log)))) (going s.conns events now.rooms now.capacity os ss bs calls log some more)

pub stands_more : (start x y : DeskState) (events0 events : ℕ) (u v : List LogEntry) (lines lines' : List Line) (xs ys : List Call)
    → (s : Stands start x events0 events u lines xs) → y.manner ≡ x.manner → 0 < events → 0 < x.capacity → Takes lines' s.conns x y u v ys
    → Stands start y events0 (events - 1) v lines' (xs ++ ys)
stands_more start x y events0 events u v lines lines' xs ys s same some more t =
    let d = t.meets in
    let ev : events_in v ≡ events_in u ++ t.event ∷ [] = d.quiet ∙ one_event u t.event in
    let sh : sends_in v ≡ sends_in u ++ d.sends = d.shown ∙ ap (λ (l : List (Option ℕ)). l ++ d.sends) (no_send u t.event) in
    record {
      manner = same ∙ s.manner;
      conns = d.conns';
      kept = d.kept;
      live = d.live;
      unended = ap (list_any is_end) ev ∙ any_more (events_in u) t.event s.unended t.more;
      asked = called_then start x y xs ys s.manner s.asked d.asked;
      starved = s.starved ++ d.starved;
      runs = λ os ss bs.
          rw (ev, sh, append_assoc s.asked.added d.asked.added os, append_assoc (sends_in u) d.sends ss, append_assoc s.starved d.starved bs) (
          run_once start x events0 events u lines xs t.event s some more (d.asked.added ++ os) (d.sends ++ ss) (d.starved ++ bs)
          ∙ ap (λ (m : Manner). met m t.event (run s.conns (events - 1) (course x.rooms x.capacity (d.asked.added ++ os) (d.sends ++ ss) (d.starved ++ bs) xs (u ++ Heard t.event ∷ [])))) (sym s.manner)
          ∙ d.runs (events - 1) os ss bs xs
          );
    }

-- ---- its ends

serves_by : (start now : DeskState) (events0 events : ℕ) (log : List LogEntry) (conns : List (ℕ × List ℕ)) (starved : List Bool) (calls : List Call) (asked : Called start now calls)
    → run_of start.manner start.rooms (events_in log) (luck_of (stated_at start events0) asked.added (sends_in log) starved) ≡ run conns events (course now.rooms now.capacity [] [] [] calls log) → Serves start now events0 log calls
serves_by start now events0 events log conns starved calls asked runs = record {
  outcomes = asked.added;
  starved = starved;
  gained = asked.outcomes_are;
  told = sym (ap (λ (r : Run). r.course.log) runs);
  ended = sym (ap (λ (r : Run). r.course.rooms) runs);
  none_left = ap (λ (r : Run). r.course.outcomes) runs;
  asks_left = ap (λ (r : Run). r.course.asks) runs;
  called = ap (λ (r : Run). r.course.calls) runs;
  fresh = subst (λ (r : Run). FailedFresh start.manner start.rooms r.course.calls) (sym runs) asked.fresh;
}

-- no more events came
pub stands_done : (start now : DeskState) (events0 events : ℕ) (log log' : List LogEntry) (lines : List Line) (calls : List Call) → Stands start now events0 events log lines calls → log' ≡ log → Serves start now events0 log' calls
stands_done start now events0 events log log' lines calls s same = rw same (
    serves_by start now events0 events log s.conns s.starved calls s.asked (rw (append-nil s.asked.added, append-nil (sends_in log), append-nil s.starved) at (s.runs [] [] []))
    )

-- the end came
pub stands_end : (start now : DeskState) (events0 events : ℕ) (log log' : List LogEntry) (lines : List Line) (calls : List Call) → Stands start now events0 events log lines calls → 0 < events → 0 < now.capacity → log' ≡ log ++ Heard End ∷ []
    → Serves start now events0 log' calls
stands_end start now events0 events log log' lines calls s some more e =
    let runs = run_once start now events0 events log lines calls End s some more [] [] [] in
    rw e (
    serves_by start now events0 0 (log ++ Heard End ∷ []) s.conns s.starved calls s.asked
    (rw (one_event log End, no_send log End) (rw (append-nil s.asked.added, append-nil (sends_in log), append-nil s.starved) at runs))
    )

-- what was heard up to the end
pub ends_with : (log log' : List LogEntry) → log' ≡ log ++ Heard End ∷ [] → events_in log' ≡ events_in log ++ End ∷ []
ends_with log log' e = ap events_in e ∙ one_event log End

pub one_longer : (log log' : List LogEntry) (e : Arrival) (n : ℕ) → events_in log' ≡ events_in (log ++ Heard e ∷ []) → length (events_in log) ≡ n → length (events_in log') ≡ n + 1
one_longer log log' e n same long = ap length (same ∙ one_event log e) ∙ length-append (events_in log) (e ∷ []) ∙ ap (λ (k : ℕ). k + 1) long

-- an event was taken and dealt with: the call stands one event on, or its asks are used up
pub record Onward (start y : DeskState) (events0 events : ℕ) (u v : List LogEntry) (lines' : List Line) (calls : List Call) : Type 0 where
  pub stands : Stands start y events0 events v lines' calls
  pub longer : length (events_in v) ≡ length (events_in u) + 1

pub onward : (start x y : DeskState) (events0 taken : ℕ) (u v : List LogEntry) (lines lines' : List Line) (xs ys : List Call)
    → Stands start x events0 (events0 - taken) u lines xs → y.manner ≡ x.manner → taken < events0 → 0 < x.capacity → ((conns : List (ℕ × List ℕ)) → AreKept lines conns → Takes lines' conns x y u v ys)
    → Onward start y events0 (events0 - (taken + 1)) u v lines' (xs ++ ys)
onward start x y events0 taken u v lines lines' xs ys s same few some takes =
    let t = takes s.conns (s.kept some) in
    let n : events0 - taken - 1 ≡ events0 - (taken + 1) = omega arith in
    let more : 0 < events0 - taken = omega (arith, few) in
    record {
      stands = subst (λ (k : ℕ). Stands start y events0 k v lines' (xs ++ ys)) n (stands_more start x y events0 (events0 - taken) u v lines lines' xs ys s same more some t);
      longer = one_longer u v t.event (length (events_in u)) t.meets.quiet refl;
    }
