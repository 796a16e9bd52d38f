-- One call more of a wire that plays a script: its log, and the space behind it.
use Rattle.std.proofs.Common.{◌≡◌, ◌<◌, ◌≤◌, ℕ, zero, suc, ◌+◌, ◌-◌, ◌^◌, Bool, true, false, ◌&&◌, ◌||◌, List, [], ◌∷◌, ◌++◌, length, take, drop, Option, Some, None, Result, Err, inl, inr, ◌⊎◌, refl, sym, ◌∙◌, ap, subst, arith, add-one, append-nil, append_assoc, unwrap_or, if◌then◌else◌, sum_by, count_by}
use Rattle.std.specs.Prelude.{slice_get, ◌↔◌, nat_le, nat_lt}
use Rattle.std.proofs.Math.Bool.{or-false}
use Rattle.std.proofs.Math.Seq.{take-suc, drop-cons}
use Rattle.std.proofs.lemmas.Bool.{le-leb}
use Rattle.std.proofs.lemmas.List.{take-append-drop, length-take-le}
use Rattle.std.proofs.lemmas.List.Elements.{filter_map-append}
use Rattle.std.proofs.lemmas.List.Folds.{list_any-append, list_all-append}
use Rattle.std.proofs.lemmas.List.Sums.{sum_by_push, sum_by-cons}
use Rattle.std.proofs.lemmas.Option.{slice_get_past, slice_get_within, get_or_from_slice_get}
use Rattle.std.specs.List.{list_all}
use Rattle.cube_model.specs.Cubes.{Each}
use Rattle.cube_io.specs.Scrolls.{Roll, owed_by}
use Rattle.cube_io.specs.Wires.{Arrival, LogEntry, IsOpen, IsSound, event_in, events_in}
use Rattle.cube_io.specs.Wires.{Arrival as arrival}
use Rattle.cube_io.specs.Wires.LogEntry.{Heard, Sent, Torn, Shut}
use Rattle.cube_io.specs.declared.scroll.Note.TheVariants as note
use Rattle.cube_io.proofs.Scrolled.{event_owes, sent_owes, torn_pays, shut_pays}
use Rattle.cube_script.specs.Playing.{Overran, passes_capacity_by, IsPlaying, started, is_torn, has_torn, is_sent, sent_size, is_settled}
use Rattle.cube_script.specs.declared.script_wire.SendCapacity.{SendCapacity}
use Rattle.cube_script.specs.declared.play.ScriptFault.{ScriptFault}
use Rattle.cube_script.specs.declared.play.ScriptFault.TheVariants.{Line, NoMemory}
use Rattle.cube_script.specs.Plays.{Refuses}
use Rattle.cube_script.specs.Capacity.{IsPlayable, entries_owed, entries_for, bytes_for, Kept, IsReady, IsListening}

-- ---- one entry more

events_heard : (log : List LogEntry) (e : Arrival) → events_in (log ++ Heard e ∷ []) ≡ events_in log ++ e ∷ []
events_heard log e = filter_map-append event_in log (Heard e ∷ [])

events_sent : (log : List LogEntry) (c : ℕ) (bytes : List ℕ) → events_in (log ++ Sent c bytes ∷ []) ≡ events_in log
events_sent log c bytes = filter_map-append event_in log (Sent c bytes ∷ []) ∙ append-nil (events_in log)

events_torn : (log : List LogEntry) (c : ℕ) (bytes : List ℕ) (size : ℕ) → events_in (log ++ Torn c bytes size ∷ []) ≡ events_in log
events_torn log c bytes size = filter_map-append event_in log (Torn c bytes size ∷ []) ∙ append-nil (events_in log)

events_shut : (log : List LogEntry) (c : ℕ) → events_in (log ++ Shut c ∷ []) ≡ events_in log
events_shut log c = filter_map-append event_in log (Shut c ∷ []) ∙ append-nil (events_in log)

torn_more : (log : List LogEntry) (e : LogEntry) → is_torn e ≡ false → has_torn (log ++ e ∷ []) ≡ has_torn log
torn_more log e well = list_any-append is_torn log (e ∷ []) ∙ ap (λ (b : Bool). has_torn log || (b || false)) well ∙ or-false (has_torn log)

or_true : (b : Bool) → (b || true) ≡ true
or_true true = refl
or_true false = refl

torn_now : (log : List LogEntry) (c : ℕ) (bytes : List ℕ) (size : ℕ) → has_torn (log ++ Torn c bytes size ∷ []) ≡ true
torn_now log c bytes size = list_any-append is_torn log (Torn c bytes size ∷ []) ∙ or_true (has_torn log)

settled_more : (log : List LogEntry) (e : LogEntry) → is_settled e ≡ true → list_all is_settled log ≡ true → list_all is_settled (log ++ e ∷ []) ≡ true
settled_more log e well all = list_all-append is_settled log (e ∷ []) ∙ ap (λ (b : Bool). b && (is_settled e && true)) all ∙ ap (λ (b : Bool). b && true) well

sends_more : (log : List LogEntry) (e : LogEntry) → count_by is_sent (log ++ e ∷ []) ≡ count_by is_sent log + (if is_sent e then 1 else 0)
sends_more log e = sum_by_push _ log e

sizes_more : (log : List LogEntry) (e : LogEntry) → sum_by sent_size (log ++ e ∷ []) ≡ sum_by sent_size log + sent_size e
sizes_more log e = sum_by_push sent_size log e

no_way : true ≡ false → ⊥
no_way e = cc

-- ---- why a send failed

-- where none did there is nothing to say
none_overran : (b : Bool) (most : SendCapacity) (log : List LogEntry) → b ≡ has_torn log → b ≡ false → has_torn log ≡ true → Overran most log
none_overran b most log is none some = absurd (no_way (sym some ∙ sym is ∙ none))

-- the first that would pass the space
first_overran : (most : SendCapacity) (log log' : List LogEntry) (c size : ℕ) → log' ≡ log ++ Torn c [] size ∷ [] → has_torn log ≡ false → passes_capacity_by most log size ≡ true → Overran most log'
first_overran most log log' c size grows none passes = record { before = log; conn = c; size = size; behind = []; whole = grows; first = none; passes = passes; unsent = refl; unheard = refl }

-- behind it an entry more that notes neither a send that went well nor an event
still_overran : (most : SendCapacity) (log log' : List LogEntry) (e : LogEntry) → log' ≡ log ++ e ∷ [] → is_sent e ≡ false → event_in e ≡ None → Overran most log → Overran most log'
still_overran most log log' e grows unsent unheard o = record {
  before = o.before;
  conn = o.conn;
  size = o.size;
  behind = o.behind ++ e ∷ [];
  whole = grows ∙ ap (λ (l : List LogEntry). l ++ e ∷ []) o.whole ∙ append_assoc o.before (Torn o.conn [] o.size ∷ o.behind) (e ∷ []);
  first = o.first;
  passes = o.passes;
  unsent = rw (sends_more o.behind e, unsent, o.unsent) refl;
  unheard = filter_map-append event_in o.behind (e ∷ []) ∙ rw (unheard, o.unheard) refl;
}

-- a send that failed: an earlier one did, or it would pass the space
torn_overran : (b : Bool) (most : SendCapacity) (log log' : List LogEntry) (c size : ℕ) → b ≡ has_torn log → (has_torn log ≡ true → Overran most log) → (b || passes_capacity_by most log size) ≡ true → log' ≡ log ++ Torn c [] size ∷ [] → Overran most log'
torn_overran true most log log' c size is was fails grows = still_overran most log log' (Torn c [] size) grows refl refl (was (sym is))
torn_overran false most log log' c size is was fails grows = first_overran most log log' c size grows (sym is) fails

-- what the wire keeps tells that a send fails
pub fails_behind : (b : Bool) (most : SendCapacity) (log : List LogEntry) (len : ℕ) → b ≡ true → (b || passes_capacity_by most log len) ≡ true
fails_behind b most log len broke = ap (λ (t : Bool). t || passes_capacity_by most log len) broke

second_of : (a b c : Bool) → b ≡ true → (a || (b || c)) ≡ true
second_of true b c is = refl
second_of false b c is = ap (λ (t : Bool). t || c) is

third_of : (a b c : Bool) → c ≡ true → (a || (b || c)) ≡ true
third_of true b c is = refl
third_of false true c is = refl
third_of false false c is = is

pub fails_sends : (script : List Arrival) (k : Kept) (len : ℕ) → IsReady script k → k.left.sends ≡ 0 → (k.overrun || passes_capacity_by k.most k.roll.log len) ≡ true
fails_sends script k len r none =
    let full : k.most.sends ≤ count_by is_sent k.roll.log = omega (arith, r.space.0, none) in
    second_of k.overrun (nat_le k.most.sends (count_by is_sent k.roll.log)) (nat_lt k.most.bytes (sum_by sent_size k.roll.log + len)) (le-leb k.most.sends (count_by is_sent k.roll.log) full)

pub fails_bytes : (script : List Arrival) (k : Kept) (len : ℕ) → IsReady script k → k.left.bytes < len → (k.overrun || passes_capacity_by k.most k.roll.log len) ≡ true
fails_bytes script k len r small =
    let full : k.most.bytes + 1 ≤ sum_by sent_size k.roll.log + len = omega (arith, r.space.1, small) in
    third_of k.overrun (nat_le k.most.sends (count_by is_sent k.roll.log)) (nat_lt k.most.bytes (sum_by sent_size k.roll.log + len)) (le-leb (suc k.most.bytes) (sum_by sent_size k.roll.log + len) (omega (arith, full)))

-- ---- the event that is played

pub take_next : {A : Type 0} (xs : List A) (place : ℕ) (x : A) → slice_get xs place ≡ Some x → take (place + 1) xs ≡ take place xs ++ x ∷ []
take_next xs place x at =
    rw (add-one place, take-suc xs place x (slice_get_within xs place x at), get_or_from_slice_get xs place x x at) refl

drop_next : (script : List Arrival) (taken : ℕ) (e : Arrival) → slice_get script taken ≡ Some e → drop taken script ≡ e ∷ drop (taken + 1) script
drop_next script taken e at =
    rw (add-one taken, drop-cons script taken e (slice_get_within script taken e at), get_or_from_slice_get script taken e e at) refl

sum_next : (f : Arrival → ℕ) (script : List Arrival) (taken : ℕ) (e : Arrival) → slice_get script taken ≡ Some e → sum_by f (drop taken script) ≡ f e + sum_by f (drop (taken + 1) script)
sum_next f script taken e at = ap (sum_by f) (drop_next script taken e at) ∙ sum_by-cons f e (drop (taken + 1) script)

-- what holds of each holds of the one at a place
playable_at : (script : List Arrival) (taken : ℕ) (e : Arrival) → Each IsPlayable script → slice_get script taken ≡ Some e → IsPlayable e
playable_at [] taken e each at = absurd (cc)
playable_at (x ∷ xs) zero e each at = subst IsPlayable (ap (λ (o : Option Arrival). unwrap_or o x) at) each.0
playable_at (x ∷ xs) (suc n) e each at = playable_at xs n e each.1 at

arrival_owes : (e : Arrival) (log : List LogEntry) → owed_by (log ++ Heard e ∷ []) ≤ owed_by log + entries_owed e
arrival_owes (arrival.Opened c) log = event_owes (note.Opened c) [] log refl
arrival_owes (arrival.Came c bytes) log = event_owes (note.Came c) bytes log refl
arrival_owes (arrival.Closed c) log = event_owes (note.Closed c) [] log refl
arrival_owes arrival.End log = event_owes note.End [] log refl

-- ---- the space behind a call

pub next_owes : (script : List Arrival) (k : Kept) (e : Arrival)
    → IsReady script k → slice_get script k.taken ≡ Some e
    → (IsPlayable e) × (0 < k.roll.entries_left) × (bytes_for e ≤ k.roll.bytes_left) × (k.owed + entries_owed e < 2 ^ 64)
next_owes script k e r at =
    let n = sum_next entries_for script k.taken e at in
    let b = sum_next bytes_for script k.taken e at in
    (playable_at script k.taken e r.playable at, omega (arith, n, r.entries), omega (arith, b, r.bytes), omega (arith, n, r.entries, r.small))

pub ready_next : (script : List Arrival) (k : Kept) (e : Arrival) (roll' : Roll)
    → IsReady script k → k.overrun ≡ false → slice_get script k.taken ≡ Some e
    → roll'.log ≡ k.roll.log ++ Heard e ∷ [] → roll'.entries_left + 1 ≡ k.roll.entries_left → roll'.bytes_left + bytes_for e ≡ k.roll.bytes_left
    → IsReady script (record k { taken = k.taken + 1; roll = roll'; owed = k.owed + entries_owed e })
ready_next script k e roll' r well at log entries bytes =
    let n = sum_next entries_for script k.taken e at in
    let b = sum_next bytes_for script k.taken e at in
    let within = slice_get_within script k.taken e at in
    let same = torn_more k.roll.log (Heard e) refl in
    let stays = ap has_torn log ∙ same in
    let owes = arrival_owes e k.roll.log in
    let count = sends_more k.roll.log (Heard e) in
    let size = sizes_more k.roll.log (Heard e) in
    record {
      events = ap events_in log ∙ events_heard k.roll.log e ∙ ap (λ (l : List Arrival). l ++ e ∷ []) r.events ∙ sym (take_next script k.taken e at);
      few = omega (arith, within);
      fails = record {
        ends = r.fails.ends;
        nothing = ap (list_all is_settled) log ∙ settled_more k.roll.log (Heard e) refl r.fails.nothing;
        cause = none_overran k.overrun k.most roll'.log (r.torn ∙ sym stays) well;
        sound = λ none. r.fails.sound (sym stays ∙ none);
        broken = λ some. r.fails.broken (sym stays ∙ some);
      };
      playable = r.playable;
      enough = rw log (omega (arith, owes, r.enough));
      entries = omega (arith, n, r.entries, entries);
      small = omega (arith, r.small, entries);
      bytes = omega (arith, b, r.bytes, bytes);
      space = (rw (log, count) (omega (arith, r.space.0)), rw (log, size) (omega (arith, r.space.1)));
      torn = r.torn ∙ sym stays;
      steady = λ none dry more. r.steady (sym stays ∙ none) dry within;
    }

pub ready_sent : (script : List Arrival) (k : Kept) (c : ℕ) (piece : List ℕ) (roll' : Roll)
    → IsReady script k → k.overrun ≡ false → 0 < k.left.sends → length piece ≤ k.left.bytes
    → roll'.log ≡ k.roll.log ++ Sent c piece ∷ [] → roll'.entries_left + 1 ≡ k.roll.entries_left → roll'.bytes_left + length piece ≡ k.roll.bytes_left
    → IsReady script (record k { roll = roll'; left = record { sends = k.left.sends - 1; bytes = k.left.bytes - length piece } })
ready_sent script k c piece roll' r well some fits log entries bytes =
    let stays = ap has_torn log ∙ torn_more k.roll.log (Sent c piece) refl in
    let owes = sent_owes c piece k.roll.log in
    let count = sends_more k.roll.log (Sent c piece) in
    let size = sizes_more k.roll.log (Sent c piece) in
    record {
      events = ap events_in log ∙ events_sent k.roll.log c piece ∙ r.events;
      few = r.few;
      fails = record {
        ends = r.fails.ends;
        nothing = ap (list_all is_settled) log ∙ settled_more k.roll.log (Sent c piece) refl r.fails.nothing;
        cause = none_overran k.overrun k.most roll'.log (r.torn ∙ sym stays) well;
        sound = λ none. r.fails.sound (sym stays ∙ none);
        broken = λ broke. r.fails.broken (sym stays ∙ broke);
      };
      playable = r.playable;
      enough = rw log (omega (arith, owes, r.enough));
      entries = omega (arith, r.entries, entries, some);
      small = omega (arith, r.small, entries);
      bytes = omega (arith, r.bytes, bytes, fits);
      space = (rw (log, count) (omega (arith, r.space.0, some)), rw (log, size) (omega (arith, r.space.1, fits)));
      torn = r.torn ∙ sym stays;
      steady = λ none dry more. r.steady (sym stays ∙ none) dry more;
    }

pub torn_owes : (script : List Arrival) (k : Kept) (c : ℕ)
    → IsReady script k → IsSound c k.roll.log → (0 < k.owed) × (0 < k.roll.entries_left)
torn_owes script k c r sound =
    let pays = torn_pays c [] 0 k.roll.log sound in
    (omega (arith, pays, r.enough), omega (arith, pays, r.enough, r.entries))

pub ready_torn : (script : List Arrival) (k : Kept) (c len sf' : ℕ) (roll' : Roll)
    → IsReady script k → IsSound c k.roll.log → (k.overrun || passes_capacity_by k.most k.roll.log len) ≡ true → 0 < sf'
    → roll'.log ≡ k.roll.log ++ Torn c [] len ∷ [] → roll'.entries_left + 1 ≡ k.roll.entries_left → roll'.bytes_left + 0 ≡ k.roll.bytes_left
    → IsReady script (record k { roll = roll'; owed = k.owed - 1; overrun = true; send_faults = sf' })
ready_torn script k c len sf' roll' r sound fails rose log entries bytes =
    let now = ap has_torn log ∙ torn_now k.roll.log c [] len in
    let pays = torn_pays c [] len k.roll.log sound in
    let count = sends_more k.roll.log (Torn c [] len) in
    let size = sizes_more k.roll.log (Torn c [] len) in
    record {
      events = ap events_in log ∙ events_torn k.roll.log c [] len ∙ r.events;
      few = r.few;
      fails = record {
        ends = r.fails.ends;
        nothing = ap (list_all is_settled) log ∙ settled_more k.roll.log (Torn c [] len) refl r.fails.nothing;
        cause = λ _. torn_overran k.overrun k.most k.roll.log roll'.log c len r.torn r.fails.cause fails log;
        sound = λ none. absurd (no_way (sym now ∙ none));
        broken = λ broke. rose;
      };
      playable = r.playable;
      enough = rw log (omega (arith, pays, r.enough));
      entries = omega (arith, r.entries, entries, pays, r.enough);
      small = omega (arith, r.small, entries);
      bytes = omega (arith, r.bytes, bytes);
      space = (rw (log, count) (omega (arith, r.space.0)), rw (log, size) (omega (arith, r.space.1)));
      torn = sym now;
      steady = λ none dry more. absurd (no_way (sym now ∙ none));
    }

pub shut_owes : (script : List Arrival) (k : Kept) (c : ℕ)
    → IsReady script k → IsOpen c k.roll.log → (0 < k.owed) × (0 < k.roll.entries_left)
shut_owes script k c r opens =
    let pays = shut_pays c k.roll.log opens in
    (omega (arith, pays, r.enough), omega (arith, pays, r.enough, r.entries))

pub ready_shut : (script : List Arrival) (k : Kept) (c : ℕ) (roll' : Roll)
    → IsReady script k → IsOpen c k.roll.log
    → roll'.log ≡ k.roll.log ++ Shut c ∷ [] → roll'.entries_left + 1 ≡ k.roll.entries_left → roll'.bytes_left + 0 ≡ k.roll.bytes_left
    → IsReady script (record k { roll = roll'; owed = k.owed - 1 })
ready_shut script k c roll' r opens log entries bytes =
    let stays = ap has_torn log ∙ torn_more k.roll.log (Shut c) refl in
    let pays = shut_pays c k.roll.log opens in
    let count = sends_more k.roll.log (Shut c) in
    let size = sizes_more k.roll.log (Shut c) in
    record {
      events = ap events_in log ∙ events_shut k.roll.log c ∙ r.events;
      few = r.few;
      fails = record {
        ends = r.fails.ends;
        nothing = ap (list_all is_settled) log ∙ settled_more k.roll.log (Shut c) refl r.fails.nothing;
        cause = λ some. still_overran k.most k.roll.log roll'.log (Shut c) log refl refl (r.fails.cause (sym stays ∙ some));
        sound = λ none. r.fails.sound (sym stays ∙ none);
        broken = λ broke. r.fails.broken (sym stays ∙ broke);
      };
      playable = r.playable;
      enough = rw log (omega (arith, pays, r.enough));
      entries = omega (arith, r.entries, entries, pays, r.enough);
      small = omega (arith, r.small, entries);
      bytes = omega (arith, r.bytes, bytes);
      space = (rw (log, count) (omega (arith, r.space.0)), rw (log, size) (omega (arith, r.space.1)));
      torn = r.torn ∙ sym stays;
      steady = λ none dry more. r.steady (sym stays ∙ none) dry more;
    }

-- a `next` that fails behind a failed send, or behind the end
pub ready_fails : (script : List Arrival) (k : Kept) (f' : ℕ)
    → IsReady script k → (k.overrun ≡ false → k.taken < length script → ⊥)
    → IsReady script (record k { faults = f' })
ready_fails script k f' r never = record {
  events = r.events;
  few = r.few;
  fails = record {
    ends = r.fails.ends;
    nothing = r.fails.nothing;
    cause = r.fails.cause;
    sound = r.fails.sound;
    broken = r.fails.broken;
  };
  playable = r.playable;
  enough = r.enough;
  entries = r.entries;
  small = r.small;
  bytes = r.bytes;
  space = (r.space.0, r.space.1);
  torn = r.torn;
  steady = λ none dry more. absurd (never (r.torn ∙ none) more);
}

-- an address that is refused
pub ready_spills : (script : List Arrival) (k : Kept) (f' : ℕ)
    → IsReady script k → IsReady script (record k { spilled = true; faults = f' })
ready_spills script k f' r = record {
  events = r.events;
  few = r.few;
  fails = record {
    ends = r.fails.ends;
    nothing = r.fails.nothing;
    cause = r.fails.cause;
    sound = r.fails.sound;
    broken = r.fails.broken;
  };
  playable = r.playable;
  enough = r.enough;
  entries = r.entries;
  small = r.small;
  bytes = r.bytes;
  space = (r.space.0, r.space.1);
  torn = r.torn;
  steady = λ none dry more. absurd (no_way dry);
}

-- ---- what is seen of it

taken_is : (script : List Arrival) (k : Kept)
    → IsReady script k → length (events_in k.roll.log) ≡ k.taken
taken_is script k r = ap length r.events ∙ length-take-le k.taken script r.few

coming : (b : Bool) (script : List Arrival) (at : ℕ) (e : Arrival) → b ≡ false → slice_get script at ≡ Some e → (if b then None else slice_get script at) ≡ Some e
coming true script at e b is = absurd (no_way b)
coming false script at e b is = is

none_coming : (b : Bool) (script : List Arrival) (at : ℕ) → (b ≡ false → length script ≤ at) → (if b then None else slice_get script at) ≡ None
none_coming true script at past = refl
none_coming false script at past = slice_get_past script at (past refl)

pub next_some : (script : List Arrival) (k : Kept) (e : Arrival)
    → IsReady script k → k.overrun ≡ false → slice_get script k.taken ≡ Some e
    → (if has_torn k.roll.log then None else slice_get script (length (events_in k.roll.log))) ≡ Some e
next_some script k e r sound at =
    coming (has_torn k.roll.log) script (length (events_in k.roll.log)) e (sym r.torn ∙ sound) (ap (slice_get script) (taken_is script k r) ∙ at)

pub next_none : (script : List Arrival) (k : Kept)
    → IsReady script k → (k.overrun ≡ false → length script ≤ k.taken)
    → (if has_torn k.roll.log then None else slice_get script (length (events_in k.roll.log))) ≡ None
next_none script k r past =
    let is = taken_is script k r in
    none_coming (has_torn k.roll.log) script (length (events_in k.roll.log)) (λ none. rw is (past (r.torn ∙ none)))

pub playing : (script : List Arrival) (k : Kept) (heard : List (List ℕ × ℕ))
    → IsReady script k
    → IsPlaying (record { script = script; log = k.roll.log; heard = heard; most = k.most; spilled = k.spilled; faults = k.faults; send_faults = k.send_faults })
playing script k heard r =
    let is = taken_is script k r in
    record {
      fails = record {
        ends = r.fails.ends;
        nothing = r.fails.nothing;
        cause = r.fails.cause;
        sound = r.fails.sound;
        broken = r.fails.broken;
      };
      events = (drop k.taken script, sym (take-append-drop k.taken script) ∙ ap (λ (l : List Arrival). l ++ drop k.taken script) (sym r.events));
      sends = omega (arith, r.space.0);
      sent = omega (arith, r.space.1);
      steady = λ none dry more. r.steady none dry (omega (arith, is, more));
    }

-- ---- the beginning

pub ready_start : (script events : List Arrival) (roll : Roll) (most : SendCapacity) → script ≡ events ++ arrival.End ∷ [] → Each IsPlayable script → roll.log ≡ [] → roll.entries_left ≡ sum_by entries_for script + most.sends → roll.bytes_left ≡ sum_by bytes_for script + most.bytes → roll.entries_left < 2 ^ 64
    → IsReady script (record { taken = 0; roll = roll; owed = 0; left = most; most = most; overrun = false; spilled = false; faults = 0; send_faults = 0 })
ready_start script events roll most is each none entries bytes small = record {
  fails = record {
    ends = (events, is);
    nothing = ap (list_all is_settled) none;
    cause = λ some. absurd (no_way (sym some ∙ ap has_torn none));
    sound = λ _. refl;
    broken = λ broke. absurd (no_way (sym broke ∙ ap has_torn none));
  };
  events = ap events_in none;
  few = omega arith;
  playable = each;
  enough = rw none (omega arith);
  entries = omega (arith, entries);
  small = small;
  bytes = omega (arith, bytes);
  space = (rw none (omega arith), rw none (omega arith));
  torn = sym (ap has_torn none);
  steady = λ _ _ _. refl;
}

pub listening_start : (roll : Roll) → roll.log ≡ [] → roll.entries_left ≡ 8 → roll.bytes_left ≡ 1024 → IsListening roll
listening_start roll none entries bytes = record { few = rw none (omega (arith, entries)); short = rw none (omega (arith, bytes)) }

pub overrun_is : (script : List Arrival) (k : Kept)
    → IsReady script k → k.overrun ≡ true ↔ (0 < k.send_faults)
overrun_is script k r = by k.overrun r.torn r.fails.sound r.fails.broken
  where
    by : (b : Bool) → b ≡ has_torn k.roll.log → (has_torn k.roll.log ≡ false → k.send_faults ≡ 0) → (has_torn k.roll.log ≡ true → 0 < k.send_faults) → b ≡ true ↔ (0 < k.send_faults)
    by true is sound broken = (λ _. broken (sym is), λ _. refl)
    by false is sound broken = (λ h. absurd (no_way (sym h)), λ some. absurd (omega (arith, some, sound (sym is))))

-- ---- the answer to a script

pub refused : (fault : ScriptFault) (said : Result (List Arrival) ℕ) (most : SendCapacity) → Refuses fault said → (fault ≡ NoMemory) ⊎ (started said most ≡ Err fault)
refused (Line n) said most h = inr (ap (λ (r : Result (List Arrival) ℕ). started r most) h)
refused NoMemory said most h = inl refl
