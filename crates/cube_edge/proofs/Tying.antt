-- A log stays tied to what the sockets tell.
use Rattle.std.proofs.Common.{◌≡◌, ◌≢◌, ◌<◌, ◌≤◌, ℕ, ◌*◌, ◌==◌, ◌&&◌, not, Bool, true, false, List, [], ◌∷◌, ◌++◌, length, get_or, take, refl, sym, ◌∙◌, ap, subst, arith, append-nil, append_assoc, if◌then◌else◌, length-set, get_or-set_same, get_or-set_other}
use Rattle.std.proofs.Math.ListN.{set}
use Rattle.std.specs.Prelude.{IsTrue, Option, Some, None, Result, Ok, Err, IsSomeAnd, All, slice_get, slice_set}
use Rattle.std.proofs.lemmas.Bool.Decides.{nat_tests}
use Rattle.std.proofs.lemmas.Option.{slice_get_within, slice_get-get_or, get_or_from_slice_get, slice_get_read}
use Rattle.cube_io.specs.declared.faults.Failed.{Failed}
use Rattle.cube_io.specs.declared.wire.Event.{Event}
use Rattle.cube_io.specs.Wires.{LogEntry, IsOpen, open_by, open_after}
use Rattle.cube_io.specs.Wires.Arrival.{Opened, Came, Closed}
use Rattle.cube_io.specs.Wires.LogEntry.{Heard, Sent, Torn, Shut}
use Rattle.cube_edge.specs.declared.link.Link.{Link}
use Rattle.cube_edge.specs.declared.link.Look.TheVariants as look
use Rattle.cube_edge.specs.declared.link.Stage.{Stage}
use Rattle.cube_edge.specs.declared.link.Stage.TheVariants as stage
use Rattle.cube_edge.specs.Sockets.{SocketState, SocketsState, shut_if, OnlyOn, Elsewhere, MovedNothing, Accepted, AcceptTells, LookTells, LookFits, Gives, outgoing}
use Rattle.cube_edge.specs.Links.{closed_behind, is_there, is_open}
use Rattle.cube_edge.specs.Watches.{WatchState, Notes}
use Rattle.cube_edge.specs.Ends.{is_ended, EndsWell, idle_of}
use Rattle.cube_edge.specs.Flows.{Flow, no_flow, flow_by, flow_after, flow, IsTied, AreTied, Keeps, Takes, TakesAccept, TakesEvent}

same_number : (c : ℕ) → (c == c) ≡ true
same_number c = grind (arith, nat_tests)

other_number : (c d : ℕ) → d ≢ c → (c == d) ≡ false
other_number c d differs = grind (arith, nat_tests)

flow_more : (c : ℕ) (was : Flow) (log : List LogEntry) (e : LogEntry) → flow_after c was (log ++ e ∷ []) ≡ flow_by c (flow_after c was log) e
flow_more c was [] e = refl
flow_more c was (x ∷ log) e = flow_more c (flow_by c was x) log e

open_more : (c : ℕ) (was : Bool) (log : List LogEntry) (e : LogEntry) → open_after c was (log ++ e ∷ []) ≡ open_by c (open_after c was log) e
open_more c was [] e = refl
open_more c was (x ∷ log) e = open_more c (open_by c was x) log e

-- what an entry on connection c does to its own flow: it adds these bytes that went out and these that came
abbrev pub Adds : ℕ → LogEntry → List ℕ → List ℕ → Type 0
Adds c e gave took = (was : Flow) → flow_by c was e ≡ record { sent = was.sent ++ gave; came = was.came ++ took }

-- an entry that says nothing of connection d
pub record Leaves (d : ℕ) (e : LogEntry) : Type 0 where
  pub flow : (was : Flow) → flow_by d was e ≡ was
  pub opens : (was : Bool) → open_by d was e ≡ was

-- and that of every other it leaves
abbrev pub LeavesOthers : ℕ → LogEntry → Type 0
LeavesOthers c e = (d : ℕ) → d ≢ c → Leaves d e

if_true : {A : Type 0} (b : Bool) (x y : A) → b ≡ true → (if b then x else y) ≡ x
if_true true x y e = refl
if_true false x y e = absurd (cc)

if_false : {A : Type 0} (b : Bool) (x y : A) → b ≡ false → (if b then x else y) ≡ y
if_false true x y e = absurd (cc)
if_false false x y e = refl

pub sent_adds : (c : ℕ) (bytes : List ℕ) → Adds c (Sent c bytes) bytes []
sent_adds c bytes was = if_true (c == c) (record { sent = was.sent ++ bytes; came = was.came }) was (same_number c) ∙ ap (λ (l : List ℕ). let f : Flow = record { sent = was.sent ++ bytes; came = l } in f) (sym (append-nil was.came))

pub torn_adds : (c : ℕ) (bytes : List ℕ) (size : ℕ) → Adds c (Torn c bytes size) bytes []
torn_adds c bytes size was = if_true (c == c) (record { sent = was.sent ++ bytes; came = was.came }) was (same_number c) ∙ ap (λ (l : List ℕ). let f : Flow = record { sent = was.sent ++ bytes; came = l } in f) (sym (append-nil was.came))

pub came_adds : (c : ℕ) (bytes : List ℕ) → Adds c (Heard (Came c bytes)) [] bytes
came_adds c bytes was = if_true (c == c) (record { sent = was.sent; came = was.came ++ bytes }) was (same_number c) ∙ ap (λ (l : List ℕ). let f : Flow = record { sent = l; came = was.came ++ bytes } in f) (sym (append-nil was.sent))

pub sent_leaves : (c : ℕ) (bytes : List ℕ) → LeavesOthers c (Sent c bytes)
sent_leaves c bytes d differs = record { flow = λ was. if_false (c == d) (record { sent = was.sent ++ bytes; came = was.came }) was (other_number c d differs); opens = λ was. refl }

pub torn_leaves : (c : ℕ) (bytes : List ℕ) (size : ℕ) → LeavesOthers c (Torn c bytes size)
torn_leaves c bytes size d differs = record { flow = λ was. if_false (c == d) (record { sent = was.sent ++ bytes; came = was.came }) was (other_number c d differs); opens = λ was. refl }

pub came_leaves : (c : ℕ) (bytes : List ℕ) → LeavesOthers c (Heard (Came c bytes))
came_leaves c bytes d differs = record { flow = λ was. if_false (c == d) (record { sent = was.sent; came = was.came ++ bytes }) was (other_number c d differs); opens = λ was. refl }

pub opened_leaves : (c : ℕ) → LeavesOthers c (Heard (Opened c))
opened_leaves c d differs = record { flow = λ was. if_false (c == d) no_flow was (other_number c d differs); opens = λ was. if_false (c == d) true was (other_number c d differs) }

pub closed_leaves : (c : ℕ) → LeavesOthers c (Heard (Closed c))
closed_leaves c d differs = record { flow = λ was. refl; opens = λ was. if_false (c == d) false was (other_number c d differs) }

pub shut_leaves : (c : ℕ) → LeavesOthers c (Shut c)
shut_leaves c d differs = record { flow = λ was. refl; opens = λ was. if_false (c == d) false was (other_number c d differs) }

-- ---- one connection

-- nothing was given, and nothing taken
pub gives_none : (c : ℕ) (s s' : SocketsState) (unread unread' : List ℕ) → (s'.socket c).taken ≡ (s.socket c).taken → unread' ≡ unread → Gives c [] s unread s' unread'
gives_none c s s' unread unread' taken same came is = ap (λ (l : List ℕ). came ++ l) same ∙ is ∙ sym taken

-- a line of what was unread
pub gives_unread : (c : ℕ) (line : List ℕ) (s s' : SocketsState) (unread unread' : List ℕ) → (s'.socket c).taken ≡ (s.socket c).taken → unread ≡ line ++ unread' → Gives c line s unread s' unread'
gives_unread c line s s' unread unread' taken parts came is = ap (λ (l : List ℕ). came ++ l) (sym parts) ∙ is ∙ sym taken

-- a line of what was taken, where nothing was unread
pub gives_taken : (c : ℕ) (line took : List ℕ) (s s' : SocketsState) (unread unread' : List ℕ) → unread ≡ [] → (s'.socket c).taken ≡ (s.socket c).taken ++ took → took ≡ line ++ unread' → Gives c line s unread s' unread'
gives_taken c line took s s' unread unread' none taken parts came is =
    let all : came ≡ (s.socket c).taken = sym (append-nil came) ∙ ap (λ (l : List ℕ). came ++ l) (sym none) ∙ is in
    ap (λ (l : List ℕ). came ++ l) (sym parts) ∙ ap (λ (l : List ℕ). l ++ took) all ∙ sym taken

-- an entry on it
pub entry_ties : (c : ℕ) (e : LogEntry) (gave took : List ℕ) (s s' : SocketsState) (old new : Link) → Adds c e gave took
    → (IsTrue (is_there new.stage) → IsTrue (is_there old.stage)) → (IsTrue (is_open new.stage) → IsTrue (is_open old.stage)) → open_by c (is_open old.stage) e ≡ is_open new.stage
    → outgoing c s' new.waiting ≡ outgoing c s old.waiting ++ gave → (IsTrue (is_open new.stage) → Gives c took s old.unread s' new.unread) → (IsTrue (is_there new.stage) → EndsWell c s old s' new)
    → (log : List LogEntry) → IsTied c s log old → IsTied c s' (log ++ e ∷ []) new
entry_ties c e gave took s s' old new adds there opens turns goes comes ends log tied =
    let more : flow c (log ++ e ∷ []) ≡ record { sent = (flow c log).sent ++ gave; came = (flow c log).came ++ took } = flow_more c no_flow log e ∙ adds (flow c log) in
    record {
      opens = open_more c false log e ∙ ap (λ (b : Bool). open_by c b e) tied.opens ∙ turns;
      sends = λ is. ap (λ (f : Flow). f.sent) more ∙ ap (λ (l : List ℕ). l ++ gave) (tied.sends (there is)) ∙ sym goes;
      comes = λ is. ap (λ (f : Flow). f.came ++ new.unread) more ∙ append_assoc (flow c log).came took new.unread ∙ comes is (flow c log).came (tied.comes (opens is));
      ends = λ is. ends is (tied.ends (there is));
    }

-- no entry
pub keeps_tied : (c : ℕ) (s s' : SocketsState) (old new : Link)
    → (IsTrue (is_there new.stage) → IsTrue (is_there old.stage)) → is_open new.stage ≡ is_open old.stage
    → (IsTrue (is_there new.stage) → outgoing c s' new.waiting ≡ outgoing c s old.waiting) → (IsTrue (is_open new.stage) → Gives c [] s old.unread s' new.unread) → (IsTrue (is_there new.stage) → EndsWell c s old s' new)
    → (log : List LogEntry) → IsTied c s log old → IsTied c s' log new
keeps_tied c s s' old new there same goes comes ends log tied = record {
  opens = tied.opens ∙ sym same;
  sends = λ is. tied.sends (there is) ∙ sym (goes is);
  comes = λ is. comes is (flow c log).came (tied.comes (sym same ∙ is));
  ends = λ is. ends is (tied.ends (there is));
}

-- what is open is not ended
pub open_unended : (link : Link) → is_open link.stage ≡ true → is_ended link ≡ false
open_unended link opens = ap (λ (b : Bool). not b && (length link.waiting == 0)) opens

-- it was accepted
pub opened_ties : (c : ℕ) (s : SocketsState) (new : Link) → new.stage ≡ stage.Open → new.waiting ≡ [] → new.unread ≡ [] → (s.socket c).given ≡ [] → (s.socket c).taken ≡ [] → (s.socket c).shut ≡ false → (log : List LogEntry) → IsTied c s (log ++ Heard (Opened c) ∷ []) new
opened_ties c s new stage waits unread given taken shut log =
    let none : flow c (log ++ Heard (Opened c) ∷ []) ≡ no_flow = flow_more c no_flow log (Heard (Opened c)) ∙ if_true (c == c) no_flow (flow c log) (same_number c) in
    record {
      opens = open_more c false log (Heard (Opened c)) ∙ if_true (c == c) true (open_after c false log) (same_number c) ∙ sym (ap is_open stage);
      sends = λ is. ap (λ (f : Flow). f.sent) none ∙ sym (ap (λ (l : List ℕ). (s.socket c).given ++ l) waits ∙ append-nil ((s.socket c).given) ∙ given);
      comes = λ is. ap (λ (f : Flow). f.came ++ new.unread) none ∙ unread ∙ sym taken;
      ends = λ is. shut ∙ sym (open_unended new (ap is_open stage));
    }

-- ---- a turn

pub elsewhere_only : (c : ℕ) (s s' : SocketsState) → OnlyOn c s s' → IsTrue s.told → Elsewhere c s s'
elsewhere_only c s s' only told = only.elsewhere told

-- a piece comes only where it is open
pub piece_ties : (c n : ℕ) (buf : List ℕ) (s s' : SocketsState) (old new : Link) → (is_open old.stage ≡ false → (bytes : List ℕ) → LookFits (look.Piece n) bytes)
    → is_there new.stage ≡ is_there old.stage → is_open new.stage ≡ is_open old.stage → (is_open old.stage ≡ true → LookTells c (look.Piece n) buf s old.unread s' new.unread)
    → outgoing c s' new.waiting ≡ outgoing c s old.waiting → EndsWell c s old s' new → (log : List LogEntry) → IsTied c s log old → IsTied c s' (log ++ Heard (Came c (take n buf)) ∷ []) new
piece_ties c n buf s s' old new none there same hears goes ends =
    entry_ties c (Heard (Came c (take n buf))) [] (take n buf) s s' old new (came_adds c (take n buf)) (λ is. sym there ∙ is) (λ is. sym same ∙ is) (sym same)
    (goes ∙ sym (append-nil (outgoing c s old.waiting))) (λ is. hears (sym same ∙ is)) (λ is. ends)

-- nothing comes
pub quiet_ties : (c : ℕ) (s s' : SocketsState) (old new : Link) → is_there new.stage ≡ is_there old.stage → is_open new.stage ≡ is_open old.stage → (is_open old.stage ≡ true → Gives c [] s old.unread s' new.unread)
    → outgoing c s' new.waiting ≡ outgoing c s old.waiting → EndsWell c s old s' new → (log : List LogEntry) → IsTied c s log old → IsTied c s' log new
quiet_ties c s s' old new there same hears goes ends = keeps_tied c s s' old new (λ is. sym there ∙ is) same (λ is. goes) (λ is. hears (sym same ∙ is)) (λ is. ends)

-- it was open and is no more
pub closed_ties : (c : ℕ) (s s' : SocketsState) (old new : Link) → new.stage ≡ stage.Free → (log : List LogEntry) → IsTied c s log old → IsTied c s' (log ++ Heard (Closed c) ∷ []) new
closed_ties c s s' old new free log tied = record {
  opens = open_more c false log (Heard (Closed c)) ∙ if_true (c == c) false (open_after c false log) (same_number c) ∙ sym (ap is_open free);
  sends = λ is. absurd (let no : false ≡ true = ap is_there (sym free) ∙ is in cc);
  comes = λ is. absurd (let no : false ≡ true = ap is_open (sym free) ∙ is in cc);
  ends = λ is. absurd (let no : false ≡ true = ap is_there (sym free) ∙ is in cc);
}

-- it was not open and is no more
pub gone_ties : (c : ℕ) (s s' : SocketsState) (old new : Link) → new.stage ≡ stage.Free → is_open old.stage ≡ false → (log : List LogEntry) → IsTied c s log old → IsTied c s' log new
gone_ties c s s' old new free was log tied = record {
  opens = tied.opens ∙ was ∙ sym (ap is_open free);
  sends = λ is. absurd (let no : false ≡ true = ap is_there (sym free) ∙ is in cc);
  comes = λ is. absurd (let no : false ≡ true = ap is_open (sym free) ∙ is in cc);
  ends = λ is. absurd (let no : false ≡ true = ap is_there (sym free) ∙ is in cc);
}

-- ---- all of them

-- two logs say the same of connection d
pub record Agrees (d : ℕ) (log log' : List LogEntry) : Type 0 where
  pub flow : flow d log' ≡ flow d log
  pub opens : open_after d false log' ≡ open_after d false log

-- one is tied anew, and the logs say the same of the others
pub tied_at : (c : ℕ) (s s' : SocketsState) (log log' : List LogEntry) (links : List Link) (old new : Link) → c < length links → old ≡ get_or links c old → Elsewhere c s s'
    → ((d : ℕ) → d ≢ c → Agrees d log log') → (IsTied c s log old → IsTied c s' log' new) → AreTied s log links → AreTied s' log' (set links c new)
tied_at c s s' log log' links old new few is elsewhere others mine tied d link at = by (c == d) refl
  where
    here : get_or (set links c new) d link ≡ link
    here = get_or_from_slice_get (set links c new) d link link at

    within : d < length links
    within = subst (λ (n : ℕ). d < n) (length-set links c new) (slice_get_within (set links c new) d link at)

    mine_now : IsTied c s' log' new
    mine_now = mine (tied c old (slice_get_read links (length links) c old refl few is))

    same : c ≡ d → IsTied d s' log' link
    same e = subst (λ (l : Link). IsTied d s' log' l) (sym (get_or-set_same links c new link few) ∙ ap (λ (n : ℕ). get_or (set links c new) n link) e ∙ here) (subst (λ (n : ℕ). IsTied n s' log' new) e mine_now)

    kept : d ≢ c → get_or links d link ≡ link
    kept differs = sym (get_or-set_other links c d new link differs) ∙ here

    was : d ≢ c → IsTied d s log link
    was differs = tied d link (slice_get-get_or links d link within ∙ ap (λ (l : Link). let o = Some l in o) (kept differs))

    other : d ≢ c → IsTied d s' log' link
    other differs = record {
      opens = (others d differs).opens ∙ (was differs).opens;
      sends = λ h. ap (λ (f : Flow). f.sent) (others d differs).flow ∙ (was differs).sends h ∙ ap (λ (x : SocketState). x.given ++ link.waiting) (sym (elsewhere d differs));
      comes = λ h. ap (λ (f : Flow). f.came ++ link.unread) (others d differs).flow ∙ (was differs).comes h ∙ ap (λ (x : SocketState). x.taken) (sym (elsewhere d differs));
      ends = λ h. ap (λ (x : SocketState). x.shut) (elsewhere d differs) ∙ (was differs).ends h;
    }

    by : (b : Bool) → (c == d) ≡ b → IsTied d s' log' link
    by true e = same (grind (arith, nat_tests))
    by false e = other (λ same. absurd (grind (arith, nat_tests)))

-- the logs say the same of the others where one has an entry more on connection c
pub others_say : (c : ℕ) (e : LogEntry) → LeavesOthers c e → (log : List LogEntry) → (d : ℕ) → d ≢ c → Agrees d log (log ++ e ∷ [])
others_say c e leaves log d differs = record { flow = flow_more d no_flow log e ∙ (leaves d differs).flow (flow d log); opens = open_more d false log e ∙ (leaves d differs).opens (open_after d false log) }

-- no byte moved
pub tied_still : (s s' : SocketsState) (log : List LogEntry) (links : List Link) → ((d : ℕ) → s'.socket d ≡ s.socket d) → AreTied s log links → AreTied s' log links
tied_still s s' log links each tied c link at = record {
  opens = (tied c link at).opens;
  sends = λ h. (tied c link at).sends h ∙ ap (λ (x : SocketState). x.given ++ link.waiting) (sym (each c));
  comes = λ h. (tied c link at).comes h ∙ ap (λ (x : SocketState). x.taken) (sym (each c));
  ends = λ h. ap (λ (x : SocketState). x.shut) (each c) ∙ (tied c link at).ends h;
}

-- an entry that says nothing of any
pub entry_still : (s : SocketsState) (log : List LogEntry) (e : LogEntry) (links : List Link) → ((d : ℕ) → Leaves d e) → AreTied s log links → AreTied s (log ++ e ∷ []) links
entry_still s log e links stays tied c link at =
    let same : flow c (log ++ e ∷ []) ≡ flow c log = flow_more c no_flow log e ∙ (stays c).flow (flow c log) in
    record {
      opens = open_more c false log e ∙ (stays c).opens (open_after c false log) ∙ (tied c link at).opens;
      sends = λ h. ap (λ (f : Flow). f.sent) same ∙ (tied c link at).sends h;
      comes = λ h. ap (λ (f : Flow). f.came ++ link.unread) same ∙ (tied c link at).comes h;
      ends = (tied c link at).ends;
    }

-- ---- the calls of all connections

pub still : (s s' : SocketsState) (links : List Link) → MovedNothing s s' → Keeps s links s' links
still s s' links moved told log tied = tied_still s s' log links (moved.each told) tied

pub takes_at : (c : ℕ) (e : LogEntry) (s s' : SocketsState) (links : List Link) (old new : Link) → c < length links → old ≡ get_or links c old → (IsTrue s.told → Elsewhere c s s') → LeavesOthers c e
    → (IsTrue s.told → (log : List LogEntry) → IsTied c s log old → IsTied c s' (log ++ e ∷ []) new) → Takes e s links s' (slice_set links c new)
takes_at c e s s' links old new few is elsewhere leaves mine told log tied = tied_at c s s' log (log ++ e ∷ []) links old new few is (elsewhere told) (others_say c e leaves log) (mine told log) tied

pub keeps_at : (c : ℕ) (s s' : SocketsState) (links : List Link) (old new : Link) → c < length links → old ≡ get_or links c old → (IsTrue s.told → Elsewhere c s s')
    → (IsTrue s.told → (log : List LogEntry) → IsTied c s log old → IsTied c s' log new) → Keeps s links s' (slice_set links c new)
keeps_at c s s' links old new few is elsewhere mine told log tied = tied_at c s s' log log links old new few is (elsewhere told) (λ d differs. record { flow = refl; opens = refl }) (mine told log) tied

pub takes_still : (e : LogEntry) (s s' : SocketsState) (links links' : List Link) → ((d : ℕ) → Leaves d e) → Keeps s links s' links' → Takes e s links s' links'
takes_still e s s' links links' stays keeps told log tied = entry_still s' log e links' stays (keeps told log tied)

-- what waits was pushed out
pub flush_keeps : (c : ℕ) (s s' : SocketsState) (links : List Link) (old new : Link) → c < length links → old ≡ get_or links c old → OnlyOn c s s' → is_there new.stage ≡ is_there old.stage → is_open new.stage ≡ is_open old.stage
    → (IsTrue s.told → outgoing c s' new.waiting ≡ outgoing c s old.waiting) → (IsTrue s.told → (s'.socket c).taken ≡ (s.socket c).taken) → (is_open old.stage ≡ true → new.unread ≡ old.unread) → (IsTrue s.told → EndsWell c s old s' new) → Keeps s links s' (slice_set links c new)
flush_keeps c s s' links old new few is only there opens goes taken unread ends =
    keeps_at c s s' links old new few is (elsewhere_only c s s' only)
    (λ told. quiet_ties c s s' old new there opens (λ i. gives_none c s s' old.unread new.unread (taken told) (unread i)) (goes told) (ends told))

-- nothing was done
pub same_keeps : (c : ℕ) (s : SocketsState) (links : List Link) (link : Link) → c < length links → link ≡ get_or links c link → Keeps s links s (slice_set links c link)
same_keeps c s links link few is = keeps_at c s s links link link few is (λ told d differs. refl) (λ told log tied. tied)

-- a connection that is open sends
pub send_takes : (c : ℕ) (piece : List ℕ) (s : SocketsState) (links : List Link) (old new : Link) → c < length links → old ≡ get_or links c old → is_open old.stage ≡ true → new.stage ≡ old.stage
    → new.waiting ≡ old.waiting ++ piece → new.unread ≡ old.unread → Takes (Sent c piece) s links s (slice_set links c new)
send_takes c piece s links old new few is opens stage waits unread =
    takes_at c (Sent c piece) s s links old new few is (λ told d differs. refl) (sent_leaves c piece)
    (λ told. entry_ties c (Sent c piece) piece [] s s old new (sent_adds c piece) (λ i. ap is_there (sym stage) ∙ i) (λ i. ap is_open (sym stage) ∙ i) (ap is_open (sym stage))
    (ap (λ (l : List ℕ). (s.socket c).given ++ l) waits ∙ sym (append_assoc (s.socket c).given old.waiting piece)) (λ i. gives_none c s s old.unread new.unread refl unread)
    (λ i was. was ∙ open_unended old opens ∙ sym (open_unended new (ap is_open stage ∙ opens))))

same_ended : (old new : Link) → is_open new.stage ≡ is_open old.stage → new.waiting ≡ old.waiting → is_ended old ≡ is_ended new
same_ended old new opens waits = rw (opens, waits) refl

-- it takes nothing of a piece
pub unsent_keeps : (c : ℕ) (s : SocketsState) (links : List Link) (old new : Link) → c < length links → old ≡ get_or links c old → new.stage ≡ old.stage → new.waiting ≡ old.waiting → new.unread ≡ old.unread → Keeps s links s (slice_set links c new)
unsent_keeps c s links old new few is stage waits unread =
    keeps_at c s s links old new few is (λ told d differs. refl)
    (λ told. keeps_tied c s s old new (λ i. ap is_there (sym stage) ∙ i) (ap is_open stage) (λ i. ap (λ (l : List ℕ). (s.socket c).given ++ l) waits) (λ i. gives_none c s s old.unread new.unread refl unread) (λ i was. was ∙ same_ended old new (ap is_open stage) waits))

-- nothing went out of a send
nothing_torn : (c d size : ℕ) → Leaves d (Torn c [] size)
nothing_torn c d size = record { flow = λ was. by was (c == d); opens = λ was. refl }
  where
    by : (was : Flow) (b : Bool) → (if b then record { sent = was.sent ++ []; came = was.came } else was) ≡ was
    by was true = ap (λ (l : List ℕ). let f : Flow = record { sent = l; came = was.came } in f) (append-nil was.sent)
    by was false = refl

pub no_send_takes : (c size : ℕ) (s s' : SocketsState) (links links' : List Link) → Keeps s links s' links' → Takes (Torn c [] size) s links s' links'
no_send_takes c size s s' links links' keeps = takes_still (Torn c [] size) s s' links links' (λ d. nothing_torn c d size) keeps

-- a close told of connection c, that is not open behind it
pub shut_ties : (c : ℕ) (s s' : SocketsState) (old new : Link) → is_open new.stage ≡ false → (IsTrue (is_there new.stage) → IsTrue (is_there old.stage)) → outgoing c s' new.waiting ≡ outgoing c s old.waiting → (IsTrue (is_there new.stage) → EndsWell c s old s' new)
    → (log : List LogEntry) → IsTied c s log old → IsTied c s' (log ++ Shut c ∷ []) new
shut_ties c s s' old new ends there goes well log tied =
    let same : flow c (log ++ Shut c ∷ []) ≡ flow c log = flow_more c no_flow log (Shut c) in
    record {
      opens = open_more c false log (Shut c) ∙ if_true (c == c) false (open_after c false log) (same_number c) ∙ sym ends;
      sends = λ is. ap (λ (f : Flow). f.sent) same ∙ tied.sends (there is) ∙ sym goes;
      comes = λ is. absurd (let no : false ≡ true = sym ends ∙ is in cc);
      ends = λ is. well is (tied.ends (there is));
    }

same_there : (old : Stage) → is_open old ≡ true → IsTrue (is_there old)
same_there stage.Free h = absurd (cc)
same_there stage.Open h = refl
same_there stage.Closing h = refl
same_there stage.Finished h = refl

not_open : (b : Bool) → is_open (if b then stage.Finished else stage.Closing) ≡ false
not_open true = refl
not_open false = refl

-- a socket that was shut where nothing waited
shut_given : (b : Bool) (x : SocketState) → (shut_if b x).given ≡ x.given
shut_given true x = refl
shut_given false x = refl

shut_is : (b : Bool) (x : SocketState) → x.shut ≡ false → (shut_if b x).shut ≡ b
shut_is true x was = refl
shut_is false x was = was

closed_ended : (link : Link) (b : Bool) → is_open link.stage ≡ false → (length link.waiting == 0) ≡ b → is_ended link ≡ b
closed_ended link b ends waits = ap (λ (o : Bool). not o && (length link.waiting == 0)) ends ∙ waits

-- a connection that is open is closed
pub close_takes : (c : ℕ) (s s' : SocketsState) (links : List Link) (old new : Link) → c < length links → old ≡ get_or links c old → OnlyOn c s s' → (IsTrue s.told → s'.socket c ≡ shut_if (length old.waiting == 0) (s.socket c)) → is_open old.stage ≡ true
    → new.stage ≡ closed_behind old.waiting → new.waiting ≡ old.waiting → Takes (Shut c) s links s' (slice_set links c new)
close_takes c s s' links old new few is only shut opens stage waiting =
    let ends : is_open new.stage ≡ false = ap is_open stage ∙ not_open (length old.waiting == 0) in
    takes_at c (Shut c) s s' links old new few is (elsewhere_only c s s' only) (shut_leaves c)
    (λ told. shut_ties c s s' old new ends (λ i. same_there old.stage opens)
    (ap (λ (l : List ℕ). (s'.socket c).given ++ l) waiting ∙ ap (λ (x : SocketState). x.given ++ old.waiting) (shut told) ∙ ap (λ (l : List ℕ). l ++ old.waiting) (shut_given (length old.waiting == 0) (s.socket c)))
    (λ i was. ap (λ (x : SocketState). x.shut) (shut told) ∙ shut_is (length old.waiting == 0) (s.socket c) (was ∙ open_unended old opens) ∙ sym (closed_ended new (length old.waiting == 0) ends (ap (λ (l : List ℕ). length l == 0) waiting))))

-- one that is not open stays as it is
pub no_close_takes : (c : ℕ) (s : SocketsState) (links : List Link) (link : Link) → c < length links → link ≡ get_or links c link → is_open link.stage ≡ false → Takes (Shut c) s links s (slice_set links c link)
no_close_takes c s links link few is ends =
    takes_at c (Shut c) s s links link link few is (λ told d differs. refl) (shut_leaves c) (λ told. shut_ties c s s link link ends (λ i. i) refl (λ i was. was))

-- and so do all where there is none with the number
pub none_takes : (c : ℕ) (s : SocketsState) (links : List Link) → length links ≤ c → Takes (Shut c) s links s links
none_takes c s links past told log tied d link at =
    let within : d < length links = slice_get_within links d link at in
    let agrees : Agrees d log (log ++ Shut c ∷ []) = others_say c (Shut c) (shut_leaves c) log d (λ same. absurd (omega (arith, same))) in
    record {
      opens = agrees.opens ∙ (tied d link at).opens;
      sends = λ h. ap (λ (f : Flow). f.sent) agrees.flow ∙ (tied d link at).sends h;
      comes = λ h. ap (λ (f : Flow). f.came ++ link.unread) agrees.flow ∙ (tied d link at).comes h;
      ends = (tied d link at).ends;
    }

-- what is open is open by the log
pub open_by_log : (c : ℕ) (s : SocketsState) (log : List LogEntry) (links : List Link) (o : Option Link) → slice_get links c ≡ o → IsSomeAnd o (λ link. is_open link.stage ≡ true) → AreTied s log links → IsOpen c log
open_by_log c s log links None at h tied = absurd h
open_by_log c s log links (Some link) at h tied = (tied c link at).opens ∙ h

pub was_accepted : (b : Bool) (c : ℕ) (s s' : SocketsState) → b ≡ true → AcceptTells c (Ok b) s s' → Accepted c s s'
was_accepted true c s s' is tells = tells
was_accepted false c s s' is tells = absurd (cc)

pub none_accepted : (b : Bool) (c : ℕ) (s s' : SocketsState) → b ≡ false → AcceptTells c (Ok b) s s' → MovedNothing s s'
none_accepted true c s s' is tells = absurd (cc)
none_accepted false c s s' is tells = tells

-- a connection is accepted
pub accept_takes : (c : ℕ) (s s' : SocketsState) (links : List Link) (old new : Link) → c < length links → old ≡ get_or links c old → (IsTrue s.told → Accepted c s s') → new.stage ≡ stage.Open → new.waiting ≡ [] → new.unread ≡ [] → Takes (Heard (Opened c)) s links s' (slice_set links c new)
accept_takes c s s' links old new few is accepted stage waits unread =
    takes_at c (Heard (Opened c)) s s' links old new few is (λ told. (accepted told).others) (opened_leaves c) (λ told log tied. opened_ties c s' new stage waits unread (ap (λ (x : SocketState). x.given) (accepted told).fresh) (ap (λ (x : SocketState). x.taken) (accepted told).fresh) (ap (λ (x : SocketState). x.shut) (accepted told).fresh) log)

-- ---- one step behind another

pub keeps_then : (s s' s'' : SocketsState) (l l' l'' : List Link) → s'.told ≡ s.told → Keeps s l s' l' → Keeps s' l' s'' l'' → Keeps s l s'' l''
keeps_then s s' s'' l l' l'' same f h told log tied = h (subst IsTrue (sym same) told) log (f told log tied)

pub event_then : (found : Option Event) (buf : List ℕ) (s s' s'' : SocketsState) (l l' l'' : List Link) → s'.told ≡ s.told → Keeps s l s' l' → TakesEvent found buf s' l' s'' l'' → TakesEvent found buf s l s'' l''
event_then (Some event) buf s s' s'' l l' l'' same f h = λ told log tied. h (subst IsTrue (sym same) told) log (f told log tied)
event_then None buf s s' s'' l l' l'' same f h = λ told log tied. h (subst IsTrue (sym same) told) log (f told log tied)

pub accept_then : (r : Result (Option ℕ) Failed) (s s' s'' : SocketsState) (l l' l'' : List Link) → s'.told ≡ s.told → Keeps s l s' l' → TakesAccept r s' l' s'' l'' → TakesAccept r s l s'' l''
accept_then (Ok (Some c)) s s' s'' l l' l'' same f h = λ told log tied. h (subst IsTrue (sym same) told) log (f told log tied)
accept_then (Ok None) s s' s'' l l' l'' same f h = λ told log tied. h (subst IsTrue (sym same) told) log (f told log tied)
accept_then (Err e) s s' s'' l l' l'' same f h = λ told log tied. h (subst IsTrue (sym same) told) log (f told log tied)

-- ---- the watch of a wire

-- it is told of a step
pub told_step : (e : LogEntry) (w w' : WatchState) (s s' : SocketsState) (l l' : List Link) → Notes e w w' → Takes e s l s' l' → (IsTrue w.told → IsTrue s.told) → (IsTrue w.told → AreTied s w.log l) → IsTrue w'.told → AreTied s' w'.log l'
told_step e w w' s s' l l' notes takes tells tied on =
    let told = subst IsTrue notes.told on in
    subst (λ (log : List LogEntry). AreTied s' log l') (sym (notes.log told)) (takes (tells told) w.log (tied told))

-- it has nothing to be told of
pub quiet_step : (w w' : WatchState) (s s' : SocketsState) (l l' : List Link) → w'.told ≡ w.told → (IsTrue w.told → w'.log ≡ w.log) → Keeps s l s' l' → (IsTrue w.told → IsTrue s.told) → (IsTrue w.told → AreTied s w.log l) → IsTrue w'.told → AreTied s' w'.log l'
quiet_step w w' s s' l l' same log keeps tells tied on =
    let told = subst IsTrue same on in
    subst (λ (log : List LogEntry). AreTied s' log l') (sym (log told)) (keeps (tells told) w.log (tied told))

pub still_tells : (w w' : WatchState) (s s' : SocketsState) → w'.told ≡ w.told → s'.told ≡ s.told → (IsTrue w.told → IsTrue s.told) → IsTrue w'.told → IsTrue s'.told
still_tells w w' s s' same same' tells on = subst IsTrue (sym same') (tells (subst IsTrue same on))

-- connections are held to the seconds that it was told of last
idle_last : (was : ℕ) (heard : List (List ℕ × ℕ)) (address : List ℕ) (idle : ℕ) → idle_of was (heard ++ (address, idle) ∷ []) ≡ idle * 1000
idle_last was [] address idle = refl
idle_last was (h ∷ heard) address idle = idle_last h.1 heard address idle

pub still_heeds : (w w' : WatchState) (idle idle' : ℕ) → w'.told ≡ w.told → (IsTrue w.told → w'.heard ≡ w.heard) → idle' ≡ idle → (IsTrue w.told → idle ≡ idle_of 0 w.heard) → IsTrue w'.told → idle' ≡ idle_of 0 w'.heard
still_heeds w w' idle idle' same heard is heeds on = let told = subst IsTrue same on in is ∙ heeds told ∙ ap (idle_of 0) (sym (heard told))

pub now_heeds : (w w' : WatchState) (address : List ℕ) (idle idle' : ℕ) → w'.told ≡ w.told → (IsTrue w.told → w'.heard ≡ w.heard ++ (address, idle) ∷ []) → idle' ≡ idle * 1000 → IsTrue w'.told → idle' ≡ idle_of 0 w'.heard
now_heeds w w' address idle idle' same heard is on = is ∙ sym (idle_last 0 w.heard address idle) ∙ ap (idle_of 0) (sym (heard (subst IsTrue same on)))

-- no connection is there
pub free_ties : (s : SocketsState) (links : List Link) → All (λ link. link.stage ≡ stage.Free) links → AreTied s [] links
free_ties s links free c link at =
    let is : link.stage ≡ stage.Free = ap (λ (l : Link). l.stage) (sym (get_or_from_slice_get links c link link at)) ∙ free c link (slice_get_within links c link at) in
    record {
      opens = sym (ap is_open is);
      sends = λ h. absurd (let no : false ≡ true = ap is_there (sym is) ∙ h in cc);
      comes = λ h. absurd (let no : false ≡ true = ap is_open (sym is) ∙ h in cc);
      ends = λ h. absurd (let no : false ≡ true = ap is_there (sym is) ∙ h in cc);
    }

-- a watch that was told of nothing
pub begun : (w : WatchState) (s : SocketsState) (links : List Link) → (IsTrue w.told → w.log ≡ []) → AreTied s [] links → IsTrue w.told → AreTied s w.log links
begun w s links fresh tied told = subst (λ (log : List LogEntry). AreTied s log links) (sym (fresh told)) tied
