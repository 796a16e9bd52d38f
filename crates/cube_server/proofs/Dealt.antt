-- What a request leads to, in terms of the definition of the log.
use Rattle.std.proofs.Common.{◌≡◌, ◌≢◌, ℕ, ◌+◌, ◌-◌, ◌≤◌, Bool, true, false, List, [], ◌∷◌, ◌++◌, nat_lt, refl, sym, ◌∙◌, ap, arith}
use Rattle.std.proofs.lemmas.List.{append-nil}
use Rattle.std.proofs.lemmas.Bool.Decides.{nat_tests}
use Rattle.cube_model.specs.declared.ask.Ask.{Ask}
use Rattle.cube_model.specs.declared.outcome.Outcome.{Outcome}
use Rattle.cube_model.specs.declared.outcome.Outcome.TheVariants.{Given, JournalFault, NoMemory}
use Rattle.cube_model.specs.declared.reply.Fixed.{Fixed}
use Rattle.cube_model.specs.declared.reply.Fixed.TheVariants as constant
use Rattle.cube_model.specs.declared.reply.Reply.{Reply}
use Rattle.cube_model.specs.declared.reply.Reply.TheVariants as reply
use Rattle.cube_model.specs.Rooms.{Room}
use Rattle.cube_io.specs.Desks.{Manner, IsConstant}
use Rattle.cube_io.specs.Wires.{LogEntry}
use Rattle.cube_http.specs.Checks.{closes}
use Rattle.cube_http.specs.Methods.{kind_of, is_head}
use Rattle.cube_http.specs.Stream.{Request, Item}
use Rattle.cube_http.specs.Stream.Item.{Continue, Bad}
use Rattle.cube_http.specs.declared.connection.Heard.{Heard as Sound}
use Rattle.cube_http.specs.declared.connection.Heard.TheVariants as sound
use Rattle.cube_http.specs.declared.targets.Wanted.{Wanted}
use Rattle.cube_http.specs.declared.targets.Wanted.TheVariants.{Asked, Constant}
use Rattle.cube_server.specs.Crashes.{Called}
use Rattle.cube_server.specs.Logs.{Call, Turn, replied, answered, wanted_by, dealt_with, dealt_all}
use Rattle.cube_server.specs.Seen.{DeskState}
use Rattle.cube_server.specs.Steps.{Speaks, Deals, turn, course, body_said, dead_said}
use Rattle.cube_server.specs.Ears.{said_in_body, said_to_dead}
use Rattle.cube_server.proofs.Enduring.{OneMiss, called_none, called_once, called_missed}
use Rattle.cube_server.proofs.Spoken.{none_spoken}

-- the reply to a request went out
abbrev pub Replies : ℕ → Request → Reply → List LogEntry → List LogEntry → Bool → Type 0
Replies c q r log log' live = Speaks c (replied c r (closes q.head) (is_head (kind_of q.head.method))) log log' live

less_one : (a b : ℕ) → b + 1 ≡ a → a - 1 ≡ b
less_one a b e = omega (arith, e)

pub asked_deals : (c : ℕ) (q : Request) (ask : Ask) (o : Outcome) (r : Reply) (old new : DeskState) (log log' : List LogEntry) (live : Bool)
    → new.outcomes ≡ old.outcomes ++ o ∷ [] → r ≡ old.manner.reply old.rooms ask o → new.rooms ≡ old.manner.next old.rooms ask o → new.capacity + 1 ≡ old.capacity
    → (o ≡ JournalFault → old.manner.next old.rooms ask Given ≢ old.rooms) → Replies c q r log log' live
    → Deals c (wanted_by old.manner (Asked ask) c q) live old new log log' (record { ask = ask; outcome = o } ∷ [])
asked_deals c q ask o r old new log log' live gained er en one fresh s =
    let handled : Call = record { ask = ask; outcome = o } in
    let next : List Room = old.manner.next old.rooms ask o in
    record {
      talks = s.talks;
      asked = called_once ask o old new gained en fresh;
      sends = s.sends;
      starved = [];
      shown = s.shown;
      runs = λ os ss bs cs.
          ap (λ (z : Reply). answered c q z (turn (course next (old.capacity - 1) os (s.sends ++ ss) bs (cs ++ handled ∷ []) log) true)) (sym er)
          ∙ s.runs (course next (old.capacity - 1) os [] bs (cs ++ handled ∷ []) []) ss
          ∙ ap (λ (n : ℕ). turn (course next n os ss bs (cs ++ handled ∷ []) log') live) (less_one old.capacity new.capacity one)
          ∙ ap (λ (z : List Room). turn (course z new.capacity os ss bs (cs ++ handled ∷ []) log') live) (sym en);
    }

pub constant_deals : (c : ℕ) (q : Request) (f : Fixed) (desk : DeskState) (log log' : List LogEntry) (live : Bool)
    → Replies c q (reply.Fixed f) log log' live → Deals c (wanted_by desk.manner (Constant f) c q) live desk desk log log' []
constant_deals c q f desk log log' live s = record {
  talks = s.talks;
  asked = called_none desk;
  sends = s.sends;
  starved = false ∷ [];
  shown = s.shown;
  runs = λ os ss bs cs. s.runs (course desk.rooms desk.capacity os [] bs cs []) ss ∙ ap (λ (z : List Call). turn (course desk.rooms desk.capacity os ss bs z log') live) (sym (append-nil cs));
}

pub starved_deals : (c : ℕ) (q : Request) (f : Fixed) (old new : DeskState) (log log' : List LogEntry) (live : Bool) → OneMiss old new → Replies c q (reply.Fixed constant.NoMemory) log log' live
    → Deals c (wanted_by old.manner (Constant f) c q) live old new log log' []
starved_deals c q f old new log log' live one s = record {
  talks = s.talks;
  asked = called_missed old new one;
  sends = s.sends;
  starved = true ∷ [];
  shown = s.shown;
  runs = λ os ss bs cs.
      s.runs (course old.rooms (old.capacity - 1) os [] bs cs []) ss
      ∙ ap (λ (n : ℕ). turn (course old.rooms n os ss bs cs log') live) (less_one old.capacity new.capacity one.capacity)
      ∙ ap (λ (z : List Room). turn (course z new.capacity os ss bs cs log') live) (sym one.rooms)
      ∙ ap (λ (z : List Call). turn (course new.rooms new.capacity os ss bs z log') live) (sym (append-nil cs));
}

-- what is asked by a request that found no memory before it reached the desk
abbrev pub missed_calls : Wanted → List Call
missed_calls (Asked ask) = record { ask = ask; outcome = NoMemory } ∷ []
missed_calls (Constant f) = []

pub missed_called : (w : Wanted) (old new : DeskState) → IsConstant old.manner → OneMiss old new → Called old new (missed_calls w)
missed_called (Asked ask) old new k one = called_once ask NoMemory old new one.added (one.rooms ∙ sym (k.memory old.rooms ask).1) (λ e. cc)
missed_called (Constant f) old new k one = called_missed old new one

pub missed_deals : (w : Wanted) (c : ℕ) (q : Request) (old new : DeskState) (log log' : List LogEntry) (live : Bool) → IsConstant old.manner → OneMiss old new → Replies c q (reply.Fixed constant.NoMemory) log log' live
    → Deals c (wanted_by old.manner w c q) live old new log log' (missed_calls w)
missed_deals (Asked ask) c q old new log log' live k one s =
    asked_deals c q ask NoMemory (reply.Fixed constant.NoMemory) old new log log' live one.added (sym (k.memory old.rooms ask).0) (one.rooms ∙ sym (k.memory old.rooms ask).1) one.capacity (λ e. cc) s
missed_deals (Constant f) c q old new log log' live k one s = starved_deals c q f old new log log' live one s

-- ---- items

-- sends alone
pub speech_deals : (c : ℕ) (op : Turn → Turn) (desk : DeskState) (log log' : List LogEntry) (live : Bool) → Speaks c op log log' live → Deals c op live desk desk log log' []
speech_deals c op desk log log' live s = record {
  talks = s.talks;
  asked = called_none desk;
  sends = s.sends;
  starved = [];
  shown = s.shown;
  runs = λ os ss bs cs. s.runs (course desk.rooms desk.capacity os [] bs cs []) ss ∙ ap (λ (z : List Call). turn (course desk.rooms desk.capacity os ss bs z log') live) (sym (append-nil cs));
}

more_asks : (asks : ℕ) → 1 ≤ asks → nat_lt 0 asks ≡ true
more_asks asks h = grind (arith, nat_tests)

-- one item
pub one_dealt : (m : Manner) (c : ℕ) (i : Item) (old new : DeskState) (log log' : List LogEntry) (live : Bool) (calls : List Call) → 1 ≤ old.capacity
    → Deals c (dealt_with m c i) live old new log log' calls → Deals c (dealt_all m c (i ∷ [])) live old new log log' calls
one_dealt m c i old new log log' live calls some d = record {
  talks = d.talks;
  asked = d.asked;
  sends = d.sends;
  starved = d.starved;
  shown = d.shown;
  runs = λ os ss bs cs. rw (more_asks old.capacity some) (d.runs os ss bs cs);
}

pub body_dealt : (m : Manner) (c : ℕ) (waits : Bool) (desk : DeskState) (log log' : List LogEntry) (live : Bool) → 1 ≤ desk.capacity
    → Speaks c (body_said c waits) log log' live → Deals c (dealt_all m c (said_in_body waits)) live desk desk log log' []
body_dealt m c true desk log log' live some s = one_dealt m c Continue desk desk log log' live [] some (speech_deals c (dealt_with m c Continue) desk log log' live s)
body_dealt m c false desk log log' live some s = speech_deals c (λ t. t) desk log log' live s

pub dead_dealt : (m : Manner) (c : ℕ) (h : Sound) (desk : DeskState) (log log' : List LogEntry) (live : Bool) → 1 ≤ desk.capacity
    → Speaks c (dead_said c h) log log' live → Deals c (dealt_all m c (said_to_dead h)) live desk desk log log' []
dead_dealt m c sound.More desk log log' live some s = speech_deals c (λ t. t) desk log log' live s
dead_dealt m c sound.Continue desk log log' live some s = speech_deals c (λ t. t) desk log log' live s
dead_dealt m c sound.Whole desk log log' live some s = speech_deals c (λ t. t) desk log log' live s
dead_dealt m c (sound.Bad f) desk log log' live some s = one_dealt m c (Bad f) desk desk log log' live [] some (speech_deals c (dealt_with m c (Bad f)) desk log log' live s)

-- nothing was said
pub none_dealt : (m : Manner) (c : ℕ) (desk : DeskState) (log : List LogEntry) → Deals c (dealt_all m c []) true desk desk log log []
none_dealt m c desk log = speech_deals c (λ t. t) desk log log true (none_spoken c (λ t. t) log (λ k. refl))
