-- What an event leads to, in terms of the definition of the log.
use Rattle.std.proofs.Common.{◌≡◌, inl, inr, ℕ, ◌<◌, ◌||◌, Bool, true, false, List, [], ◌∷◌, ◌++◌, length, nat_lt, refl, sym, ◌∙◌, ap, arith, if◌then◌else◌}
use Rattle.std.proofs.lemmas.List.{append-nil}
use Rattle.std.proofs.lemmas.Bool.Decides.{nat_tests}
use Rattle.cube_model.specs.declared.reply.Fixed.TheVariants as constant
use Rattle.cube_model.specs.declared.reply.Reply.TheVariants as reply
use Rattle.cube_io.specs.Desks.{Manner}
use Rattle.cube_io.specs.Wires.{LogEntry, IsSound}
use Rattle.cube_io.specs.Wires.Arrival.{Opened, Came, Closed}
use Rattle.cube_server.specs.declared.deal.Left.TheVariants as left
use Rattle.cube_server.specs.declared.lines.Ear.{Ear}
use Rattle.cube_server.specs.declared.lines.Line.{Line}
use Rattle.cube_server.specs.Ears.{Keeps, kept_bytes, AreKept, AreOpen, AreOpenBut, has, IsTakenOut, IsAnew}
use Rattle.cube_server.specs.Logs.{Call, Turn, Run, replied, dealt_all, behind, is_open, came_on, without, most_conns, met, kept}
use Rattle.cube_server.specs.Seen.{DeskState}
use Rattle.cube_server.specs.Steps.{Speaks, Deals, Meets, HearsPiece, course, run, sends_in}
use Rattle.cube_server.proofs.Enduring.{called_none}
use Rattle.cube_server.proofs.Lookup.{line, taken_kept, none_kept, as_many, put_kept, others_stay, but_one, all_open, taken_open, taken_is_open, put_open}
use Rattle.cube_server.proofs.Streams.{keeps_none}

-- nothing was sent and nothing asked
quiet_meets : (op : Run → Run) (lines : List Line) (conns conns' : List (ℕ × List ℕ)) (desk : DeskState) (log : List LogEntry) → AreKept lines conns' → AreOpen lines log
    → ((r : Run) → r.conns ≡ conns → op r ≡ record r { conns = conns' }) → Meets op lines conns desk desk log log []
quiet_meets op lines conns conns' desk log k o same = record {
  conns' = conns';
  kept = λ some. k;
  live = o;
  quiet = refl;
  asked = called_none desk;
  sends = [];
  starved = [];
  shown = sym (append-nil (sends_in log));
  runs = λ n os ss bs cs. same (run conns n (course desk.rooms desk.capacity os ss bs cs log)) refl ∙ ap (λ (z : List Call). run conns' n (course desk.rooms desk.capacity os ss bs z log)) (sym (append-nil cs));
}

-- what is known where one was taken out
pub record Taken (c : ℕ) (e : Ear) (new : List Line) (conns : List (ℕ × List ℕ)) : Type 0 where
  pub is : is_open c conns ≡ true
  pub keeps : Keeps (came_on c conns) (kept_bytes e)
  pub kept : AreKept new (without c conns)

take_one : (c : ℕ) (e : Ear) (old new : List Line) (conns : List (ℕ × List ℕ)) → IsTakenOut c e old new → AreKept old conns → Taken c e new conns
take_one c e old new conns t k =
    let r = taken_kept c e t.front t.after conns t.first (rw t.was at k) in
    record { is = r.0; keeps = r.1; kept = rw t.now r.2 }

left_open : (c : ℕ) (e : Ear) (old new : List Line) (log : List LogEntry) → IsTakenOut c e old new → AreOpenBut c old log → (has c new ≡ false) × AreOpen new log
left_open c e old new log t o = rw t.now (taken_open c e t.front t.after log t.first (rw t.was at o))

-- ---- closed

pub closed_meets : (m : Manner) (c : ℕ) (e : Ear) (old new last : List Line) (conns : List (ℕ × List ℕ)) (desk : DeskState) (log : List LogEntry)
    → IsTakenOut c e old new → last ≡ new → AreKept old conns → AreOpenBut c old log → Meets (met m (Closed c)) last conns desk desk log log []
closed_meets m c e old new last conns desk log t l k o =
    let one = take_one c e old new conns t k in
    rw l (quiet_meets (met m (Closed c)) new conns (without c conns) desk log one.kept ((left_open c e old new log t o).1) (λ r is. ap (λ (z : List (ℕ × List ℕ)). record r { conns = without c z }) is))

pub unknown_closed : (m : Manner) (c : ℕ) (old new : List Line) (conns : List (ℕ × List ℕ)) (desk : DeskState) (log : List LogEntry)
    → has c old ≡ false → new ≡ old → AreKept old conns → AreOpenBut c old log → Meets (met m (Closed c)) new conns desk desk log log []
unknown_closed m c old new conns desk log none same k o =
    let n = none_kept c old conns none k in
    rw same (quiet_meets (met m (Closed c)) old conns conns desk log k (all_open c old log none o) (λ r is. ap (λ (z : List (ℕ × List ℕ)). record r { conns = without c z }) is ∙ ap (λ (z : List (ℕ × List ℕ)). record r { conns = z }) n.1))

-- ---- opened

-- the test whether there is space
abbrev capacity_for : ℕ → List (ℕ × List ℕ) → Bool
capacity_for c conns = is_open c conns || nat_lt (length conns) most_conns

or_true : (a b : Bool) → b ≡ true → (a || b) ≡ true
or_true true b e = refl
or_true false b e = e

new_conn : (m : Manner) (c : ℕ) (new : List Line) (e : Ear) (conns : List (ℕ × List ℕ)) (desk : DeskState) (log : List LogEntry)
    → capacity_for c conns ≡ true → AreKept new (without c conns) → has c new ≡ false → AreOpen new log → IsSound c log → kept_bytes e ≡ []
    → Meets (met m (Opened c)) (new ++ line c e ∷ []) conns desk desk log log []
new_conn m c new e conns desk log capacity k none o here fresh =
    quiet_meets (met m (Opened c)) (new ++ line c e ∷ []) conns (without c conns ++ (c, []) ∷ []) desk log
    (put_kept c e [] new (without c conns) k (rw fresh keeps_none)) (put_open c e new log none o here)
    (λ r is. let t : capacity_for c r.conns ≡ true = rw is capacity in rw t (ap (λ (z : List (ℕ × List ℕ)). record r { conns = without c z ++ (c, []) ∷ [] }) is))

pub opened_meets : (m : Manner) (c : ℕ) (old new last : List Line) (e : Ear) (conns : List (ℕ × List ℕ)) (desk : DeskState) (log : List LogEntry)
    → IsAnew c old new → last ≡ new ++ line c e ∷ [] → kept_bytes e ≡ [] → AreKept old conns → AreOpenBut c old log → IsSound c log
    → Meets (met m (Opened c)) last conns desk desk log log []
opened_meets m c old new last e conns desk log (inl (was, t)) l fresh k o here =
    let one = take_one c was old new conns t k in
    let opened = left_open c was old new log t o in
    rw l (new_conn m c new e conns desk log (rw one.is refl) one.kept opened.0 opened.1 here fresh)
opened_meets m c old new last e conns desk log (inr (none, few, same)) l fresh k o here =
    let n = none_kept c old conns none k in
    let many = as_many old conns k in
    let capacity : nat_lt (length conns) 64 ≡ true = grind (arith, nat_tests, many, few) in
    let kept : AreKept old (without c conns) = rw n.1 k in
    rw (l, same) (new_conn m c old e conns desk log (or_true (is_open c conns) (nat_lt (length conns) 64) capacity) kept none (all_open c old log none o) here fresh)

-- there was no space
pub busy_meets : (m : Manner) (c : ℕ) (old new : List Line) (conns : List (ℕ × List ℕ)) (desk : DeskState) (log log' : List LogEntry) (live : Bool)
    → has c old ≡ false → length old ≡ 64 → new ≡ old → AreKept old conns → AreOpenBut c old log → Speaks c (replied c (reply.Fixed constant.Busy) true false) log log' live
    → Meets (met m (Opened c)) new conns desk desk log log' []
busy_meets m c old new conns desk log log' live none full same k o s =
    let n = none_kept c old conns none k in
    let many = as_many old conns k in
    let capacity : nat_lt (length conns) 64 ≡ false = grind (arith, nat_tests, many, full) in
    record {
      conns' = conns;
      kept = λ some. rw same k;
      live = rw same (all_open c old log' none (others_stay c old log log' s.talks.others o));
      quiet = s.talks.quiet;
      asked = called_none desk;
      sends = s.sends;
      starved = [];
      shown = s.shown;
      runs = λ i os ss bs cs.
          rw (n.0, capacity) (ap (λ (t : Turn). run conns i t.course) (s.runs (course desk.rooms desk.capacity os [] bs cs []) ss) ∙ ap (λ (z : List Call). run conns i (course desk.rooms desk.capacity os ss bs z log')) (sym (append-nil cs)));
    }

-- ---- a piece came

pub dropped_meets : (m : Manner) (c : ℕ) (piece : List ℕ) (old new : List Line) (conns : List (ℕ × List ℕ)) (desk : DeskState) (log : List LogEntry)
    → has c old ≡ false → new ≡ old → AreKept old conns → AreOpen old log → Meets (met m (Came c piece)) new conns desk desk log log []
dropped_meets m c piece old new conns desk log none same k o =
    let n = none_kept c old conns none k in
    rw same (quiet_meets (met m (Came c piece)) old conns conns desk log k o (λ r is. let t : is_open c r.conns ≡ false = rw is n.0 in rw t (ap (λ (z : List (ℕ × List ℕ)). record r { conns = z }) is)))

-- what is left of the connections behind a piece
abbrev pub left_conns : Bool → ℕ → List ℕ → List (ℕ × List ℕ) → List (ℕ × List ℕ)
left_conns live c text conns = without c conns ++ (if live then (c, text) ∷ [] else [])

came_meets : (m : Manner) (c : ℕ) (piece : List ℕ) (live : Bool) (last : List Line) (conns : List (ℕ × List ℕ)) (x y : DeskState) (u v : List LogEntry) (calls : List Call) → is_open c conns ≡ true
    → Deals c (dealt_all m c (behind (length (came_on c conns)) (came_on c conns ++ piece))) live x y u v calls
    → (0 < y.capacity → AreKept last (left_conns live c (came_on c conns ++ piece) conns)) → AreOpen last v → Meets (met m (Came c piece)) last conns x y u v calls
came_meets m c piece live last conns x y u v calls is d k opens = record {
  conns' = left_conns live c (came_on c conns ++ piece) conns;
  kept = k;
  live = opens;
  quiet = d.talks.quiet;
  asked = d.asked;
  sends = d.sends;
  starved = d.starved;
  shown = d.shown;
  runs = λ n os ss bs cs.
      rw is (ap (kept c (came_on c conns ++ piece) (run conns n (course x.rooms x.capacity (d.asked.added ++ os) (d.sends ++ ss) (d.starved ++ bs) cs u))) (d.runs os ss bs cs));
}

-- the connection stays open
pub piece_on : (c : ℕ) (piece : List ℕ) (e e' : Ear) (old new last : List Line) (conns : List (ℕ × List ℕ)) (x y : DeskState) (u v : List LogEntry) (calls : List Call)
    → IsTakenOut c e old new → last ≡ new ++ line c e' ∷ [] → AreKept old conns → AreOpen old u
    → ((stream : List ℕ) → Keeps stream (kept_bytes e) → HearsPiece c stream piece (left.On e') x y u v calls)
    → Meets (met x.manner (Came c piece)) last conns x y u v calls
piece_on c piece e e' old new last conns x y u v calls t l k opens heard =
    let one = take_one c e old new conns t k in
    let text = came_on c conns in
    let h = heard text one.keeps in
    let d = h.deals in
    let opened = left_open c e old new v t (others_stay c old u v d.talks.others (but_one c old u opens)) in
    let here : IsSound c v = rw (d.talks.stays refl) (taken_is_open c e t.front t.after u (rw t.was at opens)) in
    came_meets x.manner c piece true last conns x y u v calls one.is d (λ some. rw l (put_kept c e' (text ++ piece) new (without c conns) one.kept (h.goes some))) (rw l (put_open c e' new v opened.0 opened.1 here))

-- it was closed
pub piece_off : (c : ℕ) (piece : List ℕ) (e : Ear) (head : List ℕ) (old new last : List Line) (conns : List (ℕ × List ℕ)) (x y : DeskState) (u v : List LogEntry) (calls : List Call)
    → IsTakenOut c e old new → last ≡ new → AreKept old conns → AreOpen old u
    → ((stream : List ℕ) → Keeps stream (kept_bytes e) → HearsPiece c stream piece (left.Off head) x y u v calls)
    → Meets (met x.manner (Came c piece)) last conns x y u v calls
piece_off c piece e head old new last conns x y u v calls t l k opens heard =
    let one = take_one c e old new conns t k in
    let d = (heard (came_on c conns) one.keeps).deals in
    let opened = left_open c e old new v t (others_stay c old u v d.talks.others (but_one c old u opens)) in
    came_meets x.manner c piece false last conns x y u v calls one.is d (λ some. rw (l, append-nil (without c conns)) one.kept) (rw l opened.1)
