-- A piece, of which a front has been heard.
use Rattle.std.proofs.Common.{◌≡◌, ◌==◌, ℕ, ◌<◌, ◌≤◌, ◌&&◌, Bool, true, false, List, [], ◌∷◌, ◌++◌, length, take, drop, nat_lt, refl, sym, ◌∙◌, ap, subst, arith, append_assoc, Option, if◌then◌else◌}
use Rattle.std.proofs.lemmas.List.{append-nil, take-append-drop, length-take-le}
use Rattle.std.proofs.lemmas.Bool.Decides.{nat_tests}
use Rattle.cube_model.specs.declared.outcome.Outcome.{Outcome}
use Rattle.cube_io.specs.Desks.{Manner}
use Rattle.cube_io.specs.Wires.{LogEntry}
use Rattle.cube_http.specs.Stream.{Item}
use Rattle.cube_http.specs.declared.connection.Conn.{Conn}
use Rattle.cube_http.specs.declared.connection.Conn.TheVariants as conn
use Rattle.cube_http.specs.declared.connection.Heard.{Heard}
use Rattle.cube_server.specs.declared.deal.Left.{Left}
use Rattle.cube_server.specs.declared.deal.Left.TheVariants as left
use Rattle.cube_server.specs.Ears.{Keeps, said, said_before, kept_bytes, OnGoes, OnLeaves}
use Rattle.cube_server.specs.declared.lines.Ear.{Ear}
use Rattle.cube_http.specs.Hearing.{Hears}
use Rattle.cube_server.specs.Crashes.{Called}
use Rattle.cube_server.specs.Logs.{Call, Turn, dealt_all, dealt_with, behind}
use Rattle.cube_server.specs.Seen.{DeskState}
use Rattle.cube_server.specs.Steps.{Talks, Deals, turn, course, sends_in}
use Rattle.cube_server.proofs.Enduring.{called_none, called_then}
use Rattle.cube_server.proofs.Spoken.{talks_then}
use Rattle.cube_server.proofs.Streams.{OneHeard, one_heard, GoesOn, behind_piece, behind_all}

-- ---- items in a row

abbrev goes : Turn → Bool
goes t = t.live && nat_lt 0 t.course.asks

-- where the connection is closed or the asks are used up, items lead to nothing
stopped : (m : Manner) (c : ℕ) (xs : List Item) (t : Turn) → goes t ≡ false → dealt_all m c xs t ≡ t
stopped m c [] t e = refl
stopped m c (x ∷ xs) t e = ap (λ (b : Bool). if b then dealt_all m c xs (dealt_with m c x t) else t) e

dealt_more : (m : Manner) (c : ℕ) (xs ys : List Item) (t : Turn) → dealt_all m c (xs ++ ys) t ≡ dealt_all m c ys (dealt_all m c xs t)
dealt_more m c [] ys t = refl
dealt_more m c (x ∷ xs) ys t = by (goes t) refl (dealt_more m c xs ys (dealt_with m c x t))
  where
    by : (b : Bool) → goes t ≡ b → dealt_all m c (xs ++ ys) (dealt_with m c x t) ≡ dealt_all m c ys (dealt_all m c xs (dealt_with m c x t)) → dealt_all m c (x ∷ xs ++ ys) t ≡ dealt_all m c ys (dealt_all m c (x ∷ xs) t)
    by true e more = rw e more
    by false e more = rw e (sym (stopped m c ys t e))

-- ---- the piece

-- Of a piece a front has been heard, and what it says was dealt with.
pub record Progress (m : Manner) (c : ℕ) (stream piece rest bytes : List ℕ) (old new : DeskState) (log log' : List LogEntry) (calls : List Call) : Type 0 where
  pub past : List ℕ
  pub split : piece ≡ past ++ rest
  pub keeps : Keeps (stream ++ past) bytes
  pub asked : Called old new calls
  pub sends : List (Option ℕ)
  pub starved : List Bool
  pub shown : sends_in log' ≡ sends_in log ++ sends
  pub runs : (os : List Outcome) (ss : List (Option ℕ)) (bs : List Bool) (cs : List Call)
      → dealt_all m c (behind (length stream) (stream ++ piece)) (turn (course old.rooms old.capacity (asked.added ++ os) (sends ++ ss) (starved ++ bs) cs log) true)
      ≡ dealt_all m c (behind (length (stream ++ past)) (stream ++ piece)) (turn (course new.rooms new.capacity os ss bs (cs ++ calls) log') true)

pub progress_start : (m : Manner) (c : ℕ) (stream piece bytes : List ℕ) (desk : DeskState) (log : List LogEntry) → Keeps stream bytes → Progress m c stream piece piece bytes desk desk log log []
progress_start m c stream piece bytes desk log k = record {
  past = [];
  split = refl;
  keeps = rw append-nil k;
  asked = called_none desk;
  sends = [];
  starved = [];
  shown = sym (append-nil (sends_in log));
  runs = λ os ss bs cs. rw (append-nil stream, append-nil cs) refl;
}

-- what was open goes on as the stream does
pub goes_left : (l : Left) (n : Conn) (stream : List ℕ) → OnLeaves l n → GoesOn stream n → OnGoes l stream
goes_left (left.On ear) (conn.Head b) stream e k = subst (Keeps stream) (sym e) k
goes_left (left.On ear) (conn.Body b) stream e k = subst (Keeps stream) (sym e) k
goes_left (left.On ear) (conn.Done q) stream e k = subst (Keeps stream) (sym e) k
goes_left (left.On ear) (conn.Dead d) stream e k = absurd (cc)
goes_left (left.Off h) n stream e k = tt

-- what was said with one more piece, in front of what is said behind it
next_said : (stream past t rest piece : List ℕ) (h : Heard) (n : Conn) → piece ≡ past ++ (t ++ rest) → OneHeard (stream ++ past) t h n
    → behind (length (stream ++ past)) (stream ++ piece) ≡ said h n ++ behind (length (stream ++ (past ++ t))) (stream ++ piece)
next_said stream past t rest piece h n split one =
    let whole : stream ++ piece ≡ (stream ++ past) ++ (t ++ rest) = ap (λ (l : List ℕ). stream ++ l) split ∙ sym (append_assoc stream past (t ++ rest)) in
    ap (behind (length (stream ++ past))) whole ∙ behind_piece (stream ++ past) t rest
    ∙ ap (λ (l : List Item). l ++ behind (length ((stream ++ past) ++ t)) ((stream ++ past) ++ (t ++ rest))) one.says
    ∙ ap (λ (l : List ℕ). said h n ++ behind (length l) ((stream ++ past) ++ (t ++ rest))) (append_assoc stream past t)
    ∙ ap (λ (l : List ℕ). said h n ++ behind (length (stream ++ (past ++ t))) l) (sym whole)

-- one part more was heard and dealt with
onward : (m : Manner) (c : ℕ) (stream piece t rest bytes : List ℕ) (h : Heard) (n : Conn) (a x y : DeskState) (log u v : List LogEntry) (live : Bool) (xs ys : List Call)
    → (g : Progress m c stream piece (t ++ rest) bytes a x log u xs) → OneHeard (stream ++ g.past) t h n → (d : Deals c (dealt_all m c (said h n)) live x y u v ys)
    → (os : List Outcome) (ss : List (Option ℕ)) (bs : List Bool) (cs : List Call)
    → dealt_all m c (behind (length stream) (stream ++ piece)) (turn (course a.rooms a.capacity ((g.asked.added ++ d.asked.added) ++ os) ((g.sends ++ d.sends) ++ ss) ((g.starved ++ d.starved) ++ bs) cs log) true)
    ≡ dealt_all m c (behind (length (stream ++ (g.past ++ t))) (stream ++ piece)) (turn (course y.rooms y.capacity os ss bs (cs ++ (xs ++ ys)) v) live)
onward m c stream piece t rest bytes h n a x y log u v live xs ys g one d os ss bs cs =
    let after = behind (length (stream ++ (g.past ++ t))) (stream ++ piece) in
    rw (append_assoc g.asked.added d.asked.added os, append_assoc g.sends d.sends ss, append_assoc g.starved d.starved bs) (
    g.runs (d.asked.added ++ os) (d.sends ++ ss) (d.starved ++ bs) cs
    ∙ ap (λ (l : List Item). dealt_all m c l (turn (course x.rooms x.capacity (d.asked.added ++ os) (d.sends ++ ss) (d.starved ++ bs) (cs ++ xs) u) true)) (next_said stream g.past t rest piece h n g.split one)
    ∙ dealt_more m c (said h n) after (turn (course x.rooms x.capacity (d.asked.added ++ os) (d.sends ++ ss) (d.starved ++ bs) (cs ++ xs) u) true)
    ∙ ap (dealt_all m c after) (d.runs os ss bs (cs ++ xs))
    ∙ ap (λ (l : List Call). dealt_all m c after (turn (course y.rooms y.capacity os ss bs l v) live)) (append_assoc cs xs ys)
    )

pub one_more : (m : Manner) (c : ℕ) (stream piece t rest bytes bytes' : List ℕ) (h : Heard) (n : Conn) (a x y : DeskState) (log u v : List LogEntry) (xs ys : List Call)
    → x.manner ≡ a.manner → (g : Progress m c stream piece (t ++ rest) bytes a x log u xs) → OneHeard (stream ++ g.past) t h n → Deals c (dealt_all m c (said h n)) true x y u v ys → Keeps (stream ++ (g.past ++ t)) bytes'
    → Progress m c stream piece rest bytes' a y log v (xs ++ ys)
one_more m c stream piece t rest bytes bytes' h n a x y log u v xs ys same g one d k = record {
  past = g.past ++ t;
  split = g.split ∙ sym (append_assoc g.past t rest);
  keeps = k;
  asked = called_then a x y xs ys same g.asked d.asked;
  sends = g.sends ++ d.sends;
  starved = g.starved ++ d.starved;
  shown = d.shown ∙ ap (λ (l : List (Option ℕ)). l ++ d.sends) g.shown ∙ append_assoc (sends_in log) g.sends d.sends;
  runs = onward m c stream piece t rest bytes h n a x y log u v true xs ys g one d;
}

-- ---- its end

no_asks : nat_lt 0 0 ≡ false
no_asks = refl

-- the connection was closed
pub piece_closed : (m : Manner) (c : ℕ) (stream piece t rest bytes : List ℕ) (h : Heard) (n : Conn) (a x y : DeskState) (log u v : List LogEntry) (xs ys : List Call)
    → x.manner ≡ a.manner → (g : Progress m c stream piece (t ++ rest) bytes a x log u xs) → OneHeard (stream ++ g.past) t h n → Deals c (dealt_all m c (said h n)) false x y u v ys → Talks c log u true
    → Deals c (dealt_all m c (behind (length stream) (stream ++ piece))) false a y log v (xs ++ ys)
piece_closed m c stream piece t rest bytes h n a x y log u v xs ys same g one d talks = record {
  talks = talks_then c log u v false talks d.talks;
  asked = called_then a x y xs ys same g.asked d.asked;
  sends = g.sends ++ d.sends;
  starved = g.starved ++ d.starved;
  shown = d.shown ∙ ap (λ (l : List (Option ℕ)). l ++ d.sends) g.shown ∙ append_assoc (sends_in log) g.sends d.sends;
  runs = λ os ss bs cs.
      onward m c stream piece t rest bytes h n a x y log u v false xs ys g one d os ss bs cs
      ∙ stopped m c (behind (length (stream ++ (g.past ++ t))) (stream ++ piece)) (turn (course y.rooms y.capacity os ss bs (cs ++ (xs ++ ys)) v) false) refl;
}

-- the asks are used up
pub piece_spent : (m : Manner) (c : ℕ) (stream piece rest bytes : List ℕ) (a x : DeskState) (log u : List LogEntry) (calls : List Call) → Progress m c stream piece rest bytes a x log u calls → Talks c log u true → x.capacity ≡ 0
    → Deals c (dealt_all m c (behind (length stream) (stream ++ piece))) true a x log u calls
piece_spent m c stream piece rest bytes a x log u calls g talks none = record {
  talks = talks;
  asked = g.asked;
  sends = g.sends;
  starved = g.starved;
  shown = g.shown;
  runs = λ os ss bs cs.
      g.runs os ss bs cs ∙ stopped m c (behind (length (stream ++ g.past)) (stream ++ piece)) (turn (course x.rooms x.capacity os ss bs (cs ++ calls) u) true) (ap (nat_lt 0) none);
}

-- all of it was heard
pub piece_heard : (m : Manner) (c : ℕ) (stream piece bytes : List ℕ) (a x : DeskState) (log u : List LogEntry) (calls : List Call) → Progress m c stream piece [] bytes a x log u calls → Talks c log u true
    → Deals c (dealt_all m c (behind (length stream) (stream ++ piece))) true a x log u calls × Keeps (stream ++ piece) bytes
piece_heard m c stream piece bytes a x log u calls g talks =
    let all : piece ≡ g.past = g.split ∙ append-nil g.past in (
      record {
        talks = talks;
        asked = g.asked;
        sends = g.sends;
        starved = g.starved;
        shown = g.shown;
        runs = λ os ss bs cs.
            g.runs os ss bs cs
            ∙ ap (λ (l : List ℕ). dealt_all m c (behind (length (stream ++ l)) (stream ++ piece)) (turn (course x.rooms x.capacity os ss bs (cs ++ calls) u) true)) (sym all)
            ∙ ap (λ (l : List Item). dealt_all m c l (turn (course x.rooms x.capacity os ss bs (cs ++ calls) u) true)) (behind_all (stream ++ piece));
      },
      rw all g.keeps,
    )

pub none_left : (xs : List ℕ) → (length xs == 0) ≡ true → xs ≡ []
none_left [] e = refl
none_left (x ∷ xs) e = absurd (some_left x xs e)
  where
    some_left : (x : ℕ) (xs : List ℕ) → (length (x ∷ xs) == 0) ≡ true → ⊥
    some_left x xs e = grind (arith, nat_tests)

-- ---- one feed

-- the rest of a piece, as what was used and what is left
cut_rest : (m : Manner) (c : ℕ) (stream piece rest bytes : List ℕ) (used : ℕ) (a x : DeskState) (log u : List LogEntry) (calls : List Call) → Progress m c stream piece rest bytes a x log u calls
    → Progress m c stream piece (take used rest ++ drop used rest) bytes a x log u calls
cut_rest m c stream piece rest bytes used a x log u calls g = subst (λ (l : List ℕ). Progress m c stream piece l bytes a x log u calls) (sym (take-append-drop used rest)) g

used_some : (used : ℕ) (rest : List ℕ) → 0 < used → used ≤ length rest → 0 < length (take used rest)
used_some used rest some few = omega (arith, some, length-take-le used rest few)

-- the connection is open behind what was used
pub step_on : (m : Manner) (c : ℕ) (stream piece rest : List ℕ) (used : ℕ) (e next : Ear) (h : Heard) (n : Conn) (a x y : DeskState) (log u v : List LogEntry) (xs ys : List Call)
    → Progress m c stream piece rest (kept_bytes e) a x log u xs → x.manner ≡ m → x.manner ≡ a.manner → 0 < used → used ≤ length rest → Hears (said_before e) (kept_bytes e ++ take used rest) h n
    → Deals c (dealt_all x.manner c (said h n)) true x y u v ys → OnLeaves (left.On next) n → Progress m c stream piece (drop used rest) (kept_bytes next) a y log v (xs ++ ys)
step_on m c stream piece rest used e next h n a x y log u v xs ys was same kept some few hears deals leaves =
    let d : Deals c (dealt_all m c (said h n)) true x y u v ys = subst (λ (k : Manner). Deals c (dealt_all k c (said h n)) true x y u v ys) same deals in
    let g = cut_rest m c stream piece rest (kept_bytes e) used a x log u xs was in
    let t = take used rest in
    let one = one_heard e (stream ++ g.past) t h n g.keeps (used_some used rest some few) hears in
    let keeps : Keeps (stream ++ (g.past ++ t)) (kept_bytes next) = subst (λ (l : List ℕ). Keeps l (kept_bytes next)) (append_assoc stream g.past t) (goes_left (left.On next) n ((stream ++ g.past) ++ t) leaves one.goes) in
    one_more m c stream piece t (drop used rest) (kept_bytes e) (kept_bytes next) h n a x y log u v xs ys kept g one d keeps

-- it was closed there
pub step_off : (m : Manner) (c : ℕ) (stream piece rest : List ℕ) (used : ℕ) (e : Ear) (h : Heard) (n : Conn) (a x y : DeskState) (log u v : List LogEntry) (xs ys : List Call)
    → Progress m c stream piece rest (kept_bytes e) a x log u xs → x.manner ≡ m → x.manner ≡ a.manner → 0 < used → used ≤ length rest → Hears (said_before e) (kept_bytes e ++ take used rest) h n
    → Deals c (dealt_all x.manner c (said h n)) false x y u v ys → Talks c log u true → Deals c (dealt_all m c (behind (length stream) (stream ++ piece))) false a y log v (xs ++ ys)
step_off m c stream piece rest used e h n a x y log u v xs ys was same kept some few hears deals talks =
    let d : Deals c (dealt_all m c (said h n)) false x y u v ys = subst (λ (k : Manner). Deals c (dealt_all k c (said h n)) false x y u v ys) same deals in
    let g = cut_rest m c stream piece rest (kept_bytes e) used a x log u xs was in
    let t = take used rest in
    let one = one_heard e (stream ++ g.past) t h n g.keeps (used_some used rest some few) hears in
    piece_closed m c stream piece t (drop used rest) (kept_bytes e) h n a x y log u v xs ys kept g one d talks
