-- What goes out on a connection, in terms of the definition of the log.
use Rattle.std.proofs.Common.{◌≡◌, ℕ, ◌==◌, Bool, true, false, List, [], ◌∷◌, ◌++◌, length, take, refl, sym, ◌∙◌, ap, subst, append_assoc, Option, Some, None, if◌then◌else◌}
use Rattle.std.proofs.lemmas.List.{append-nil}
use Rattle.std.proofs.Math.Seq.{take-append_seam}
use Rattle.std.proofs.lemmas.List.Elements.{filter_map-append}
use Rattle.cube_io.specs.Wires.{LogEntry, IsSound, sound_after, sound_by, IsOpen, open_after, open_by, events_in, event_in}
use Rattle.cube_io.specs.Wires.Arrival.{Opened, Came, Closed, End}
use Rattle.cube_io.specs.Wires.LogEntry.{Heard, Sent, Torn, Shut}
use Rattle.cube_model.specs.declared.reply.Reply.{Reply}
use Rattle.cube_http.specs.Responses.{head_bytes, body_of}
use Rattle.cube_server.specs.Logs.{Course, Turn, spoken, spoken_all, shut_if, replied}
use Rattle.cube_server.specs.Steps.{Talks, Speaks, turn, speaking, sends_in, send_of, body_sends}

false_is_not_true : false ≡ true → ⊥
false_is_not_true e = cc

pub sound_more : (c : ℕ) (was : Bool) (log more : List LogEntry) → sound_after c was (log ++ more) ≡ sound_after c (sound_after c was log) more
sound_more c was [] more = refl
sound_more c was (e ∷ log) more = sound_more c (sound_by c was e) log more

pub sends_more : (log more : List LogEntry) → sends_in (log ++ more) ≡ sends_in log ++ sends_in more
sends_more log more = filter_map-append send_of log more

pub events_more : (log more : List LogEntry) → events_in (log ++ more) ≡ events_in log ++ events_in more
events_more log more = filter_map-append event_in log more

open_more : (c : ℕ) (was : Bool) (log more : List LogEntry) → open_after c was (log ++ more) ≡ open_after c (open_after c was log) more
open_more c was [] more = refl
open_more c was (e ∷ log) more = open_more c (open_by c was e) log more

-- where a send may go out, the connection is open
abbrev Implies : Bool → Bool → Type 0
Implies a b = a ≡ true → b ≡ true

where_either : (t a b : Bool) (k : Bool) → Implies a b → Implies (if t then k else a) (if t then k else b)
where_either true a b k f = λ e. e
where_either false a b k f = f

where_torn : (t a b : Bool) → Implies a b → Implies (if t then false else a) b
where_torn true a b f = λ e. absurd (false_is_not_true e)
where_torn false a b f = f

sound_open_by : (c : ℕ) (a b : Bool) (e : LogEntry) → Implies a b → Implies (sound_by c a e) (open_by c b e)
sound_open_by c a b (Heard (Opened d)) f = where_either (d == c) a b true f
sound_open_by c a b (Heard (Came d bytes)) f = f
sound_open_by c a b (Heard (Closed d)) f = where_either (d == c) a b false f
sound_open_by c a b (Heard End) f = f
sound_open_by c a b (Sent d bytes) f = f
sound_open_by c a b (Torn d bytes size) f = where_torn (d == c) a b f
sound_open_by c a b (Shut d) f = where_either (d == c) a b false f

pub sound_open : (c : ℕ) (a b : Bool) (log : List LogEntry) → Implies a b → Implies (sound_after c a log) (open_after c b log)
sound_open c a b [] f = f
sound_open c a b (e ∷ log) f = sound_open c (sound_by c a e) (open_by c b e) log (sound_open_by c a b e f)

-- behind a send that failed the connection is open
pub still_open : (c : ℕ) (said : List ℕ) (size : ℕ) (log log' : List LogEntry) → IsSound c log → log' ≡ log ++ Torn c said size ∷ [] → IsOpen c log'
still_open c said size log log' o e = rw (e, open_more c false log (Torn c said size ∷ [])) (sound_open c false false log (λ f. f) o)

pub all_spoken : (c : ℕ) (piece : List ℕ) (log log' : List LogEntry) → log' ≡ log ++ Sent c piece ∷ [] → Speaks c (spoken c piece) log log' true
all_spoken c piece log log' e = rw e (record {
  talks = record {
    quiet = events_more log (Sent c piece ∷ []) ∙ append-nil (events_in log);
    others = λ d n. sound_more d false log (Sent c piece ∷ []);
    stays = λ l. sound_more c false log (Sent c piece ∷ []);
  };
  sends = None ∷ [];
  shown = sends_more log (Sent c piece ∷ []);
  runs = λ k left. refl;
})

pub some_spoken : (c : ℕ) (piece said unsaid : List ℕ) (log mid log' : List LogEntry) → piece ≡ said ++ unsaid → mid ≡ log ++ Torn c said (length piece) ∷ [] → log' ≡ mid ++ Shut c ∷ [] → Speaks c (spoken c piece) log log' false
some_spoken c piece said unsaid log mid log' split torn shut =
    let whole : log' ≡ log ++ Torn c said (length piece) ∷ Shut c ∷ [] = shut ∙ ap (λ (l : List LogEntry). l ++ Shut c ∷ []) torn ∙ append_assoc log (Torn c said (length piece) ∷ []) (Shut c ∷ []) in
    let front : take (length said) piece ≡ said = ap (take (length said)) split ∙ take-append_seam said unsaid in
    let more = Torn c said (length piece) ∷ Shut c ∷ [] in
    rw whole (record {
      talks = record {
        quiet = events_more log more ∙ append-nil (events_in log);
        others = λ d n. sound_more d false log more ∙ rw n refl;
        stays = λ l. absurd (false_is_not_true l);
      };
      sends = Some (length said) ∷ [];
      shown = sends_more log more;
      runs = λ k left. rw (front, append_assoc log (Torn c said (length piece) ∷ []) (Shut c ∷ [])) refl;
    })

-- a step that does nothing
pub none_spoken : (c : ℕ) (op : Turn → Turn) (log : List LogEntry) → ((k : Course) → op (turn k true) ≡ turn k true) → Speaks c op log log true
none_spoken c op log same = record {
  talks = record { quiet = refl; others = λ d n. refl; stays = λ l. refl };
  sends = [];
  shown = sym (append-nil (sends_in log));
  runs = λ k left. same (speaking k left log);
}

-- the connection is closed
pub shut_spoken : (c : ℕ) (log log' : List LogEntry) → log' ≡ log ++ Shut c ∷ [] → Speaks c (shut_if true c) log log' false
shut_spoken c log log' e = rw e (record {
  talks = record {
    quiet = events_more log (Shut c ∷ []) ∙ append-nil (events_in log);
    others = λ d n. sound_more d false log (Shut c ∷ []) ∙ rw n refl;
    stays = λ l. absurd (false_is_not_true l);
  };
  sends = [];
  shown = sends_more log (Shut c ∷ []);
  runs = λ k left. refl;
})

-- one step behind another
pub talks_then : (c : ℕ) (a b d : List LogEntry) (live : Bool) → Talks c a b true → Talks c b d live → Talks c a d live
talks_then c a b d live f g = record {
  quiet = g.quiet ∙ f.quiet;
  others = λ n e. g.others n e ∙ f.others n e;
  stays = λ l. g.stays l ∙ f.stays refl;
}

pub spoken_then : (c : ℕ) (op op' : Turn → Turn) (a b d : List LogEntry) (live : Bool) → Speaks c op a b true → Speaks c op' b d live → Speaks c (λ t. op' (op t)) a d live
spoken_then c op op' a b d live f g = record {
  talks = talks_then c a b d live f.talks g.talks;
  sends = f.sends ++ g.sends;
  shown = g.shown ∙ ap (λ (l : List (Option ℕ)). l ++ g.sends) f.shown ∙ append_assoc (sends_in a) f.sends g.sends;
  runs = λ k left.
      ap (λ (l : List (Option ℕ)). op' (op (turn (speaking k l a) true))) (append_assoc f.sends g.sends left)
      ∙ ap op' (f.runs k (g.sends ++ left)) ∙ g.runs k left;
}

-- behind a step that closed the connection the next one does nothing
pub spoken_off : (c : ℕ) (op op' : Turn → Turn) (a b : List LogEntry) → ((k : Course) → op' (turn k false) ≡ turn k false) → Speaks c op a b false → Speaks c (λ t. op' (op t)) a b false
spoken_off c op op' a b same f = record {
  talks = f.talks;
  sends = f.sends;
  shown = f.shown;
  runs = λ k left. ap op' (f.runs k left) ∙ same (speaking k left b);
}

-- a closed connection is sent nothing
pub closed_silent : (c : ℕ) (pieces : List (List ℕ)) (k : Course) → spoken_all c pieces (turn k false) ≡ turn k false
closed_silent c [] k = refl
closed_silent c (p ∷ ps) k = closed_silent c ps k

shut_silent : (close : Bool) (c : ℕ) (k : Course) → shut_if close c (turn k false) ≡ turn k false
shut_silent true c k = refl
shut_silent false c k = refl

-- a whole reply, and its close
pub whole_reply : (c : ℕ) (r : Reply) (close head_only : Bool) (head body : List ℕ) (w x y z : List LogEntry) (live : Bool) → head ≡ head_bytes r close → body ≡ body_of r
    → Speaks c (spoken c head) w x true → Speaks c (spoken_all c (body_sends head_only body)) x y true → Speaks c (shut_if close c) y z live → Speaks c (replied c r close head_only) w z live
whole_reply c r close head_only head body w x y z live eh eb f g h =
    let whole : Speaks c (λ t. shut_if close c (spoken_all c (body_sends head_only body) (spoken c head t))) w z live =
    spoken_then c (spoken c head) (λ t. shut_if close c (spoken_all c (body_sends head_only body) t)) w x z live f (spoken_then c (spoken_all c (body_sends head_only body)) (shut_if close c) x y z live g h) in
    subst (λ (l : List ℕ). Speaks c (λ t. shut_if close c (spoken_all c (body_sends head_only (body_of r)) (spoken c l t))) w z live) eh
    (subst (λ (l : List ℕ). Speaks c (λ t. shut_if close c (spoken_all c (body_sends head_only l) (spoken c head t))) w z live) eb whole)

-- the send of its body failed
pub half_reply : (c : ℕ) (r : Reply) (close head_only : Bool) (head body : List ℕ) (w x y : List LogEntry) → head ≡ head_bytes r close → body ≡ body_of r
    → Speaks c (spoken c head) w x true → Speaks c (spoken_all c (body_sends head_only body)) x y false → Speaks c (replied c r close head_only) w y false
half_reply c r close head_only head body w x y eh eb f g =
    let whole : Speaks c (λ t. shut_if close c (spoken_all c (body_sends head_only body) (spoken c head t))) w y false =
    spoken_then c (spoken c head) (λ t. shut_if close c (spoken_all c (body_sends head_only body) t)) w x y false f (spoken_off c (spoken_all c (body_sends head_only body)) (shut_if close c) x y (shut_silent close c) g) in
    subst (λ (l : List ℕ). Speaks c (λ t. shut_if close c (spoken_all c (body_sends head_only (body_of r)) (spoken c l t))) w y false) eh
    (subst (λ (l : List ℕ). Speaks c (λ t. shut_if close c (spoken_all c (body_sends head_only l) (spoken c head t))) w y false) eb whole)

-- the send of its head failed
pub no_reply : (c : ℕ) (r : Reply) (close head_only : Bool) (head : List ℕ) (w x : List LogEntry) → head ≡ head_bytes r close → Speaks c (spoken c head) w x false → Speaks c (replied c r close head_only) w x false
no_reply c r close head_only head w x eh f =
    subst (λ (l : List ℕ). Speaks c (λ t. shut_if close c (spoken_all c (body_sends head_only (body_of r)) (spoken c l t))) w x false) eh
    (spoken_off c (spoken c head) (λ t. shut_if close c (spoken_all c (body_sends head_only (body_of r)) t)) w x (λ k. ap (shut_if close c) (closed_silent c (body_sends head_only (body_of r)) k) ∙ shut_silent close c k) f)

pub talks_none : (c : ℕ) (log : List LogEntry) → Talks c log log true
talks_none c log = record { quiet = refl; others = λ d n. refl; stays = λ l. refl }
