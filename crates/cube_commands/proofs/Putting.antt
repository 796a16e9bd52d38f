-- What is put of the answers of the one group.
use Rattle.std.proofs.Common.{◌≡◌, ◌≢◌, ◌∙◌, ◌≤◌, ◌+◌, ◌*◌, ◌++◌, ◌∷◌, ℕ, IsTrue, List, [], refl, sym, ap, subst, arith}
use Rattle.std.specs.Prelude.{Option, Some}
use Rattle.cube_model.specs.declared.entry.Entry.{Entry}
use Rattle.cube_model.specs.declared.outcome.Outcome.{Outcome}
use Rattle.cube_model.specs.declared.policy.Policy.{Policy}
use Rattle.cube_model.specs.Cores.{Core, world}
use Rattle.cube_model.specs.Rooms.{Room, alone}
use Rattle.cube_io.specs.Causes.{RoseBy}
use Rattle.cube_io.specs.Desks.{Manner, entries, faults_in}
use Rattle.cube_io.specs.Seen.{FolderState, StoreState, seen}
use Rattle.cube_io.specs.States.{Gained}
use Rattle.cube_journal.specs.Keeping.{Journal, IsInRecovery}
use Rattle.cube_engine.specs.Kept.{history_of, IsExact}
use Rattle.cube_engine.specs.Steps.{manner}
use Rattle.cube_engine.specs.Worlds.{first_history}
use Rattle.cube_opening.specs.declared.cube_files.CubeFiles.{CubeFiles}
use Rattle.cube_seal.specs.Seals.{seal_log}
use Rattle.cube_talk.specs.Asks.{said, rooms_behind}
use Rattle.cube_talk.specs.CrashLaws.{serves_onward}
use Rattle.cube_talk.specs.Crashes.{AnswersDurably, Survives}
use Rattle.cube_talk.specs.Moments.{Moment}
use Rattle.cube_talk.specs.Putting.{IsNext, says_over}
use Rattle.cube_starting.specs.NamedBooks.{Groups, rooms_of}
use Rattle.cube_starting.specs.OneCube.{IsOpen, Survived}
use Rattle.cube_starting.proofs.OpenGroups.{SealsLeft}
use Rattle.cube_starting.proofs.Started.{still_open}
use Rattle.cube_commands.specs.Talks.{IsPut, Stage}
use Rattle.cube_commands.proofs.Lives.{moment_of, alone_of, elsewhere, survived_by, held_by}

-- groups answer lines over a store
abbrev pub serving : {S : Type 0} → (S → StoreState) → Groups → S → List (List ℕ) → Groups → S → List ℕ → Type 0
serving {S} tells x s ls y t text = AnswersDurably (moment_of x (tells s)) (moment_of y (tells t)) ls text

-- how many requests they hold
abbrev pub held_in : Groups → ℕ
held_in x = entries (rooms_of x.books)

-- this piece comes next of their answers
abbrev pub IsServedNext : {S : Type 0} → (S → StoreState) → Groups → S → Option (List ℕ) → Groups → S → List ℕ → List ℕ → Type 0
IsServedNext {S} tells x mid start now t bytes piece = IsNext {X = Groups × S} (says_over (serving tells)) (λ (y : Groups × S). held_in y.0) (x, mid) start (now, t) (Some bytes) piece

module _ {S : Type 0} (cube : CubeFiles) (files : FolderState) (tells : S → StoreState) (old mid : S) (core : Core) (policy : Policy) (h : List Entry) (j : Journal) (stated : ℕ) (start : Option (List ℕ))
    (open_mid : IsOpen cube files (seen tells old mid) core policy h) (zeroth : j.log ≡ 0) (told_mid : (tells mid).told ≡ (tells old).told) (steady : (tells mid).faults ≡ (tells old).faults)
    (exact : IsTrue (tells old).told → IsExact core policy h ((tells mid).logs 0).state)
    (passed : IsTrue (tells old).told → Gained (IsInRecovery (history_of core policy) ((tells old).logs 0).state) ((tells old).logs 0) ((tells mid).logs 0))
    (few : IsTrue (tells old).told → (tells mid).calls ≤ (tells old).calls + (1 + 11 * 1)) where
  -- a piece that is next in the talk is put of the answers of the cube
  pub is_put : (now : Groups) (t : S) (bytes piece : List ℕ) → IsServedNext tells (alone_of core policy h j stated) mid start now t bytes piece → IsPut cube files (seen tells old t) start bytes piece
  is_put now t bytes piece n =
      let m = manner core.dims in
      let first = alone_of core policy h j stated in
      let x = moment_of first (tells mid) in
      let y = moment_of n.after_first.0 (tells n.after_first.1) in
      let z = moment_of n.after_idle.0 (tells n.after_idle.1) in
      let w = moment_of now (tells t) in
      let a = n.answered in
      let b = n.kept_none in
      let c = n.answered_last in
      let ab = serves_onward x y z n.first n.idle n.written n.text a b in
      let abc = serves_onward x z w (n.first ++ n.idle) n.last (n.written ++ n.text) n.reply ab c in
      let os = ((a.0).added ++ (b.0).added) ++ (c.0).added in
      let ls = (n.first ++ n.idle) ++ n.last in
      let added : (abc.0).added ≡ os =
      sym (abc.0).outcomes_are ∙ (c.0).outcomes_are ∙ ap (λ (l : List Outcome). l ++ (c.0).added) ((b.0).outcomes_are ∙ ap (λ (l : List Outcome). l ++ (b.0).added) (a.0).outcomes_are) in
      let lives : Survives x w ls os = subst (λ (l : List Outcome). Survives x w ls l) added abc.1 in
      let behind : rooms_of now.books ≡ rooms_behind m (alone (world core policy) h) ls os = subst (λ (l : List Outcome). rooms_of now.books ≡ rooms_behind m (alone (world core policy) h) ls l) added (abc.0).rooms_are in
      let tells_mid : IsTrue (tells old).told → IsTrue (tells mid).told = λ told. subst IsTrue (sym told_mid) told in
      let left : SealsLeft tells old mid t = λ told k low. lives.others (tells_mid told) (seal_log k) (λ rooms s v. elsewhere core policy h j stated rooms (seal_log k) s zeroth (λ zero. omega (arith, zero, low)) v) in
      let same_y : y.manner ≡ m = (a.0).manner in
      let same_z : z.manner ≡ m = (b.0).manner ∙ same_y in
      let stage : Stage = record { lines = ls; outcomes = os; rooms = rooms_of now.books } in
      record {
        core = core;
        policy = policy;
        history = h;
        opened = still_open cube files tells old mid t core policy h left open_mid;
        stage = stage;
        next = record {
          first = n.first;
          after_first = record { lines = n.first; outcomes = (a.0).added; rooms = rooms_of (n.after_first.0).books };
          written = n.written;
          answered = record { lines_are = refl; added = (a.0).added; outcomes_are = refl; in_turn = (a.0).matched; text_is = (a.0).text_is; rooms_are = (a.0).rooms_are };
          idle = n.idle;
          after_idle = record { lines = n.first ++ n.idle; outcomes = (a.0).added ++ (b.0).added; rooms = rooms_of (n.after_idle.0).books };
          text = n.text;
          kept_none = record {
            lines_are = refl;
            added = (b.0).added;
            outcomes_are = refl;
            in_turn = (b.0).matched;
            text_is = subst (λ (q : Manner). n.text ≡ said q (rooms_of (n.after_first.0).books) n.idle (b.0).added) same_y (b.0).text_is;
            rooms_are = subst (λ (q : Manner). rooms_of (n.after_idle.0).books ≡ rooms_behind q (rooms_of (n.after_first.0).books) n.idle (b.0).added) same_y (b.0).rooms_are;
          };
          same = n.same;
          last = n.last;
          reply = n.reply;
          answered_last = record {
            lines_are = refl;
            added = (c.0).added;
            outcomes_are = refl;
            in_turn = (c.0).matched;
            text_is = subst (λ (q : Manner). n.reply ≡ said q (rooms_of (n.after_idle.0).books) n.last (c.0).added) same_z (c.0).text_is;
            rooms_are = subst (λ (q : Manner). rooms_of now.books ≡ rooms_behind q (rooms_of (n.after_idle.0).books) n.last (c.0).added) same_z (c.0).rooms_are;
          };
          one = n.one;
          part = n.part;
          stands = n.stands;
          rest = n.rest;
          whole = n.whole;
        };
        kept = record {
          survived = λ told. (subst (λ (rs : List Room). Survived core policy h (first_history rs) os (seen tells old t)) (sym behind) (survived_by core policy h j stated now (tells mid) (seen tells old t) ls os zeroth (tells_mid told) (exact told) (passed told) lives behind), tt);
          held = λ told. (held_by core policy h j stated now (tells mid) (seen tells old t) ls os zeroth (tells_mid told) (exact told) (passed told) lives, tt);
          failed = subst (λ (k : ℕ). RoseBy (faults_in os) k (tells t).faults) steady (subst (λ (l : List Outcome). RoseBy (faults_in l) (tells mid).faults (tells t).faults) added (abc.0).risen);
          few = λ told. let first = few told in let then = lives.calls (tells_mid told) in omega (arith, first, then);
        };
      }
