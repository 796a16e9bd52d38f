-- The one room with the empty name, a request that enters a history, and a book where something waits.
use Rattle.std.proofs.Common.{◌≡◌, ◌≢◌, refl, sym, ap, ◌∙◌, arith, ℕ, true, false, List, [], ◌∷◌, ◌++◌, length, length-append, subst, Option}
use Rattle.cube_model.specs.declared.ask.Ask.{Ask}
use Rattle.cube_model.specs.declared.entry.Entry.{Entry}
use Rattle.cube_model.specs.declared.entry.Entry.TheVariants.{Asked}
use Rattle.cube_model.specs.declared.ask.Question.{Question}
use Rattle.cube_model.specs.declared.outcome.Outcome.{Outcome}
use Rattle.cube_model.specs.declared.reply.Reply.{Reply}
use Rattle.cube_model.specs.declared.request.Request.{Request}
use Rattle.cube_model.specs.Cubes.{World, same}
use Rattle.cube_model.specs.Dims.{Dims}
use Rattle.cube_model.specs.Rooms.{aim, alone, missed_by}
use Rattle.cube_model.specs.Runs.{reply_by}
use Rattle.cube_io.specs.Seen.{StoreState}
use Rattle.cube_engine.specs.Books.{Book, with_waiting, AnswersOne}
use Rattle.cube_engine.specs.Steps.{by_words, manner}

-- ---- the name of a group is the empty one, or another

pub sides : (name : List ℕ) → same name [] ≡ same [] name
sides [] = refl
sides (b ∷ name) = refl

-- what is asked of the room
pub own_reply : (s : Dims) (w : World) (h : List Entry) (a : Ask) (o : Outcome) → same [] (aim a.group) ≡ true → (manner s).reply (alone w h) a o ≡ reply_by (by_words s) o a.question w h
own_reply s w h a o own = rw own refl

-- what is asked of a group that there is none of
pub other_reply : (s : Dims) (w : World) (h : List Entry) (a : Ask) (o : Outcome) → same [] (aim a.group) ≡ false → (manner s).reply (alone w h) a o ≡ missed_by (by_words s) o a.group
other_reply s w h a o other = rw other refl

-- ---- a request that enters makes another history

longer : {X : Type 0} (xs : List X) (x : X) → xs ++ x ∷ [] ≢ xs
longer xs x e = absurd (let l = ap length e in let m = length-append xs (x ∷ []) in omega (arith, l, m))

pub entered : (h k : List Entry) (r : Request) → k ≡ h ++ Asked r ∷ [] → k ≢ h
entered h k r e f = longer h (Asked r) (sym e ∙ f)

-- ---- what waits in a book before a question is answered is passed over

pub unwaited : (w : Option Request) (a b d : Book) (q : Question) (reply : Reply) (o : Outcome) (st st' : StoreState) → b ≡ with_waiting w a → AnswersOne b d q reply o st st' → AnswersOne a d q reply o st st'
unwaited w a b d q reply o st st' same r =
    let x = subst (λ (y : Book). AnswersOne y d q reply o st st') same r in
    record {
      replied = x.replied;
      history = x.history;
      core = x.core;
      policy = x.policy;
      log = x.log;
      none = x.none;
      cause = x.cause;
      works = x.works;
      quiet = x.quiet;
      others = x.others;
      kept = x.kept;
      exact = x.exact;
      within = x.within;
      crash = x.crash;
      in_hand = x.in_hand;
      renewed = x.renewed;
    }
