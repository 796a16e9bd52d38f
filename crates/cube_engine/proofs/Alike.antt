-- From histories that hold the same all asks get the same replies in words, unless one says that the first history is full.
use Rattle.std.proofs.Common.{◌≡◌, refl, sym, ap, ap₂, ◌∙◌, subst, ℕ, ◌+◌, ◌≤◌, Bool, true, false, List, [], ◌∷◌, ◌++◌, length, length-append, arith}
use Rattle.std.specs.Prelude.{if◌then◌else◌}
use Rattle.std.specs.declared.result.Result.{Result}
use Rattle.std.specs.declared.result.Result.TheVariants.{Ok, Err}
use Rattle.cube_model.specs.declared.ask.Question.{Question}
use Rattle.cube_model.specs.declared.ask.Question.TheVariants.{Query, Witness, Shape}
use Rattle.cube_model.specs.declared.cell.Cell.{Cell}
use Rattle.cube_model.specs.declared.entry.Entry.{Entry}
use Rattle.cube_model.specs.declared.entry.Entry.TheVariants.{Asked}
use Rattle.cube_model.specs.declared.outcome.Outcome.{Outcome}
use Rattle.cube_model.specs.declared.outcome.Outcome.TheVariants.{Given, JournalFault, NoMemory}
use Rattle.cube_model.specs.declared.request.Request.{Request}
use Rattle.cube_model.specs.declared.request.What.{What}
use Rattle.cube_model.specs.declared.request.What.TheVariants.{Count, Measure}
use Rattle.cube_model.specs.declared.verdict.Verdict.{Verdict}
use Rattle.cube_model.specs.declared.verdict.Verdict.TheVariants.{Answer, Full, SourceWould, Pair as PairFixes, Single as SingleFixes}
use Rattle.cube_model.specs.Compaction.{HoldTheSame, RunAlike}
use Rattle.cube_model.specs.Cubes.{Public, World, IsWorld, Each}
use Rattle.cube_model.specs.Dims.{Dims}
use Rattle.cube_model.specs.Entries.{requests}
use Rattle.cube_model.specs.Requests.{is_valid}
use Rattle.cube_model.specs.Runs.{Question as question, QueryReply as asked, WitnessReply, Reply as told, Turn, told as told_by, entered, grown, witnessed, replied, reply_by, next_by, replies, next}
use Rattle.cube_model.specs.Verdicts.{verdict, IsAdmissible}
use Rattle.cube_model.proofs.Alike.{verdict_alike, requests-append, alike_run_alike}
use Rattle.cube_query.specs.Faults.{request_of}
use Rattle.cube_query.specs.declared.fault.RequestFault.{RequestFault}
use Rattle.cube_engine.specs.Changes.{is_cell, cell_of, found_of, found_at, found_by, no_cell, text_of}
use Rattle.cube_engine.specs.Compacting.{IsNotFull}
use Rattle.cube_engine.specs.Steps.{by_words, in_words, reply_where_read, history_where_read, given_reply, given_history, text_reply}
use Rattle.cube_engine.proofs.Worlds.{Reads, told_of, query_same, question_stays, first_of}

-- two histories hold the same, and the second has no more requests
abbrev pub KeepsAlike : Public → List Entry → List Entry → Type 0
KeepsAlike g h k = HoldTheSame g h k × (length (requests k) ≤ length (requests h))

more_requests : (h : List Entry) (r : Request) → length (requests (h ++ Asked r ∷ [])) ≡ length (requests h) + 1
more_requests h r = ap length (requests-append h (Asked r ∷ [])) ∙ length-append (requests h) (r ∷ [])

fewer_entered : (h k : List Entry) (r : Request) (v : Verdict) → length (requests k) ≤ length (requests h) → length (requests (entered k r v)) ≤ length (requests (entered h r v))
fewer_entered h k r (Answer true) few = let a = more_requests h r in let b = more_requests k r in omega arith
fewer_entered h k r (Answer false) few = few
fewer_entered h k r (Full n) few = few
fewer_entered h k r (SourceWould c t) few = few
fewer_entered h k r (PairFixes j x y i) few = few
fewer_entered h k r (SingleFixes j x i) few = few

changes_same : (x y : WitnessReply) → told.ToWitness x ≡ told.ToWitness y → x ≡ y
changes_same x y e = cc

module _ (s : Dims) (w : World) (h k : List Entry) (ok : IsWorld w) (reads : Reads s w.shown) (adm : IsAdmissible w.shown h) (also : IsAdmissible w.shown k) (kept : KeepsAlike w.shown h k) where
  -- one question under the rules
  run_one : (q : question) → ((held : ℕ) → replied q w h ≡ told.ToQuery (asked.Refused (Full held)) → ⊥) → RunAlike w h k (record { question = q; outcome = Given } ∷ [])
  run_one q f = alike_run_alike w h k (record { question = q; outcome = Given } ∷ []) ok adm also kept.0 kept.1 (f, tt)

  -- one request
  same_verdict : (r : Request) → IsNotFull s w.shown (in_words s w.shown r (told_by w r (verdict w.shown h r))) → verdict w.shown k r ≡ verdict w.shown h r
  same_verdict r f = verdict_alike w.shown h k kept.0 kept.1 r (λ held e. f held (ap (λ v. in_words s w.shown r (told_by w r v)) e))

  not_full : (r : Request) → is_valid w.shown r ≡ true → IsNotFull s w.shown (in_words s w.shown r (told_by w r (verdict w.shown h r))) → (held : ℕ) → replied (question.Query r) w h ≡ told.ToQuery (asked.Refused (Full held)) → ⊥
  not_full r valid f held e = f held (ap (in_words s w.shown r) (query_same (told_by w r (verdict w.shown h r)) (asked.Refused (Full held)) (sym (told_of w h r valid) ∙ e)))

  fewer_grown : (r : Request) → is_valid w.shown r ≡ true → verdict w.shown k r ≡ verdict w.shown h r → length (requests (grown (question.Query r) w.shown k)) ≤ length (requests (grown (question.Query r) w.shown h))
  fewer_grown r valid same =
      subst (λ (b : Bool). length (requests (if b then entered k r (verdict w.shown k r) else k)) ≤ length (requests (if b then entered h r (verdict w.shown h r) else h))) (sym valid)
      (subst (λ (v : Verdict). length (requests (entered k r v)) ≤ length (requests (entered h r (verdict w.shown h r)))) (sym same) (fewer_entered h k r (verdict w.shown h r) kept.1))

  read_alike : (said : Result Request RequestFault) → ((r : Request) → said ≡ Ok r → is_valid w.shown r ≡ true) → IsNotFull s w.shown (reply_where_read s w h said) → reply_where_read s w k said ≡ reply_where_read s w h said
  read_alike (Ok r) valid f = ap (λ v. in_words s w.shown r (told_by w r v)) (same_verdict r f)
  read_alike (Err fault) valid f = refl

  read_grows : (said : Result Request RequestFault) → ((r : Request) → said ≡ Ok r → is_valid w.shown r ≡ true) → IsNotFull s w.shown (reply_where_read s w h said) → KeepsAlike w.shown (history_where_read w.shown h said) (history_where_read w.shown k said)
  read_grows (Ok r) valid f = ((run_one (question.Query r) (not_full r (valid r refl) f)).alike_at_end, fewer_grown r (valid r refl) (same_verdict r f))
  read_grows (Err fault) valid f = kept

  -- one question for changes
  witnessed_same : (what : What) (t : Cell) → witnessed w.shown k what t ≡ witnessed w.shown h what t
  witnessed_same what t = changes_same (witnessed w.shown k what t) (witnessed w.shown h what t) (first_of (told.ToWitness (witnessed w.shown k what t)) (told.ToWitness (witnessed w.shown h what t)) [] [] (run_one (question.Witness what t) (λ held e. absurd (cc))).same_replies)

  found_there : (what : What) (t : Cell) → found_at w.shown k what t ≡ found_at w.shown h what t
  found_there Count t = refl
  found_there (Measure m) t = ap (found_of w.shown m) (witnessed_same (Measure m) t)

  found_same : (said : Result Request RequestFault) → found_by s w.shown k said ≡ found_by s w.shown h said
  found_same (Ok r) = ap (λ x. if is_cell s r then x else no_cell) (found_there r.what (cell_of r))
  found_same (Err fault) = refl

  -- one question in words
  given_alike : (q : Question) → IsNotFull s w.shown (given_reply s q w h) → given_reply s q w k ≡ given_reply s q w h
  given_alike (Query text) f = read_alike (request_of s text) (reads text) f
  given_alike (Witness text) f = ap (λ x. text_reply (text_of s w.shown x)) (found_same (request_of s text))
  given_alike Shape f = refl

  given_grows : (q : Question) → IsNotFull s w.shown (given_reply s q w h) → KeepsAlike w.shown (given_history s q w.shown h) (given_history s q w.shown k)
  given_grows (Query text) f = read_grows (request_of s text) (reads text) f
  given_grows (Witness text) f = kept
  given_grows Shape f = kept

  pub turn_alike : (q : Question) (o : Outcome) → IsNotFull s w.shown (reply_by (by_words s) o q w h) → reply_by (by_words s) o q w k ≡ reply_by (by_words s) o q w h
  turn_alike q Given f = given_alike q f
  turn_alike q JournalFault f = refl
  turn_alike q NoMemory f = refl

  pub turn_grows : (q : Question) (o : Outcome) → IsNotFull s w.shown (reply_by (by_words s) o q w h) → KeepsAlike w.shown (next_by (by_words s) o q w.shown h) (next_by (by_words s) o q w.shown k)
  turn_grows q Given f = given_grows q f
  turn_grows q JournalFault f = kept
  turn_grows q NoMemory f = kept

-- some asks in turn
pub replies_alike : (s : Dims) (w : World) (h k : List Entry) (asks : List (Turn Question)) → IsWorld w → Reads s w.shown → IsAdmissible w.shown h → IsAdmissible w.shown k → KeepsAlike w.shown h k → Each (IsNotFull s w.shown) (replies (by_words s) w h asks) → replies (by_words s) w k asks ≡ replies (by_words s) w h asks
replies_alike s w h k [] ok reads adm also kept none = refl
replies_alike s w h k (a ∷ rest) ok reads adm also kept none =
    ap₂ (λ x xs. x ∷ xs) (turn_alike s w h k ok reads adm also kept a.question a.outcome none.0)
    (replies_alike s w (next (by_words s) w.shown h a) (next (by_words s) w.shown k a) rest ok reads (question_stays s w.shown h a.question a.outcome adm) (question_stays s w.shown k a.question a.outcome also)
    (turn_grows s w h k ok reads adm also kept a.question a.outcome none.0) none.1)
