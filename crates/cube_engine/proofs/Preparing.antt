-- What a request comes to, and what is asked by its text.
use Rattle.std.proofs.Common.{◌≡◌, ◌≢◌, ℕ, refl, sym, ap, ◌∙◌, subst, true, false, List, Option, None, Ok}
use Rattle.std.proofs.lemmas.Bool.{false≢true}
use Rattle.cube_model.specs.declared.ask.Question.TheVariants.{Query}
use Rattle.cube_model.specs.declared.entry.Entry.{Entry}
use Rattle.cube_model.specs.declared.outcome.Outcome.{Outcome}
use Rattle.cube_model.specs.declared.outcome.Outcome.TheVariants.{Given, JournalFault}
use Rattle.cube_model.specs.declared.policy.Policy.{Policy}
use Rattle.cube_model.specs.declared.request.Request.{Request}
use Rattle.cube_model.specs.declared.verdict.Verdict.{Verdict}
use Rattle.cube_model.specs.declared.verdict.Verdict.TheVariants.{Answer, Full, SourceWould, Pair, Single}
use Rattle.cube_model.specs.Cores.{Core, IsCore, shown, world}
use Rattle.cube_model.specs.Policies.{IsPolicy}
use Rattle.cube_model.specs.Runs.{entered, reply_by, next_by}
use Rattle.cube_model.specs.Verdicts.{verdict, IsAdmissible}
use Rattle.cube_admit.specs.States.{waits_for}
use Rattle.cube_query.specs.Canonical.{is_request}
use Rattle.cube_query.specs.Faults.{request_of}
use Rattle.cube_answers.specs.VerdictText.{IsVerdict}
use Rattle.cube_engine.specs.Books.{Holding, is_answer, that_waits}
use Rattle.cube_engine.specs.Prepared.{Comes, QuestionComes}
use Rattle.cube_engine.specs.Steps.{by_words}
use Rattle.cube_engine.specs.declared.prepared.Prepared.{Prepared}
use Rattle.cube_engine.specs.declared.prepared.Prepared.TheVariants.{Said, Waits}
use Rattle.cube_engine.proofs.Named.{valid_under, verdict_named, read_reply, read_history}

-- a refusal leaves the history, and nothing waits
pub refused_stays : (h : List Entry) (r : Request) (v : Verdict) → is_answer v ≡ false → entered h r v ≡ h
refused_stays h r (Answer fresh) e = absurd (false≢true (sym e))
refused_stays h r (Full n) e = refl
refused_stays h r (SourceWould c t) e = refl
refused_stays h r (Pair k i j t) e = refl
refused_stays h r (Single k i t) e = refl

pub refused_waits : (r : Request) (v : Verdict) → is_answer v ≡ false → waits_for v r ≡ None
refused_waits r (Answer fresh) e = absurd (false≢true (sym e))
refused_waits r (Full n) e = refl
refused_waits r (SourceWould c t) e = refl
refused_waits r (Pair k i j t) e = refl
refused_waits r (Single k i t) e = refl

-- the verdict on a request is one of the core that is held
pub judged_named : (old new : Holding) (r : Request) (v : Verdict) (core : Core) → new ≡ that_waits new.waiting old → core ≡ new.core → IsCore new.core → IsPolicy new.core.dims new.policy → IsAdmissible (shown new.core new.policy) new.history → is_request old.core.dims r ≡ true
    → v ≡ verdict (shown old.core old.policy) old.history r → IsVerdict core v
judged_named old new r v core same at is_core is_policy admissible asked judged =
    let core_is : IsCore old.core = subst (λ (n : Holding). IsCore n.core) same is_core in
    let policy_is : IsPolicy old.core.dims old.policy = subst (λ (n : Holding). IsPolicy n.core.dims n.policy) same is_policy in
    let stays : IsAdmissible (shown old.core old.policy) old.history = subst (λ (n : Holding). IsAdmissible (shown n.core n.policy) n.history) same admissible in
    let named = verdict_named old.core old.policy old.history r core_is policy_is (valid_under old.core old.policy r policy_is asked) stays in
    subst (λ (d : Core). IsVerdict d v) (sym (at ∙ ap (λ (n : Holding). n.core) same)) (subst (IsVerdict old.core) (sym judged) named)

given_is_no_fault : (o : Outcome) → o ≡ Given → o ≢ JournalFault
given_is_no_fault o e f = absurd (let x : Given ≡ JournalFault = sym e ∙ f in cc)

-- a query whose text is that of a request comes to what the request does
pub query_is : (c : Core) (p : Policy) (h : List Entry) (text : List ℕ) (r : Request) (waits : Option Request) (x : Prepared) → IsPolicy c.dims p → is_request c.dims r ≡ true → request_of c.dims text ≡ Ok r
    → Comes c.dims (world c p) h r waits x → QuestionComes c.dims (world c p) h (Query text) waits x
query_is c p h text r waits (Said reply o) policy valid read comes =
    let there = valid_under c p r policy valid in
    let history = sym (read_history c p h r (request_of c.dims text) read there) ∙ comes.2 in (
      given_is_no_fault o comes.0,
      subst (λ (q : Outcome). reply ≡ reply_by (by_words c.dims) q (Query text) (world c p) h) (sym comes.0) (comes.1 ∙ read_reply c p h r (request_of c.dims text) read),
      subst (λ (q : Outcome). next_by (by_words c.dims) q (Query text) (shown c p) h ≡ h) (sym comes.0) history,
      comes.3,
    )
query_is c p h text r waits (Waits reply line) policy valid read comes =
    let there = valid_under c p r policy valid in (
      r,
      record { is_held = comes.3; valid = valid; fresh = comes.1; is_line = comes.2 },
      comes.0 ∙ read_reply c p h r (request_of c.dims text) read,
      sym (read_history c p h r (request_of c.dims text) read there) ∙ ap (entered h r) comes.1,
    )
