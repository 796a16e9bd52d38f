-- Runs: the history only grows, and a twin that leaves each answered row gives the same replies.
use Rattle.std.proofs.Common.{◌≡◌, ℕ, ◌<◌, Bool, true, false, cond, List, [], ◌∷◌, ◌++◌, length, ℤ, refl, sym, ap, ap₂, ◌∙◌, subst, append_assoc, append-nil}
use Rattle.cube_model.specs.declared.entry.Entry.{Entry}
use Rattle.cube_model.specs.declared.entry.Entry.TheVariants.{Asked}
use Rattle.cube_model.specs.declared.outcome.Outcome.{Outcome}
use Rattle.cube_model.specs.declared.outcome.Outcome.TheVariants.{Given, JournalFault, NoMemory}
use Rattle.cube_model.specs.declared.request.Request.{Request}
use Rattle.cube_model.specs.declared.verdict.Verdict.{Verdict}
use Rattle.cube_model.specs.declared.verdict.Verdict.TheVariants.{Answer, Full, SourceWould, Pair as PairFixes, Single as SingleFixes}
use Rattle.cube_model.specs.Cubes.{Public, World}
use Rattle.cube_model.specs.Requests.{answer, asks, values, is_valid}
use Rattle.cube_model.specs.Verdicts.{verdict}
use Rattle.cube_model.specs.Twins.{twin}
use Rattle.cube_model.specs.Runs.{Question, Ask, told, entered, grown, replied, next_by, reply_by, next, reply, replies, end, by_rules}
use Rattle.cube_model.specs.Runs.Question.{Query, Witness, Shape}
use Rattle.cube_model.specs.Runs.Reply.{ToQuery}
use Rattle.cube_model.specs.TwoWorlds.{Extends}
use Rattle.cube_model.proofs.Holding.{HeldBy, held_before}
use Rattle.cube_model.proofs.Twinned.{IsBalanced, answer_twin}

pub extends_refl : (h : List Entry) → Extends h h
extends_refl h = ([], sym (append-nil h))

pub extends_trans : (a b c : List Entry) → Extends a b → Extends b c → Extends a c
extends_trans a b c e f = (e.0 ++ f.0, f.1 ∙ ap (λ x. x ++ f.0) e.1 ∙ append_assoc a e.0 f.0)

pub entered_grows : (h : List Entry) (r : Request) (v : Verdict) → Extends h (entered h r v)
entered_grows h r (Answer true) = (Asked r ∷ [], refl)
entered_grows h r (Answer false) = extends_refl h
entered_grows h r (Full n) = extends_refl h
entered_grows h r (SourceWould c t) = extends_refl h
entered_grows h r (PairFixes k x y i) = extends_refl h
entered_grows h r (SingleFixes k x i) = extends_refl h

pub grown_grows : (g : Public) (h : List Entry) (q : Question) → Extends h (grown q g h)
grown_grows g h (Query r) = go (is_valid g r)
  where
    go : (b : Bool) → Extends h (cond b (entered h r (verdict g h r)) h)
    go true = entered_grows h r (verdict g h r)
    go false = extends_refl h
grown_grows g h (Witness what t) = extends_refl h
grown_grows g h Shape = extends_refl h

pub next_grows : (g : Public) (h : List Entry) (q : Question) (o : Outcome) → Extends h (next_by by_rules o q g h)
next_grows g h q Given = grown_grows g h q
next_grows g h q JournalFault = extends_refl h
next_grows g h q NoMemory = extends_refl h

pub end_grows : (g : Public) (h : List Entry) (as' : List Ask) → Extends h (end by_rules g h as')
end_grows g h [] = extends_refl h
end_grows g h (a ∷ rest) = extends_trans h (next by_rules g h a) (end by_rules g (next by_rules g h a) rest) (next_grows g h a.question a.outcome) (end_grows g (next by_rules g h a) rest)

-- the changes leave each row of each request on the measure that is answered on the way to the last history
abbrev pub Leaves : Public → List Entry → ℕ → List ℤ → Type 0
Leaves g last m ch = (h : List Entry) (r : Request) (fresh : Bool) → is_valid g r ≡ true → verdict g h r ≡ Answer fresh → HeldBy g last (entered h r (Answer fresh)) → asks m r ≡ true → IsBalanced g ch r

pub cond_left : {X : Type 0} (b : Bool) (x y z : X) → (b ≡ true → x ≡ y) → cond b x z ≡ cond b y z
cond_left true x y z h = h refl
cond_left false x y z h = refl

module _ (w : World) (m : ℕ) (ch : List ℤ) (last : List Entry) (below : m < length w.cube) (long : length (values w m) ≡ length ch) (leaves : Leaves w.shown last m ch) where
  told_alike : (r : Request) (v : Verdict) → ((fresh : Bool) → v ≡ Answer fresh → answer (twin w m ch) r ≡ answer w r) → told (twin w m ch) r v ≡ told w r v
  told_alike r (Answer fresh) h = ap Rattle.cube_model.specs.Runs.QueryReply.Answered (h fresh refl)
  told_alike r (Full n) h = refl
  told_alike r (SourceWould c t) h = refl
  told_alike r (PairFixes k x y i) h = refl
  told_alike r (SingleFixes k x i) h = refl

  replied_alike : (h : List Entry) (q : Question) → HeldBy w.shown last (grown q w.shown h) → replied q (twin w m ch) h ≡ replied q w h
  replied_alike h (Query r) e = cond_left (is_valid w.shown r) _ _ _ (λ valid.
      ap ToQuery (told_alike r (verdict w.shown h r) (λ fresh v. answer_twin w m ch r below long (
      leaves h r fresh valid v (subst (λ k. HeldBy w.shown last k) (ap (λ b. cond b (entered h r (verdict w.shown h r)) h) valid ∙ ap (entered h r) v) e)))))
  replied_alike h (Witness what t) e = refl
  replied_alike h Shape e = refl

  reply_alike : (h : List Entry) (q : Question) (o : Outcome) → HeldBy w.shown last (next_by by_rules o q w.shown h) → reply_by by_rules o q (twin w m ch) h ≡ reply_by by_rules o q w h
  reply_alike h q Given e = replied_alike h q e
  reply_alike h q JournalFault e = refl
  reply_alike h q NoMemory e = refl

  pub replies_alike : (h : List Entry) (as' : List Ask) → HeldBy w.shown last (end by_rules w.shown h as') → replies by_rules (twin w m ch) h as' ≡ replies by_rules w h as'
  replies_alike h [] e = refl
  replies_alike h (a ∷ rest) e = ap₂ (λ x xs. x ∷ xs)
      (reply_alike h a.question a.outcome (held_before w.shown last (next by_rules w.shown h a) (end by_rules w.shown (next by_rules w.shown h a) rest) (end_grows w.shown (next by_rules w.shown h a) rest) e))
      (replies_alike (next by_rules w.shown h a) rest e)
