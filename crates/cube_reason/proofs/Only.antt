-- What lines show of a reason, and what shows one.
use Rattle.std.specs.Prelude.{codes, Option, Some, None}
use Rattle.std.proofs.Common.{◌≡◌, ℕ, true, false, ◌&&◌, List, ◌++◌, get_or, refl, sym, ap, ap₂, ◌∙◌, subst, arith}
use Rattle.std.proofs.lemmas.Bool.{false≢true, and_parts, and_from}
use Rattle.std.proofs.lemmas.List.{append_cancel_left}
use Rattle.cube_model.specs.declared.cell.Cell.{Cell}
use Rattle.cube_model.specs.declared.entry.Entry.{Entry}
use Rattle.cube_model.specs.declared.policy.Method.{Method}
use Rattle.cube_model.specs.declared.policy.Method.TheVariants.{Plain, Lattice, Parity}
use Rattle.cube_model.specs.declared.policy.Policy.{Policy}
use Rattle.cube_model.specs.declared.request.Request.{Request}
use Rattle.cube_model.specs.declared.request.What.{What}
use Rattle.cube_model.specs.declared.request.What.TheVariants.{Count, Measure}
use Rattle.cube_model.specs.declared.verdict.Verdict.{Verdict}
use Rattle.cube_model.specs.declared.verdict.Verdict.TheVariants as verdicts
use Rattle.cube_model.specs.Cores.{Core, shown}
use Rattle.cube_model.specs.Cubes.{Public}
use Rattle.cube_model.specs.Dims.{Dims}
use Rattle.cube_model.specs.Protection.{method, listed, guarded}
use Rattle.cube_model.specs.Reasons.{are_steps, is_end, is_walk, are_blocks, blocks_of, links_by, is_reason, is_reason_by, is_reason_on}
use Rattle.cube_model.specs.Reasons.Reason.{Blocks as BlocksOf, Walk as WalkOf}
use Rattle.cube_model.specs.Requests.{grain}
use Rattle.cube_model.specs.Verdicts.{narrowed, source, verdict, IsAdmissible}
use Rattle.cube_answers.specs.VerdictText.{verdict_text}
use Rattle.cube_source.specs.Blocks.{bare}
use Rattle.cube_reason.specs.declared.reasons.End.{End}
use Rattle.cube_reason.specs.declared.reasons.Reason.{Reason}
use Rattle.cube_reason.specs.declared.reasons.Reason.TheVariants.{Blocks, Walk}
use Rattle.cube_reason.specs.declared.reasons.WalkStep.{WalkStep}
use Rattle.cube_reason.specs.Found.{Fixes, IsAbout, Refuses, HasWalk}
use Rattle.cube_reason.specs.Read.{GoesOn, ends_behind}
use Rattle.cube_reason.specs.ReasonText.{reason_words}
use Rattle.cube_reason.specs.Showing.{HasLines, Shows, IsSource, IsWhy, ReasonsAreOfTheShape, AnswersAloneAreAdmitted}
use Rattle.cube_reason.specs.Views.{steps_view, end_view, reason_view}
use Rattle.cube_reason.proofs.Made.{parts, own_blocks}
use Rattle.cube_reason.proofs.Named.{words_bare}
use Rattle.cube_reason.proofs.Refusals.{walk_there, walk_reason, about_walk}

-- a count has no reason
pub count_none : (s : Dims) (g : Public) (h : List Entry) (r : Request) (v : Verdict) (lines : List ℕ) → r.what ≡ Count → HasLines s g h r v lines → ⊥
count_none s g h r v lines e w = false≢true (sym (ap (λ x. is_reason_on x g h r (reason_view w.reason)) e) ∙ w.is)

-- what has a reason is refused
pub about_refuses : (v : Verdict) (x : Reason) → IsAbout v x → Refuses v
about_refuses (verdicts.Answer fresh) x a = a
about_refuses (verdicts.Full n) x a = a
about_refuses (verdicts.SourceWould c t) x a = tt
about_refuses (verdicts.Pair k i j t) x a = tt
about_refuses (verdicts.Single k i t) x a = tt

-- ---- blocks

record ByBlocks (g : Public) (h : List Entry) (r : Request) (t : Cell) (blocks : List Cell) : Type 0 where
  pub measure : ℕ
  pub what : r.what ≡ Measure measure
  pub is : are_blocks g measure (narrowed (source h measure) (grain r)) t blocks ≡ true

by_blocks : (g : Public) (h : List Entry) (r : Request) (t : Cell) (blocks : List Cell) → is_reason g h r (BlocksOf t blocks) ≡ true → ByBlocks g h r t blocks
by_blocks g h r t blocks e = on r.what refl e
  where
    by : (m : ℕ) (way : Method) → r.what ≡ Measure m → is_reason_by way g h r m (BlocksOf t blocks) ≡ true → ByBlocks g h r t blocks
    by m Plain is x = absurd (false≢true x)
    by m Lattice is x = record { measure = m; what = is; is = x }
    by m Parity is x = absurd (false≢true x)

    on : (w : What) → r.what ≡ w → is_reason_on w g h r (BlocksOf t blocks) ≡ true → ByBlocks g h r t blocks
    on Count is x = absurd (false≢true x)
    on (Measure m) is x = by m (method g m) is x

same_measure : (m n : ℕ) → Measure m ≡ Measure n → m ≡ n
same_measure m n e = cc

one_blocks : (g : Public) (h : List Entry) (r : Request) (t : Cell) (a b : List Cell) → is_reason g h r (BlocksOf t a) ≡ true → is_reason g h r (BlocksOf t b) ≡ true → a ≡ b
one_blocks g h r t a b x y =
    let p = by_blocks g h r t a x in
    let q = by_blocks g h r t b y in
    let m : p.measure ≡ q.measure = same_measure p.measure q.measure (sym p.what ∙ q.what) in
    own_blocks g p.measure (narrowed (source h p.measure) (grain r)) t a (parts g p.measure (narrowed (source h p.measure) (grain r)) t a p.is)
    ∙ ap (λ n. blocks_of g (narrowed (source h n) (grain r)) t) m
    ∙ sym (own_blocks g q.measure (narrowed (source h q.measure) (grain r)) t b (parts g q.measure (narrowed (source h q.measure) (grain r)) t b q.is))

-- one reason shows that the source would not cut a cell
one_reason : (g : Public) (h : List Entry) (r : Request) (v : Verdict) (x y : Reason) → IsSource v → IsAbout v x → IsAbout v y → is_reason g h r (reason_view x) ≡ true → is_reason g h r (reason_view y) ≡ true → x ≡ y
one_reason g h r (verdicts.Answer fresh) x y w a b p q = absurd w
one_reason g h r (verdicts.Full n) x y w a b p q = absurd w
one_reason g h r (verdicts.Pair k i j t) x y w a b p q = absurd w
one_reason g h r (verdicts.Single k i t) x y w a b p q = absurd w
one_reason g h r (verdicts.SourceWould c t) (Walk place steps e) y w a b p q = absurd a
one_reason g h r (verdicts.SourceWould c t) (Blocks s xs) (Walk place steps e) w a b p q = absurd b
one_reason g h r (verdicts.SourceWould c t) (Blocks s xs) (Blocks u ys) w a b p q =
    ap₂ (λ (z : Cell) (zs : List Cell). Blocks z zs) (a ∙ sym b) (one_blocks g h r t xs ys (subst (λ z. is_reason g h r (BlocksOf z xs) ≡ true) a p) (subst (λ z. is_reason g h r (BlocksOf z ys) ≡ true) b q))

pub same_lines : (s : Dims) (g : Public) (h : List Entry) (r : Request) (v : Verdict) (own lines : List ℕ) → IsSource v → HasLines s g h r v own → HasLines s g h r v lines → own ≡ lines
same_lines s g h r v own lines w a b = a.lines_are ∙ ap (reason_words s g) (one_reason g h r v a.reason b.reason w a.about b.about a.is b.is) ∙ sym b.lines_are

-- ---- walks

module _ (c : Core) (p : Policy) (h : List Entry) (r : Request) (m : ℕ) (v : Verdict) (place : ℕ) (lines : List ℕ)
    (adm : IsAdmissible (shown c p) h) (what : r.what ≡ Measure m) (is : v ≡ verdict (shown c p) h r) (fixes : Fixes v place) where
  abbrev pub Goes : Type 0
  Goes = GoesOn c.dims (bare c) (links_by (shown c p) h r m) place false place lines

  way : method (shown c p) m ≡ Parity
  way = (walk_there (shown c p) h r m v place adm what is fixes).way

  has : HasWalk (shown c p) h r m place
  has = (walk_there (shown c p) h r m v place adm what is fixes).has

  pub held : listed place (guarded (shown c p) m) ≡ true
  held = (and_parts (listed place (guarded (shown c p) m)) (are_steps (links_by (shown c p) h r m) place has.steps)
      (and_parts (listed place (guarded (shown c p) m) && are_steps (links_by (shown c p) h r m) place has.steps) (is_end (links_by (shown c p) h r m) place has.steps has.end) has.is).0).0

  end_is : (steps : List WalkStep) (e : Option End) → ends_behind (links_by (shown c p) h r m) place false place steps e ≡ is_end (links_by (shown c p) h r m) place (steps_view steps) (end_view e)
  end_is steps None = refl
  end_is steps (Some e) = refl

  pub walk_shown : Goes → HasLines c.dims (shown c p) h r v lines
  walk_shown w = record {
    reason = Walk place w.steps w.end;
    is = walk_reason (shown c p) h r m place (steps_view w.steps) (end_view w.end) what way
        (and_from (listed place (guarded (shown c p) m) && are_steps (links_by (shown c p) h r m) place (steps_view w.steps)) (is_end (links_by (shown c p) h r m) place (steps_view w.steps) (end_view w.end))
        (and_from (listed place (guarded (shown c p) m)) (are_steps (links_by (shown c p) h r m) place (steps_view w.steps)) held w.are) (sym (end_is w.steps w.end) ∙ w.ends));
    about = about_walk v place fixes w.steps w.end;
    lines_are = w.lines_are ∙ words_bare c p (Walk place w.steps w.end);
  }

  at_place : (u : Verdict) (x : Reason) → Fixes u place → IsAbout u x → (steps : List WalkStep) × (e : Option End) × (x ≡ Walk place steps e)
  at_place (verdicts.Answer fresh) x f a = absurd f
  at_place (verdicts.Full n) x f a = absurd f
  at_place (verdicts.SourceWould q t) x f a = absurd f
  at_place (verdicts.Pair k i j t) (Blocks z blocks) f a = absurd a
  at_place (verdicts.Pair k i j t) (Walk from steps e) f a = (steps, e, ap (λ n. Walk n steps e) (a ∙ f))
  at_place (verdicts.Single k i t) (Blocks z blocks) f a = absurd a
  at_place (verdicts.Single k i t) (Walk from steps e) f a = (steps, e, ap (λ n. Walk n steps e) (a ∙ f))

  pub shown_walk : HasLines c.dims (shown c p) h r v lines → Goes
  shown_walk w =
      let x = at_place v w.reason fixes w.about in
      let walk : is_walk (shown c p) h r m place (steps_view x.0) (end_view x.1) ≡ true =
      sym (ap (λ y. is_reason_by y (shown c p) h r m (WalkOf place (steps_view x.0) (end_view x.1))) way)
      ∙ sym (ap (λ y. is_reason_on y (shown c p) h r (WalkOf place (steps_view x.0) (end_view x.1))) what)
      ∙ sym (ap (λ (y : Reason). is_reason (shown c p) h r (reason_view y)) x.2) ∙ w.is in
      let a = and_parts (listed place (guarded (shown c p) m) && are_steps (links_by (shown c p) h r m) place (steps_view x.0)) (is_end (links_by (shown c p) h r m) place (steps_view x.0) (end_view x.1)) walk in
      let b = and_parts (listed place (guarded (shown c p) m)) (are_steps (links_by (shown c p) h r m) place (steps_view x.0)) a.0 in
      record {
        steps = x.0;
        end = x.1;
        are = b.1;
        ends = end_is x.0 x.1 ∙ a.1;
        lines_are = w.lines_are ∙ ap (reason_words c.dims (shown c p)) x.2 ∙ sym (words_bare c p (Walk place x.0 x.1));
      }

-- ---- the whole text

pub shows_lines : (s : Dims) (g : Public) (h : List Entry) (r : Request) (v : Verdict) (text rest : List ℕ) → text ≡ verdict_text s g v ++ rest → Shows s g h r v text → HasLines s g h r v rest
shows_lines s g h r v text rest e w = subst (HasLines s g h r v) (append_cancel_left (verdict_text s g v) w.lines rest (sym w.text_is ∙ e)) w.has

pub lines_show : (s : Dims) (g : Public) (h : List Entry) (r : Request) (v : Verdict) (text rest : List ℕ) → text ≡ verdict_text s g v ++ rest → HasLines s g h r v rest → Shows s g h r v text
lines_show s g h r v text rest e w = record { lines = rest; has = w; text_is = e }

-- ---- over another cube with the same shape

alike : (P : Dims → Public → Type 0) (c d : Core) (p : Policy) → c.dims ≡ d.dims → c.shape ≡ d.shape → P c.dims (shown c p) → P d.dims (shown d p)
alike P c d p a b x =
    let g : shown c p ≡ shown d p = ap₂ (λ (s : Dims) (z : Rattle.cube_model.specs.declared.shape.Shape.Shape). record { dimensions = Rattle.cube_model.specs.Dims.plains s; policy = p; shape = z }) a b in
    subst (λ q. P d.dims q) g (subst (λ s. P s (shown c p)) a x)

pub of_the_shape : ReasonsAreOfTheShape
of_the_shape c d p h r v text a b = record {
  shows = (alike (λ s g. Shows s g h r v text) c d p a b, alike (λ s g. Shows s g h r v text) d c p (sym a) (sym b));
  why = (alike (λ s g. IsWhy s g h r v text) c d p a b, alike (λ s g. IsWhy s g h r v text) d c p (sym a) (sym b));
}

-- ---- what is admitted

-- a text that begins with another byte
other : (b : ℕ) (text : List ℕ) → get_or text 0 0 ≡ b → (b ≡ 97 → ⊥) → text ≡ codes "admitted\n" → ⊥
other b text first apart e = apart (sym first ∙ ap (λ (t : List ℕ). get_or t 0 0) e)

pub answers_alone : AnswersAloneAreAdmitted
answers_alone s g h r (verdicts.Answer fresh) text w = (λ e. tt, λ a. w)
answers_alone s g h r (verdicts.Full n) text w = (λ e. other 102 text (ap (λ (t : List ℕ). get_or t 0 0) w) (λ is. absurd (omega (arith, is))) e, λ a. absurd a)
answers_alone s g h r (verdicts.SourceWould c t) text w = (λ e. other 115 text (ap (λ (t : List ℕ). get_or t 0 0) w.text_is) (λ is. absurd (omega (arith, is))) e, λ a. absurd a)
answers_alone s g h r (verdicts.Pair k i j t) text w = (λ e. other 112 text (ap (λ (t : List ℕ). get_or t 0 0) w.text_is) (λ is. absurd (omega (arith, is))) e, λ a. absurd a)
answers_alone s g h r (verdicts.Single k i t) text w = (λ e. other 115 text (ap (λ (t : List ℕ). get_or t 0 0) w.text_is) (λ is. absurd (omega (arith, is))) e, λ a. absurd a)
