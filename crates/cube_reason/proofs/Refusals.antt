-- What a verdict that refuses gives.
use Rattle.std.specs.List.{All, list_any}
use Rattle.std.proofs.Common.{◌≡◌, ℕ, zero, suc, ◌<◌, inl, inr, true, ◌&&◌, List, [], ◌∷◌, length, map, Option, Some, None, refl, sym, ap, ◌∙◌, subst, arith, eqb, ⊎_elim}
use Rattle.std.proofs.lemmas.Bool.{false≢true, and_parts, eqb-true, or_cases}
use Rattle.cube_model.specs.declared.cell.Cell.{Cell}
use Rattle.cube_model.specs.declared.entry.Entry.{Entry}
use Rattle.cube_model.specs.declared.link.Link.{Link}
use Rattle.cube_model.specs.declared.link.Link.TheVariants.{Pair, Single}
use Rattle.cube_model.specs.declared.policy.Method.{Method}
use Rattle.cube_model.specs.declared.policy.Method.TheVariants.{Plain, Lattice, Parity}
use Rattle.cube_model.specs.declared.request.Request.{Request}
use Rattle.cube_model.specs.declared.request.What.TheVariants.{Count, Measure}
use Rattle.cube_model.specs.declared.verdict.Verdict.{Verdict}
use Rattle.cube_model.specs.declared.verdict.Verdict.TheVariants as verdicts
use Rattle.cube_model.specs.declared.policy.Policy.{Policy}
use Rattle.cube_model.specs.Cores.{Core, IsCore, shown}
use Rattle.cube_model.specs.Policies.{IsPolicy}
use Rattle.cube_model.specs.Cubes.{Public, are_levels, covered, covers, key_at, in_order, places, IsIn}
use Rattle.cube_model.specs.Dims.{plains}
use Rattle.cube_model.specs.Entries.{is_allowed}
use Rattle.cube_model.specs.LinkLaws.{IsOfPlaces}
use Rattle.cube_model.specs.Links.{links}
use Rattle.cube_model.specs.Protection.{method, listed, guarded, protected, same_cell}
use Rattle.cube_model.specs.Reasons as said
use Rattle.cube_model.specs.Reasons.{Origin, joins, is_at, are_steps, led_to, is_end, is_walk, are_blocks, blocks_of, links_by, is_reason, is_reason_by, is_reason_on}
use Rattle.cube_model.specs.Reasons.Origin.{By, Own}
use Rattle.cube_model.specs.Reasons.Reason.{Blocks, Walk}
use Rattle.cube_model.specs.Requests.{grain}
use Rattle.cube_model.specs.Verdicts.{fixes, narrowed, source, verdict, judged_what, IsAdmissible}
use Rattle.cube_model.proofs.Alike.{of_places_to}
use Rattle.cube_model.proofs.Histories.{Each-at}
use Rattle.cube_model.proofs.Members.{IsIn-filter, IsIn-map, IsIn-in_order}
use Rattle.cube_model.proofs.Objects.{same_cell_eq}
use Rattle.cube_model.proofs.Parities.{links_places, entry_places}
use Rattle.cube_model.proofs.Reasoning.{refusals_have_reasons}
use Rattle.cube_model.proofs.Sources.{place_below}
use Rattle.cube_model.proofs.Walks.{any_from}
use Rattle.cube_source.specs.Blocks.{bare}
use Rattle.cube_reason.specs.Found.{HasWalk, HasBlocks, Refuses, WouldSource, Fixes, IsAbout}
use Rattle.cube_reason.specs.Given.{AreAllowed}
use Rattle.cube_answers.specs.VerdictText.{CellFits}
use Rattle.cube_reason.specs.ReasonText.{EndsThere}
use Rattle.cube_reason.specs.Views.{origin_view, steps_view, end_view}
use Rattle.cube_reason.specs.declared.reasons.End.{End}
use Rattle.cube_reason.specs.declared.reasons.Reason.TheVariants as ofProgram
use Rattle.cube_reason.specs.declared.reasons.WalkStep.{WalkStep}
use Rattle.cube_reason.proofs.Levels.{protected_levels}
use Rattle.cube_reason.proofs.Made.{parts, own_blocks, blocks_bare}
use Rattle.cube_reason.proofs.Named.{cell_there}
use Rattle.cube_reason.proofs.Numbers.{brought, own_at, numbered_in}

-- a count is answered
pub count_refused : (g : Public) (h : List Entry) (r : Request) (v : Verdict) → r.what ≡ Count → v ≡ verdict g h r → Refuses v → ⊥
unfolding verdict
count_refused g h r v is at no_answer = subst Refuses (at ∙ ap (λ w. judged_what w g h r) is) no_answer

on_measure : (g : Public) (h : List Entry) (r : Request) (m : ℕ) (x : said.Reason) → r.what ≡ Measure m → is_reason g h r x ≡ is_reason_by (method g m) g h r m x
on_measure g h r m x e = ap (λ w. is_reason_on w g h r x) e

-- ---- blocks
pub record ByBlocks (g : Public) (h : List Entry) (r : Request) (m : ℕ) (t : Cell) : Type 0 where
  pub way : method g m ≡ Lattice
  pub has : HasBlocks g h r m t

pub blocks_there : (g : Public) (h : List Entry) (r : Request) (m : ℕ) (v : Verdict) (t : Cell) → IsAdmissible g h → r.what ≡ Measure m → v ≡ verdict g h r → WouldSource v t → ByBlocks g h r m t
blocks_there g h r m (verdicts.Answer fresh) t adm is at w = absurd w
blocks_there g h r m (verdicts.Full held) t adm is at w = absurd w
blocks_there g h r m (verdicts.Pair k i j p) t adm is at w = absurd w
blocks_there g h r m (verdicts.Single k i p) t adm is at w = absurd w
blocks_there g h r m (verdicts.SourceWould c s) t adm is at w = subst (ByBlocks g h r m) w (go (method g m) refl (sym (on_measure g h r m (Blocks s (blocks_of g c s)) is) ∙ (refusals_have_reasons g h r adm).by_blocks c s (sym at)))
  where
    go : (way : Method) → method g m ≡ way → is_reason_by (method g m) g h r m (Blocks s (blocks_of g c s)) ≡ true → ByBlocks g h r m s
    go Plain q e = absurd (false≢true (ap (λ x. is_reason_by x g h r m (Blocks s (blocks_of g c s))) (sym q) ∙ e))
    go Lattice q e = record { way = q; has = record { blocks = blocks_of g c s; is = ap (λ x. is_reason_by x g h r m (Blocks s (blocks_of g c s))) (sym q) ∙ e } }
    go Parity q e = absurd (false≢true (ap (λ x. is_reason_by x g h r m (Blocks s (blocks_of g c s))) (sym q) ∙ e))

pub blocks_reason : (g : Public) (h : List Entry) (r : Request) (m : ℕ) (t : Cell) (blocks : List Cell) → r.what ≡ Measure m → method g m ≡ Lattice → are_blocks g m (narrowed (source h m) (grain r)) t blocks ≡ true → is_reason g h r (Blocks t blocks) ≡ true
blocks_reason g h r m t blocks is way e = on_measure g h r m (Blocks t blocks) is ∙ ap (λ x. is_reason_by x g h r m (Blocks t blocks)) way ∙ e

all_in : {X : Type 0} (P : X → Type 0) (xs : List X) → ((x : X) → IsIn x xs → P x) → All P xs
all_in P [] h k d l = absurd (omega (arith, l))
all_in P (x ∷ xs) h zero d l = h x (inl refl)
all_in P (x ∷ xs) h (suc k) d l = all_in P xs (λ y i. h y (inr i)) k d (omega (arith, l))

pub blocks_told : (c : Core) (ls : List ℕ) (t : Cell) (blocks : List Cell) → IsCore c → are_levels (plains c.dims) ls ≡ true → blocks ≡ blocks_of (bare c) ls t → All (CellFits c.dims) blocks
blocks_told c ls t blocks ok e is = subst (All (CellFits c.dims)) (sym is) (all_in (CellFits c.dims) (blocks_of (bare c) ls t) (λ b k.
    let a = IsIn-map (λ (key : List ℕ). record { levels = ls; key = key }) b (in_order (map (key_at (bare c) ls) (covered (bare c) t))) k in
    let i = IsIn-map (key_at (bare c) ls) a.0 (covered (bare c) t) (IsIn-in_order a.0 (map (key_at (bare c) ls) (covered (bare c) t)) a.1) in
    let p = IsIn-filter (covers (bare c) t) i.0 (places (bare c)) i.1 in
    cell_there c ls i.0 b ok e (place_below (bare c) i.0 p.1) (sym (ap (λ (x : Cell). x.levels) a.2)) (sym (ap (λ (x : Cell). x.key) a.2) ∙ sym i.2)))

pub about_blocks : (v : Verdict) (s t : Cell) → WouldSource v s → t ≡ s → (blocks : List Cell) → IsAbout v (ofProgram.Blocks t blocks)
about_blocks (verdicts.Answer fresh) s t w e blocks = absurd w
about_blocks (verdicts.Full held) s t w e blocks = absurd w
about_blocks (verdicts.SourceWould c x) s t w e blocks = e ∙ sym w
about_blocks (verdicts.Pair k i j p) s t w e blocks = absurd w
about_blocks (verdicts.Single k i p) s t w e blocks = absurd w

-- ---- walks
pub record ByWalk (g : Public) (h : List Entry) (r : Request) (m place : ℕ) : Type 0 where
  pub way : method g m ≡ Parity
  pub has : HasWalk g h r m place

by_walk : (g : Public) (h : List Entry) (r : Request) (m k : ℕ) (l : Link) (i : ℕ) → IsAdmissible g h → r.what ≡ Measure m → verdict g h r ≡ fixes k l i → ByWalk g h r m i
by_walk g h r m k l i adm is at =
    let a = (refusals_have_reasons g h r adm).by_walk k l i at in
    go (method g m) refl a.0 a.1 (sym (on_measure g h r m (Walk i a.0 a.1) is) ∙ a.2)
  where
    go : (way : Method) → method g m ≡ way → (steps : List said.WalkStep) (e : Option said.End) → is_reason_by (method g m) g h r m (Walk i steps e) ≡ true → ByWalk g h r m i
    go Plain q steps e x = absurd (false≢true (ap (λ y. is_reason_by y g h r m (Walk i steps e)) (sym q) ∙ x))
    go Lattice q steps e x = absurd (false≢true (ap (λ y. is_reason_by y g h r m (Walk i steps e)) (sym q) ∙ x))
    go Parity q steps e x = record { way = q; has = record { steps = steps; end = e; is = ap (λ y. is_reason_by y g h r m (Walk i steps e)) (sym q) ∙ x } }

pub walk_there : (g : Public) (h : List Entry) (r : Request) (m : ℕ) (v : Verdict) (place : ℕ) → IsAdmissible g h → r.what ≡ Measure m → v ≡ verdict g h r → Fixes v place → ByWalk g h r m place
walk_there g h r m (verdicts.Answer fresh) place adm is at w = absurd w
walk_there g h r m (verdicts.Full held) place adm is at w = absurd w
walk_there g h r m (verdicts.SourceWould c s) place adm is at w = absurd w
walk_there g h r m (verdicts.Pair k i j p) place adm is at w = subst (ByWalk g h r m) w (by_walk g h r m k (Pair i j) p adm is (sym at))
walk_there g h r m (verdicts.Single k i p) place adm is at w = subst (ByWalk g h r m) w (by_walk g h r m k (Single i) p adm is (sym at))

pub walk_reason : (g : Public) (h : List Entry) (r : Request) (m place : ℕ) (steps : List said.WalkStep) (e : Option said.End) → r.what ≡ Measure m → method g m ≡ Parity → is_walk g h r m place steps e ≡ true → is_reason g h r (Walk place steps e) ≡ true
walk_reason g h r m place steps e is way x = on_measure g h r m (Walk place steps e) is ∙ ap (λ y. is_reason_by y g h r m (Walk place steps e)) way ∙ x

pub about_walk : (v : Verdict) (place : ℕ) → Fixes v place → (steps : List WalkStep) (e : Option End) → IsAbout v (ofProgram.Walk place steps e)
about_walk (verdicts.Answer fresh) place w steps e = absurd w
about_walk (verdicts.Full held) place w steps e = absurd w
about_walk (verdicts.SourceWould c x) place w steps e = absurd w
about_walk (verdicts.Pair k i j p) place w steps e = sym w
about_walk (verdicts.Single k i p) place w steps e = sym w

-- what an origin names is of places
named_places : (g : Public) (h : List Entry) (r : Request) (m : ℕ) → AreAllowed g h → (o : Origin) (l : Link) → IsIn l (links_by g h r m o) → IsOfPlaces (length g.shape.points) l
named_places g h r m allowed (By n) l k = of_places_to (length g.shape.points) l (let b = brought g h m n l k in entry_places g b.entry l (Each-at (λ e. is_allowed g e ≡ true) b.entry h allowed (numbered_in n h b.entry b.at)) b.link)
named_places g h r m allowed (Own n) l k = of_places_to (length g.shape.points) l (links_places g r l (numbered_in n (links g r) l (own_at (links g r) n l k).at))

module _ (named : Origin → List Link) (n : ℕ) (of_places : (o : Origin) (l : Link) → IsIn l (named o) → IsOfPlaces n l) where
  joined_there : (a c : ℕ) (l : Link) → joins a c l ≡ true → IsOfPlaces n l → (a < n) × (c < n)
  joined_there a c (Single i) e p = absurd (false≢true e)
  joined_there a c (Pair i j) e p = ⊎_elim
      (λ z. let q = and_parts (eqb i a) (eqb j c) z in (subst (λ x. x < n) (eqb-true i a q.0) p.0, subst (λ x. x < n) (eqb-true j c q.1) p.1))
      (λ z. let q = and_parts (eqb i c) (eqb j a) z in (subst (λ x. x < n) (eqb-true j a q.1) p.1, subst (λ x. x < n) (eqb-true i c q.0) p.0))
      (or_cases (eqb i a && eqb j c) (eqb i c && eqb j a) e)

  pub steps_told : (from : ℕ) (steps : List WalkStep) → are_steps named from (steps_view steps) ≡ true → All (λ x. (x.from < n) × (x.to < n)) steps
  steps_told from [] e k d l = absurd (omega (arith, l))
  steps_told from (s ∷ steps) e zero d l =
      let p = and_parts (eqb s.from from && list_any (joins s.from s.to) (named (origin_view s.by))) (are_steps named s.to (steps_view steps)) e in
      let q = and_parts (eqb s.from from) (list_any (joins s.from s.to) (named (origin_view s.by))) p.0 in
      let a = any_from (joins s.from s.to) (named (origin_view s.by)) q.1 in
      joined_there s.from s.to a.0 a.2 (of_places (origin_view s.by) a.0 a.1)
  steps_told from (s ∷ steps) e (suc k) d l =
      let p = and_parts (eqb s.from from && list_any (joins s.from s.to) (named (origin_view s.by))) (are_steps named s.to (steps_view steps)) e in
      steps_told s.to steps p.1 k d (omega (arith, l))

  alone_there : (a : ℕ) (l : Link) → is_at a l ≡ true → IsOfPlaces n l → a < n
  alone_there a (Pair i j) e p = absurd (false≢true e)
  alone_there a (Single i) e p = subst (λ x. x < n) (eqb-true i a e) p

  pub end_told : (from : ℕ) (steps : List said.WalkStep) (e : Option End) → is_end named from steps (end_view e) ≡ true → EndsThere n e
  end_told from steps None x = tt
  end_told from steps (Some e) x =
      let p = and_parts (eqb e.place (led_to from steps)) (list_any (is_at e.place) (named (origin_view e.by))) x in
      let a = any_from (is_at e.place) (named (origin_view e.by)) p.1 in
      alone_there e.place a.0 a.2 (of_places (origin_view e.by) a.0 a.1)

pub walk_told : (g : Public) (h : List Entry) (r : Request) (m place : ℕ) (steps : List WalkStep) (e : Option End) → AreAllowed g h → is_walk g h r m place (steps_view steps) (end_view e) ≡ true → All (λ x. (x.from < length g.shape.points) × (x.to < length g.shape.points)) steps × EndsThere (length g.shape.points) e
walk_told g h r m place steps e allowed x =
    let p = and_parts (listed place (guarded g m) && are_steps (links_by g h r m) place (steps_view steps)) (is_end (links_by g h r m) place (steps_view steps) (end_view e)) x in
    let q = and_parts (listed place (guarded g m)) (are_steps (links_by g h r m) place (steps_view steps)) p.0 in
    (steps_told (links_by g h r m) (length g.shape.points) (named_places g h r m allowed) place steps q.1, end_told (links_by g h r m) (length g.shape.points) (named_places g h r m allowed) place (steps_view steps) e p.1)

-- ---- the blocks that the code finds
pub made_levels : (c : Core) (p : Policy) (m : ℕ) (ls : List ℕ) (t : Cell) (blocks : List Cell) → IsPolicy c.dims p → are_blocks (shown c p) m ls t blocks ≡ true → are_levels (plains c.dims) t.levels ≡ true
made_levels c p m ls t blocks rules e =
    let a = any_from (same_cell t) (protected (shown c p) m) (parts (shown c p) m ls t blocks e).protected_is in
    protected_levels c p m t rules (subst (λ s. IsIn s (protected (shown c p) m)) (sym (same_cell_eq t a.0 a.2)) a.1)

pub made_own : (c : Core) (p : Policy) (m : ℕ) (next ls : List ℕ) (t : Cell) (blocks found : List Cell) → are_blocks (shown c p) m next t blocks ≡ true → ls ≡ next → found ≡ blocks_of (bare c) ls t → are_blocks (shown c p) m next t found ≡ true
made_own c p m next ls t blocks found e same is =
    let own : blocks ≡ blocks_of (shown c p) next t = own_blocks (shown c p) m next t blocks (parts (shown c p) m next t blocks e) in
    let all : found ≡ blocks = is ∙ blocks_bare c p ls t ∙ ap (λ x. blocks_of (shown c p) x t) same ∙ sym own in
    ap (are_blocks (shown c p) m next t) all ∙ e
