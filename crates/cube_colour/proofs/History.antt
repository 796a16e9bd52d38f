-- The steps of a colouring: none, one more, and one less.
use Rattle.std.specs.List.{All, find, fold}
use Rattle.std.specs.Prelude.{◌^◌}
use Rattle.std.proofs.Common.{◌≡◌, ◌≢◌, ℕ, zero, suc, ◌+◌, ◌-◌, ◌<◌, ◌≤◌, inl, inr, ◌↔◌, Bool, true, false, cond, not, List, [], ◌∷◌, ◌++◌, length, map, take, drop, get_or, ℤ, refl, sym, ap, ap₂, ◌∙◌, subst, arith, ⊎_elim, Option, Some, None}
use Rattle.std.proofs.lemmas.Bool.{false≢true, cond-true, cond-false}
use Rattle.std.proofs.lemmas.List.{length-append, take-append-le, drop-append-le, take_all, drop_all, map_push, same_from_push}
use Rattle.std.proofs.lemmas.List.Sums.{fold-append}
use Rattle.cube_model.specs.declared.link.Link.{Link}
use Rattle.cube_model.specs.Cubes.{IsIn, count_from}
use Rattle.cube_model.specs.Links.{suiting, is_free, follows, basis}
use Rattle.cube_model.specs.LinkLaws.{Suits, IsOfPlaces}
use Rattle.cube_model.specs.Verdicts.{fixed_by}
use Rattle.cube_model.proofs.Bases.{basis_is_short}
use Rattle.cube_model.proofs.Members.{tested, IsIn-append, append_left}
use Rattle.cube_model.proofs.Walks.{listed_has}
use Rattle.cube_colour.specs.declared.forest.Node.{Node}
use Rattle.cube_colour.specs.declared.forest.Change.{Change}
use Rattle.cube_colour.specs.declared.forest.Change.TheVariants.{Fix, Join}
use Rattle.cube_colour.specs.declared.forest.Effect.TheVariants.{Follows, Changes}
use Rattle.cube_colour.specs.declared.forest.Saved.{Saved}
use Rattle.cube_colour.specs.declared.step.Step.{Step}
use Rattle.cube_colour.specs.Colourings.{IsColouring}
use Rattle.cube_colour.specs.Forests.{alone, IsNode, IsRanked, IsForest, IsChange, HasRoom, changed, restored, Labels, is_fixed, IsLabelled, AreLabels, AreGuarded, relabelled, Does}
use Rattle.cube_colour.specs.Steps.{links_of, undone, IsGrown, IsStep, Stands}
use Rattle.cube_colour.proofs.Components.{AreRoots, free_labels, follows_true, follows_false, labels_more}
use Rattle.cube_colour.proofs.Guards.{fixed_first, guarded_after}
use Rattle.cube_colour.proofs.Nodes.{change_ranked, change_labelled, change_long}
use Rattle.cube_colour.proofs.Starts.{lone_at, lone_long}
use Rattle.cube_colour.proofs.Weights.{lone_weight, change_weight, weight_room}

-- what holds of each element, at one of them
pub All-member : {X : Type 0} (P : X → Type 0) (x : X) (xs : List X) → All P xs → IsIn x xs → P x
All-member P x [] a h = absurd h
All-member P x (y ∷ ys) a (inl e) = subst P e (a 0 y (omega arith))
All-member P x (y ∷ ys) a (inr k) = All-member P x ys (λ i d lt. a (suc i) d (omega (arith, lt))) k

-- what holds of each member holds of all
pub All-from : {X : Type 0} (P : X → Type 0) (xs : List X) → ((x : X) → IsIn x xs → P x) → All P xs
All-from P [] h k d lt = absurd (omega (arith, lt))
All-from P (x ∷ xs) h zero d lt = h x (inl refl)
All-from P (x ∷ xs) h (suc k) d lt = All-from P xs (λ y m. h y (inr m)) k d (omega (arith, lt))

-- ---- bases

pub basis_push : (n : ℕ) (ls : List Link) (l : Link) → basis n (ls ++ l ∷ []) ≡ cond (follows n (basis n ls) l) (basis n ls) (basis n ls ++ l ∷ [])
basis_push n ls l = fold-append (λ kept l. cond (follows n kept l) kept (kept ++ l ∷ [])) [] ls (l ∷ [])

fold_long : (n : ℕ) (kept ls : List Link) → length (fold (λ kept l. cond (follows n kept l) kept (kept ++ l ∷ [])) kept ls) ≤ length kept + length ls
fold_long n kept [] = omega arith
fold_long n kept (l ∷ ls) = tested (follows n kept l)
    (λ e. subst (λ (k : List Link). length (fold (λ kept l. cond (follows n kept l) kept (kept ++ l ∷ [])) k ls) ≤ length kept + suc (length ls)) (sym (cond-true (follows n kept l) kept (kept ++ l ∷ []) e)) (let a = fold_long n kept ls in omega (arith, a)))
    (λ e. subst (λ (k : List Link). length (fold (λ kept l. cond (follows n kept l) kept (kept ++ l ∷ [])) k ls) ≤ length kept + suc (length ls)) (sym (cond-false (follows n kept l) kept (kept ++ l ∷ []) e)) (let a = fold_long n (kept ++ l ∷ []) ls in let b = length-append kept (l ∷ []) in omega (arith, a, b)))

-- a basis of itself but for its last link is one
pub basis_less : (n : ℕ) (ls : List Link) (l : Link) → basis n (ls ++ l ∷ []) ≡ ls ++ l ∷ [] → basis n ls ≡ ls
basis_less n ls l e = tested (follows n (basis n ls) l)
    (λ f. let a : basis n ls ≡ ls ++ l ∷ [] = sym (basis_push n ls l ∙ cond-true (follows n (basis n ls) l) (basis n ls) (basis n ls ++ l ∷ []) f) ∙ e in
    let b : length (basis n ls) ≡ length ls + 1 = ap length a ∙ length-append ls (l ∷ []) in
    absurd (omega (arith, b, fold_long n [] ls)))
    (λ f. (same_from_push (basis n ls) ls l l (sym (basis_push n ls l ∙ cond-false (follows n (basis n ls) l) (basis n ls) (basis n ls ++ l ∷ []) f) ∙ e)).0)

-- a link that does not follow makes a basis longer
pub basis_more : (n : ℕ) (ls : List Link) (l : Link) → basis n ls ≡ ls → follows n ls l ≡ false → basis n (ls ++ l ∷ []) ≡ ls ++ l ∷ []
basis_more n ls l e f = basis_push n ls l ∙ ap (λ (k : List Link). cond (follows n k l) k (k ++ l ∷ [])) e ∙ cond-false (follows n ls l) ls (ls ++ l ∷ []) f

-- a link that follows does not
pub basis_same : (n : ℕ) (ls : List Link) (l : Link) → basis n ls ≡ ls → follows n ls l ≡ true → basis n (ls ++ l ∷ []) ≡ ls
basis_same n ls l e f = basis_push n ls l ∙ ap (λ (k : List Link). cond (follows n k l) k (k ++ l ∷ [])) e ∙ cond-true (follows n ls l) ls (ls ++ l ∷ []) f

pub basis_short : (n : ℕ) (ls : List Link) → basis n ls ≡ ls → length ls ≤ n
basis_short n ls e = subst (λ (k : List Link). length k ≤ n) e (basis_is_short n ls)

-- ---- no link

pub grown_start : (n : ℕ) (guards : List ℕ) → IsGrown n guards [] (map (alone guards) (count_from 0 n))
grown_start n guards = record {
  long = lone_long guards n;
  ranked = record { node = λ i li. node i (omega (arith, li, lone_long guards n)) };
  light = (let e = lone_weight guards 0 n in omega (arith, e));
  labels = labels;
  labelled = record {
    root = λ i li e. let at = lone_at guards n i (omega (arith, li, lone_long guards n)) in record { root = refl; same = refl; fixed = ap (λ (x : Node). x.opposite) at; guarded = ap (λ (x : Node). x.guarded) at };
    child = λ i li ne. absurd (ne (ap (λ (x : Node). x.parent) (lone_at guards n i (omega (arith, li, lone_long guards n)))));
  };
  are_labels = record {
    below = λ i li. li;
    again = λ i li. refl;
    same = λ i li. refl;
    suits = λ xs. (
      (λ s. record { long = s.long; small = s.small; tied = λ i li. refl; zero = λ i li z. absurd (false≢true z) }),
      (λ h. record { long = h.long; small = h.small; all = λ l k. absurd k }),
    );
  };
  are_guarded = record { has = λ g k. listed_has g guards k; free = λ g k. refl };
}
  where
    labels : Labels
    labels = record { root = λ i. i; opposite = λ i. false; fixed = λ i. false; guarded = λ i. Rattle.cube_model.specs.Protection.listed i guards }

    node : (i : ℕ) → i < n → IsNode (map (alone guards) (count_from 0 n)) 0 i
    node i li =
        let at = lone_at guards n i li in
        let q = ap (λ (x : Node). x.parent) at in
        let r = ap (λ (x : Node). x.rank) at in
        record { below = omega (arith, q, li, lone_long guards n); ranked = omega (arith, r); climbs = λ ne. absurd (ne q) }

pub stands_start : (n : ℕ) (guards : List ℕ) (nodes : List Node) → All (λ place. place < n) guards → nodes ≡ map (alone guards) (count_from 0 n) → Stands n guards [] nodes
stands_start n guards nodes below is = record {
  own_basis = refl;
  of_places = λ l k. absurd k;
  below = below;
  in_range = λ k d lt. absurd (omega (arith, lt));
  at_each = each;
}
  where
    grown : IsGrown n guards [] nodes
    grown = subst (IsGrown n guards []) (sym is) (grown_start n guards)

    each : (k : ℕ) → k ≤ 0 → IsGrown n guards (links_of (take k [])) (undone (drop k []) nodes)
    each zero le = grown
    each (suc k) le = grown

weaker : (a b : ℕ) (nodes : List Node) → a ≤ b → IsRanked a nodes → IsRanked b nodes
weaker a b nodes le h = record { node = λ i li. let old = h.node i li in record { below = old.below; ranked = omega (arith, old.ranked, le); climbs = old.climbs } }

roots_of : (n : ℕ) (nodes : List Node) (l : Labels) (change : Change) → length nodes ≡ n → IsLabelled nodes l → IsChange nodes change → AreRoots n l change
roots_of n nodes l (Fix r) long labelled h = (omega (arith, long, h.0), (labelled.root r h.0 h.1).root)
roots_of n nodes l (Join c p b) long labelled h = (omega (arith, long, h.0), omega (arith, long, h.1), (labelled.root c h.0 h.3).root, (labelled.root p h.1 h.4).root, h.2)

undone_push : (steps : List Step) (step : Step) (nodes : List Node) → undone (steps ++ step ∷ []) nodes ≡ undone steps (restored step.saved nodes)
undone_push [] step nodes = refl
undone_push (s ∷ steps) step nodes = ap (restored s.saved) (undone_push steps step nodes)

-- ---- what stands

module _ (n : ℕ) (guards : List ℕ) (steps : List Step) (nodes : List Node) (stands : Stands n guards steps nodes) where
  pub grown : IsGrown n guards (links_of steps) nodes
  grown = subst (λ (s : List Step). IsGrown n guards (links_of steps) (undone s nodes)) (drop_all (length steps) steps (omega arith))
      (subst (λ (s : List Step). IsGrown n guards (links_of s) (undone (drop (length steps) steps) nodes)) (take_all (length steps) steps (omega arith)) (stands.at_each (length steps) (omega arith)))

  pub guard_below : (g : ℕ) → IsIn g guards → g < n
  guard_below g k = All-member (λ place. place < n) g guards stands.below k

  pub short : length (links_of steps) ≤ n
  short = basis_short n (links_of steps) stands.own_basis

  pub rules : IsColouring (record { places = n; guarded = guards; kept = links_of steps })
  rules = record {
    own_basis = stands.own_basis;
    short = short;
    of_places = stands.of_places;
    below = stands.below;
    free = All-from (λ place. is_free n (links_of steps) place ≡ true) guards (λ g k. free_labels n (links_of steps) grown.labels grown.are_labels g (guard_below g k) ∙ ap not (grown.are_guarded.free g k));
  }

  pub forest : IsForest nodes
  forest = weaker (length (links_of steps)) (length nodes) nodes (omega (arith, short, grown.long)) grown.ranked

  pub follows_here : (link : Link) → ((l : Labels) → IsLabelled nodes l → Does (length nodes) l (λ xs. Suits xs link) Follows) → follows n (links_of steps) link ≡ true
  follows_here link does = follows_true n (links_of steps) grown.labels grown.are_labels link (subst (λ (m : ℕ). Does m grown.labels (λ xs. Suits xs link) Follows) grown.long (does grown.labels grown.labelled))

  -- ---- a change for one more link
  module _ (link : Link) (change : Change) (fits : IsChange nodes change) (does : (l : Labels) → IsLabelled nodes l → Does (length nodes) l (λ xs. Suits xs link) (Changes change)) where
    roots : AreRoots n grown.labels change
    roots = roots_of n nodes grown.labels change grown.long grown.labelled fits

    does_here : Does n grown.labels (λ xs. Suits xs link) (Changes change)
    does_here = subst (λ (m : ℕ). Does m grown.labels (λ xs. Suits xs link) (Changes change)) grown.long (does grown.labels grown.labelled)

    pub not_follows : follows n (links_of steps) link ≡ false
    not_follows = follows_false n (links_of steps) grown.labels grown.are_labels link change roots does_here

    more : AreLabels n (links_of steps ++ link ∷ []) (relabelled change grown.labels)
    more = labels_more n (links_of steps) grown.labels grown.are_labels link change roots does_here

    pub first_here : (found : Option ℕ) → ((l : Labels) → IsLabelled nodes l → AreGuarded guards l → found ≡ find (is_fixed (relabelled change l)) guards) → fixed_by (suiting n (links_of steps ++ link ∷ [])) guards ≡ found
    first_here found h = fixed_first n (links_of steps ++ link ∷ []) (relabelled change grown.labels) guards more guard_below ∙ sym (h grown.labels grown.labelled grown.are_guarded)

    pub longer : basis n (links_of steps ++ link ∷ []) ≡ links_of steps ++ link ∷ []
    longer = basis_more n (links_of steps) link stands.own_basis not_follows

    pub room : n < 2 ^ 32 → HasRoom nodes change
    room lt = weight_room nodes change n fits grown.light lt

    pub stands_more : (saved : Saved) → IsOfPlaces n link → restored saved (changed change nodes) ≡ nodes → saved.first < length nodes → saved.second < length nodes → ((l : Labels) → IsLabelled nodes l → AreGuarded guards l → None ≡ find (is_fixed (relabelled change l)) guards) → Stands n guards (steps ++ record { link = link; saved = saved } ∷ []) (changed change nodes)
    stands_more saved of back first second none = record {
      own_basis = subst (λ (ls : List Link). basis n ls ≡ ls) (sym links) longer;
      of_places = λ x k. of_all x (IsIn-append x (links_of steps) (link ∷ []) (subst (IsIn x) links k));
      below = stands.below;
      in_range = All-from (IsStep n) (steps ++ step ∷ []) (λ x k. ranged x (IsIn-append x steps (step ∷ []) k));
      at_each = λ k le. each k le (below_or_at k (length steps) (omega (arith, le, length-append steps (step ∷ []))));
    }
      where
        step : Step
        step = record { link = link; saved = saved }

        links : links_of (steps ++ step ∷ []) ≡ links_of steps ++ link ∷ []
        links = map_push (λ (s : Step). s.link) steps step

        of_all : (x : Link) → Rattle.std.proofs.Common.◌⊎◌ (IsIn x (links_of steps)) (IsIn x (link ∷ [])) → IsOfPlaces n x
        of_all x (inl k) = stands.of_places x k
        of_all x (inr (inl e)) = subst (IsOfPlaces n) e of
        of_all x (inr (inr z)) = absurd z

        ranged : (x : Step) → Rattle.std.proofs.Common.◌⊎◌ (IsIn x steps) (IsIn x (step ∷ [])) → IsStep n x
        ranged x (inl k) = All-member (IsStep n) x steps stands.in_range k
        ranged x (inr (inl e)) = subst (IsStep n) e (omega (arith, first, grown.long), omega (arith, second, grown.long))
        ranged x (inr (inr z)) = absurd z

        now : IsGrown n guards (links_of steps ++ link ∷ []) (changed change nodes)
        now = record {
          long = change_long nodes change fits ∙ grown.long;
          ranked = weaker (suc (length (links_of steps))) (length (links_of steps ++ link ∷ [])) (changed change nodes) (omega (arith, length-append (links_of steps) (link ∷ []))) (change_ranked nodes change (length (links_of steps)) fits grown.ranked);
          light = (let less = change_weight nodes change fits in omega (arith, less, grown.light));
          labels = relabelled change grown.labels;
          labelled = change_labelled nodes change grown.labels fits grown.labelled;
          are_labels = more;
          are_guarded = guarded_after guards grown.labels grown.are_guarded change (sym (none grown.labels grown.labelled grown.are_guarded));
        }

        below_or_at : (k m : ℕ) → k ≤ m + 1 → Rattle.std.proofs.Common.◌⊎◌ (k ≤ m) (k ≡ m + 1)
        below_or_at k m le = grind arith

        each : (k : ℕ) → k ≤ length (steps ++ step ∷ []) → Rattle.std.proofs.Common.◌⊎◌ (k ≤ length steps) (k ≡ length steps + 1) → IsGrown n guards (links_of (take k (steps ++ step ∷ []))) (undone (drop k (steps ++ step ∷ [])) (changed change nodes))
        each k le (inl lt) =
            let front : take k (steps ++ step ∷ []) ≡ take k steps = take-append-le k steps (step ∷ []) lt in
            let behind : undone (drop k (steps ++ step ∷ [])) (changed change nodes) ≡ undone (drop k steps) nodes = ap (λ (s : List Step). undone s (changed change nodes)) (drop-append-le k steps (step ∷ []) lt) ∙ undone_push (drop k steps) step (changed change nodes) ∙ ap (undone (drop k steps)) back in
            subst (λ (s : List Step). IsGrown n guards (links_of s) (undone (drop k (steps ++ step ∷ [])) (changed change nodes))) (sym front)
            (subst (IsGrown n guards (links_of (take k steps))) (sym behind) (stands.at_each k lt))
        each k le (inr at) =
            let all : length (steps ++ step ∷ []) ≤ k = omega (arith, at, length-append steps (step ∷ [])) in
            let front : links_of (take k (steps ++ step ∷ [])) ≡ links_of steps ++ link ∷ [] = ap links_of (take_all k (steps ++ step ∷ []) all) ∙ links in
            let behind : undone (drop k (steps ++ step ∷ [])) (changed change nodes) ≡ changed change nodes = ap (λ (s : List Step). undone s (changed change nodes)) (drop_all k (steps ++ step ∷ []) all) in
            subst (λ (ls : List Link). IsGrown n guards ls (undone (drop k (steps ++ step ∷ [])) (changed change nodes))) (sym front) (subst (IsGrown n guards (links_of steps ++ link ∷ [])) (sym behind) now)

    -- the same of the lists of steps and of nodes that come of it
    pub stands_after : (saved : Saved) → IsOfPlaces n link → restored saved (changed change nodes) ≡ nodes → saved.first < length nodes → saved.second < length nodes → ((l : Labels) → IsLabelled nodes l → AreGuarded guards l → None ≡ find (is_fixed (relabelled change l)) guards) → (steps' : List Step) (nodes' : List Node) → steps' ≡ steps ++ record { link = link; saved = saved } ∷ [] → nodes' ≡ changed change nodes → Stands n guards steps' nodes'
    stands_after saved of back first second none steps' nodes' es en = subst (λ (ns : List Node). Stands n guards steps' ns) (sym en) (subst (λ (ss : List Step). Stands n guards ss (changed change nodes)) (sym es) (stands_more saved of back first second none))

-- ---- one less

pub stands_less : (n : ℕ) (guards : List ℕ) (steps : List Step) (step : Step) (nodes : List Node) → Stands n guards (steps ++ step ∷ []) nodes → Stands n guards steps (restored step.saved nodes)
stands_less n guards steps step nodes stands = record {
  own_basis = basis_less n (links_of steps) step.link (subst (λ (ls : List Link). basis n ls ≡ ls) links stands.own_basis);
  of_places = λ x k. stands.of_places x (subst (IsIn x) (sym links) (append_left x (links_of steps) (step.link ∷ []) k));
  below = stands.below;
  in_range = All-from (IsStep n) steps (λ x k. All-member (IsStep n) x (steps ++ step ∷ []) stands.in_range (append_left x steps (step ∷ []) k));
  at_each = λ k le.
      let front : take k (steps ++ step ∷ []) ≡ take k steps = take-append-le k steps (step ∷ []) le in
      let behind : undone (drop k (steps ++ step ∷ [])) nodes ≡ undone (drop k steps) (restored step.saved nodes) = ap (λ (s : List Step). undone s nodes) (drop-append-le k steps (step ∷ []) le) ∙ undone_push (drop k steps) step nodes in
      subst (λ (s : List Step). IsGrown n guards (links_of s) (undone (drop k steps) (restored step.saved nodes))) front
      (subst (IsGrown n guards (links_of (take k (steps ++ step ∷ [])))) behind (stands.at_each k (omega (arith, le, length-append steps (step ∷ [])))));
}
  where
    links : links_of (steps ++ step ∷ []) ≡ links_of steps ++ step.link ∷ []
    links = map_push (λ (s : Step). s.link) steps step
