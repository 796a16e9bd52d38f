-- Changes of nodes: the ranks, the labels, and the way back.
use mathlib.Core.Bool.{xor}
use Rattle.std.proofs.Common.{◌≡◌, ◌≢◌, ℕ, suc, ◌+◌, ◌<◌, ◌≤◌, max, ◌⊎◌, inl, inr, Bool, true, false, cond, ◌||◌, List, length, set, refl, sym, ap, ap₂, ◌∙◌, subst, arith, eqb, ⊎_elim}
use Rattle.std.proofs.lemmas.Bool.{cases_eq, eq-eqb, ne_eqb, cond-true, cond-false}
use Rattle.std.proofs.lemmas.List.{get_or-set_same, get_or-set_other, length-set, set-set, set-get_or}
use Rattle.cube_colour.specs.declared.forest.Node.{Node}
use Rattle.cube_colour.specs.declared.forest.Change.{Change}
use Rattle.cube_colour.specs.declared.forest.Change.TheVariants.{Fix, Join}
use Rattle.cube_colour.specs.Forests.{no_node, node_at, IsNode, IsRanked, topped, changed, restored, IsChange, Labels, IsRoot, IsChild, IsLabelled, relabelled}

-- a choice by whether two numbers are equal
pub cond_eq : {X : Type 0} (a b : ℕ) (x y : X) → a ≡ b → cond (eqb a b) x y ≡ x
cond_eq a b x y e = cond-true (eqb a b) x y (eq-eqb a b e)

pub cond_ne : {X : Type 0} (a b : ℕ) (x y : X) → a ≢ b → cond (eqb a b) x y ≡ y
cond_ne a b x y e = cond-false (eqb a b) x y (ne_eqb a b e)

pub xor_assoc : (a b c : Bool) → xor (xor a b) c ≡ xor a (xor b c)
unfolding xor
xor_assoc true true true = refl
xor_assoc true true false = refl
xor_assoc true false true = refl
xor_assoc true false false = refl
xor_assoc false true true = refl
xor_assoc false true false = refl
xor_assoc false false true = refl
xor_assoc false false false = refl

pub xor_false : (a : Bool) → xor a false ≡ a
unfolding xor
xor_false true = refl
xor_false false = refl

pub false_xor : (a : Bool) → xor false a ≡ a
unfolding xor
false_xor true = refl
false_xor false = refl

-- ---- one node written

-- where a node is read that is written, or another one
at_set : (nodes : List Node) (r i : ℕ) (x : Node) → r < length nodes → ((i ≡ r) × (node_at (set nodes r x) i ≡ x)) ⊎ ((i ≢ r) × (node_at (set nodes r x) i ≡ node_at nodes i))
at_set nodes r i x lt = ⊎_elim
    (λ (e : i ≡ r). inl (e, subst (λ (j : ℕ). node_at (set nodes r x) j ≡ x) (sym e) (get_or-set_same nodes r x no_node lt)))
    (λ (e : i ≢ r). inr (e, get_or-set_other nodes r i x no_node e))
    (cases_eq i r)

-- ---- a fixed root

module _ (nodes : List Node) (r : ℕ) (lt : r < length nodes) (top : (node_at nodes r).parent ≡ r) where
  pub fixed_nodes : List Node
  fixed_nodes = changed (Fix r) nodes

  fixed_long : length fixed_nodes ≡ length nodes
  unfolding fixed_nodes
  fixed_long = length-set nodes r (record (node_at nodes r) { opposite = true })

  -- only whether the root is its own opposite has changed
  record SameBut (i : ℕ) : Type 0 where
    parent : (node_at fixed_nodes i).parent ≡ (node_at nodes i).parent
    rank : (node_at fixed_nodes i).rank ≡ (node_at nodes i).rank
    guarded : (node_at fixed_nodes i).guarded ≡ (node_at nodes i).guarded
    opposite : ((i ≡ r) × ((node_at fixed_nodes i).opposite ≡ true)) ⊎ ((i ≢ r) × ((node_at fixed_nodes i).opposite ≡ (node_at nodes i).opposite))

  same_but : (i : ℕ) → SameBut i
  unfolding fixed_nodes
  same_but i = ⊎_elim
      (λ a. let h : node_at nodes r ≡ node_at nodes i = ap (node_at nodes) (sym a.0) in record {
        parent = ap (λ (x : Node). x.parent) a.1 ∙ ap (λ (x : Node). x.parent) h;
        rank = ap (λ (x : Node). x.rank) a.1 ∙ ap (λ (x : Node). x.rank) h;
        guarded = ap (λ (x : Node). x.guarded) a.1 ∙ ap (λ (x : Node). x.guarded) h;
        opposite = inl (a.0, ap (λ (x : Node). x.opposite) a.1);
      })
      (λ a. record {
        parent = ap (λ (x : Node). x.parent) a.1;
        rank = ap (λ (x : Node). x.rank) a.1;
        guarded = ap (λ (x : Node). x.guarded) a.1;
        opposite = inr (a.0, ap (λ (x : Node). x.opposite) a.1);
      })
      (at_set nodes r i (record (node_at nodes r) { opposite = true }) lt)

  pub fix_ranked : (most : ℕ) → IsRanked most nodes → IsRanked (suc most) fixed_nodes
  fix_ranked most h = record { node = λ i li. go i (omega (arith, fixed_long, li)) }
    where
      go : (i : ℕ) → i < length nodes → IsNode fixed_nodes (suc most) i
      go i li =
          let s = same_but i in
          let old = h.node i li in
          let q = (node_at nodes i).parent in
          record {
            below = omega (arith, s.parent, old.below, fixed_long);
            ranked = omega (arith, s.rank, old.ranked);
            climbs = λ ne.
                let up : (node_at fixed_nodes (node_at fixed_nodes i).parent).rank ≡ (node_at nodes q).rank = ap (λ (j : ℕ). (node_at fixed_nodes j).rank) s.parent ∙ (same_but q).rank in
                omega (arith, s.rank, up, old.climbs (λ e. ne (s.parent ∙ e)));
          }

  pub fix_labelled : (l : Labels) → IsLabelled nodes l → IsLabelled fixed_nodes (relabelled (Fix r) l)
  fix_labelled l h = record { root = λ i li e. root i (omega (arith, fixed_long, li)) (sym (same_but i).parent ∙ e); child = λ i li ne. child i (omega (arith, fixed_long, li)) (λ e. ne ((same_but i).parent ∙ e)) }
    where
      root : (i : ℕ) → i < length nodes → (node_at nodes i).parent ≡ i → IsRoot (node_at fixed_nodes i) (relabelled (Fix r) l) i
      root i li e =
          let s = same_but i in
          let old = h.root i li e in
          record {
            root = old.root;
            same = old.same;
            fixed = ⊎_elim
                (λ a. a.1 ∙ ap (λ (b : Bool). b || l.fixed i) (sym (eq-eqb i r a.0)))
                (λ a. a.1 ∙ old.fixed ∙ ap (λ (b : Bool). b || l.fixed i) (sym (ne_eqb i r a.0)))
                s.opposite;
            guarded = s.guarded ∙ old.guarded;
          }

      child : (i : ℕ) → i < length nodes → (node_at nodes i).parent ≢ i → IsChild (node_at fixed_nodes i) (relabelled (Fix r) l) i
      child i li ne =
          let s = same_but i in
          let old = h.child i li ne in
          record {
            root = ap l.root s.parent ∙ old.root;
            opposite = old.opposite ∙ ap₂ xor (sym (kept i li ne)) (ap l.opposite (sym s.parent));
          }
        where
          kept : (i : ℕ) → i < length nodes → (node_at nodes i).parent ≢ i → (node_at fixed_nodes i).opposite ≡ (node_at nodes i).opposite
          kept i li ne = ⊎_elim (λ a. absurd (ne (subst (λ (j : ℕ). (node_at nodes j).parent ≡ j) (sym a.0) top))) (λ a. a.1) (same_but i).opposite

  pub fix_back : (w : Node) → w ≡ node_at nodes r → set (set fixed_nodes r w) r w ≡ nodes
  unfolding fixed_nodes
  fix_back w e = set-set fixed_nodes r w w ∙ set-set nodes r (record (node_at nodes r) { opposite = true }) w ∙ ap (set nodes r) e ∙ set-get_or nodes r no_node

-- ---- a root below another

module _ (nodes : List Node) (c p : ℕ) (b : Bool) (here : IsChange nodes (Join c p b)) where
  pub joined_nodes : List Node
  joined_nodes = changed (Join c p b) nodes

  lower : Node
  lower = record (node_at nodes c) { parent = p; opposite = b }

  upper : Node
  upper = topped (node_at nodes c) (node_at nodes p)

  below : List Node
  below = set nodes c lower

  below_long : length below ≡ length nodes
  unfolding below
  below_long = length-set nodes c lower

  joined_long : length joined_nodes ≡ length nodes
  unfolding joined_nodes below lower
  joined_long = length-set below p (topped (node_at nodes c) (node_at nodes p)) ∙ below_long

  -- the upper root, the lower one, and any other node
  data Which (i : ℕ) : Type 0 where
    at_upper : i ≡ p → node_at joined_nodes i ≡ upper → Which i
    at_lower : i ≡ c → node_at joined_nodes i ≡ lower → Which i
    elsewhere : i ≢ p → i ≢ c → node_at joined_nodes i ≡ node_at nodes i → Which i

  which : (i : ℕ) → Which i
  unfolding joined_nodes below lower upper
  which i = ⊎_elim
      (λ a. at_upper a.0 a.1)
      (λ a. ⊎_elim (λ d. at_lower d.0 (a.1 ∙ d.1)) (λ d. elsewhere a.0 d.0 (a.1 ∙ d.1)) (at_set nodes c i lower here.0))
      (at_set below p i upper (omega (arith, below_long, here.1)))

  rank_up : (i : ℕ) → (node_at nodes i).rank ≤ (node_at joined_nodes i).rank
  unfolding lower upper
  rank_up i = go (which i)
    where
      go : Which i → (node_at nodes i).rank ≤ (node_at joined_nodes i).rank
      go (at_upper e x) = let r : (node_at joined_nodes i).rank ≡ max (node_at nodes p).rank ((node_at nodes c).rank + 1) = ap (λ (x : Node). x.rank) x in let h : (node_at nodes i).rank ≡ (node_at nodes p).rank = ap (λ (j : ℕ). (node_at nodes j).rank) e in omega arith
      go (at_lower e x) = let r : (node_at joined_nodes i).rank ≡ (node_at nodes c).rank = ap (λ (x : Node). x.rank) x in let h : (node_at nodes i).rank ≡ (node_at nodes c).rank = ap (λ (j : ℕ). (node_at nodes j).rank) e in omega arith
      go (elsewhere n m x) = let r : (node_at joined_nodes i).rank ≡ (node_at nodes i).rank = ap (λ (x : Node). x.rank) x in omega arith

  pub join_ranked : (most : ℕ) → IsRanked most nodes → IsRanked (suc most) joined_nodes
  unfolding lower upper
  join_ranked most h = record { node = λ i li. go i (omega (arith, joined_long, li)) (which i) }
    where
      pc : (node_at nodes c).rank ≤ most
      pc = (h.node c here.0).ranked

      pp : (node_at nodes p).rank ≤ most
      pp = (h.node p here.1).ranked

      go : (i : ℕ) → i < length nodes → Which i → IsNode joined_nodes (suc most) i
      go i li (at_upper e x) =
          let q : (node_at joined_nodes i).parent ≡ p = ap (λ (x : Node). x.parent) x ∙ here.4 in
          let r : (node_at joined_nodes i).rank ≡ max (node_at nodes p).rank ((node_at nodes c).rank + 1) = ap (λ (x : Node). x.rank) x in
          record { below = omega (arith, q, joined_long, here.1); ranked = omega (arith, r, pc, pp); climbs = λ ne. absurd (ne (q ∙ sym e)) }
      go i li (at_lower e x) =
          let q : (node_at joined_nodes i).parent ≡ p = ap (λ (x : Node). x.parent) x in
          let r : (node_at joined_nodes i).rank ≡ (node_at nodes c).rank = ap (λ (x : Node). x.rank) x in
          record { below = omega (arith, q, joined_long, here.1); ranked = omega (arith, r, pc); climbs = λ ne. subst (λ (j : ℕ). (node_at joined_nodes i).rank < (node_at joined_nodes j).rank) (sym q) (subst (λ (k : ℕ). k < (node_at joined_nodes p).rank) (sym r) (higher (which p))) }
        where
          higher : Which p → (node_at nodes c).rank < (node_at joined_nodes p).rank
          higher (at_upper f y) = let t : (node_at joined_nodes p).rank ≡ max (node_at nodes p).rank ((node_at nodes c).rank + 1) = ap (λ (x : Node). x.rank) y in omega arith
          higher (at_lower f y) = absurd (here.2 (sym f))
          higher (elsewhere n m y) = absurd (n refl)
      go i li (elsewhere n m x) =
          let q : (node_at joined_nodes i).parent ≡ (node_at nodes i).parent = ap (λ (x : Node). x.parent) x in
          let r : (node_at joined_nodes i).rank ≡ (node_at nodes i).rank = ap (λ (x : Node). x.rank) x in
          let old = h.node i li in
          record {
            below = omega (arith, q, joined_long, old.below);
            ranked = omega (arith, r, old.ranked);
            climbs = λ ne.
                let up = rank_up (node_at nodes i).parent in
                let at : (node_at joined_nodes (node_at joined_nodes i).parent).rank ≡ (node_at joined_nodes (node_at nodes i).parent).rank = ap (λ (j : ℕ). (node_at joined_nodes j).rank) q in
                omega (arith, r, at, up, old.climbs (λ e. ne (q ∙ e)));
          }

  pub join_labelled : (l : Labels) → IsLabelled nodes l → IsLabelled joined_nodes (relabelled (Join c p b) l)
  unfolding lower upper
  join_labelled l h = record { root = λ i li e. root i (omega (arith, joined_long, li)) e (which i); child = λ i li ne. child i (omega (arith, joined_long, li)) ne (which i) }
    where
      lc : IsRoot (node_at nodes c) l c
      lc = h.root c here.0 here.3

      lp : IsRoot (node_at nodes p) l p
      lp = h.root p here.1 here.4

      apart : l.root p ≢ c
      apart e = here.2 (sym e ∙ lp.root)

      root_p : cond (eqb (l.root p) c) p (l.root p) ≡ p
      root_p = cond_ne (l.root p) c p (l.root p) apart ∙ lp.root

      same_p : cond (eqb (l.root p) c) (xor (l.opposite p) b) (l.opposite p) ≡ false
      same_p = cond_ne (l.root p) c (xor (l.opposite p) b) (l.opposite p) apart ∙ lp.same

      root : (i : ℕ) → i < length nodes → (node_at joined_nodes i).parent ≡ i → Which i → IsRoot (node_at joined_nodes i) (relabelled (Join c p b) l) i
      root i li e (at_upper f x) = subst (λ (j : ℕ). IsRoot (node_at joined_nodes i) (relabelled (Join c p b) l) j) (sym f) (record {
        root = root_p;
        same = same_p;
        fixed = ap (λ (x : Node). x.opposite) x ∙ ap₂ (λ (u v : Bool). u || v) lp.fixed lc.fixed ∙ sym (cond_eq p p (l.fixed p || l.fixed c) (l.fixed p) refl);
        guarded = ap (λ (x : Node). x.guarded) x ∙ ap₂ (λ (u v : Bool). u || v) lp.guarded lc.guarded ∙ sym (cond_eq p p (l.guarded p || l.guarded c) (l.guarded p) refl);
      })
      root i li e (at_lower f x) = let q : (node_at joined_nodes i).parent ≡ p = ap (λ (x : Node). x.parent) x in absurd (here.2 (sym f ∙ sym e ∙ q))
      root i li e (elsewhere n m x) =
          let old = h.root i li (sym (ap (λ (x : Node). x.parent) x) ∙ e) in
          let off : l.root i ≢ c = λ z. m (sym old.root ∙ z) in
          record {
            root = cond_ne (l.root i) c p (l.root i) off ∙ old.root;
            same = cond_ne (l.root i) c (xor (l.opposite i) b) (l.opposite i) off ∙ old.same;
            fixed = ap (λ (x : Node). x.opposite) x ∙ old.fixed ∙ sym (cond_ne i p (l.fixed p || l.fixed c) (l.fixed i) n);
            guarded = ap (λ (x : Node). x.guarded) x ∙ old.guarded ∙ sym (cond_ne i p (l.guarded p || l.guarded c) (l.guarded i) n);
          }

      child : (i : ℕ) → i < length nodes → (node_at joined_nodes i).parent ≢ i → Which i → IsChild (node_at joined_nodes i) (relabelled (Join c p b) l) i
      child i li ne (at_upper f x) = let q : (node_at joined_nodes i).parent ≡ p = ap (λ (x : Node). x.parent) x ∙ here.4 in absurd (ne (q ∙ sym f))
      child i li ne (at_lower f x) =
          let q : (node_at joined_nodes i).parent ≡ p = ap (λ (x : Node). x.parent) x in
          let at : l.root i ≡ c = ap l.root f ∙ lc.root in
          record {
            root = ap (λ (j : ℕ). cond (eqb (l.root j) c) p (l.root j)) q ∙ root_p ∙ sym (cond_eq (l.root i) c p (l.root i) at);
            opposite = cond_eq (l.root i) c (xor (l.opposite i) b) (l.opposite i) at ∙ ap (λ (u : Bool). xor u b) (ap l.opposite f ∙ lc.same) ∙ false_xor b ∙ sym (xor_false b)
                ∙ ap₂ xor (sym (ap (λ (x : Node). x.opposite) x)) (sym (ap (λ (j : ℕ). cond (eqb (l.root j) c) (xor (l.opposite j) b) (l.opposite j)) q ∙ same_p));
          }
      child i li ne (elsewhere n m x) =
          let q : (node_at joined_nodes i).parent ≡ (node_at nodes i).parent = ap (λ (x : Node). x.parent) x in
          let old = h.child i li (λ e. ne (q ∙ e)) in
          record {
            root = ap (λ (j : ℕ). cond (eqb (l.root j) c) p (l.root j)) q ∙ ap (λ (j : ℕ). cond (eqb j c) p j) old.root;
            opposite = signs (eqb (l.root i) c) (l.opposite i) (node_at nodes i).opposite (l.opposite (node_at nodes i).parent) old.opposite
                ∙ ap₂ xor (sym (ap (λ (x : Node). x.opposite) x)) (sym (ap (λ (j : ℕ). cond (eqb (l.root j) c) (xor (l.opposite j) b) (l.opposite j)) q ∙ ap (λ (j : ℕ). cond (eqb j c) (xor (l.opposite (node_at nodes i).parent) b) (l.opposite (node_at nodes i).parent)) old.root));
          }
        where
          signs : (t u v w : Bool) → u ≡ xor v w → cond t (xor u b) u ≡ xor v (cond t (xor w b) w)
          signs true u v w e = ap (λ (z : Bool). xor z b) e ∙ xor_assoc v w b
          signs false u v w e = e

  pub join_back : (vc vp : Node) → vc ≡ node_at nodes c → vp ≡ node_at nodes p → set (set joined_nodes p vp) c vc ≡ nodes
  unfolding joined_nodes below lower
  join_back vc vp ec ep =
      let read : node_at below p ≡ node_at nodes p = get_or-set_other nodes c p lower no_node (λ e. here.2 (sym e)) in
      ap (λ (ns : List Node). set ns c vc) (set-set below p (topped (node_at nodes c) (node_at nodes p)) vp ∙ ap (set below p) (ep ∙ sym read) ∙ set-get_or below p no_node)
      ∙ set-set nodes c lower vc ∙ ap (set nodes c) ec ∙ set-get_or nodes c no_node

-- ---- any change

pub change_ranked : (nodes : List Node) (change : Change) (most : ℕ) → IsChange nodes change → IsRanked most nodes → IsRanked (suc most) (changed change nodes)
unfolding fixed_nodes joined_nodes
change_ranked nodes (Fix r) most h ranked = fix_ranked nodes r h.0 h.1 most ranked
change_ranked nodes (Join c p b) most h ranked = join_ranked nodes c p b h most ranked

pub change_labelled : (nodes : List Node) (change : Change) (l : Labels) → IsChange nodes change → IsLabelled nodes l → IsLabelled (changed change nodes) (relabelled change l)
unfolding fixed_nodes joined_nodes
change_labelled nodes (Fix r) l h labelled = fix_labelled nodes r h.0 h.1 l labelled
change_labelled nodes (Join c p b) l h labelled = join_labelled nodes c p b h l labelled

pub change_long : (nodes : List Node) (change : Change) → IsChange nodes change → length (changed change nodes) ≡ length nodes
unfolding fixed_nodes joined_nodes
change_long nodes (Fix r) h = fixed_long nodes r h.0 h.1
change_long nodes (Join c p b) h = joined_long nodes c p b h

pub fixed_back : (nodes : List Node) (r : ℕ) → (node_at nodes r).parent ≡ r → r < length nodes → restored (record { first = r; first_node = node_at nodes r; second = r; second_node = node_at nodes r }) (changed (Fix r) nodes) ≡ nodes
unfolding fixed_nodes
fixed_back nodes r top lt = fix_back nodes r lt top (node_at nodes r) refl

pub joined_back : (nodes : List Node) (c p : ℕ) (b : Bool) → IsChange nodes (Join c p b) → restored (record { first = c; first_node = node_at nodes c; second = p; second_node = node_at nodes p }) (changed (Join c p b) nodes) ≡ nodes
unfolding joined_nodes
joined_back nodes c p b h = join_back nodes c p b h (node_at nodes c) (node_at nodes p) refl refl
