-- What one node says of the entries of its place and of the place above.
use Rattle.std.specs.Bool.{beq}
use Rattle.std.proofs.Common.{◌≡◌, ◌≢◌, ℕ, ◌<◌, Bool, true, false, not, List, length, get_or, ℤ, pos, ◌+ℤ◌, refl, sym, ap, ap₂, ◌∙◌, subst, arith, ⊎_elim}
use Rattle.std.proofs.lemmas.Bool.{cases_eq}
use Rattle.std.proofs.lemmas.Int.{ints}
use Rattle.std.proofs.lemmas.List.{get_or_default}
use Rattle.cube_model.specs.LinkLaws.{entry}
use Rattle.cube_colour.specs.declared.forest.Node.{Node}
use Rattle.cube_colour.specs.Forests.{no_node, node_at, IsForest, Labels, IsLabelled, turned, Holds}
use Rattle.cube_colour.proofs.Components.{turned_twice, turned_zero}

-- entries with different signs of one entry
differ : (a b : Bool) (x y z : ℤ) → x ≡ turned a z → y ≡ turned b z → not (beq a b) ≡ true → x +ℤ y ≡ pos 0
differ true true x y z e f ne = absurd cc
differ true false x y z e f ne = omega (arith, ints)
differ false true x y z e f ne = omega (arith, ints)
differ false false x y z e f ne = absurd cc

-- a sign turned twice
unlike : (a b : Bool) (z : ℤ) → turned a (turned b z) ≡ turned (not (beq a b)) z
unlike true true z = omega (arith, ints)
unlike true false z = refl
unlike false true z = refl
unlike false false z = refl

-- an entry with the opposite sign of the other
turns : (a : Bool) (x y : ℤ) → x ≡ turned a y → a ≡ true → x +ℤ y ≡ pos 0
turns true x y e t = omega (arith, ints)
turns false x y e t = absurd cc

-- a node that was read
pub read : (items nodes : List Node) (i : ℕ) (node : Node) → items ≡ nodes → i < length nodes → node ≡ get_or items i node → node ≡ node_at nodes i
read items nodes i node same lt e = e ∙ ap (λ (ns : List Node). get_or ns i node) same ∙ get_or_default nodes i node no_node lt

module _ (nodes : List Node) (forest : IsForest nodes) (l : Labels) (labelled : IsLabelled nodes l) (xs : List ℤ) (holds : Holds (length nodes) l xs) where
  -- a root is its own parent, and where it is its own opposite its entry is 0
  at_root : (i : ℕ) → i < length nodes → (node_at nodes i).parent ≡ i → (b : Bool) → (node_at nodes i).opposite ≡ b → entry xs i ≡ turned b (entry xs i)
  at_root i li top true e =
      let here = labelled.root i li top in
      let zero = holds.zero i li (ap l.fixed here.root ∙ sym here.fixed ∙ e) in
      zero ∙ sym (turned_zero true (entry xs i) zero)
  at_root i li top false e = refl

  pub above : (i : ℕ) → i < length nodes → entry xs i ≡ turned (node_at nodes i).opposite (entry xs (node_at nodes i).parent)
  above i li = ⊎_elim
      (λ (e : (node_at nodes i).parent ≡ i). at_root i li e (node_at nodes i).opposite refl ∙ ap (λ (j : ℕ). turned (node_at nodes i).opposite (entry xs j)) (sym e))
      (λ (e : (node_at nodes i).parent ≢ i).
      let here = labelled.child i li e in
      let parent = (node_at nodes i).parent in
      holds.tied i li ∙ ap (λ (b : Bool). turned b (entry xs (l.root i))) here.opposite ∙ sym (turned_twice (node_at nodes i).opposite (l.opposite parent) (entry xs (l.root i)))
      ∙ ap (λ (j : ℕ). turned (node_at nodes i).opposite (turned (l.opposite parent) (entry xs j))) (sym here.root) ∙ ap (turned (node_at nodes i).opposite) (sym (holds.tied parent (forest.node i li).below)))
      (cases_eq (node_at nodes i).parent i)

  -- two places with one parent, and different signs of its entry
  pub siblings : (i j : ℕ) (first second : Node) → i < length nodes → j < length nodes → first ≡ node_at nodes i → second ≡ node_at nodes j → first.parent ≡ second.parent → not (beq first.opposite second.opposite) ≡ true → entry xs i +ℤ entry xs j ≡ pos 0
  siblings i j first second li lj e f same ne =
      let one = subst (λ (x : Node). entry xs i ≡ turned x.opposite (entry xs x.parent)) (sym e) (above i li) in
      let other = subst (λ (x : Node). entry xs j ≡ turned x.opposite (entry xs x.parent)) (sym f) (above j lj) in
      differ first.opposite second.opposite (entry xs i) (entry xs j) (entry xs second.parent) (one ∙ ap (λ (k : ℕ). turned first.opposite (entry xs k)) same) other ne

  -- a place and its parent
  pub below : (i j : ℕ) (node : Node) → i < length nodes → node ≡ node_at nodes i → node.parent ≡ j → node.opposite ≡ true → entry xs i +ℤ entry xs j ≡ pos 0
  below i j node li e up t =
      let here = subst (λ (x : Node). entry xs i ≡ turned x.opposite (entry xs x.parent)) (sym e) (above i li) in
      turns node.opposite (entry xs i) (entry xs j) (here ∙ ap (λ (k : ℕ). turned node.opposite (entry xs k)) up) t

  -- two places whose parents have one parent
  pub cousins : (first second upper other : Node) → first.parent < length nodes → second.parent < length nodes → upper ≡ node_at nodes first.parent → other ≡ node_at nodes second.parent → upper.parent ≡ other.parent → not (beq (not (beq first.opposite upper.opposite)) (not (beq second.opposite other.opposite))) ≡ true → turned first.opposite (entry xs first.parent) +ℤ turned second.opposite (entry xs second.parent) ≡ pos 0
  cousins first second upper other lp lq e f same ne =
      let up = subst (λ (x : Node). entry xs first.parent ≡ turned x.opposite (entry xs x.parent)) (sym e) (above first.parent lp) in
      let beside = subst (λ (x : Node). entry xs second.parent ≡ turned x.opposite (entry xs x.parent)) (sym f) (above second.parent lq) in
      differ (not (beq first.opposite upper.opposite)) (not (beq second.opposite other.opposite)) (turned first.opposite (entry xs first.parent)) (turned second.opposite (entry xs second.parent)) (entry xs other.parent)
      (ap (turned first.opposite) (up ∙ ap (λ (k : ℕ). turned upper.opposite (entry xs k)) same) ∙ unlike first.opposite upper.opposite (entry xs other.parent))
      (ap (turned second.opposite) beside ∙ unlike second.opposite other.opposite (entry xs other.parent)) ne

  -- the entries of two places, by their nodes
  pub both_above : (i j : ℕ) (first second : Node) → i < length nodes → j < length nodes → first ≡ node_at nodes i → second ≡ node_at nodes j → turned first.opposite (entry xs first.parent) +ℤ turned second.opposite (entry xs second.parent) ≡ pos 0 → entry xs i +ℤ entry xs j ≡ pos 0
  both_above i j first second li lj e f sum =
      let one = subst (λ (x : Node). entry xs i ≡ turned x.opposite (entry xs x.parent)) (sym e) (above i li) in
      let other = subst (λ (x : Node). entry xs j ≡ turned x.opposite (entry xs x.parent)) (sym f) (above j lj) in
      ap₂ (λ (x y : ℤ). x +ℤ y) one other ∙ sum

-- the node above a node that was read is a node
pub parent_below : (nodes : List Node) (i : ℕ) (node : Node) → IsForest nodes → i < length nodes → node ≡ node_at nodes i → node.parent < length nodes
parent_below nodes i node forest lt e = subst (λ (x : Node). x.parent < length nodes) (sym e) (forest.node i lt).below
