-- What the nodes of a forest say of the components of places, and what components say of lists that suit links.
use Rattle.std.specs.Bool.{xor, beq}
use Rattle.std.specs.Prelude.{◌≡◌, ◌≢◌, ℕ, suc, ◌+◌, ◌-◌, ◌^◌, ◌<◌, ◌≤◌, max, Bool, true, false, ◌&&◌, ◌||◌, ◌==◌, ◌↔◌, List, [], ◌∷◌, length, slice_index_or, slice_set, if◌then◌else◌, ℤ, pos, negsuc, neg_ℤ}
use Rattle.cube_model.specs.declared.link.Link.{Link}
use Rattle.cube_model.specs.Cubes.{IsIn, Each}
use Rattle.cube_model.specs.LinkLaws.{entry, IsSmall, SuitsAll}
use Rattle.cube_model.specs.Protection.{listed}
use Rattle.cube_colour.specs.declared.forest.Node.{Node}
use Rattle.cube_colour.specs.declared.forest.Change.{Change}
use Rattle.cube_colour.specs.declared.forest.Change.TheVariants.{Fix, Join}
use Rattle.cube_colour.specs.declared.forest.Effect.{Effect}
use Rattle.cube_colour.specs.declared.forest.Effect.TheVariants.{Follows, Changes}
use Rattle.cube_colour.specs.declared.forest.Saved.{Saved}

-- ---- nodes

abbrev pub no_node : Node
no_node = record { parent = 0; opposite = false; rank = 0; guarded = false }

abbrev pub node_at : List Node → ℕ → Node
node_at nodes i = slice_index_or nodes i no_node

-- a place by itself
abbrev pub alone : List ℕ → ℕ → Node
alone guards i = record { parent = i; opposite = false; rank = 0; guarded = listed i guards }

-- the parent of a node is a node, of a higher rank unless it is the node itself
pub record IsNode (nodes : List Node) (most i : ℕ) : Type 0 where
  pub below : (node_at nodes i).parent < length nodes
  pub ranked : (node_at nodes i).rank ≤ most
  pub climbs : (node_at nodes i).parent ≢ i → (node_at nodes i).rank < (node_at nodes (node_at nodes i).parent).rank

-- ranks are at most so much
pub record IsRanked (most : ℕ) (nodes : List Node) : Type 0 where
  pub node : (i : ℕ) → i < length nodes → IsNode nodes most i

abbrev pub IsForest : List Node → Type 0
IsForest nodes = IsRanked (length nodes) nodes

-- ---- ranks are small

-- two to the power of its rank for each root, and nothing for another node
abbrev pub rooted : ℕ → Node → ℕ
rooted i node = if node.parent == i then 2 ^ node.rank else 0

-- the weight of nodes, the first of which is that of a place
abbrev pub weight : ℕ → List Node → ℕ
weight i [] = 0
weight i (node ∷ nodes) = rooted i node + weight (suc i) nodes

-- ---- changes of nodes

-- a root over another one
abbrev pub topped : Node → Node → Node
topped child parent = record { parent = parent.parent; opposite = parent.opposite || child.opposite; rank = max parent.rank (child.rank + 1); guarded = parent.guarded || child.guarded }

-- the nodes after a change
abbrev pub changed : Change → List Node → List Node
changed (Fix root) nodes = slice_set nodes root (record (node_at nodes root) { opposite = true })
changed (Join child parent opposite) nodes = slice_set (slice_set nodes child (record (node_at nodes child) { parent = parent; opposite = opposite })) parent (topped (node_at nodes child) (node_at nodes parent))

-- two nodes put back
abbrev pub restored : Saved → List Node → List Node
restored saved nodes = slice_set (slice_set nodes saved.second saved.second_node) saved.first saved.first_node

-- a change of roots, the lower one below the higher one
abbrev pub IsChange : List Node → Change → Type 0
IsChange nodes (Fix root) = (root < length nodes) × ((node_at nodes root).parent ≡ root)
IsChange nodes (Join child parent opposite) = (child < length nodes) × (parent < length nodes) × (child ≢ parent) × ((node_at nodes child).parent ≡ child) × ((node_at nodes parent).parent ≡ parent) × ((node_at nodes child).rank ≤ (node_at nodes parent).rank)

-- a rank that may grow by one
abbrev pub HasRoom : List Node → Change → Type 0
HasRoom nodes (Fix root) = Unit {0}
HasRoom nodes (Join child parent opposite) = (node_at nodes child).rank < 2 ^ 8 - 1

abbrev pub IsEffect : List Node → Effect → Type 0
IsEffect nodes Follows = Unit {0}
IsEffect nodes (Changes change) = IsChange nodes change

-- ---- components

-- the root of each place, whether the place has the opposite sign of the root, and of each root whether the component is fixed at 0
-- and whether a place of it is guarded
pub record Labels : Type 0 where
  pub root : ℕ → ℕ
  pub opposite : ℕ → Bool
  pub fixed : ℕ → Bool
  pub guarded : ℕ → Bool

pub record IsRoot (node : Node) (l : Labels) (i : ℕ) : Type 0 where
  pub root : l.root i ≡ i
  pub same : l.opposite i ≡ false
  pub fixed : node.opposite ≡ l.fixed i
  pub guarded : node.guarded ≡ l.guarded i

pub record IsChild (node : Node) (l : Labels) (i : ℕ) : Type 0 where
  pub root : l.root node.parent ≡ l.root i
  pub opposite : l.opposite i ≡ xor node.opposite (l.opposite node.parent)

-- the nodes have these labels
pub record IsLabelled (nodes : List Node) (l : Labels) : Type 0 where
  pub root : (i : ℕ) → i < length nodes → (node_at nodes i).parent ≡ i → IsRoot (node_at nodes i) l i
  pub child : (i : ℕ) → i < length nodes → (node_at nodes i).parent ≢ i → IsChild (node_at nodes i) l i

abbrev pub turned : Bool → ℤ → ℤ
turned false x = x
turned true x = neg_ℤ x

-- one small entry per place, each that of its root but for the sign, and 0 in a fixed component
pub record Holds (n : ℕ) (l : Labels) (xs : List ℤ) : Type 0 where
  pub long : length xs ≡ n
  pub small : Each IsSmall xs
  pub tied : (i : ℕ) → i < n → entry xs i ≡ turned (l.opposite i) (entry xs (l.root i))
  pub zero : (i : ℕ) → i < n → l.fixed (l.root i) ≡ true → entry xs i ≡ pos 0

-- the lists that suit the links are those that hold for the labels
pub record AreLabels (n : ℕ) (kept : List Link) (l : Labels) : Type 0 where
  pub below : (i : ℕ) → i < n → l.root i < n
  pub again : (i : ℕ) → i < n → l.root (l.root i) ≡ l.root i
  pub same : (i : ℕ) → i < n → l.opposite (l.root i) ≡ false
  pub suits : (xs : List ℤ) → SuitsAll n kept xs ↔ Holds n l xs

-- the component of a place is fixed at 0
abbrev pub is_fixed : Labels → ℕ → Bool
is_fixed l i = l.fixed (l.root i)

-- the components of guarded places are guarded, and not fixed
pub record AreGuarded (guards : List ℕ) (l : Labels) : Type 0 where
  pub has : (g : ℕ) → IsIn g guards → l.guarded (l.root g) ≡ true
  pub free : (g : ℕ) → IsIn g guards → is_fixed l g ≡ false

-- ---- changes of components

-- the labels after a change
abbrev pub relabelled : Change → Labels → Labels
relabelled (Fix root) l = record l { fixed = λ q. q == root || l.fixed q }
relabelled (Join child parent opposite) l = record {
  root = λ i. if l.root i == child then parent else l.root i;
  opposite = λ i. if l.root i == child then xor (l.opposite i) opposite else l.opposite i;
  fixed = λ q. if q == parent then l.fixed parent || l.fixed child else l.fixed q;
  guarded = λ q. if q == parent then l.guarded parent || l.guarded child else l.guarded q;
}

-- a component with a guarded place is fixed by the change
abbrev pub fixes_guarded : Change → Labels → Bool
fixes_guarded (Fix root) l = l.guarded root
fixes_guarded (Join child parent opposite) l = (l.fixed child || l.fixed parent) && (l.guarded child || l.guarded parent)

-- what the change asks of a list that holds
abbrev pub Asks : Change → List ℤ → Type 0
Asks (Fix root) xs = entry xs root ≡ pos 0
Asks (Join child parent opposite) xs = entry xs child ≡ turned opposite (entry xs parent)

-- some list that holds does not yet have what the change asks
abbrev pub IsNews : Change → Labels → Type 0
IsNews (Fix root) l = l.fixed root ≡ false
IsNews (Join child parent opposite) l = (l.fixed child && l.fixed parent) ≡ false

-- of the lists that hold, those with a property are all, or those with what a change asks
abbrev pub Does : ℕ → Labels → (List ℤ → Type 0) → Effect → Type 0
Does n l P Follows = (xs : List ℤ) → Holds n l xs → P xs
Does n l P (Changes change) = IsNews change l × ((xs : List ℤ) → Holds n l xs → P xs ↔ Asks change xs)

-- the sign of a place beside one in the component of a root
abbrev pub sign_beside : Labels → ℕ → Bool → ℕ → ℤ
sign_beside l root opposite place = if l.root place == root then (if beq (l.opposite place) opposite then pos 1 else negsuc 0) else pos 0
