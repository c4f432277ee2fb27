-- The tree of the vectors with a nonempty core.
use Rattle.std.specs.Prelude.{◌≡◌, ℕ, suc, ◌-◌, ◌<◌, ◌≤◌, ◌↔◌, List, [], length, Some, None, Option, slice_index_or}
use Rattle.vertex_set.specs.Lists.{Ascending, Among}
use Rattle.network.specs.Networks.{Multilayer}
use Rattle.cores.specs.Cores.{Order, Vector, VectorFor, InCore}
use Rattle.trees.specs.Vectors.{raised, Before, lnz}

-- a family of cores: which vertices are in the core of which vector
abbrev pub Family : Type 1
Family = Vector → ℕ → Type 0

-- a vector, the place of its child at each position or none, and the vertices stored with it
pub record Node : Type 0 where
  pub vector : Vector
  pub children : List (Option ℕ)
  pub stored : List ℕ

-- an order, and the nodes by their places, which count from 0
pub record Tree : Type 0 where
  pub order : Order
  pub nodes : List Node

-- what stands past the last place
abbrev pub no_node : Node
no_node = record { vector = []; children = []; stored = [] }

-- the number of places
abbrev pub places : Tree → ℕ
places t = length t.nodes

-- the node at the place p
abbrev pub node_at : Tree → ℕ → Node
node_at t p = slice_index_or t.nodes p no_node

-- the place of the child of p at position i + 1, or none
abbrev pub child_at : Tree → ℕ → ℕ → Option ℕ
child_at t p i = slice_index_or (node_at t p).children i None

-- where a list over the order o has its last position
abbrev pub last : Order → ℕ
last o = length o - 1

-- the place of the child of p at the last position, or none
abbrev pub last_child : Tree → ℕ → Option ℕ
last_child t p = child_at t p (last t.order)

-- the vector k stands at the place p
abbrev pub Stands : Tree → Vector → ℕ → Type 0
Stands t k p = (p < places t) × ((node_at t p).vector ≡ k)

-- the child of k at position i + 1 is k one higher there, if that is a node and the position is from lnz on
abbrev pub ChildIs : Tree → Vector → ℕ → Option ℕ → Type 0
ChildIs t k i None = lnz k ≤ suc i → (q : ℕ) → Stands t (raised k i) q → ⊥
ChildIs t k i (Some q) = (lnz k ≤ suc i) × Stands t (raised k i) q

-- t is the tree of the family c
pub record TreeOf (c : Family) (t : Tree) : Type 0 where
  -- the nodes are vectors with one demand for each layer, in dictionary order
  pub fits : (p : ℕ) → p < places t → VectorFor t.order (node_at t p).vector
  pub sorted : (p q : ℕ) → p < q → q < places t → Before (node_at t p).vector (node_at t q).vector
  -- they are those with a nonempty core, and all of those
  pub nonempty : (p : ℕ) → p < places t → (v : ℕ) × c (node_at t p).vector v
  pub complete : (k : Vector) (v : ℕ) → VectorFor t.order k → c k v → (p : ℕ) × Stands t k p
  -- each has its child at each position
  pub slots : (p : ℕ) → p < places t → length (node_at t p).children ≡ length t.order
  pub child : (p i : ℕ) → p < places t → i < length t.order → ChildIs t (node_at t p).vector i (child_at t p i)
  -- each stores its core without that of the vector one higher at the last position, which is empty if there is no such child
  pub ascending : (p : ℕ) → p < places t → Ascending (node_at t p).stored
  pub stored : (p v : ℕ) → p < places t → Among v (node_at t p).stored ↔ (c (node_at t p).vector v × (c (raised (node_at t p).vector (last t.order)) v → ⊥))

-- t is the tree of the cores of the network g on the order o
pub record CoreTree (g : Multilayer) (o : Order) (t : Tree) : Type 0 where
  pub order : t.order ≡ o
  pub tree : TreeOf (InCore g o) t
