-- What holds of trees: of the tree of each network that keeps the duties, on each order, and of trees in general.
use Rattle.std.specs.Prelude.{◌≡◌, ℕ, ◌<◌, ◌≤◌, ◌↔◌, ◌∷◌, length, ◌≢◌, slice_index}
use Rattle.std.specs.List.{remove}
use Rattle.vertex_set.specs.Sets.{Set, ◌∈◌}
use Rattle.vertex_set.specs.Lists.{Among}
use Rattle.network.specs.Networks.{Multilayer, Duties}
use Rattle.cores.specs.Cores.{Order, Vector, ValidOrder, VectorFor, Core, InCore}
use Rattle.trees.specs.Vectors.{lnz, LastNonzero}
use Rattle.trees.specs.Trees.{Tree, CoreTree, places}
use Rattle.trees.specs.Walks.{OneParent, OnePath, Split, Lines}
use Rattle.trees.specs.Layers.{Recorded, with_layer, PutInFront, TakenOff, Coherent}
use Rattle.trees.specs.Room.{stored_count, Counted}

-- lnz is the last position with a nonzero demand, or 1
abbrev pub LnzIsLast : Type 0
LnzIsLast = (k : Vector) → LastNonzero k (lnz k)

-- P holds of the tree t of each network that keeps the duties, on each order
abbrev pub EachNetwork : (Multilayer → Order → Tree → Type 0) → Type 0
EachNetwork P = (highest : ℕ) (g : Multilayer) → Duties highest g → (o : Order) → ValidOrder g o → (t : Tree) → CoreTree g o t → P g o t

-- P holds of the tree of each network, and of each tree whose layers came from several
abbrev pub EachTree : (Tree → Type 0) → Type 0
EachTree P = EachNetwork (λ g o t. P t) × ((n : ℕ) (t : Tree) → Coherent n t → P t)

-- a network has one tree on each order, whatever way it is made
abbrev pub OneTree : Type 0
OneTree = (highest : ℕ) (g : Multilayer) → Duties highest g → (o : Order) → (t : Tree) × CoreTree g o t × ((u : Tree) → CoreTree g o u → u ≡ t)

-- the tree of a network is coherent, and records just the cores
abbrev pub RecordsCores : Type 0
RecordsCores = EachNetwork (λ g o t. Coherent g.vertices t × ((k : Vector) → VectorFor o k → (c : Set) → Core g o k c → (v : ℕ) → (v ∈ c) ↔ Recorded t k v))

-- a layer that is not shown, of a network with as many vertices, gives one tree when it is put in front, and that is coherent
abbrev pub OneInFront : Type 0
OneInFront = (highest : ℕ) (g : Multilayer) → Duties highest g → (t : Tree) → Coherent g.vertices t → (l : ℕ) → (Among l t.order → ⊥) → (u : Tree) × PutInFront g l t u × Coherent g.vertices u × ((u' : Tree) → PutInFront g l t u' → u' ≡ u)

-- a layer that is shown, and not the only one, gives one tree when it is taken off, and that is coherent
abbrev pub OneTakenOff : Type 0
OneTakenOff = (n : ℕ) (t : Tree) → Coherent n t → (l : ℕ) → Among l t.order → 1 < length t.order → (u : Tree) × TakenOff l t u × Coherent n u × ((u' : Tree) → TakenOff l t u' → u' ≡ u)

-- each node but the root has one parent
abbrev pub OneParents : Type 0
OneParents = EachTree OneParent

-- one path leads to each place
abbrev pub OnePaths : Type 0
OnePaths = EachTree OnePath

-- the core at a node is what it stores and, apart from that, the core at its child at the last position
abbrev pub CoresSplit : Type 0
CoresSplit = EachNetwork (λ g o t. Split (InCore g o) t) × ((n : ℕ) (t : Tree) → Coherent n t → Split (Recorded t) t)

-- the child at the last position stands at the next place, and lines lie side by side
abbrev pub LinesLieTogether : Type 0
LinesLieTogether = EachTree Lines

-- over one network, a layer put in front of the tree on o gives just the tree on that layer and o
abbrev pub FrontOfNetwork : Type 0
FrontOfNetwork = EachNetwork (λ g o t. (l : ℕ) (u : Tree) → PutInFront g l t u ↔ CoreTree g (l ∷ o) u)

-- over one network, a layer taken off the tree on o gives just the tree on o without it
abbrev pub OffNetwork : Type 0
OffNetwork = EachNetwork (λ g o t. (i : ℕ) → i < length o → 1 < length o → (u : Tree) → TakenOff (slice_index o i) t u ↔ CoreTree g (remove o i) u)

-- two layers can be taken off in either order if a third is left, and that gives the same tree
pub record EitherWay (t : Tree) : Type 0 where
  pub possible : (x y : ℕ) → Among x t.order → Among y t.order → (x ≢ y) → 3 ≤ length t.order → (u u' v : Tree) × TakenOff x t u × TakenOff y u v × TakenOff y t u' × TakenOff x u' v
  pub same : (x y : ℕ) (u v u' v' : Tree) → TakenOff x t u → TakenOff y u v → TakenOff y t u' → TakenOff x u' v' → v ≡ v'

abbrev pub OffInEitherOrder : Type 0
OffInEitherOrder = EachTree EitherWay

-- a layer taken off leaves no more nodes and no more stored vertices
abbrev pub OffNeedsNoMore : Type 0
OffNeedsNoMore = EachTree (λ t. (l : ℕ) (u : Tree) → TakenOff l t u → (places u ≤ places t) × (stored_count u ≤ stored_count t))

-- "more than m" is said of the cores just if it is true of the tree: of a network's, and of one with a layer put in front
abbrev pub RoomIsCounted : Type 0
RoomIsCounted = EachNetwork (λ g o t. Counted o (InCore g o) t) × ((g : Multilayer) (t : Tree) (l : ℕ) (u : Tree) → PutInFront g l t u → Counted (l ∷ t.order) (with_layer g l t) u)
