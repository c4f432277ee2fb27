-- Layers put in front of a tree and taken off, over the cores that the tree itself records.
use Rattle.std.specs.Prelude.{◌≡◌, ℕ, zero, suc, ◌<◌, ◌≤◌, [], ◌∷◌, length, slice_index, slice_index_or}
use Rattle.std.specs.List.{insert, remove}
use Rattle.network.specs.Networks.{Multilayer}
use Rattle.cores.specs.Cores.{Order, Vector, VectorFor, InCore}
use Rattle.trees.specs.Vectors.{raised, lnz}
use Rattle.trees.specs.Trees.{Family, Tree, TreeOf, Stands}
use Rattle.trees.specs.Walks.{Along}

-- the cores that a tree records: what is stored on the line of the vector's place
abbrev pub Recorded : Tree → Family
Recorded t k v = (p : ℕ) × Stands t k p × Along t p v

-- the cores after the layer l of g came in front of t: where nothing is demanded on it those that t records, else those of g
abbrev pub with_layer : Multilayer → ℕ → Tree → Family
with_layer g l t [] v = ⊥
with_layer g l t (zero ∷ k) v = Recorded t k v
with_layer g l t (suc j ∷ k) v = InCore g (l ∷ t.order) (suc j ∷ k) v

-- t' is t with the layer l of g put in front
pub record PutInFront (g : Multilayer) (l : ℕ) (t t' : Tree) : Type 0 where
  pub order : t'.order ≡ l ∷ t.order
  pub tree : TreeOf (with_layer g l t) t'

-- the cores after the layer at i of the order went: those that t records where nothing is demanded on it
abbrev pub without_layer : ℕ → Tree → Family
without_layer i t k v = Recorded t (insert k i 0) v

-- t' is t with the layer l, which is not its only one, taken off
pub record TakenOff (l : ℕ) (t t' : Tree) : Type 0 where
  pub index : ℕ
  pub shown : index < length t.order
  pub layer : slice_index_or t.order index 0 ≡ l
  pub others : 1 < length t.order
  pub order : t'.order ≡ remove t.order index
  pub tree : TreeOf (without_layer index t) t'

-- no layer stands twice in the order
abbrev pub Different : Order → Type 0
Different o = (i j : ℕ) → i < length o → j < length o → slice_index o i ≡ slice_index o j → i ≡ j

-- a tree in general, on n vertices, whatever networks its layers came from
pub record Coherent (n : ℕ) (t : Tree) : Type 0 where
  pub some : 1 ≤ length t.order
  pub different : Different t.order
  -- it is the tree of the cores that it records
  pub tree : TreeOf (Recorded t) t
  -- the core at a child lies inside the core at its parent
  pub nested : (k : Vector) (i v : ℕ) → VectorFor t.order k → i < length t.order → lnz k ≤ suc i → Recorded t (raised k i) v → Recorded t k v
  -- the core of the zero vector is all n vertices
  pub root : (k : Vector) (v : ℕ) → VectorFor t.order k → ((i : ℕ) → slice_index k i ≡ 0) → v < n → Recorded t k v
  pub inside : (k : Vector) (v : ℕ) → Recorded t k v → v < n
