-- How many nodes and stored vertices a tree has, and how many it would have.
use Rattle.std.specs.Prelude.{ℕ, ◌<◌, List, [], length, slice_index_or}
use Rattle.cores.specs.Cores.{Order, Vector, VectorFor}
use Rattle.trees.specs.Vectors.{raised}
use Rattle.trees.specs.Trees.{Family, Tree, places, last}
use Rattle.trees.specs.Walks.{store, Apart}

-- how many vertices t stores, each counted at each node that stores it
abbrev pub stored_count : Tree → ℕ
stored_count t = length (store t)

-- on the order o more than m vectors have a nonempty core: here are so many
pub record MoreNodes (o : Order) (c : Family) (m : ℕ) : Type 0 where
  pub vectors : List Vector
  pub more : m < length vectors
  pub apart : Apart [] vectors
  pub fit : (i : ℕ) → i < length vectors → VectorFor o (slice_index_or vectors i [])
  pub nonempty : (i : ℕ) → i < length vectors → (v : ℕ) × c (slice_index_or vectors i []) v

-- on the order o the node of k stores v: v is in its core, and not in that of the vector one higher at the last position
abbrev pub Stores : Order → Family → Vector × ℕ → Type 0
Stores o c (k, v) = c k v × (c (raised k (last o)) v → ⊥)

-- on the order o more than m vertices are stored, each counted at each vector that stores it: here are so many
pub record MoreStored (o : Order) (c : Family) (m : ℕ) : Type 0 where
  pub pairs : List (Vector × ℕ)
  pub more : m < length pairs
  pub apart : Apart ([], 0) pairs
  pub fit : (i : ℕ) → i < length pairs → VectorFor o (slice_index_or pairs i ([], 0)).0
  pub stored : (i : ℕ) → i < length pairs → Stores o c (slice_index_or pairs i ([], 0))

-- t has just as many nodes and stored vertices as the family gives
pub record Counted (o : Order) (c : Family) (t : Tree) : Type 0 where
  pub nodes : (m : ℕ) → (m < places t → MoreNodes o c m) × (MoreNodes o c m → m < places t)
  pub stored : (m : ℕ) → (m < stored_count t → MoreStored o c m) × (MoreStored o c m → m < stored_count t)
