-- What holds of cores in every network that keeps the duties.
use Rattle.std.specs.Prelude.{◌≡◌, ℕ, ◌<◌, ◌≤◌, ◌↔◌, length, slice_index}
use Rattle.vertex_set.specs.Sets.{Set, ◌∈◌, ◌⊆◌, Same, below}
use Rattle.network.specs.Networks.{Multilayer, Duties}
use Rattle.cores.specs.Cores.{Order, Vector, Meets, Core}

-- there is a core, and all cores have the same members
abbrev pub OneCore : Type 0
OneCore = (highest : ℕ) (g : Multilayer) → Duties highest g → (o : Order) (k : Vector) → (c : Set) × Core g o k c × ((d : Set) → Core g o k d → Same d c)

-- each demand of k for the order o is 0
abbrev pub Zero : Order → Vector → Type 0
Zero o k = (i : ℕ) → i < length o → slice_index k i ≡ 0

-- the core of a zero vector is all vertices of the network
abbrev pub ZeroCore : Type 0
ZeroCore = (highest : ℕ) (g : Multilayer) → Duties highest g → (o : Order) (k : Vector) → Zero o k → Core g o k (below g.vertices)

-- no demand of j is higher than that of k
abbrev pub NoHigher : Order → Vector → Vector → Type 0
NoHigher o j k = (i : ℕ) → i < length o → slice_index j i ≤ slice_index k i

-- the core of a higher vector lies inside the core of a lower one
abbrev pub NestedCores : Type 0
NestedCores = (highest : ℕ) (g : Multilayer) → Duties highest g → (o : Order) (j k : Vector) → NoHigher o j k → (c d : Set) → Core g o j c → Core g o k d → d ⊆ c

-- the members of the core are those of all groups that meet the vector
abbrev pub GroupsInCore : Type 0
GroupsInCore = (highest : ℕ) (g : Multilayer) → Duties highest g → (o : Order) (k : Vector) (c : Set) → Core g o k c → (v : ℕ) → (v ∈ c) ↔ ((s : Set) × Meets g o k s × (v ∈ s))
