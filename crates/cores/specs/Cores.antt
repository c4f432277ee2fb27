-- What a core is.
use Rattle.std.specs.Prelude.{◌≡◌, ℕ, ◌<◌, ◌≤◌, List, length, slice_index}
use Rattle.vertex_set.specs.Sets.{Set, ◌∈◌, ◌⊆◌, below}
use Rattle.network.specs.Networks.{Multilayer}

-- a list of layers, by their numbers
abbrev pub Order : Type 0
Order = List ℕ

-- a list of demands, one for each layer of an order
abbrev pub Vector : Type 0
Vector = List ℕ

-- o is an order for the network: it has a layer, only layers of the network, and none twice
pub record ValidOrder (g : Multilayer) (o : Order) : Type 0 where
  pub some : 1 ≤ length o
  pub known : (i : ℕ) → i < length o → slice_index o i < g.layers
  pub different : (i j : ℕ) → i < length o → j < length o → slice_index o i ≡ slice_index o j → i ≡ j

-- k has one demand for each layer of o
abbrev pub VectorFor : Order → Vector → Type 0
VectorFor o k = length k ≡ length o

-- v has within s, in each layer of the order, at least the demanded strength
abbrev pub Strong : Multilayer → Order → Vector → Set → ℕ → Type 0
Strong g o k s v = (i : ℕ) → i < length o → slice_index k i ≤ g.strength (slice_index o i) s v

-- v falls short within s: in some layer of the order it has less than the demanded strength
abbrev pub Short : Multilayer → Order → Vector → Set → ℕ → Type 0
Short g o k s v = (i : ℕ) × (i < length o) × (g.strength (slice_index o i) s v < slice_index k i)

-- v is a vertex of the network and a member of s, and falls short within s
pub record Weak (g : Multilayer) (o : Order) (k : Vector) (s : Set) (v : ℕ) : Type 0 where
  pub within : v < g.vertices
  pub here : v ∈ s
  pub short : Short g o k s v

-- each vertex of the network that is a member of s is strong within s
abbrev pub EachStrong : Multilayer → Order → Vector → Set → Type 0
EachStrong g o k s = (v : ℕ) → v < g.vertices → v ∈ s → Strong g o k s v

-- the group s meets the vector k: it has only vertices of the network, each of them strong within s
pub record Meets (g : Multilayer) (o : Order) (k : Vector) (s : Set) : Type 0 where
  pub inside : s ⊆ below g.vertices
  pub strong : (v : ℕ) → v ∈ s → Strong g o k s v

-- the core: the group that meets k and contains every group that does
pub record Core (g : Multilayer) (o : Order) (k : Vector) (c : Set) : Type 0 where
  pub meets : Meets g o k c
  pub largest : (s : Set) → Meets g o k s → s ⊆ c

-- the core within a: the group inside a that meets k and contains every group inside a that does
pub record CoreWithin (g : Multilayer) (o : Order) (k : Vector) (a c : Set) : Type 0 where
  pub meets : Meets g o k c
  pub inside : c ⊆ a
  pub largest : (s : Set) → Meets g o k s → s ⊆ a → s ⊆ c

-- v belongs to some group that meets k, and so to the core
abbrev pub InCore : Multilayer → Order → Vector → ℕ → Type 0
InCore g o k v = (s : Set) × Meets g o k s × (v ∈ s)
