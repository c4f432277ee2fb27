-- Weights, one for each layer and two vertices, and the rules that they keep.
use Rattle.std.specs.Prelude.{◌≡◌, ℕ, ◌+◌, ◌*◌, ◌<◌, List, length, slice_index}

-- what a table is made of: the rows of all vertices, layer by layer, one behind the other
pub record Weights : Type 0 where
  pub vertices : ℕ
  pub layers : ℕ
  pub list : List ℕ

-- n vertices, with the given layers and weights
abbrev pub weights : ℕ → ℕ → List ℕ → Weights
weights n layers list = record { vertices = n; layers = layers; list = list }

-- the weight of u in the row of v, in the layer l
abbrev pub weight : Weights → ℕ → ℕ → ℕ → ℕ
weight t l v u = slice_index t.list ((l * t.vertices + v) * t.vertices + u)

-- xs is the row of v in the layer l
abbrev pub Row : Weights → ℕ → ℕ → List ℕ → Type 0
Row t l v xs = (length xs ≡ t.vertices) × ((u : ℕ) → u < t.vertices → slice_index xs u ≡ weight t l v u)

-- in each layer each vertex has a weight for each vertex
abbrev pub Full : Weights → Type 0
Full t = length t.list ≡ t.layers * t.vertices * t.vertices

-- in the layer l, no vertex has a weight in its own row
abbrev pub NoOwnIn : Weights → ℕ → Type 0
NoOwnIn t l = (v : ℕ) → v < t.vertices → weight t l v v ≡ 0

-- no vertex has a weight in its own row
abbrev pub NoOwn : Weights → Type 0
NoOwn t = (l v : ℕ) → (l < t.layers) × (v < t.vertices) → weight t l v v ≡ 0
