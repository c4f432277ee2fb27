-- Rows of neighbours, one for each layer and vertex, and the rules that they keep.
use Rattle.std.specs.Prelude.{◌≡◌, ℕ, ◌+◌, ◌-◌, ◌*◌, ◌<◌, ◌≤◌, List, length, take, drop, ◌≢◌, slice_index}
use Rattle.vertex_set.specs.Sets.{◌∈◌}
use Rattle.vertex_set.specs.Lists.{Ascending, elements}

-- what a table is made of: where each row starts, and the rows one behind the other
pub record Rows : Type 0 where
  pub vertices : ℕ
  pub layers : ℕ
  pub starts : List ℕ
  pub neighbours : List ℕ

-- n vertices, with the given layers, starts and neighbours
abbrev pub rows : ℕ → ℕ → List ℕ → List ℕ → Rows
rows n layers starts neighbours = record { vertices = n; layers = layers; starts = starts; neighbours = neighbours }

-- row r: the neighbours from its start up to the next start
unfoldable pub row_at : List ℕ → List ℕ → ℕ → List ℕ
row_at starts neighbours r = take (slice_index starts (r + 1) - slice_index starts r) (drop (slice_index starts r) neighbours)

-- the neighbours of the vertex v in the layer l
abbrev pub row : Rows → ℕ → ℕ → List ℕ
row t l v = row_at t.starts t.neighbours (l * t.vertices + v)

-- row r lies within the lists
abbrev pub Within : List ℕ → List ℕ → ℕ → Type 0
Within starts neighbours r = (r + 1 < length starts) × (slice_index starts r ≤ slice_index starts (r + 1)) × (slice_index starts (r + 1) ≤ length neighbours)

-- each row has a start, and the last one an end; the starts begin with 0, never fall and end with the length of the list, which is at most 65,536
abbrev pub Shaped : Rows → Type 0
Shaped t = (length t.starts ≡ t.layers * t.vertices + 1)
    × (slice_index t.starts 0 ≡ 0)
    × ((r : ℕ) → r < t.layers * t.vertices → slice_index t.starts r ≤ slice_index t.starts (r + 1))
    × (slice_index t.starts (t.layers * t.vertices) ≡ length t.neighbours)
    × (length t.neighbours ≤ 65536)

-- the row of v among n vertices: its neighbours ascend, are vertices, and leave out v
pub record RowRight (n v : ℕ) (xs : List ℕ) : Type 0 where
  pub ascending : Ascending xs
  pub inside : (i : ℕ) → i < length xs → slice_index xs i < n
  pub others : (i : ℕ) → i < length xs → slice_index xs i ≢ v

-- the row of each vertex in each layer is right
abbrev pub RowsRight : Rows → Type 0
RowsRight t = (l v : ℕ) → l < t.layers → v < t.vertices → RowRight t.vertices v (row t l v)

-- each neighbour of v in the layer l has v for its neighbour there
abbrev pub MutualRow : Rows → ℕ → ℕ → Type 0
MutualRow t l v = (u : ℕ) → u ∈ elements (row t l v) → v ∈ elements (row t l u)

-- each row is mutual
abbrev pub MutualRows : Rows → Type 0
MutualRows t = (l v : ℕ) → l < t.layers → v < t.vertices → MutualRow t l v
