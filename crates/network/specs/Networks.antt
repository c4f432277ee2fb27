-- What a multilayer network means.
use Rattle.std.specs.Prelude.{◌≡◌, ℕ, ◌≤◌, ◌⊎◌}
use Rattle.vertex_set.specs.Sets.{Set, ◌⊆◌, ◌∩◌, below}

-- how many vertices and layers there are, and how strongly a vertex is tied, in a layer, to a group
pub record Multilayer : Type 0 where
  pub vertices : ℕ
  pub layers : ℕ
  pub strength : ℕ → Set → ℕ → ℕ

-- what every kind of network must show, over the highest strength that the kind states
pub record Duties (highest : ℕ) (g : Multilayer) : Type 0 where
  pub stated : highest ≤ 65535
  pub some_vertices : 1 ≤ g.vertices
  pub few_vertices : g.vertices ≤ 1024
  pub some_layers : 1 ≤ g.layers
  pub few_layers : g.layers ≤ 6
  -- no strength exceeds the stated number
  pub bounded : (l : ℕ) (s : Set) (v : ℕ) → g.strength l s v ≤ highest
  -- in a group that contains another, no vertex is weaker than in the other
  pub monotone : (l : ℕ) (s t : Set) (v : ℕ) → s ⊆ t → g.strength l s v ≤ g.strength l t v
  -- members at or above the number of vertices do not count
  pub local : (l : ℕ) (s : Set) (v : ℕ) → g.strength l s v ≡ g.strength l (s ∩ below g.vertices) v
  -- there is no strength in a layer, or of a vertex, that the network lacks
  pub lacking : (l : ℕ) (s : Set) (v : ℕ) → (g.layers ≤ l) ⊎ (g.vertices ≤ v) → g.strength l s v ≡ 0
