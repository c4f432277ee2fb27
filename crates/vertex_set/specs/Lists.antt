-- Sets written out as lists.
use Rattle.std.specs.Prelude.{◌≡◌, ℕ, ◌-◌, ◌<◌, ◌≤◌, ◌↔◌, List, [], ◌∷◌, length, filter, slice_index}
use Rattle.std.specs.List.{range_with_len}
use Rattle.vertex_set.specs.Sets.{Set, ◌∈◌, none, with_vertex}

-- each number is larger than those before it
abbrev pub Ascending : List ℕ → Type 0
Ascending xs = (i j : ℕ) → i < j → j < length xs → slice_index xs i < slice_index xs j

-- v stands in the list
abbrev pub Among : ℕ → List ℕ → Type 0
Among v xs = (i : ℕ) × (i < length xs) × (slice_index xs i ≡ v)

-- the list has the members of s, each once, in ascending order
pub record Lists (s : Set) (xs : List ℕ) : Type 0 where
  pub ascending : Ascending xs
  pub exactly : (v : ℕ) → (v ∈ s) ↔ Among v xs

-- no member of s is at least v
abbrev pub NoneFrom : Set → ℕ → Type 0
NoneFrom s v = (u : ℕ) → v ≤ u → u ∈ s → ⊥

-- u is the smallest member of s that is at least v
pub record FirstFrom (s : Set) (v u : ℕ) : Type 0 where
  pub from : v ≤ u
  pub here : u ∈ s
  pub first : (w : ℕ) → v ≤ w → w < u → w ∈ s → ⊥

-- the set of the numbers in a list
abbrev pub elements : List ℕ → Set
elements [] = none
elements (x ∷ xs) = with_vertex (elements xs) x

-- the members of s among the vertices v to 1,023, in ascending order
unfoldable pub listed : Set → ℕ → List ℕ
listed s v = filter s (range_with_len v (1024 - v))
