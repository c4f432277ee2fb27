-- Ways through a tree: from parents to children, and along lines.
use Rattle.std.specs.Prelude.{◌≡◌, ℕ, suc, ◌<◌, ◌≤◌, ◌⊎◌, ◌↔◌, List, [], ◌∷◌, length, take, Some, None, sum_by, slice_index_or}
use Rattle.std.specs.List.{flat_map, between}
use Rattle.vertex_set.specs.Lists.{Among}
use Rattle.trees.specs.Trees.{Family, Node, Tree, places, node_at, child_at, last_child}

-- p is the parent of q, which is its child at position i + 1
abbrev pub Parent : Tree → ℕ → ℕ → ℕ → Type 0
Parent t q p i = child_at t p i ≡ Some q

-- from the place p the positions lead, each to a child, to the place q
pub data Leads (t : Tree) : ℕ → List ℕ → ℕ → Type 0 where
  arrived : {p : ℕ} → Leads t p [] p
  step : {p q r i : ℕ} {is : List ℕ} → Parent t q p i → Leads t q is r → Leads t p (i ∷ is) r

-- q is on the line of p: it is p, or follows from child to child at the last position
pub data OnLine (t : Tree) : ℕ → ℕ → Type 0 where
  start : {p : ℕ} → OnLine t p p
  next : {p q r : ℕ} → last_child t p ≡ Some q → OnLine t q r → OnLine t p r

-- v is stored on the line of p
abbrev pub Along : Tree → ℕ → ℕ → Type 0
Along t p v = (q : ℕ) × OnLine t p q × Among v (node_at t q).stored

-- all stored vertices, in the order of the places
abbrev pub store : Tree → List ℕ
store t = flat_map (λ (n : Node). n.stored) t.nodes

-- how many of them stand before those of the place p
abbrev pub begins : Tree → ℕ → ℕ
begins t p = sum_by (λ (n : Node). length n.stored) (take p t.nodes)

-- each node but the root, at place 0, has one parent; the root has none
pub record OneParent (t : Tree) : Type 0 where
  pub one : (q : ℕ) → 0 < q → q < places t → (p i : ℕ) × Parent t q p i × ((p' i' : ℕ) → Parent t q p' i' → (p' ≡ p) × (i' ≡ i))
  pub none : (p i : ℕ) → Parent t 0 p i → ⊥

-- one path leads from the root to each place
abbrev pub OnePath : Tree → Type 0
OnePath t = (p : ℕ) → p < places t → (is : List ℕ) × Leads t 0 is p × ((js : List ℕ) → Leads t 0 js p → js ≡ is)

-- the core at a node is what it stores and the core at its child at the last position, and these have no vertex in common
pub record Split (c : Family) (t : Tree) : Type 0 where
  pub together : (p v : ℕ) → p < places t → c (node_at t p).vector v ↔ (Among v (node_at t p).stored ⊎ ((q : ℕ) × (last_child t p ≡ Some q) × c (node_at t q).vector v))
  pub apart : (p q v : ℕ) → last_child t p ≡ Some q → Among v (node_at t p).stored → c (node_at t q).vector v → ⊥

-- no element stands twice in the list; d is what slice_index_or gives past its end
abbrev pub Apart : {A : Type 0} → A → List A → Type 0
Apart d xs = (i j : ℕ) → i < length xs → j < length xs → slice_index_or xs i d ≡ slice_index_or xs j d → i ≡ j

-- the line of p takes the places from p up to e, and what is stored on it stands side by side in the store, each vertex once
pub record LineTo (t : Tree) (p e : ℕ) : Type 0 where
  pub some : p < e
  pub inside : e ≤ places t
  pub line : (q : ℕ) → OnLine t p q ↔ ((p ≤ q) × (q < e))
  pub next : (q : ℕ) → p ≤ q → suc q < e → last_child t q ≡ Some (suc q)
  pub end : (q : ℕ) → suc q ≡ e → last_child t q ≡ None
  pub stored : (v : ℕ) → Along t p v ↔ Among v (between (begins t p) (begins t e) (store t))
  pub once : Apart 0 (between (begins t p) (begins t e) (store t))

-- the child at the last position stands at the next place, and each line lies side by side
pub record Lines (t : Tree) : Type 0 where
  pub next : (p q : ℕ) → last_child t p ≡ Some q → q ≡ suc p
  pub lines : (p : ℕ) → p < places t → (e : ℕ) × LineTo t p e
