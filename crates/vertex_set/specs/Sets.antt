-- Sets of vertices. A vertex is a number from 0; a set is known by its test of membership.
use Rattle.std.specs.Prelude.{◌≡◌, ℕ, zero, suc, ◌+◌, Bool, true, false, cond, not, ◌&&◌, ◌||◌, ◌==◌, nat_lt}

-- which vertices are members
abbrev pub Set : Type 0
Set = ℕ → Bool

-- v is a member of s
infix 20 ◌∈◌
abbrev pub ◌∈◌ : ℕ → Set → Type 0
v ∈ s = s v ≡ true

-- each member of s is one of t
infix 20 ◌⊆◌
abbrev pub ◌⊆◌ : Set → Set → Type 0
s ⊆ t = (v : ℕ) → v ∈ s → v ∈ t

-- s and t have the same members
abbrev pub Same : Set → Set → Type 0
Same s t = (v : ℕ) → s v ≡ t v

-- the set without members
abbrev pub none : Set
none = λ v. false

-- the vertices below n
abbrev pub below : ℕ → Set
below n = λ v. nat_lt v n

-- each member is one of the vertices 0 to 1,023
abbrev pub Limited : Set → Type 0
Limited s = s ⊆ below 1024

-- the common part
infixl 30 ◌∩◌
abbrev pub ◌∩◌ : Set → Set → Set
s ∩ t = λ v. s v && t v

-- the members of s that are not in t
infixl 30 ◌∖◌
abbrev pub ◌∖◌ : Set → Set → Set
s ∖ t = λ v. s v && not (t v)

-- s and the vertex u besides
abbrev pub with_vertex : Set → ℕ → Set
with_vertex s u = λ v. (v == u) || s v

-- s but for the vertex u
abbrev pub without_vertex : Set → ℕ → Set
without_vertex s u = λ v. s v && not (v == u)

-- how many of the vertices below n are members
unfoldable pub count : Set → ℕ → ℕ
count s zero = 0
count s (suc n) = count s n + cond (s n) 1 0

-- the number of members among the vertices 0 to 1,023
abbrev pub size : Set → ℕ
size s = count s 1024
