-- Vectors of demands. Positions count from 1: what a list has at i, counted from 0, stands at position i + 1.
use Rattle.std.specs.Prelude.{◌≡◌, ℕ, suc, ◌+◌, ◌-◌, ◌<◌, ◌≤◌, Bool, true, cond, ◌&&◌, ◌⊎◌, [], ◌∷◌, ◌==◌, slice_index, slice_set}
use Rattle.cores.specs.Cores.{Vector}

-- k with the demand at i higher by one
abbrev pub raised : Vector → ℕ → Vector
raised k i = slice_set k i (slice_index k i + 1)

-- dictionary order: the first differing demand decides
pub data Before : Vector → Vector → Type 0 where
  here : {a b : ℕ} {j k : Vector} → a < b → Before (a ∷ j) (b ∷ k)
  later : {a : ℕ} {j k : Vector} → Before j k → Before (a ∷ j) (a ∷ k)

-- whether every demand is 0
abbrev pub zeros : Vector → Bool
zeros [] = true
zeros (x ∷ k) = x == 0 && zeros k

-- the last position with a nonzero demand, and 1 for the zero vector
abbrev pub lnz : Vector → ℕ
lnz [] = 1
lnz (x ∷ k) = cond (zeros k) 1 (suc (lnz k))

-- p is the last position of k with a nonzero demand, or 1 if there is none
pub record LastNonzero (k : Vector) (p : ℕ) : Type 0 where
  pub from_one : 1 ≤ p
  pub here : (0 < slice_index k (p - 1)) ⊎ (p ≡ 1)
  pub behind : (i : ℕ) → p ≤ i → slice_index k i ≡ 0
