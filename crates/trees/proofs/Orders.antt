-- The dictionary order.
use Rattle.std.proofs.Common.{◌≡◌, ℕ, zero, suc, ◌+◌, ◌<◌, ◌⊎◌, [], ◌∷◌, length, refl, inl, inr, lt_trans, le_of_suc-le-suc, not-suc-le-zero, arith}
use Rattle.cores.specs.Cores.{Vector}
use Rattle.trees.specs.Vectors.{raised, Before}
use Rattle.trees.specs.Vectors.Before.{here, later}

pub before_apart : {j k : Vector} → Before j k → j ≡ k → ⊥
before_apart (here {a} {b} l) e = let same : a ≡ b = cc in omega arith
before_apart (later {j = j} {k = k} b) e = let same : j ≡ k = cc in before_apart b same

pub not_before_itself : (k : Vector) → Before k k → ⊥
not_before_itself k b = before_apart b refl

pub before_trans : {i j k : Vector} → Before i j → Before j k → Before i k
before_trans (here l) (here m) = here (lt_trans l m)
before_trans (here l) (later b) = here l
before_trans (later b) (here m) = here m
before_trans (later b) (later c) = later (before_trans b c)

pub before_raised : (k : Vector) (i : ℕ) → i < length k → Before k (raised k i)
before_raised [] i l = absurd (not-suc-le-zero l)
before_raised (x ∷ k) zero l = here (omega arith)
before_raised (x ∷ k) (suc i) l = later (before_raised k i (le_of_suc-le-suc l))

-- of two vectors the first demands differ, or what follows them does
pub before_parts : {a b : ℕ} {j k : Vector} → Before (a ∷ j) (b ∷ k) → (a < b) ⊎ ((a ≡ b) × Before j k)
before_parts (here l) = inl l
before_parts (later b) = inr (refl, b)

before_some : {j k : Vector} → Before j k → 0 < length j
before_some (here l) = omega arith
before_some (later b) = omega arith

-- no vector stands between k and k raised at its last position
pub none_between : (k j : Vector) (i : ℕ) → length j ≡ length k → suc i ≡ length k → Before k j → Before j (raised k i) → ⊥
none_between [] j i e f b c = absurd (omega arith)
none_between (x ∷ k) [] i e f b c = absurd (omega arith)
none_between (x ∷ k) (y ∷ j) zero e f b c = go (before_parts b) (before_parts c)
  where
    go : (x < y) ⊎ ((x ≡ y) × Before k j) → (y < x + 1) ⊎ ((y ≡ x + 1) × Before j k) → ⊥
    go (inl l) (inl m) = omega arith
    go (inl l) (inr (m, d)) = absurd (omega (arith, before_some d))
    go (inr (l, d)) m = absurd (omega (arith, before_some d))
none_between (x ∷ k) (y ∷ j) (suc i) e f b c = go (before_parts b) (before_parts c) (none_between k j i (omega arith) (omega arith))
  where
    go : (x < y) ⊎ ((x ≡ y) × Before k j) → (y < x) ⊎ ((y ≡ x) × Before j (raised k i)) → (Before k j → Before j (raised k i) → ⊥) → ⊥
    go (inl l) (inl m) rest = omega arith
    go (inl l) (inr (m, d)) rest = omega arith
    go (inr (l, d)) (inl m) rest = omega arith
    go (inr (l, d)) (inr (m, f)) rest = rest d f
