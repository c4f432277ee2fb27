-- Sums over the members of a set.
use Rattle.std.specs.Prelude.{◌≡◌, ℕ, zero, suc, ◌+◌, ◌<◌, ◌≤◌, Bool, true, false, cond, refl}
use Rattle.std.proofs.Common.{ap₂, arith}
use Rattle.vertex_set.specs.Sets.{Set, ◌⊆◌}
use Rattle.weights.specs.Networks.{sum_over}

-- over a larger set the sum is no smaller
pub sum_grows : (s t : Set) (w : ℕ → ℕ) (n : ℕ) → s ⊆ t → sum_over s w n ≤ sum_over t w n
unfolding sum_over
sum_grows s t w zero h = omega arith
sum_grows s t w (suc n) h = omega (arith, sum_grows s t w n h, here (s n) (t n) (h n))
  where
    here : (a b : Bool) → (a ≡ true → b ≡ true) → cond a (w n) 0 ≤ cond b (w n) 0
    here true b k = rw (k refl) (omega arith)
    here false b k = omega arith

-- over sets that agree below n the sum is the same
pub sum_agrees : (s t : Set) (w : ℕ → ℕ) (n : ℕ) → ((u : ℕ) → u < n → s u ≡ t u) → sum_over s w n ≡ sum_over t w n
unfolding sum_over
sum_agrees s t w zero h = refl
sum_agrees s t w (suc n) h = ap₂ (λ (m : ℕ) (b : Bool). m + cond b (w n) 0) (sum_agrees s t w n (λ u l. h u (omega arith))) (h n (omega arith))
