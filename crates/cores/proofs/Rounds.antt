-- Going round all vertices.
use Rattle.std.proofs.Common.{◌≡◌, ℕ, ◌+◌, ◌-◌, ◌*◌, ◌%◌, ◌<◌, ◌≤◌, ◌⊎◌, ap, ◌∙◌, subst, inl, inr, mod-eq_of_lt, arith}
use Rattle.std.proofs.lemmas.Nat.{mod-mul-add}
use Rattle.std.proofs.lemmas.Bool.{cases_lt}

-- what holds of each vertex on a whole turn holds of all
pub whole_turn : (P : ℕ → Type 0) (first n : ℕ) → first < n → ((j : ℕ) → j < n → P ((first + j) % n)) → (v : ℕ) → v < n → P v
whole_turn P first n l f v m = go (cases_lt v first)
  where
    go : (v < first) ⊎ (first ≤ v) → P v
    go (inl a) =
        let place : first + (n - first + v) ≡ 1 * n + v = omega arith in
        subst P (ap (λ (x : ℕ). x % n) place ∙ mod-mul-add 1 n v m) (f (n - first + v) (omega arith))
    go (inr a) =
        let place : first + (v - first) ≡ v = omega arith in
        subst P (ap (λ (x : ℕ). x % n) place ∙ mod-eq_of_lt m) (f (v - first) (omega arith))
