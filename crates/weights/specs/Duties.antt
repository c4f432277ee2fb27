-- A weight table keeps the duties of a network.
use Rattle.std.specs.Prelude.{◌≡◌, ℕ, ◌≤◌, min, cond, ◌&&◌, nat_lt}
use Rattle.std.proofs.Common.{ap, arith}
use Rattle.std.proofs.Math.Nat.{min-le_left}
use Rattle.std.proofs.lemmas.Bool.{cond_both}
use Rattle.vertex_set.specs.Sets.{Set, ◌⊆◌, ◌∩◌, below}
use Rattle.vertex_set.proofs.Sets.{same_below}
use Rattle.network.specs.Networks.{Duties}
use Rattle.network.proofs.Strengths.{cond_grows, none_missing}
use Rattle.network.specs.Sizes.{WithinLimits}
use Rattle.weights.specs.Weights.{Weights, weight}
use Rattle.weights.specs.Networks.{sum_over, weight_in, weight_network}
use Rattle.weights.specs.Sums.{sum_grows, sum_agrees}

module _ (t : Weights) where
  -- no strength exceeds 65,535
  bounded : (l : ℕ) (s : Set) (v : ℕ) → weight_in t l s v ≤ 65535
  bounded l s v = cond_both (nat_lt l t.layers && nat_lt v t.vertices) (min 65535 (sum_over s (weight t l v) t.vertices)) 0 (λ (n : ℕ). n ≤ 65535) (λ e. min-le_left 65535 (sum_over s (weight t l v) t.vertices)) (λ e. omega arith)

  -- in a larger group no vertex is weaker
  monotone : (l : ℕ) (s u : Set) (v : ℕ) → s ⊆ u → weight_in t l s v ≤ weight_in t l u v
  monotone l s u v h = cond_grows (nat_lt l t.layers && nat_lt v t.vertices) (omega (arith, sum_grows s u (weight t l v) t.vertices h))

  -- members that are no vertices do not count
  local : (l : ℕ) (s : Set) (v : ℕ) → weight_in t l s v ≡ weight_in t l (s ∩ below t.vertices) v
  local l s v = ap (λ (n : ℕ). cond (nat_lt l t.layers && nat_lt v t.vertices) (min 65535 n) 0) (sum_agrees s (s ∩ below t.vertices) (weight t l v) t.vertices (same_below s t.vertices))

  -- the duties, with the highest strength 65,535
  pub weight_duties : WithinLimits 128 t.vertices t.layers → Duties 65535 (weight_network t)
  weight_duties size = record {
    stated = omega arith;
    some_vertices = size.0;
    few_vertices = omega (arith, size.1);
    some_layers = size.2;
    few_layers = size.3;
    bounded = bounded;
    monotone = monotone;
    local = local;
    lacking = λ l s v. none_missing t.layers t.vertices l v (min 65535 (sum_over s (weight t l v) t.vertices));
  }
