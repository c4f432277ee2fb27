-- What a weight table means.
use Rattle.std.specs.Prelude.{ℕ, zero, suc, ◌+◌, min, cond, ◌&&◌, nat_lt}
use Rattle.vertex_set.specs.Sets.{Set}
use Rattle.network.specs.Networks.{Multilayer}
use Rattle.weights.specs.Weights.{Weights, weight}

-- the sum of w over the members of s below n
unfoldable pub sum_over : Set → (ℕ → ℕ) → ℕ → ℕ
sum_over s w zero = 0
sum_over s w (suc n) = sum_over s w n + cond (s n) (w n) 0

-- the sum of the weights in the row of v over the group s, in the layer l, but at most 65,535; none in a layer, or of a vertex, that the table lacks
abbrev pub weight_in : Weights → ℕ → Set → ℕ → ℕ
weight_in t l s v = cond (nat_lt l t.layers && nat_lt v t.vertices) (min 65535 (sum_over s (weight t l v) t.vertices)) 0

-- the network of the weights: a vertex is as strong in a group as its weights there are together
abbrev pub weight_network : Weights → Multilayer
weight_network t = record { vertices = t.vertices; layers = t.layers; strength = weight_in t }
