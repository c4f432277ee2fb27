-- Networks that are seen through another one: restricted to a group, or relative to all ties.
use Rattle.std.specs.Prelude.{ℕ, ◌*◌, ◌/◌, cond, ◌==◌}
use Rattle.vertex_set.specs.Sets.{Set, ◌∩◌, below}
use Rattle.network.specs.Networks.{Multilayer}

-- g restricted to the group m: a member of m is as strong in s as it is beneath in the common part of s and m; whoever is no member has no strength
abbrev pub restricted : Set → Multilayer → Multilayer
restricted m g = record { vertices = g.vertices; layers = g.layers; strength = λ l s v. cond (m v) (g.strength l (s ∩ m) v) 0 }

-- a part of a whole, in thousandths, rounded down; 0 if the whole is 0
abbrev pub thousandths : ℕ → ℕ → ℕ
thousandths part whole = cond (whole == 0) 0 (1000 * part / whole)

-- g in relative strengths: the strength beneath in s, as a part of the strength beneath among all vertices
abbrev pub relative : Multilayer → Multilayer
relative g = record { vertices = g.vertices; layers = g.layers; strength = λ l s v. thousandths (g.strength l s v) (g.strength l (below g.vertices) v) }
