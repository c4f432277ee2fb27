use Rattle.std.proofs.Common.{ℕ, ◌<◌, true}
use Rattle.tables.proofs.each.all_places.Given as goal

-- the vertices that were passed in this layer
abbrev pub invariant-loop-vertex : goal.invariant-loop-vertex
invariant-loop-vertex g l = (v : ℕ) → v < l.vertex → goal.F-post g l.test l.layer v true

-- the layers that were passed
abbrev pub invariant-loop-layer : goal.invariant-loop-layer
invariant-loop-layer g l = (k v : ℕ) → k < l.layer → v < l.size.vertices → goal.F-post g l.test k v true
