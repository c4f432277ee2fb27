-- What a neighbour table means.
use Rattle.std.specs.Prelude.{ℕ, cond, ◌&&◌, count_by, nat_lt}
use Rattle.vertex_set.specs.Sets.{Set}
use Rattle.network.specs.Networks.{Multilayer}
use Rattle.tables.specs.Rows.{Rows, row}
use Rattle.tables.specs.Right.{right_rows}
use Rattle.tables.specs.declared.neighbour.NeighbourTable.{NeighbourTable}

-- what the table was made of
abbrev pub rows_of : NeighbourTable → Rows
rows_of t = right_rows t.rows

-- the number of v's neighbours in the group s, in the layer l; none in a layer, or of a vertex, that the table lacks
abbrev pub neighbours_in : Rows → ℕ → Set → ℕ → ℕ
neighbours_in t l s v = cond (nat_lt l t.layers && nat_lt v t.vertices) (count_by s (row t l v)) 0

-- the network of the rows: a vertex is as strong in a group as it has neighbours there
abbrev pub neighbour_network : Rows → Multilayer
neighbour_network t = record { vertices = t.vertices; layers = t.layers; strength = neighbours_in t }
