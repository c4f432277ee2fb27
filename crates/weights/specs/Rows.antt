-- What rows of weights hold.
use Rattle.std.specs.Prelude.{vec_items}
use Rattle.weights.specs.Weights.{Weights, weights}
use Rattle.weights.specs.declared.rows.Rows.{Rows}

-- the weights that stand in the rows
abbrev pub weights_of_rows : Rows → Weights
weights_of_rows r = weights r.size.vertices r.size.layers (vec_items r.weights)
