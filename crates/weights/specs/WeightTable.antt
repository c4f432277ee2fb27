-- What a weight table was made of.
use Rattle.weights.specs.Weights.{Weights}
use Rattle.weights.specs.Rows.{weights_of_rows}
use Rattle.weights.specs.declared.table.WeightTable.{WeightTable}

-- what the table was made of
abbrev pub weights_of : WeightTable → Weights
weights_of t = weights_of_rows t.rows
