-- The rules of a weight table and the numbers of their refusals.
use Rattle.std.specs.Prelude.{ℕ}
use Rattle.network.specs.Sizes.{WithinLimits}
use Rattle.weights.specs.Weights.{Weights, Full, NoOwn}
use Rattle.weights.specs.declared.error.WeightError.{WeightError}
use Rattle.weights.specs.declared.error.WeightError.TheVariants.{Size, Length, Own}

-- the number of each refusal
abbrev pub refusal : WeightError → ℕ
refusal Size = 1
refusal Length = 2
refusal Own = 5

-- the rule whose break each error reports
abbrev pub Rule : Weights → WeightError → Type 0
Rule t Size = WithinLimits 128 t.vertices t.layers
Rule t Length = Full t
Rule t Own = NoOwn t

-- the weights keep the three rules
abbrev pub EachRule : Weights → Type 0
EachRule t = (e : WeightError) → Rule t e
