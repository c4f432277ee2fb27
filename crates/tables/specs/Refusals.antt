-- The rules of a table and the numbers of their refusals.
use Rattle.std.specs.Prelude.{ℕ}
use Rattle.network.specs.Sizes.{WithinLimits}
use Rattle.tables.specs.Rows.{Rows, Shaped, RowsRight, MutualRows}
use Rattle.tables.specs.declared.error.TableError.{TableError}
use Rattle.tables.specs.declared.error.TableError.TheVariants.{Size, Shape, Row, Mutual}

-- the number of each refusal
abbrev pub refusal : TableError → ℕ
refusal Size = 1
refusal Shape = 2
refusal Row = 3
refusal Mutual = 4

-- the rule whose break each error reports
abbrev pub Rule : Rows → TableError → Type 0
Rule t Size = WithinLimits 1024 t.vertices t.layers
Rule t Shape = Shaped t
Rule t Row = RowsRight t
Rule t Mutual = MutualRows t

-- the rows keep the four rules
abbrev pub EachRule : Rows → Type 0
EachRule t = (e : TableError) → Rule t e
