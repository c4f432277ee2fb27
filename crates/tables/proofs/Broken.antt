-- The rules of a table, one by one.
use Rattle.std.proofs.Common.{◌<◌, arith}
use Rattle.network.specs.Sizes.{WithinLimits}
use Rattle.vertex_set.specs.Refusals.{FirstBroken}
use Rattle.tables.specs.Rows.{Rows, Shaped, RowsRight, MutualRows}
use Rattle.tables.specs.Refusals.{refusal, Rule, EachRule}
use Rattle.tables.specs.declared.error.TableError.{TableError}
use Rattle.tables.specs.declared.error.TableError.TheVariants.{Size, Shape, Row, Mutual}

module _ (t : Rows) (size : WithinLimits 1024 t.vertices t.layers) (shape : Shaped t) where
  pub row_broken : (RowsRight t → ⊥) → FirstBroken refusal (Rule t) Row
  row_broken broken = (broken, before)
    where
      before : (d : TableError) → refusal d < 3 → Rule t d
      before Size l = size
      before Shape l = shape
      before Row l = absurd (omega arith)
      before Mutual l = absurd (omega arith)

  module _ (right : RowsRight t) where
    pub mutual_broken : (MutualRows t → ⊥) → FirstBroken refusal (Rule t) Mutual
    mutual_broken broken = (broken, before)
      where
        before : (d : TableError) → refusal d < 4 → Rule t d
        before Size l = size
        before Shape l = shape
        before Row l = right
        before Mutual l = absurd (omega arith)

    pub all_kept : MutualRows t → EachRule t
    all_kept back Size = size
    all_kept back Shape = shape
    all_kept back Row = right
    all_kept back Mutual = back
