-- What right rows stand for.
use Rattle.tables.specs.Rows.{Rows}
use Rattle.tables.specs.Stored.{stored_rows}
use Rattle.tables.specs.declared.right_rows.RightRows.{RightRows}

-- the rows, which are right
abbrev pub right_rows : RightRows → Rows
right_rows t = stored_rows t.rows
