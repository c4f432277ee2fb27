-- What the rows that a table stores stand for.
use Rattle.std.specs.Prelude.{vec_items}
use Rattle.tables.specs.Rows.{Rows, rows}
use Rattle.tables.specs.declared.rows.Rows.{Rows as Stored}

-- the rows that are stored
abbrev pub stored_rows : Stored → Rows
stored_rows t = rows t.size.vertices t.size.layers (vec_items t.starts) (vec_items t.neighbours)
