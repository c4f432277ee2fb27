use Rattle.std.proofs.Common.{arith}
use Rattle.tables.specs.Stored.{stored_rows}
use Rattle.tables.proofs.Places.{row_read}
use Rattle.tables.proofs.rows.Rows.row.Goals as goal

pub slice_bounds-result-end : goal.slice_bounds-result-end
slice_bounds-result-end c =
    let read = row_read (stored_rows c.args.self.now) c.args.self.now.shaped c.args.layer c.args.vertex (omega arith) (omega arith) c.index.result.now c.index-2.result.now (rw c.row-number.ensures at c.index.ensures) (rw c.row-number.ensures at c.index-2.ensures) in
    rw c.deref.ensures.value read.0

pub returns : goal.returns
returns c =
    let read = row_read (stored_rows c.args.self.now) c.args.self.now.shaped c.args.layer c.args.vertex (omega arith) (omega arith) c.index.result.now c.index-2.result.now (rw c.row-number.ensures at c.index.ensures) (rw c.row-number.ensures at c.index-2.ensures) in
    rw c.deref.ensures.value read.1
