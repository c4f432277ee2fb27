use Rattle.std.proofs.Common.{◌∙◌, arith}
use Rattle.tables.specs.Rows.{row}
use Rattle.tables.specs.Right.{right_rows}
use Rattle.tables.proofs.Searched.{found_element}
use Rattle.tables.proofs.right_rows.RightRows.has_neighbour.Goals as goal

pub returns : goal.returns
returns c =
    let xs = row (right_rows c.args.self.now) c.args.layer c.args.vertex in
    let right = c.args.self.now.right c.args.layer c.args.vertex (omega arith) (omega arith) in
    c.is_ok.ensures.value ∙ found_element xs c.args.neighbour c.binary_search.result (rw c.row.ensures at c.binary_search.ensures.position) right.ascending
