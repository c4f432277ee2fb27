use Rattle.tables.proofs.right_rows.RightRows.new.Goals as goal

pub invariant_of-result : goal.invariant_of-result
invariant_of-result c = record { right = c.are_right.ensures.0 c.if-are_right.true }
