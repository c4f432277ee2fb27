use Rattle.std.proofs.Common.{◌≡◌, ◌<◌, length, get_or, true, rules}
use borrow.Author.Tests.{tests}
use Rattle.tables.proofs.Tests.{ascends, other, right_if}
use Rattle.tables.proofs.rows.is_right_row.Goals as goal

pub returns-then-is_none_or : goal.returns-then-is_none_or
returns-then-is_none_or c =
    let n = c.args.vertices in
    let v = c.args.vertex in
    let xs = c.args.row.now in
    let first : 0 < length xs → other n v (get_or xs 0 0) ≡ true = λ some. search rules in
    right_if n v xs c.is_sorted_by.result first (ascends xs c.is_sorted_by.result c.is_sorted_by.ensures.cases (other n v) (λ a b q k. search (rules, tests)))
