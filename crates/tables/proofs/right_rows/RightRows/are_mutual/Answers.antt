use Rattle.std.proofs.Common.{rules}
use borrow.Author.Tests.{tests}
use Rattle.tables.specs.Rows.{MutualRow}
use Rattle.tables.specs.Right.{right_rows}
use Rattle.tables.proofs.Tests.{each_place}
use Rattle.tables.proofs.right_rows.RightRows.are_mutual.Goals as goal

pub returns : goal.returns
returns c =
    let t = right_rows c.args.self.now in
    each_place (MutualRow t) c.all_places.ensures.passed c.all_places.ensures.failed
    (λ l v a b k. search (rules, tests)) (λ l v a b k. search (rules, tests))
