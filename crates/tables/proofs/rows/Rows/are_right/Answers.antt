use Rattle.std.proofs.Common.{rules}
use borrow.Author.Tests.{tests}
use Rattle.tables.specs.Rows.{RowRight, row}
use Rattle.tables.specs.Stored.{stored_rows}
use Rattle.tables.proofs.Tests.{each_place}
use Rattle.tables.proofs.rows.Rows.are_right.Goals as goal

pub returns : goal.returns
returns c =
    let t = stored_rows c.args.self.now in
    each_place (λ l v. RowRight t.vertices v (row t l v)) c.all_places.ensures.passed c.all_places.ensures.failed
    (λ l v a b k. search (rules, tests)) (λ l v a b k. search (rules, tests))
