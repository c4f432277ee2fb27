use Rattle.std.proofs.Common.{rules, arith}
use borrow.Author.Tests.{tests}
use Rattle.std.proofs.lemmas.Grind.{common_steps}
use Rattle.tables.proofs.Tests.{rises}
use Rattle.tables.proofs.rows.is_shaped.Goals as goal

pub returns-then-starts-rows-2 : goal.returns-then-starts-rows-2
returns-then-starts-rows-2 c =
    let up = rises c.args.starts.now c.is_sorted_by.result c.is_sorted_by.ensures.cases (λ f a b q k. search (rules, tests)) in
    grind (arith, common_steps)
