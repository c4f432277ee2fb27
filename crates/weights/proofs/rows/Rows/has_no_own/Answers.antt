use Rattle.std.proofs.Common.{rules}
use borrow.Author.Tests.{tests}
use Rattle.weights.specs.Weights.{NoOwnIn}
use Rattle.weights.specs.Rows.{weights_of_rows}
use Rattle.weights.proofs.Ranges.{each_below}
use Rattle.weights.proofs.rows.Rows.has_no_own.Goals as goal

pub returns : goal.returns
returns c =
    let each = each_below (NoOwnIn (weights_of_rows c.args.self.now)) c.all.ensures.ran (λ x q k. search (rules, tests)) (λ x q k. search (rules, tests)) in
    search rules
