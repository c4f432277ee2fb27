use Rattle.std.proofs.Common.{◌≡◌, rules}
use borrow.Author.Tests.{tests}
use Rattle.weights.specs.Weights.{weight}
use Rattle.weights.specs.Rows.{weights_of_rows}
use Rattle.weights.proofs.Ranges.{each_below}
use Rattle.weights.proofs.rows.Rows.has_no_own_in.Goals as goal

pub returns : goal.returns
returns c = each_below (λ v. weight (weights_of_rows c.args.self.now) c.args.layer v v ≡ 0) c.all.ensures.ran (λ x q k. search (rules, tests)) (λ x q k. search (rules, tests))
