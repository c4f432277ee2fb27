use Rattle.std.proofs.Common.{◌≡◌, ◌∙◌, rules}
use borrow.Author.Tests.{tests}
use Rattle.std.proofs.lemmas.Iterator.{YieldsList-from_slice}
use Rattle.std.proofs.lemmas.Iterator.Consumers.{YieldsList-from_enumerate, fold_from_yields_List}
use Rattle.vertex_set.specs.Members.{members}
use Rattle.weights.specs.Weights.{weight}
use Rattle.weights.specs.WeightTable.{weights_of}
use Rattle.weights.proofs.Steps.{with_beside, added, added_in_all}
use Rattle.weights.proofs.table.WeightTableNetwork.strength.Goals as goal

-- the members' weights in the row, added one by one
in_row : (c : goal.After-fold) → c.fold.result ≡ added (members c.args.group.now) 0 0 c.row-row.result.now
in_row c = fold_from_yields_List _ (with_beside (members c.args.group.now)) _ _ c.fold.ensures.ran (YieldsList-from_enumerate (YieldsList-from_slice c.row-row.result.now cc) cc) (λ a x b q k. search (rules, tests))

pub returns : goal.returns
returns c =
    let t = weights_of c.args.self.now in
    let sum = in_row c ∙ added_in_all _ (weight t c.args.layer c.args.vertex) t.vertices c.row-row.result.now c.row-row.ensures in
    search rules
