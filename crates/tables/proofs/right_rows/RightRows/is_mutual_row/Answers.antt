use Rattle.std.proofs.Common.{arith, rules}
use borrow.Author.Tests.{tests}
use Rattle.std.proofs.lemmas.Iterator.{YieldsList-from_slice}
use Rattle.std.proofs.lemmas.Iterator.Search.{all_from_yields_List}
use Rattle.std.proofs.lemmas.Iterator.Adapters.{serves_from_places}
use Rattle.std.proofs.lemmas.List.{get_or_read}
use Rattle.vertex_set.specs.Lists.{elements}
use Rattle.tables.specs.Rows.{row}
use Rattle.tables.specs.Right.{right_rows}
use Rattle.tables.proofs.Tests.{all_elements}
use Rattle.tables.proofs.right_rows.RightRows.is_mutual_row.Goals as goal

pub all-requires-clause-callable : goal.all-requires-clause-callable
all-requires-clause-callable c =
    let xs = row (right_rows c.args.self.now) c.args.layer c.args.vertex in
    let right = c.args.self.now.right c.args.layer c.args.vertex (omega arith) (omega arith) in
    serves_from_places (YieldsList-from_slice xs cc) (λ x q k. search (rules, tests)) (λ x k a b. search (rules, c.args.self.now.right, get_or_read xs k x.now a b 0, right.inside k a))

pub returns : goal.returns
returns c =
    let t = right_rows c.args.self.now in
    let all = all_from_yields_List (λ u. elements (row t c.args.layer u) c.args.vertex) _ _ c.all.result c.all.ensures.ran (YieldsList-from_slice (row t c.args.layer c.args.vertex) cc) (λ x b q k. search (rules, tests)) in
    rw all (all_elements _ _)
