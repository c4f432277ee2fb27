use Rattle.std.proofs.Common.{◌≡◌, ℕ, cond, count_by, rules, arith}
use borrow.Author.Tests.{tests}
use Rattle.std.proofs.lemmas.Iterator.{YieldsList-from_slice, YieldsList-from_map}
use Rattle.std.proofs.lemmas.Iterator.Consumers.{sum_by_from_yields_List, fits_by_from_yields_list}
use Rattle.std.proofs.lemmas.List.Sums.{count_by-le-length}
use Rattle.vertex_set.specs.Members.{members}
use Rattle.tables.specs.Rows.{row}
use Rattle.tables.specs.Neighbours.{rows_of}
use Rattle.tables.specs.Counting.{row_short}
use Rattle.tables.proofs.neighbour.NeighbourTableNetwork.strength.Goals as goal

pub sum-requires-clause-fits : goal.sum-requires-clause-fits
sum-requires-clause-fits c =
    let t = rows_of c.args.self.now in
    let xs = row t c.args.layer c.args.vertex in
    let group = members c.args.group.now in
    fits_by_from_yields_list (λ u. cond (group u) 1 0) xs c.map.result 65536 (YieldsList-from_map _ (λ (u : ℕ). cond (group u) 1 0) (YieldsList-from_slice xs cc) c.map.ensures.closure (λ x r q k. search (rules, tests)))
    (omega (arith, count_by-le-length group xs, row_short t.vertices c.args.vertex xs (c.args.self.now.rows.right c.args.layer c.args.vertex (omega arith) (omega arith)) (omega arith)))

pub returns : goal.returns
returns c =
    let xs = row (rows_of c.args.self.now) c.args.layer c.args.vertex in
    let group = members c.args.group.now in
    let sum : c.sum.result ≡ count_by group xs = sum_by_from_yields_List (λ u. cond (group u) 1 0) xs c.map.result c.sum.result c.sum.ensures.ran (YieldsList-from_map _ (λ (u : ℕ). cond (group u) 1 0) (YieldsList-from_slice xs cc) c.map.ensures.closure (λ x r q k. search (rules, tests))) in
    search rules
