use Rattle.std.proofs.Common.{rules}
use borrow.Author.Tests.{tests}
use Rattle.std.proofs.lemmas.Iterator.{YieldsList-from_slice, YieldsList-from_zip, cases_from_any}
use Rattle.vertex_set.specs.Members.{members}
use Rattle.cores.proofs.Searches.{Below, Reaches, short_by_pairs}
use Rattle.cores.proofs.shrinking.is_weak.Goals as goal

pub returns : goal.returns
returns g c =
    short_by_pairs (g.N.Network.means c.args.network.now) c.args.order.now c.args.vector.now (members c.args.group.now) c.args.vertex c.any.result
    (cases_from_any c.any.new.self _ _ (Below (g.N.Network.means c.args.network.now) (members c.args.group.now) c.args.vertex) (Reaches (g.N.Network.means c.args.network.now) (members c.args.group.now) c.args.vertex) c.any.ensures.ran (YieldsList-from_zip (YieldsList-from_slice c.args.order.now cc) (YieldsList-from_slice c.args.vector.now cc)) (λ x q k. search (rules, tests)) (λ x q k. search (rules, tests)))
