use Rattle.std.proofs.Common.{rules}
use borrow.Author.Tests.{tests}
use Rattle.std.proofs.lemmas.Iterator.{YieldsList-from_slice, cases_from_all}
use Rattle.std.proofs.lemmas.Iterator.Consumers.{YieldsList-from_enumerate}
use Rattle.cores.proofs.Searches.{Fresh, Stale, order_by_places}
use Rattle.cores.proofs.order.is_order.Goals as goal

pub returns-then-not-is_empty : goal.returns-then-not-is_empty
returns-then-not-is_empty g c =
    let layers = c.layers-layers.result in
    let order = c.args.order.now in
    order_by_places layers order (g.N.Network.means c.args.network.now) c.layers-layers.ensures (search (rules, tests)) c.all.result
    (cases_from_all c.all.new.self _ _ (Fresh layers order) (Stale layers order) c.all.ensures.ran (YieldsList-from_enumerate (YieldsList-from_slice order cc) cc) (λ x q k. search (rules, tests)) (λ x q k. search (rules, tests)))
