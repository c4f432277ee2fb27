use Rattle.std.proofs.Common.{rules}
use borrow.Author.Tests.{tests}
use Rattle.std.proofs.lemmas.Iterator.{first_from_Range}
use Rattle.vertex_set.specs.Members.{members}
use Rattle.cores.proofs.Searches.{Stays, strong_between}
use Rattle.cores.proofs.shrinking.weak_in.Goals as goal

pub returns-clause-none : goal.returns-clause-none
returns-clause-none g c =
    let net = g.N.Network.means c.args.network.now in
    strong_between net c.args.order.now c.args.vector.now (members c.args.group.now) c.args.range.start c.args.range.end _ c.find.result
    (first_from_Range c.args.range c.find.new.self _ c.find.result (λ v. Unit {0}) (Stays net c.args.order.now c.args.vector.now (members c.args.group.now)) c.find.ensures.ran (λ x q k. tt) (λ x q k. search (rules, tests)))
