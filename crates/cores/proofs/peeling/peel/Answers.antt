use Rattle.std.proofs.Common.{◌∙◌}
use Rattle.vertex_set.specs.Members.{members}
use Rattle.cores.proofs.Theory.{all_fit, core_within_all}
use Rattle.cores.proofs.peeling.peel.Goals as goal

pub returns-clause-core : goal.returns-clause-core
returns-clause-core g c =
    let net = g.N.Network.means c.args.network.now in
    let duties = g.met.N.Network.duties c.args.network.now in
    core_within_all net c.args.order.now c.args.vector.now (members c.below.result) (members c.shrink.new.group)
    (λ v e. all_fit g.N.Network.stated net duties c.vertices.result c.vertices.ensures (members c.below.result) c.below.ensures v ∙ e)
    c.shrink.ensures
