use Rattle.vertex_set.specs.Members.{members}
use Rattle.views.specs.Duties.{whole_of_all}
use Rattle.views.proofs.relative.RelativeNetwork.strength.Goals as goal

pub returns : goal.returns
returns g c =
    let view = c.args.self.now in
    let network = view.network.now in
    let whole = whole_of_all g.N.Network.stated (g.N.Network.means network) (g.met.N.Network.duties network) c.args.layer (members view.all) c.args.vertex c.strength-whole.result view.whole c.strength-whole.ensures in
    rw (c.strength-part.ensures, whole) at c.in_thousandths.ensures
