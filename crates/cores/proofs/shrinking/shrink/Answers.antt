use Rattle.std.proofs.Common.{sym, ◌∙◌, arith}
use Rattle.std.proofs.lemmas.Bool.{ltb-true, and_parts}
use Rattle.vertex_set.specs.Members.{members}
use Rattle.vertex_set.proofs.Counts.{count_without}
use Rattle.cores.proofs.Theory.{short_out, all_fit, settled}
use Rattle.cores.proofs.shrinking.shrink.Goals as goal

pub loop-vertex-smaller : goal.loop-vertex-smaller
loop-vertex-smaller g c =
    let v = c.in-Some.vertex in
    let here = c.in-Some.ensures.some.here in
    let fewer = count_without (members c.loop-vertex.group) (members c.remove.new.self) v 1024 here (ltb-true v 1024 (c.loop-vertex.group.limited v here)) c.remove.ensures.after in
    omega (arith, fewer)

pub loop-vertex-preserved : goal.loop-vertex-preserved
loop-vertex-preserved g c =
    let net = g.N.Network.means c.args.network.now in
    let duties = g.met.N.Network.duties c.args.network.now in
    record {
      inside = λ u e. c.loop-vertex.invariant.inside u (and_parts _ _ (sym (c.remove.ensures.after u) ∙ e)).0;
      kept = λ s m sub u e. c.remove.ensures.after u ∙ short_out g.N.Network.stated net duties c.args.order.now c.args.vector.now (members c.loop-vertex.group) c.in-Some.vertex c.in-Some.ensures.some.short s m (c.loop-vertex.invariant.kept s m sub) u e;
    }

pub returns : goal.returns
returns g c =
    let net = g.N.Network.means c.args.network.now in
    let duties = g.met.N.Network.duties c.args.network.now in
    settled net c.args.order.now c.args.vector.now (members c.args.group.now) (members c.below.result) (members c.intersection.result) (members c.loop-vertex.group)
    (all_fit g.N.Network.stated net duties c.vertices-vertices.result c.vertices-vertices.ensures (members c.below.result) c.below.ensures)
    c.intersection.ensures
    c.loop-vertex.invariant.inside
    c.loop-vertex.invariant.kept
    c.in_default.ensures.none
