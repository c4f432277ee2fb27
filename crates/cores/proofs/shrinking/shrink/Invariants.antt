use Rattle.vertex_set.specs.Sets.{Set, ◌⊆◌, size}
use Rattle.vertex_set.specs.Members.{members}
use Rattle.cores.specs.Cores.{Meets}
use Rattle.cores.proofs.shrinking.shrink.Given as goal

-- only members were taken away, and none that belongs to a group that meets the vector
abbrev pub invariant-loop-vertex : goal.invariant-loop-vertex
invariant-loop-vertex g l = record {
  inside : members l.group ⊆ members l.initial.group;
  kept : (s : Set) → Meets (g.N.Network.means l.network) l.order l.vector s → s ⊆ members l.initial.group → s ⊆ members l.group;
}

abbrev pub decreases-loop-vertex : goal.decreases-loop-vertex
decreases-loop-vertex g l = size (members l.group)
