use Rattle.vertex_set.specs.Words.{member}
use Rattle.vertex_set.proofs.Counts.{subset_tested}
use Rattle.vertex_set.proofs.set.VertexSet.is_subset.Goals as goal

pub returns : goal.returns
returns c =
    subset_tested (member c.args.self.now.words) (member c.args.other.now.words) (member c.difference.result.words) _
    c.args.self.now.limited c.difference.ensures c.is_empty.ensures
