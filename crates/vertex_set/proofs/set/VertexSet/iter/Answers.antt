use Rattle.vertex_set.specs.Members.{members}
use Rattle.vertex_set.proofs.Listing.{all_listed}
use Rattle.vertex_set.proofs.set.VertexSet.iter.Goals as goal

pub returns-clause-all : goal.returns-clause-all
returns-clause-all c = all_listed (members c.args.self.now) c.args.self.now.limited
