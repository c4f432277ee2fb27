use Rattle.trees.proofs.Theorems.{one_parents_is}
use Rattle.trees.proofs.shape.one_parent.Goals as goal

pub returns : goal.returns
returns c = one_parents_is
