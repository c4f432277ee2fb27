use Rattle.trees.proofs.Theorems.{one_tree_is}
use Rattle.trees.proofs.shape.one_tree.Goals as goal

pub returns : goal.returns
returns c = one_tree_is
