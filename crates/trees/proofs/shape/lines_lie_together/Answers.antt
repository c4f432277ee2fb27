use Rattle.trees.proofs.Theorems.{lines_lie_together_is}
use Rattle.trees.proofs.shape.lines_lie_together.Goals as goal

pub returns : goal.returns
returns c = lines_lie_together_is
