use Rattle.trees.proofs.Theorems.{cores_split_is}
use Rattle.trees.proofs.shape.cores_split.Goals as goal

pub returns : goal.returns
returns c = cores_split_is
