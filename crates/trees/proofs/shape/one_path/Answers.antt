use Rattle.trees.proofs.Theorems.{one_paths_is}
use Rattle.trees.proofs.shape.one_path.Goals as goal

pub returns : goal.returns
returns c = one_paths_is
