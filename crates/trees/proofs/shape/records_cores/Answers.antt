use Rattle.trees.proofs.Theorems.{records_cores_is}
use Rattle.trees.proofs.shape.records_cores.Goals as goal

pub returns : goal.returns
returns c = records_cores_is
