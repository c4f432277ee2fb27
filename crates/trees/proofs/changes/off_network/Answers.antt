use Rattle.trees.proofs.Theorems.{off_network_is}
use Rattle.trees.proofs.changes.off_network.Goals as goal

pub returns : goal.returns
returns c = off_network_is
