use Rattle.trees.proofs.Theorems.{front_of_network_is}
use Rattle.trees.proofs.changes.front_of_network.Goals as goal

pub returns : goal.returns
returns c = front_of_network_is
