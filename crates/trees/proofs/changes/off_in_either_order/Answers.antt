use Rattle.trees.proofs.Theorems.{off_in_either_order_is}
use Rattle.trees.proofs.changes.off_in_either_order.Goals as goal

pub returns : goal.returns
returns c = off_in_either_order_is
