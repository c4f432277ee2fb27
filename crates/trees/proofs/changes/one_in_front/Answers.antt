use Rattle.trees.proofs.Theorems.{one_in_front_is}
use Rattle.trees.proofs.changes.one_in_front.Goals as goal

pub returns : goal.returns
returns c = one_in_front_is
