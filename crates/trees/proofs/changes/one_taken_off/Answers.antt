use Rattle.trees.proofs.Theorems.{one_taken_off_is}
use Rattle.trees.proofs.changes.one_taken_off.Goals as goal

pub returns : goal.returns
returns c = one_taken_off_is
