use Rattle.trees.proofs.Theorems.{off_needs_no_more_is}
use Rattle.trees.proofs.changes.off_needs_no_more.Goals as goal

pub returns : goal.returns
returns c = off_needs_no_more_is
