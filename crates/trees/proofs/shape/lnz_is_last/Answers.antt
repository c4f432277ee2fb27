use Rattle.trees.proofs.Positions.{lnz_last}
use Rattle.trees.proofs.shape.lnz_is_last.Goals as goal

pub returns : goal.returns
returns c = lnz_last
