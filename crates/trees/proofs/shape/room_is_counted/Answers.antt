use Rattle.trees.proofs.Theorems.{room_is_counted_is}
use Rattle.trees.proofs.shape.room_is_counted.Goals as goal

pub returns : goal.returns
returns c = room_is_counted_is
