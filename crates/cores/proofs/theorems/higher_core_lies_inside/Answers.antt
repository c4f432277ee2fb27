use Rattle.cores.proofs.Theory.{meets_lower}
use Rattle.cores.proofs.theorems.higher_core_lies_inside.Goals as goal

pub returns : goal.returns
returns c highest g d o j k low x y lower higher = lower.largest y (meets_lower g o j k y low higher.meets)
