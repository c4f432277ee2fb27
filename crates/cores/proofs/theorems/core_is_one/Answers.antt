use Rattle.std.specs.Cmp.{both_ways}
use Rattle.cores.proofs.Theory.{core_exists}
use Rattle.cores.proofs.theorems.core_is_one.Goals as goal

pub returns : goal.returns
returns c highest g d o k =
    let one = core_exists highest g d o k in
    (one.0, one.1, λ x r v. both_ways (x v) (one.0 v) (one.1.largest x r.meets v) (r.largest one.0 one.1.meets v))
