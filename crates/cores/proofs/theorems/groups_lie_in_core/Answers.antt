use Rattle.cores.proofs.theorems.groups_lie_in_core.Goals as goal

pub returns : goal.returns
returns c highest g d o k x r v = (λ m. (x, r.meets, m), λ q. r.largest q.0 q.1 v q.2)
