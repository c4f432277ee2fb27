use Rattle.std.proofs.Common.{rules}
use Rattle.std.proofs.lemmas.Bool.{ltb-true}
use Rattle.vertex_set.specs.Members.{members}
use Rattle.vertex_set.proofs.Listing.{none_listed, first_listed}
use Rattle.vertex_set.proofs.set.members.MembersIterator.next.Goals as goal

pub returns-in_err-v-clause-steps : goal.returns-in_err-v-clause-steps
returns-in_err-v-clause-steps c =
    let none = none_listed (members c.args.self.now.set.now) c.args.self.now.from (rw c.in_err-v.was at c.first_from.ensures) in
    rw c.from_residual.ensures (none, none)

pub returns-clause-steps : goal.returns-clause-steps
returns-clause-steps c = first_listed (members c.args.self.now.set.now) c.args.self.now.from c.in_ok-v.v (ltb-true _ 1024 (c.args.self.now.set.now.limited _ c.in_ok-v.ensures.here)) c.in_ok-v.ensures

pub returns-clause-goes : goal.returns-clause-goes
returns-clause-goes c = let e = returns-clause-steps c in search rules
