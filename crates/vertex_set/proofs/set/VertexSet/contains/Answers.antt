use Rattle.std.proofs.Common.{◌≡◌, ℕ, ◌/◌, ◌%◌, ◌^◌, eqb, get_or, ap, rules}
use Rattle.std.proofs.lemmas.Nat.{and_mask}
use Rattle.vertex_set.specs.Words.{bit, member}
use Rattle.vertex_set.proofs.set.VertexSet.contains.Goals as goal

pub returns-then-word-lt16 : goal.returns-then-word-lt16
unfolding bit member
returns-then-word-lt16 c =
    let e : c.from-word.result ≡ c.args.v / 64 = search rules in
    rw e (ap (λ (x : ℕ). eqb x 1) (and_mask (get_or c.args.self.now.words (c.args.v / 64) 0 / 2 ^ (c.args.v % 64)) 1))
