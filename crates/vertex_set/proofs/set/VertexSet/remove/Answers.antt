use Rattle.std.proofs.Common.{◌≡◌, ◌+◌, sym, ◌∙◌, arith}
use Rattle.std.proofs.lemmas.List.{length-set}
use Rattle.std.proofs.lemmas.Bool.{ltb-true}
use Rattle.vertex_set.specs.Sets.{size}
use Rattle.vertex_set.specs.Words.{member}
use Rattle.vertex_set.proofs.Words.{flipped, sixteen_words, taken_out, taken_out_size}
use Rattle.vertex_set.proofs.set.VertexSet.remove.Goals as goal

-- one member less
smaller : (c : goal.After-self-1) → size (member c.args.self.now.words) ≡ size (member (flipped c.args.self.now.words c.from.result c.args.v)) + 1
smaller c =
    let was = sym c.if-member.ensures in
    taken_out_size c.args.self.now.words c.from.result c.args.v c.from.ensures (omega arith) (ltb-true c.args.v 1024 (c.args.self.now.limited c.args.v was)) was

pub overflow_sub-self : goal.overflow_sub-self
overflow_sub-self c = omega (arith, smaller c, c.args.self.now.counted)

pub invariant_of-self : goal.invariant_of-self
invariant_of-self c = record {
  limited = sixteen_words _ (length-set c.args.self.now.words c.from.result _ ∙ omega arith);
  counted = omega (arith, smaller c, c.args.self.now.counted);
}

pub returns-then-member-clause-after : goal.returns-then-member-clause-after
returns-then-member-clause-after c =
    let was = sym c.if-member.ensures in
    taken_out c.args.self.now.words c.from.result c.args.v c.from.ensures (omega arith) (ltb-true c.args.v 1024 (c.args.self.now.limited c.args.v was)) was
