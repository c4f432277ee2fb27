use Rattle.std.proofs.Common.{sym, ◌∙◌, arith}
use Rattle.std.proofs.lemmas.List.{length-set}
use Rattle.vertex_set.proofs.Counts.{count_le}
use Rattle.vertex_set.proofs.Words.{put_in, put_in_size, sixteen_words}
use Rattle.vertex_set.specs.Words.{member}
use Rattle.vertex_set.proofs.set.VertexSet.insert.Goals as goal

pub overflow_add-self : goal.overflow_add-self
overflow_add-self c = omega (arith, c.args.self.now.counted, count_le (member c.args.self.now.words) 1024)

pub invariant_of-self : goal.invariant_of-self
invariant_of-self c =
    let size = put_in_size c.args.self.now.words c.from.result c.args.v c.from.ensures (omega arith) (omega arith) (sym c.if-fresh.ensures) in
    record { limited = sixteen_words _ (length-set c.args.self.now.words c.from.result _ ∙ omega arith); counted = omega (arith, size, c.args.self.now.counted) }

pub returns-then-fresh-clause-after : goal.returns-then-fresh-clause-after
returns-then-fresh-clause-after c = put_in c.args.self.now.words c.from.result c.args.v c.from.ensures (omega arith) (omega arith) (sym c.if-fresh.ensures)
