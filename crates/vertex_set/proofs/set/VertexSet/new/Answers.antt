use Rattle.std.proofs.Common.{replicate, sym, refl, ◌∙◌}
use Rattle.vertex_set.specs.Sets.{none}
use Rattle.vertex_set.specs.Words.{member}
use Rattle.vertex_set.proofs.Counts.{count_same, count_none}
use Rattle.vertex_set.proofs.Words.{member_zeros, sixteen_words}
use Rattle.vertex_set.proofs.set.VertexSet.new.Goals as goal

pub invariant_of-result : goal.invariant_of-result
invariant_of-result c = record { limited = sixteen_words (replicate 16 0) refl; counted = sym (count_same (member (replicate 16 0)) none 1024 (λ v l. member_zeros 16 v) ∙ count_none 1024) }

pub returns : goal.returns
returns c = member_zeros 16
