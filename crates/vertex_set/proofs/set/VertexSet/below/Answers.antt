use Rattle.std.proofs.Common.{◌≡◌, ℕ, ◌-◌, ◌*◌, ◌^◌, min, rules, ap, ◌∙◌, arith}
use Rattle.vertex_set.specs.Sets.{Same, below}
use Rattle.vertex_set.specs.Words.{member}
use Rattle.vertex_set.proofs.Counts.{count_same, count_below}
use Rattle.vertex_set.proofs.Made.{made_each}
use Rattle.vertex_set.proofs.Words.{words_below, sixteen_words}
use Rattle.vertex_set.proofs.set.VertexSet.below.Goals as goal

-- the words are those of the vertices below the length
filled : (c : goal.After-from_fn-words) → Same (member c.from_fn-words.result) (below c.min-len.result)
filled c = words_below c.from_fn-words.result c.min-len.result c.from_fn-words.ensures.items.long (omega arith) (made_each (λ i y. y ≡ 2 ^ (min (c.min-len.result - 64 * i) 64) - 1) 0 c.from_fn-words.ensures.items (λ i y q call. search rules))

pub invariant_of-result : goal.invariant_of-result
invariant_of-result c =
    let size = count_same (member c.from_fn-words.result) (below c.min-len.result) 1024 (λ v l. filled c v) ∙ count_below c.min-len.result 1024 in
    record { limited = sixteen_words c.from_fn-words.result c.from_fn-words.ensures.items.long; counted = omega (arith, size) }

pub returns : goal.returns
returns c v = words_below c.from_fn-words.result c.min-len.result c.from_fn-words.ensures.items.long (omega arith) (made_each (λ i y. y ≡ 2 ^ (min (c.min-len.result - 64 * i) 64) - 1) 0 c.from_fn-words.ensures.items (λ i y q call. search rules)) v ∙ ap (λ (x : ℕ). below x v) c.min-len.ensures
