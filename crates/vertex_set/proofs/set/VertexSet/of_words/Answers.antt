use Rattle.std.proofs.Common.{◌≡◌, ◌∙◌, Fits, w64, get_or, rules, arith, sum_by}
use borrow.Author.Tests.{tests}
use lib.Count.{ones}
use Rattle.std.proofs.lemmas.Iterator.{YieldsList-from_slice, YieldsList-from_map}
use Rattle.std.proofs.lemmas.Iterator.Consumers.{sum_by_from_yields_List, fits_by_from_yields_list}
use Rattle.vertex_set.specs.Sets.{count}
use Rattle.vertex_set.specs.Words.{member}
use Rattle.vertex_set.proofs.Counts.{count_le}
use Rattle.vertex_set.proofs.Words.{count_words, sixteen_words}
use Rattle.vertex_set.proofs.set.VertexSet.of_words.Goals as goal

-- the set bits are as many as the members
bits : (c : goal.After-map) → sum_by ones c.args.words ≡ count (member c.args.words) 1024
bits c = count_words c.args.words (omega arith) (λ i l. (let word : Fits w64 (get_or c.args.words i 0) = search rules in word.fits))

pub sum-len-requires-clause-fits : goal.sum-len-requires-clause-fits
sum-len-requires-clause-fits c = fits_by_from_yields_list ones c.args.words c.map.result 65536 (YieldsList-from_map _ ones (YieldsList-from_slice c.args.words cc) c.map.ensures.closure (λ x r q k. search (rules, tests))) (omega (arith, bits c, count_le (member c.args.words) 1024))

pub invariant_of-result : goal.invariant_of-result
invariant_of-result c =
    let bits : sum_by ones c.args.words ≡ count (member c.args.words) 1024 = count_words c.args.words (omega arith) (λ i l. (let word : Fits w64 (get_or c.args.words i 0) = search rules in word.fits)) in
    record { limited = sixteen_words c.args.words (omega arith); counted = sum_by_from_yields_List ones c.args.words c.map.result _ c.sum-len.ensures.ran (YieldsList-from_map _ ones (YieldsList-from_slice c.args.words cc) c.map.ensures.closure (λ x r q k. search (rules, tests))) ∙ bits }
