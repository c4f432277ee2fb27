use Rattle.std.proofs.Common.{◌≡◌, get_or, arith, rules}
use lib.Bits.{bit_and}
use Rattle.vertex_set.proofs.Made.{made_each}
use Rattle.vertex_set.proofs.Words.{words_and}
use Rattle.vertex_set.proofs.set.VertexSet.intersection.Goals as goal

pub returns : goal.returns
returns c =
    let xs = c.args.self.now.words in
    let ys = c.args.other.now.words in
    rw c.of_words.ensures (words_and c.from_fn.result xs ys c.from_fn.ensures.items.long (omega arith)
    (made_each (λ i y. y ≡ bit_and (get_or xs i 0) (get_or ys i 0)) 0 c.from_fn.ensures.items (λ i y q call. search rules)))
