-- Sets in words of 64 bits.
use Rattle.std.specs.Prelude.{ℕ, ◌/◌, ◌%◌, ◌^◌, Bool, List, ◌==◌, slice_index}
use Rattle.vertex_set.specs.Sets.{Set}

-- bit k of w, the lowest being bit 0
unfoldable pub bit : ℕ → ℕ → Bool
bit w k = w / 2 ^ k % 2 == 1

-- the set that the words stand for: v is a member if bit v % 64 of word v / 64 is set
unfoldable pub member : List ℕ → Set
unfolding bit
member ws = λ v. bit (slice_index ws (v / 64)) (v % 64)
