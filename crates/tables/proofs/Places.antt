-- Where the rows of a table lie.
use Rattle.std.proofs.Common.{◌≡◌, ℕ, ◌+◌, ◌-◌, ◌*◌, ◌<◌, ◌≤◌, length, get_or, take, drop, arith}
use lib.Arith.{digits_lt}
use Rattle.std.specs.List.Sorted.{IsNonDecreasing}
use Rattle.std.proofs.lemmas.List.{get_or_default, get_or_read}
use Rattle.std.proofs.lemmas.List.Sorted.{IsNonDecreasingBy-from_all_adjacent}
use Rattle.tables.specs.Rows.{Rows, Shaped, Within, row, row_at}

module _ (t : Rows) (s : Shaped t) (l v : ℕ) (a : l < t.layers) (b : v < t.vertices) where
  -- the row of the vertex in the layer lies within the lists
  pub row_within : Within t.starts t.neighbours (l * t.vertices + v)
  row_within =
      let place = digits_lt a b in
      let up : IsNonDecreasing t.starts = IsNonDecreasingBy-from_all_adjacent (λ x. x) t.starts (λ k d m. omega (arith, s.2 k (omega arith), get_or_default t.starts k d 0 (omega arith), get_or_default t.starts (k + 1) d 0 m)) in (
        omega arith,
        s.2 (l * t.vertices + v) place,
        omega (arith, up (l * t.vertices + v + 1) (t.layers * t.vertices) 0 (omega arith) (omega arith), s.3),
      )

  -- what is read from its start up to the next is the row
  pub row_read : (start end : ℕ) → start ≡ get_or t.starts (l * t.vertices + v) start → end ≡ get_or t.starts (l * t.vertices + v + 1) end → (end ≤ length t.neighbours) × (take (end - start) (drop start t.neighbours) ≡ row t l v)
  unfolding row_at
  row_read start end from to =
      let first = get_or_read t.starts _ start (omega (arith, row_within)) from 0 in
      let next = get_or_read t.starts _ end row_within.0 to 0 in
      (omega (arith, row_within), rw (first, next))
