use Rattle.std.proofs.Common.{ℕ, ◌+◌, ◌*◌, ◌<◌, ◌≤◌, rules, arith}
use Rattle.std.proofs.lemmas.Nat.{row_fits}
use Rattle.weights.proofs.rows.Rows.row.Goals as goal

-- the row of each vertex in each layer lies within the rows of all
row_within : (n layers l v : ℕ) → l < layers → v < n → (l * n + v) * n + n ≤ layers * n * n
row_within n layers l v a b = row_fits _ _ _ _ (omega (arith, row_fits l n layers n a (omega arith))) (omega arith)

pub slice_bounds-result-end : goal.slice_bounds-result-end
slice_bounds-result-end c = search (rules, row_within)
