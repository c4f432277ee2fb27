-- A search in a row.
use Rattle.std.proofs.Common.{◌≡◌, ℕ, List, is_ok, Ok, Err, Result, MatchResult, length, get_or, ◌<◌, ◌≤◌, nat_cmp, sym, ⊎_elim, arith}
use Rattle.std.specs.List.Sorted.{IsBinarySearchResult}
use Rattle.std.proofs.lemmas.Bool.{cases_lt, false_from_ne_true}
use Rattle.std.proofs.lemmas.List.Sorted.{searched}
use Rattle.vertex_set.specs.Lists.{Ascending, elements}
use Rattle.vertex_set.proofs.Elements.{ascending_rises, element_from, among_from}

-- a search in an ascending list finds the numbers that the list has
pub found_element : (xs : List ℕ) (v : ℕ) (r : Result ℕ ℕ) → IsBinarySearchResult (λ y. nat_cmp y v) xs r → Ascending xs → is_ok r ≡ elements xs v
found_element xs v r h up = go r (searched xs v r h (ascending_rises xs up))
  where
    go : (r : Result ℕ ℕ) → MatchResult r (λ i. (i < length xs) × (get_or xs i 0 ≡ v)) (λ i. (i ≤ length xs) × ((k : ℕ) → k < i → get_or xs k 0 < v) × ((k : ℕ) → i ≤ k → k < length xs → v < get_or xs k 0)) → is_ok r ≡ elements xs v
    go (Ok i) at = sym (element_from xs v i at.0 at.1)
    go (Err i) at = sym (false_from_ne_true _ (λ e.
        let a = among_from xs v e in
        ⊎_elim (λ m. omega (arith, at.1 a.0 m, a.2)) (λ m. omega (arith, at.2 a.0 m a.1, a.2)) (cases_lt a.0 i)))
