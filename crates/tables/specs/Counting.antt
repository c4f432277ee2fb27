-- Counts over rows, and how long a row can be.
use Rattle.std.specs.Prelude.{◌≡◌, ℕ, zero, suc, ◌+◌, ◌<◌, ◌≤◌, Bool, true, false, cond, List, [], ◌∷◌, length, count_by, slice_index, refl}
use Rattle.std.proofs.Common.{sym, ◌∙◌, ap₂, ⊎_elim, arith}
use Rattle.std.proofs.lemmas.Bool.{cases_lt}
use Rattle.std.proofs.lemmas.List.Sums.{sum_by-cons, sum_by-le-sum_by}
use Rattle.vertex_set.specs.Sets.{Set, ◌⊆◌}
use Rattle.tables.specs.Rows.{RowRight}

-- of a larger set no fewer elements are counted
pub count_grows : (s t : Set) (xs : List ℕ) → s ⊆ t → count_by s xs ≤ count_by t xs
count_grows s t xs h = sum_by-le-sum_by (λ v. cond (s v) 1 0) (λ v. cond (t v) 1 0) xs (λ v. here (s v) (t v) (h v))
  where
    here : (a b : Bool) → (a ≡ true → b ≡ true) → cond a 1 0 ≤ cond b 1 0
    here true b k = rw (k refl) (omega arith)
    here false b k = omega arith

-- sets that agree on the elements count the same
pub count_agrees : (s t : Set) (xs : List ℕ) → ((i : ℕ) → i < length xs → s (slice_index xs i) ≡ t (slice_index xs i)) → count_by s xs ≡ count_by t xs
count_agrees s t [] h = refl
count_agrees s t (x ∷ xs) h =
    sum_by-cons (λ v. cond (s v) 1 0) x xs
    ∙ ap₂ (λ (b : Bool) (n : ℕ). cond b 1 0 + n) (h 0 (omega arith)) (count_agrees s t xs (λ i l. h (suc i) (omega arith)))
    ∙ sym (sum_by-cons (λ v. cond (t v) 1 0) x xs)

-- a row that ascends among n vertices and leaves one out is shorter than n
pub row_short : (n v : ℕ) (xs : List ℕ) → RowRight n v xs → v < n → length xs < n
row_short n v xs right l = go (length xs) (omega arith)
  where
    -- what stands at i is at least i, and more from v on
    high : (i : ℕ) → i < length xs → (i ≤ slice_index xs i) × (v ≤ slice_index xs i → i < slice_index xs i)
    high zero m = (omega arith, λ a. omega (arith, right.others 0 m))
    high (suc i) m =
        let before = high i (omega arith) in
        let up = right.ascending i (suc i) (omega arith) m in
        (omega arith, λ a. ⊎_elim (λ b. omega (arith, right.others (suc i) m)) (λ b. omega (arith, before.1 b)) (cases_lt (slice_index xs i) v))

    go : (m : ℕ) → m ≤ length xs → m < n
    go zero h = omega arith
    go (suc m) h =
        let here = high m (omega arith) in
        ⊎_elim (λ a. omega arith) (λ a. omega (arith, here.1 a, right.inside m (omega arith))) (cases_lt (slice_index xs m) v)
