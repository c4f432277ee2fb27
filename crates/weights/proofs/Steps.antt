-- Sums, one vertex at a time.
use Rattle.std.proofs.Common.{◌≡◌, ℕ, zero, suc, ◌+◌, ◌<◌, true, false, ◌⊎◌, inl, inr, min, cond, List, [], ◌∷◌, length, get_or, fold, refl, add-one, add-zero, zero-add, arith}
use Rattle.std.proofs.lemmas.Bool.{cases_Bool}
use Rattle.std.specs.List.{enumerate_from}
use Rattle.vertex_set.specs.Sets.{Set}
use Rattle.weights.specs.Networks.{sum_over}

module _ (s : Set) where
  -- a with the number beside a vertex added, if it is a member, but never more than 65,535
  abbrev pub with_beside : ℕ → ℕ × ℕ → ℕ
  with_beside a p = cond (s p.0) (min 65535 (a + p.1)) a

  -- a and the numbers beside the members among the vertices from b on, added one by one
  abbrev pub added : ℕ → ℕ → List ℕ → ℕ
  added a b xs = fold with_beside a (enumerate_from b xs)

  module _ (w : ℕ → ℕ) where
    -- over nobody the sum is 0
    pub sum_none : sum_over s w 0 ≡ 0
    unfolding sum_over
    sum_none = refl

    -- one more vertex
    sum_more : (n : ℕ) → sum_over s w (n + 1) ≡ sum_over s w n + cond (s n) (w n) 0
    unfolding sum_over
    sum_more n = rw add-one refl

    -- one more member
    pub sum_yes : (n : ℕ) → s n ≡ true → sum_over s w (n + 1) ≡ sum_over s w n + w n
    sum_yes n e = rw e at (sum_more n)

    -- one more vertex that is no member
    pub sum_no : (n : ℕ) → s n ≡ false → sum_over s w (n + 1) ≡ sum_over s w n
    sum_no n e = omega (arith, rw e at (sum_more n))

    -- what is added to the sum below b is the sum below b + n
    added_to_sum : (a b n : ℕ) (xs : List ℕ) → length xs ≡ n → ((u : ℕ) → u < n → get_or xs u 0 ≡ w (b + u)) → a ≡ min 65535 (sum_over s w b) → added a b xs ≡ min 65535 (sum_over s w (b + n))
    added_to_sum a b zero [] long row start = rw add-zero start
    added_to_sum a b zero (x ∷ xs) long row start = absurd (omega arith)
    added_to_sum a b (suc n) [] long row start = absurd (omega arith)
    added_to_sum a b (suc n) (x ∷ xs) long row start =
        let next : b + 1 + n ≡ b + suc n = omega arith in
        rw next at (added_to_sum (with_beside a (b, x)) (b + 1) n xs (omega arith) (λ u l. (let place : b + suc u ≡ b + 1 + u = omega arith in rw place at (row (suc u) (omega arith)))) (step (cases_Bool (s b))))
      where
        first : x ≡ w b
        first = rw add-zero at (row 0 (omega arith))

        step : (s b ≡ true) ⊎ (s b ≡ false) → with_beside a (b, x) ≡ min 65535 (sum_over s w (b + 1))
        step (inl e) = rw e (omega (arith, start, first, sum_yes b e))
        step (inr e) = rw e (omega (arith, start, sum_no b e))

    -- what is added to 0, from vertex 0 on, is the sum
    pub added_in_all : (n : ℕ) (xs : List ℕ) → (length xs ≡ n) × ((u : ℕ) → u < n → get_or xs u 0 ≡ w u) → added 0 0 xs ≡ min 65535 (sum_over s w n)
    added_in_all n xs row =
        let sum : added 0 0 xs ≡ min 65535 (sum_over s w (0 + n)) = added_to_sum 0 0 n xs row.0 (λ u l. rw zero-add (row.1 u l)) (omega (arith, sum_none)) in
        rw zero-add at sum
