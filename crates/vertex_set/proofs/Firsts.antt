-- The first member from a vertex on, in words of bits.
use Rattle.std.proofs.Common.{◌≡◌, ℕ, zero, suc, add-zero, add-suc, add-one, ◌+◌, ◌-◌, ◌*◌, ◌/◌, ◌%◌, ◌^◌, ◌<◌, ◌≤◌, false, ◌⊎◌, List, get_or, Option, Some, None, MatchOption, subst, sym, ap, ◌∙◌, inl, inr, arith}
use lib.Count.{count_trailing_zeros}
use Rattle.std.proofs.lemmas.Nat.{shr_le}
use Rattle.std.proofs.lemmas.Bool.{cases_lt, both_ways, ltb-true}
use Rattle.vertex_set.specs.Sets.{◌∈◌, Limited}
use Rattle.vertex_set.specs.Words.{bit, member}
use Rattle.vertex_set.specs.Lists.{NoneFrom, FirstFrom}
use Rattle.vertex_set.proofs.Bits.{bit_past, bit_shifted, bit_zero, Lowest, lowest_set}
use Rattle.vertex_set.proofs.Words.{member_at}

module _ (ws : List ℕ) (v : ℕ) where
  -- no member from v up to u
  abbrev pub NoneUpTo : ℕ → Type 0
  NoneUpTo u = (w : ℕ) → v ≤ w → w < u → w ∈ member ws → ⊥

  -- the bits of the word of v from v on
  abbrev rest : ℕ
  rest = get_or ws (v / 64) 0 / 2 ^ (v % 64)

  rest_bit : (k : ℕ) → v % 64 + k < 64 → member ws (v + k) ≡ bit rest k
  rest_bit k l =
      let place : 64 * (v / 64) + (v % 64 + k) ≡ v + k = omega arith in
      ap (member ws) (sym place) ∙ member_at ws (v / 64) (v % 64 + k) l ∙ sym (bit_shifted (get_or ws (v / 64) 0) (v % 64) k)

  rest_first : get_or ws (v / 64) 0 < 2 ^ 64 → (t : ℕ) → Lowest 64 rest t → FirstFrom (member ws) v (v + t)
  rest_first small t h = record {
    from = omega arith;
    here = rest_bit t (within (cases_lt (v % 64 + t) 64)) ∙ h.here;
    first = λ w a b m. both_ways _ (before w a b) m;
  }
    where
      within : (v % 64 + t < 64) ⊎ (64 ≤ v % 64 + t) → v % 64 + t < 64
      within (inl l) = l
      within (inr l) = absurd (both_ways _ (bit_shifted _ (v % 64) t ∙ bit_past 64 (get_or ws (v / 64) 0) (v % 64 + t) small l) h.here)

      before : (w : ℕ) → v ≤ w → w < v + t → member ws w ≡ false
      before w a b =
          let place : v + (w - v) ≡ w = omega arith in
          ap (member ws) (sym place) ∙ rest_bit (w - v) (omega (arith, within (cases_lt (v % 64 + t) 64))) ∙ h.before (w - v) (omega arith)

  pub first_in_rest : get_or ws (v / 64) 0 < 2 ^ 64 → 0 < rest → FirstFrom (member ws) v (v + count_trailing_zeros 64 rest)
  first_in_rest small some = rest_first small _ (lowest_set 64 rest some (omega (arith, shr_le (get_or ws (v / 64) 0) (v % 64))))

  pub none_in_rest : rest ≡ 0 → NoneUpTo (64 * (v / 64 + 1))
  none_in_rest e w a b m =
      let place : v + (w - v) ≡ w = omega arith in
      both_ways _ (ap (member ws) (sym place) ∙ rest_bit (w - v) (omega arith) ∙ ap (λ (x : ℕ). bit x (w - v)) e ∙ bit_zero (w - v)) m

  pub none_in_word : (i : ℕ) → NoneUpTo (64 * i) → get_or ws i 0 ≡ 0 → NoneUpTo (64 * (i + 1))
  none_in_word i up e w a b m = go (cases_lt w (64 * i))
    where
      go : (w < 64 * i) ⊎ (64 * i ≤ w) → ⊥
      go (inl l) = up w a l m
      go (inr l) =
          let place : 64 * i + (w - 64 * i) ≡ w = omega arith in
          both_ways _ (ap (member ws) (sym place) ∙ member_at ws i (w - 64 * i) (omega arith) ∙ ap (λ (x : ℕ). bit x (w - 64 * i)) e ∙ bit_zero _) m

  -- no member in the n words from a on either
  none_in_words : (a n : ℕ) → NoneUpTo (64 * a) → ((i : ℕ) → a ≤ i → i < a + n → get_or ws i 0 ≡ 0) → NoneUpTo (64 * (a + n))
  none_in_words a zero up empty = rw add-zero up
  none_in_words a (suc n) up empty = rw (add-suc, ← add-one (a + n)) (none_in_word (a + n) (none_in_words a n up (λ i l m. empty i l (omega arith))) (empty (a + n) (omega arith) (omega arith)))

  pub first_in_word : (i : ℕ) → v ≤ 64 * i → NoneUpTo (64 * i) → 0 < get_or ws i 0 → get_or ws i 0 < 2 ^ 64 → FirstFrom (member ws) v (64 * i + count_trailing_zeros 64 (get_or ws i 0))
  first_in_word i l up some small = found _ (lowest_set 64 (get_or ws i 0) some small)
    where
      found : (t : ℕ) → Lowest 64 (get_or ws i 0) t → FirstFrom (member ws) v (64 * i + t)
      found t h = record {
        from = omega arith;
        here = member_at ws i t h.within ∙ h.here;
        first = λ w a b. go w a b (cases_lt w (64 * i));
      }
        where
          go : (w : ℕ) → v ≤ w → w < 64 * i + t → (w < 64 * i) ⊎ (64 * i ≤ w) → w ∈ member ws → ⊥
          go w a b (inl m) n = up w a m n
          go w a b (inr m) n =
              let place : 64 * i + (w - 64 * i) ≡ w = omega arith in
              both_ways _ (ap (member ws) (sym place) ∙ member_at ws i (w - 64 * i) (omega (arith, h.within)) ∙ h.before (w - 64 * i) (omega arith)) n

  -- what a search for a word that is not 0, from word a on, found
  abbrev pub Found : ℕ → Option ℕ → Type 0
  Found a r = MatchOption r
      ((k : ℕ) → a ≤ k → k < 16 → get_or ws k 0 ≡ 0)
      (λ i. (a ≤ i) × (i < 16) × (0 < get_or ws i 0) × ((k : ℕ) → a ≤ k → k < i → get_or ws k 0 ≡ 0))

  module _ (empty : rest ≡ 0) where
    pub none_found : Limited (member ws) → Found (v / 64 + 1) None → NoneFrom (member ws) v
    none_found few found u l m = none_in_words (v / 64 + 1) (15 - v / 64) (none_in_rest empty) (λ i a b. found i a (omega arith)) u l (omega (arith, ltb-true u 1024 (few u m))) m

    pub first_found : (i : ℕ) → Found (v / 64 + 1) (Some i) → get_or ws i 0 < 2 ^ 64 → FirstFrom (member ws) v (64 * i + count_trailing_zeros 64 (get_or ws i 0))
    first_found i found small =
        let place : v / 64 + 1 + (i - (v / 64 + 1)) ≡ i = omega (arith, found.0) in
        first_in_word i (omega (arith, found.0)) (subst (λ (x : ℕ). NoneUpTo (64 * x)) place (none_in_words (v / 64 + 1) (i - (v / 64 + 1)) (none_in_rest empty) (λ k a b. found.3 k a (omega arith)))) found.2 small
