-- Membership in words of bits.
use Rattle.std.proofs.Common.{◌≡◌, ℕ, zero, suc, ◌+◌, ◌-◌, ◌*◌, ◌/◌, ◌%◌, ◌^◌, ◌<◌, ◌≤◌, min, Bool, true, false, cond, not, ◌&&◌, ltb, ◌⊎◌, List, length, get_or, set, take, replicate, add-one, sum_by, sym, refl, ap, ◌∙◌, ap₂, inl, inr, arith}
use lib.Bits.{bit_and, bit_xor}
use lib.Count.{ones}
use Rattle.std.proofs.lemmas.Nat.{one_shl, mod_below}
use Rattle.std.proofs.lemmas.List.{get_or_past, get_or-set_same, get_or-set_other, take_all}
use Rattle.std.proofs.lemmas.List.Sums.{sum_by_more}
use Rattle.std.proofs.lemmas.Bool.{cases_eq, cases_lt, both_ways, lt-ltb, le-ltb, and_left, cond-true, cond-false}
use Rattle.vertex_set.specs.Sets.{Set, count, Same, Limited, below, ◌∩◌, ◌∖◌, with_vertex, without_vertex}
use Rattle.vertex_set.specs.Words.{bit, member}
use Rattle.vertex_set.proofs.Sets.{with_here, with_other, without_here, without_other}
use Rattle.vertex_set.proofs.Bits.{bit_of_and, bit_of_xor, bit_not, bit_low, bit_zero, bit_pow_same, bit_pow_other, ones_count}
use Rattle.vertex_set.proofs.Counts.{count_same, count_split, count_more}

-- what stands in word i is what the bits of that word say
pub member_at : (ws : List ℕ) (i k : ℕ) → k < 64 → member ws (64 * i + k) ≡ bit (get_or ws i 0) k
unfolding member
member_at ws i k l =
    let word : (64 * i + k) / 64 ≡ i = omega arith in
    let place : (64 * i + k) % 64 ≡ k = omega arith in
    rw (word, place)

pub member_past : (ws : List ℕ) (v : ℕ) → length ws ≡ 16 → 1024 ≤ v → member ws v ≡ false
unfolding member
member_past ws v e l = ap (λ (x : ℕ). bit x (v % 64)) (get_or_past ws (v / 64) 0 (omega arith)) ∙ bit_zero (v % 64)

-- sixteen words have no members but 0 to 1,023
pub sixteen_words : (ws : List ℕ) → length ws ≡ 16 → Limited (member ws)
sixteen_words ws e v m = go (cases_lt v 1024)
  where
    go : (v < 1024) ⊎ (1024 ≤ v) → ltb v 1024 ≡ true
    go (inl l) = lt-ltb v 1024 l
    go (inr l) = absurd (both_ways _ (member_past ws v e l) m)

-- words stand for the set that each of their bits follows
pub each_word : (ws : List ℕ) (s : Set) → length ws ≡ 16 → ((i k : ℕ) → i < 16 → k < 64 → bit (get_or ws i 0) k ≡ s (64 * i + k)) → ((v : ℕ) → 1024 ≤ v → s v ≡ false) → Same (member ws) s
unfolding member
each_word ws s e f g v = go (cases_lt v 1024)
  where
    go : (v < 1024) ⊎ (1024 ≤ v) → bit (get_or ws (v / 64) 0) (v % 64) ≡ s v
    go (inl l) =
        let split : 64 * (v / 64) + v % 64 ≡ v = omega arith in
        f (v / 64) (v % 64) (omega arith) (omega arith) ∙ ap s split
    go (inr l) = ap (λ (x : ℕ). bit x (v % 64)) (get_or_past ws (v / 64) 0 (omega arith)) ∙ bit_zero (v % 64) ∙ sym (g v l)

-- ws with the bit of v, in word i, the other way round
abbrev pub flipped : List ℕ → ℕ → ℕ → List ℕ
flipped ws i v = set ws i (bit_xor (get_or ws i 0) ((1 * 2 ^ (v % 64)) % 18446744073709551616))

module _ (ws : List ℕ) (i v : ℕ) (word : i ≡ v / 64) (long : length ws ≡ 16) (within : v < 1024) where
  -- bit k of word i, after the change
  changed : (k : ℕ) → bit (get_or (flipped ws i v) i 0) k ≡ cond (bit (2 ^ (v % 64)) k) (not (bit (get_or ws i 0) k)) (bit (get_or ws i 0) k)
  changed k =
      ap (λ (x : ℕ). bit x k) (get_or-set_same ws i _ 0 (omega arith))
      ∙ ap (λ (x : ℕ). bit (bit_xor (get_or ws i 0) x) k) (one_shl (v % 64) 64 (mod_below v 64 (omega arith)))
      ∙ bit_of_xor (get_or ws i 0) (2 ^ (v % 64)) k

  flipped_here : member (flipped ws i v) v ≡ not (member ws v)
  unfolding member
  flipped_here = rw (← word) (changed (v % 64) ∙ cond-true _ _ _ (bit_pow_same (v % 64)))

  flipped_other : (u : ℕ) → (u ≡ v → ⊥) → member (flipped ws i v) u ≡ member ws u
  unfolding member
  flipped_other u d = go (cases_eq (u / 64) i)
    where
      go : (u / 64 ≡ i) ⊎ (u / 64 ≡ i → ⊥) → bit (get_or (flipped ws i v) (u / 64) 0) (u % 64) ≡ bit (get_or ws (u / 64) 0) (u % 64)
      go (inl e) = rw e (changed (u % 64) ∙ cond-false _ _ _ (bit_pow_other (v % 64) (u % 64) (λ h. d (omega arith))))
      go (inr e) = ap (λ (x : ℕ). bit x (u % 64)) (get_or-set_other ws i (u / 64) _ 0 e)

  module _ (out : member ws v ≡ false) where
    pub put_in : Same (member (flipped ws i v)) (with_vertex (member ws) v)
    put_in u = go (cases_eq u v)
      where
        go : (u ≡ v) ⊎ (u ≡ v → ⊥) → member (flipped ws i v) u ≡ with_vertex (member ws) v u
        go (inl e) = rw e (flipped_here ∙ ap not out ∙ sym (with_here (member ws) v))
        go (inr d) = flipped_other u d ∙ sym (with_other (member ws) v u d)

    pub put_in_size : count (member (flipped ws i v)) 1024 ≡ count (member ws) 1024 + 1
    put_in_size = count_more (member ws) (member (flipped ws i v)) v 1024 out (flipped_here ∙ ap not out) (λ u d. sym (flipped_other u d)) within

  module _ (was : member ws v ≡ true) where
    pub taken_out : Same (member (flipped ws i v)) (without_vertex (member ws) v)
    taken_out u = go (cases_eq u v)
      where
        go : (u ≡ v) ⊎ (u ≡ v → ⊥) → member (flipped ws i v) u ≡ without_vertex (member ws) v u
        go (inl e) = rw e (flipped_here ∙ ap not was ∙ sym (without_here (member ws) v))
        go (inr d) = flipped_other u d ∙ sym (without_other (member ws) v u d)

    pub taken_out_size : count (member ws) 1024 ≡ count (member (flipped ws i v)) 1024 + 1
    taken_out_size = count_more (member (flipped ws i v)) (member ws) v 1024 (flipped_here ∙ ap not was) was flipped_other within

-- the members in the first i + 1 words are those in the first i, and the bits of word i
pub count_word : (ws : List ℕ) (i : ℕ) → get_or ws i 0 < 2 ^ 64 → count (member ws) (64 * (i + 1)) ≡ count (member ws) (64 * i) + ones (get_or ws i 0)
count_word ws i l =
    let next : 64 * (i + 1) ≡ 64 * i + 64 = omega arith in
    let here : count (λ k. member ws (64 * i + k)) 64 ≡ ones (get_or ws i 0) = count_same _ (bit (get_or ws i 0)) 64 (λ k m. member_at ws i k m) ∙ sym (ones_count 64 (get_or ws i 0) l) in
    rw next (count_split (member ws) (64 * i) 64 ∙ ap (λ (x : ℕ). count (member ws) (64 * i) + x) here)

pub member_zeros : (n v : ℕ) → member (replicate n 0) v ≡ false
unfolding member
member_zeros n v = ap (λ (x : ℕ). bit x (v % 64)) (zeros n (v / 64)) ∙ bit_zero (v % 64)
  where
    zeros : (n i : ℕ) → get_or {A = ℕ} (replicate n 0) i 0 ≡ 0
    zeros zero i = refl
    zeros (suc n) zero = refl
    zeros (suc n) (suc i) = zeros n i

-- each word has the low bits that the words before it leave of n
pub words_below : (ws : List ℕ) (n : ℕ) → length ws ≡ 16 → n ≤ 1024 → ((i : ℕ) → i < 16 → get_or ws i 0 ≡ 2 ^ (min (n - 64 * i) 64) - 1) → Same (member ws) (below n)
words_below ws n e l f = each_word ws (below n) e word (λ v m. le-ltb v n (omega arith))
  where
    word : (i k : ℕ) → i < 16 → k < 64 → bit (get_or ws i 0) k ≡ ltb (64 * i + k) n
    word i k a b = ap (λ (x : ℕ). bit x k) (f i a) ∙ bit_low (min (n - 64 * i) 64) k ∙ go (cases_lt (64 * i + k) n)
      where
        go : (64 * i + k < n) ⊎ (n ≤ 64 * i + k) → ltb k (min (n - 64 * i) 64) ≡ ltb (64 * i + k) n
        go (inl m) = lt-ltb k _ (omega arith) ∙ sym (lt-ltb _ n m)
        go (inr m) = le-ltb k _ (omega arith) ∙ sym (le-ltb _ n m)

pub words_and : (ws xs ys : List ℕ) → length ws ≡ 16 → length xs ≡ 16 → ((i : ℕ) → i < 16 → get_or ws i 0 ≡ bit_and (get_or xs i 0) (get_or ys i 0)) → Same (member ws) (member xs ∩ member ys)
words_and ws xs ys e d f = each_word ws (member xs ∩ member ys) e
    (λ i k a b. ap (λ (x : ℕ). bit x k) (f i a) ∙ bit_of_and _ _ k ∙ sym (ap₂ ◌&&◌ (member_at xs i k b) (member_at ys i k b)))
    (λ v m. and_left _ _ (member_past xs v d m))

pub words_and_not : (ws xs ys : List ℕ) → length ws ≡ 16 → length xs ≡ 16 → ((i : ℕ) → i < 16 → get_or ys i 0 < 2 ^ 64) → ((i : ℕ) → i < 16 → get_or ws i 0 ≡ bit_and (get_or xs i 0) (18446744073709551615 - get_or ys i 0)) → Same (member ws) (member xs ∖ member ys)
words_and_not ws xs ys e d small f = each_word ws (member xs ∖ member ys) e
    (λ i k a b. ap (λ (x : ℕ). bit x k) (f i a) ∙ bit_of_and _ _ k ∙ ap (λ (x : Bool). bit (get_or xs i 0) k && x) (bit_not 64 (get_or ys i 0) k (small i a) b) ∙ sym (ap₂ (λ (x y : Bool). x && not y) (member_at xs i k b) (member_at ys i k b)))
    (λ v m. and_left _ _ (member_past xs v d m))

-- the members are as many as the set bits of all words together
pub count_words : (ws : List ℕ) → length ws ≡ 16 → ((i : ℕ) → i < 16 → get_or ws i 0 < 2 ^ 64) → sum_by ones ws ≡ count (member ws) 1024
unfolding count
count_words ws long small = sym (ap (sum_by ones) (take_all 16 ws (omega arith))) ∙ first 16 (omega arith)
  where
    first : (i : ℕ) → i ≤ 16 → sum_by ones (take i ws) ≡ count (member ws) (64 * i)
    first zero l = refl
    first (suc i) l = rw (← add-one i) (sum_by_more ones ws i 0 (omega arith) ∙ ap (λ (x : ℕ). x + ones (get_or ws i 0)) (first i (omega arith)) ∙ sym (count_word ws i (small i (omega arith))))
