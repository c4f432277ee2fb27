-- Bits of numbers under the operations on words.
use Rattle.std.proofs.Common.{◌≡◌, ℕ, zero, suc, ◌+◌, ◌-◌, ◌/◌, ◌%◌, ◌^◌, ◌<◌, ◌≤◌, min, Bool, true, false, cond, not, ◌&&◌, eqb, ltb, ◌⊎◌, sym, refl, ap, ◌∙◌, ap₂, inl, inr, mod-eq_of_lt, one-add, pow-suc, arith}
use lib.Bits.{bit_and, bit_xor, xor_add_and}
use lib.Count.{ones, ones_in, ones_step, count_trailing_zeros, under}
use Rattle.std.specs.Int.{bit_at}
use Rattle.std.proofs.lemmas.Nat.{and_mask, mod_below, shr-shr}
use Rattle.std.proofs.lemmas.Nat.Bits.{bit_at-lt, bit_at_lowest, bit_at-suc, bit_at-zero, bit_at_and, bit_at_xor, bit_at_ones, bit_at_ones_above, bit_at_above, bit_at-pow_same, bit_at-pow_other}
use Rattle.std.proofs.lemmas.Bool.{lt-ltb, le-ltb, cases_lt}
use Rattle.vertex_set.specs.Sets.{count}
use Rattle.vertex_set.specs.Words.{bit}
use Rattle.vertex_set.proofs.Counts.{count_same, count_split}

-- what holds of 0 and of 1 holds of each digit
each_digit : (P : ℕ → Type 0) → P 0 → P 1 → (p : ℕ) → p < 2 → P p
each_digit P a b zero l = a
each_digit P a b (suc zero) l = b
each_digit P a b (suc (suc p)) l = absurd (omega arith)

-- a bit is set just if the digit is 1
digit : (w k d : ℕ) → bit_at w k ≡ d → bit w k ≡ eqb d 1
unfolding bit
digit w k d e = ap (λ (x : ℕ). eqb x 1) e

pub bit_of_and : (a b k : ℕ) → bit (bit_and a b) k ≡ (bit a k && bit b k)
unfolding bit
bit_of_and a b k =
    digit (bit_and a b) k _ (bit_at_and a b k)
    ∙ each_digit (λ p. eqb (min p (bit_at b k)) 1 ≡ (eqb p 1 && eqb (bit_at b k) 1))
    (each_digit (λ q. eqb (min 0 q) 1 ≡ false) refl refl _ (bit_at-lt b k))
    (each_digit (λ q. eqb (min 1 q) 1 ≡ eqb q 1) refl refl _ (bit_at-lt b k)) _ (bit_at-lt a k)

pub bit_of_xor : (a b k : ℕ) → bit (bit_xor a b) k ≡ cond (bit b k) (not (bit a k)) (bit a k)
unfolding bit
bit_of_xor a b k =
    digit (bit_xor a b) k _ (bit_at_xor a b k)
    ∙ each_digit (λ p. eqb ((p + bit_at b k) % 2) 1 ≡ cond (eqb (bit_at b k) 1) (not (eqb p 1)) (eqb p 1))
    (each_digit (λ q. eqb ((0 + q) % 2) 1 ≡ cond (eqb q 1) true false) refl refl _ (bit_at-lt b k))
    (each_digit (λ q. eqb ((1 + q) % 2) 1 ≡ cond (eqb q 1) false true) refl refl _ (bit_at-lt b k)) _ (bit_at-lt a k)

-- bit k + 1 of a number is bit k of its half
pub bit_step : (w k : ℕ) → bit w (suc k) ≡ bit (w / 2) k
unfolding bit
bit_step w k = digit w (suc k) _ (bit_at-suc w k)

pub bit_first : (w : ℕ) → bit w 0 ≡ eqb (w % 2) 1
bit_first w = digit w 0 _ (bit_at_lowest w)

pub bit_zero : (k : ℕ) → bit 0 k ≡ false
bit_zero k = digit 0 k 0 (bit_at-zero k)

-- the number 2 ^ m - 1 has the bits below m
pub bit_low : (m k : ℕ) → bit (2 ^ m - 1) k ≡ ltb k m
bit_low m k = go (cases_lt k m)
  where
    go : (k < m) ⊎ (m ≤ k) → bit (2 ^ m - 1) k ≡ ltb k m
    go (inl l) = digit (2 ^ m - 1) k 1 (bit_at_ones m k l) ∙ sym (lt-ltb k m l)
    go (inr l) = digit (2 ^ m - 1) k 0 (bit_at_ones_above m k l) ∙ sym (le-ltb k m l)

pub bit_pow_same : (k : ℕ) → bit (2 ^ k) k ≡ true
bit_pow_same k = digit (2 ^ k) k 1 (bit_at-pow_same k)

pub bit_pow_other : (j k : ℕ) → (k ≡ j → ⊥) → bit (2 ^ j) k ≡ false
bit_pow_other j k d = digit (2 ^ j) k 0 (bit_at-pow_other j k d)

-- the other bits of a word of n bits
pub bit_not : (n w k : ℕ) → w < 2 ^ n → k < n → bit (2 ^ n - 1 - w) k ≡ not (bit w k)
bit_not n w k l m =
    let low : bit_and w (2 ^ n - 1) ≡ w = and_mask w n ∙ mod-eq_of_lt l in
    let flipped : bit_xor w (2 ^ n - 1) ≡ 2 ^ n - 1 - w = omega (arith, xor_add_and w (2 ^ n - 1)) in
    ap (λ (x : ℕ). bit x k) (sym flipped) ∙ bit_of_xor w (2 ^ n - 1) k ∙ ap (λ (b : Bool). cond b (not (bit w k)) (bit w k)) (bit_low n k ∙ lt-ltb k n m)

-- a number below 2 ^ n has no bits from n on
pub bit_past : (n w k : ℕ) → w < 2 ^ n → n ≤ k → bit w k ≡ false
bit_past n w k l m = digit w k 0 (bit_at_above w n k l m)

pub bit_shifted : (w j k : ℕ) → bit (w / 2 ^ j) k ≡ bit w (j + k)
unfolding bit
bit_shifted w j k = ap (λ (x : ℕ). eqb (x % 2) 1) (shr-shr w j k)

-- the number of set digits is the number of set bits
pub ones_count : (n w : ℕ) → w < 2 ^ n → ones w ≡ count (bit w) n
unfolding count ones ones_in
ones_count zero w l = let e : w ≡ 0 = omega arith in rw e refl
ones_count (suc n) w l =
    let half : w / 2 < 2 ^ n = omega (arith, pow-suc 2 n) in
    let rest : count (λ k. bit w (1 + k)) n ≡ count (bit (w / 2)) n = count_same (λ k. bit w (1 + k)) (bit (w / 2)) n (λ k m. rw one-add (bit_step w k)) in
    ones_step w ∙ sym (ap (count (bit w)) (sym (one-add n)) ∙ count_split (bit w) 1 n ∙ ap₂ ◌+◌ (each_digit (λ p. bit w 0 ≡ eqb p 1 → count (bit w) 1 ≡ p) (λ e. rw e) (λ e. rw e) (w % 2) (mod_below w 2 (omega arith)) (bit_first w)) (rest ∙ sym (ones_count n (w / 2) half)))

-- t is the place of the lowest bit that is set, among n
pub record Lowest (n w t : ℕ) : Type 0 where
  pub within : t < n
  pub here : bit w t ≡ true
  pub before : (k : ℕ) → k < t → bit w k ≡ false

pub lowest_set : (n w : ℕ) → 0 < w → w < 2 ^ n → Lowest n w (count_trailing_zeros n w)
unfolding count_trailing_zeros
lowest_set zero w p l = absurd (omega arith)
lowest_set (suc n) w p l = go (lowest_set n (w / 2)) (w % 2) (mod_below w 2 (omega arith)) refl
  where
    step : {t : ℕ} → bit w 0 ≡ false → Lowest n (w / 2) t → Lowest (suc n) w (suc t)
    step {t} e h = record { within = omega (arith, h.within); here = bit_step w t ∙ h.here; before = below_it }
      where
        below_it : (k : ℕ) → k < suc t → bit w k ≡ false
        below_it zero m = e
        below_it (suc k) m = bit_step w k ∙ h.before k (omega arith)

    go : (0 < w / 2 → w / 2 < 2 ^ n → Lowest n (w / 2) (count_trailing_zeros n (w / 2))) → (p : ℕ) → p < 2 → w % 2 ≡ p → Lowest (suc n) w (under p (count_trailing_zeros n (w / 2)))
    go ih zero m e = step (bit_first w ∙ ap (λ (x : ℕ). eqb x 1) e) (ih (omega arith) (omega (arith, pow-suc 2 n)))
    go ih (suc zero) m e = record { within = omega arith; here = bit_first w ∙ ap (λ (x : ℕ). eqb x 1) e; before = λ k h. absurd (omega arith) }
    go ih (suc (suc p)) m e = absurd (omega arith)
