-- Positions of a vector: what stands behind one, and a vector that is another raised at one.
use Rattle.std.proofs.Common.{◌≡◌, ℕ, zero, suc, ◌+◌, ◌-◌, ◌<◌, ◌≤◌, Bool, true, false, cond, eqb, ◌⊎◌, [], ◌∷◌, length, get_or, refl, ap, inl, inr, suc-le-suc, zero-le, le_of_suc-le-suc, not-suc-le-zero, add-one, arith}
use Rattle.std.proofs.lemmas.Bool.{cases_lt, cases_eq, eq-eqb, eqb-true, and_parts, and_from, both_ways, cond_both}
use Rattle.std.proofs.lemmas.List.{get_or-set_same, get_or-set_other}
use Rattle.cores.specs.Cores.{Vector}
use Rattle.trees.specs.Vectors.{raised, Before, zeros, lnz, LastNonzero}
use Rattle.trees.specs.Vectors.Before.{here, later}

-- every demand is 0
abbrev pub Zero : Vector → Type 0
Zero k = (i : ℕ) → get_or k i 0 ≡ 0

-- every demand behind the one at i is 0
abbrev pub ZeroBehind : Vector → ℕ → Type 0
ZeroBehind k i = (j : ℕ) → i < j → get_or k j 0 ≡ 0

zeros_at : (k : Vector) → zeros k ≡ true → Zero k
zeros_at [] e i = refl
zeros_at (x ∷ k) e zero = eqb-true x 0 (and_parts (eqb x 0) (zeros k) e).0
zeros_at (x ∷ k) e (suc i) = zeros_at k (and_parts (eqb x 0) (zeros k) e).1 i

zeros_from : (k : Vector) → Zero k → zeros k ≡ true
zeros_from [] f = refl
zeros_from (x ∷ k) f = and_from _ _ (eq-eqb x 0 (f 0)) (zeros_from k (λ i. f (suc i)))

lnz_some : (k : Vector) → 1 ≤ lnz k
lnz_some [] = omega arith
lnz_some (x ∷ k) = cond_both (zeros k) 1 (suc (lnz k)) (λ (n : ℕ). 1 ≤ n) (λ e. omega arith) (λ e. omega arith)

-- a position is from lnz on just if every demand behind it is 0
pub behind_from_lnz : (k : Vector) (i : ℕ) → lnz k ≤ suc i → ZeroBehind k i
behind_from_lnz [] i l j m = refl
behind_from_lnz (x ∷ k) i l zero m = absurd (not-suc-le-zero m)
behind_from_lnz (x ∷ k) i l (suc j) m = go (zeros k) refl l (behind_from_lnz k)
  where
    further : (i : ℕ) → i < suc j → suc (lnz k) ≤ suc i → ((i : ℕ) → lnz k ≤ suc i → ZeroBehind k i) → get_or k j 0 ≡ 0
    further zero a b rest = absurd (omega (arith, lnz_some k))
    further (suc i) a b rest = rest i (le_of_suc-le-suc b) j (le_of_suc-le-suc a)

    go : (b : Bool) → zeros k ≡ b → cond b 1 (suc (lnz k)) ≤ suc i → ((i : ℕ) → lnz k ≤ suc i → ZeroBehind k i) → get_or k j 0 ≡ 0
    go true e a rest = zeros_at k e j
    go false e a rest = further i m a rest

pub lnz_from_behind : (k : Vector) (i : ℕ) → ZeroBehind k i → lnz k ≤ suc i
lnz_from_behind [] i z = omega arith
lnz_from_behind (x ∷ k) zero z = go (zeros k) refl
  where
    go : (b : Bool) → zeros k ≡ b → cond b 1 (suc (lnz k)) ≤ 1
    go true e = omega arith
    go false e = absurd (both_ways (zeros k) e (zeros_from k (λ j. z (suc j) (omega arith))))
lnz_from_behind (x ∷ k) (suc i) z = go (zeros k) (lnz_from_behind k i (λ j l. z (suc j) (suc-le-suc l)))
  where
    go : (b : Bool) → lnz k ≤ suc i → cond b 1 (suc (lnz k)) ≤ suc (suc i)
    go true l = omega arith
    go false l = omega arith

pub lnz_last : (k : Vector) → LastNonzero k (lnz k)
lnz_last k = record { from_one = lnz_some k; here = nonzero (lnz k) refl; behind = λ i l. zero_from i l (lnz_some k) }
  where
    zero_from : (i : ℕ) → lnz k ≤ i → 1 ≤ lnz k → get_or k i 0 ≡ 0
    zero_from zero l m = absurd (omega arith)
    zero_from (suc i) l m = behind_from_lnz k i l (suc i) (omega arith)

    nonzero : (n : ℕ) → lnz k ≡ n → (0 < get_or k (lnz k - 1) 0) ⊎ (lnz k ≡ 1)
    nonzero zero e = absurd (omega (arith, lnz_some k))
    nonzero (suc zero) e = inr e
    nonzero (suc (suc n)) e = go (cases_eq (get_or k (suc n) 0) 0)
      where
        behind : get_or k (suc n) 0 ≡ 0 → (j : ℕ) → n < j → (suc n < j) ⊎ (j ≤ suc n) → get_or k j 0 ≡ 0
        behind z j l (inl m) = behind_from_lnz k (suc n) (omega arith) j m
        behind z j l (inr m) = let same : j ≡ suc n = omega arith in rw same z

        go : (get_or k (suc n) 0 ≡ 0) ⊎ (get_or k (suc n) 0 ≡ 0 → ⊥) → (0 < get_or k (lnz k - 1) 0) ⊎ (lnz k ≡ 1)
        go (inl z) = absurd (omega (arith, lnz_from_behind k n (λ j l. behind z j l (cases_lt (suc n) j))))
        go (inr z) = let place : lnz k - 1 ≡ suc n = omega arith in inl (rw place (omega (arith, z)))

-- no demand falls where one is raised
pub raised_rises : (k : Vector) (i j : ℕ) → get_or k j 0 ≤ get_or (raised k i) j 0
raised_rises [] i j = zero-le
raised_rises (x ∷ k) zero zero = omega arith
raised_rises (x ∷ k) zero (suc j) = omega arith
raised_rises (x ∷ k) (suc i) zero = omega arith
raised_rises (x ∷ k) (suc i) (suc j) = raised_rises k i j

pub raised_at : (k : Vector) (i : ℕ) → i < length k → get_or (raised k i) i 0 ≡ get_or k i 0 + 1
raised_at k i l = get_or-set_same k i _ 0 l

pub raised_off : (k : Vector) (i j : ℕ) → (j ≡ i → ⊥) → get_or (raised k i) j 0 ≡ get_or k j 0
raised_off k i j d = get_or-set_other k i j _ 0 d

-- a vector that is another one, raised at a position from its lnz on
pub record Raised (k : Vector) : Type 0 where
  pub lower : Vector
  pub index : ℕ
  pub inside : index < length lower
  pub from_lnz : lnz lower ≤ suc index
  pub is : raised lower index ≡ k

-- a vector is zero, or one that is raised
pub zero_or_raised : (k : Vector) → Zero k ⊎ Raised k
zero_or_raised [] = inl (λ i. refl)
zero_or_raised (x ∷ k) = go x (zero_or_raised k)
  where
    all_zero : Zero k → Zero (0 ∷ k)
    all_zero z zero = refl
    all_zero z (suc j) = z j

    first : (x : ℕ) → Zero k → ZeroBehind (x ∷ k) 0
    first x z zero l = absurd (not-suc-le-zero l)
    first x z (suc j) l = z j

    further : (x : ℕ) (j : Vector) (i : ℕ) → ZeroBehind j i → ZeroBehind (x ∷ j) (suc i)
    further x j i z zero l = absurd (not-suc-le-zero l)
    further x j i z (suc m) l = z m (le_of_suc-le-suc l)

    onward : (x : ℕ) → Raised k → Raised (x ∷ k)
    onward x r = record {
      lower = x ∷ r.lower;
      index = suc r.index;
      inside = suc-le-suc r.inside;
      from_lnz = lnz_from_behind (x ∷ r.lower) (suc r.index) (further x r.lower r.index (behind_from_lnz r.lower r.index r.from_lnz));
      is = ap (λ (j : Vector). x ∷ j) r.is;
    }

    go : (x : ℕ) → Zero k ⊎ Raised k → Zero (x ∷ k) ⊎ Raised (x ∷ k)
    go zero (inl z) = inl (all_zero z)
    go (suc x) (inl z) = inr (record { lower = x ∷ k; index = 0; inside = suc-le-suc zero-le; from_lnz = lnz_from_behind (x ∷ k) 0 (first x z); is = ap (λ (n : ℕ). n ∷ k) (add-one x) })
    go zero (inr r) = inr (onward zero r)
    go (suc x) (inr r) = inr (onward (suc x) r)

-- nothing comes before a zero vector
pub zero_first : {j k : Vector} → Before j k → Zero k → ⊥
zero_first (here {a} {b} l) z = not-suc-le-zero (rw (z 0) at l)
zero_first (later b) z = zero_first b (λ i. z (suc i))

-- a position from lnz on is not before a nonzero demand
pub not_before_nonzero : (k : Vector) (i j : ℕ) → 0 < get_or k i 0 → lnz k ≤ suc j → i ≤ j
not_before_nonzero k i j some l = go (cases_lt j i)
  where
    go : (j < i) ⊎ (i ≤ j) → i ≤ j
    go (inl m) = absurd (omega (arith, behind_from_lnz k j l i m))
    go (inr m) = m
