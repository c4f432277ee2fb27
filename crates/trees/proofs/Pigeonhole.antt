-- Numbers that are sent, each to another place, need as many places.
use Rattle.std.proofs.Common.{◌≡◌, ℕ, zero, suc, ◌-◌, ◌<◌, ◌≤◌, cond, ltb, ◌⊎◌, sym, ◌∙◌, inl, inr, arith}
use Rattle.std.proofs.lemmas.Bool.{cases_lt, lt-ltb, le-ltb, cond-true, cond-false}

-- the places but for a, closed up
abbrev closed_up : ℕ → ℕ → ℕ
closed_up a b = cond (ltb a b) (b - 1) b

closed_up_parts : (a b : ℕ) → ((a < b) × (closed_up a b ≡ b - 1)) ⊎ ((b ≤ a) × (closed_up a b ≡ b))
closed_up_parts a b = go (cases_lt a b)
  where
    go : (a < b) ⊎ (b ≤ a) → ((a < b) × (closed_up a b ≡ b - 1)) ⊎ ((b ≤ a) × (closed_up a b ≡ b))
    go (inl l) = inl (l, cond-true (ltb a b) (b - 1) b (lt-ltb a b l))
    go (inr l) = inr (l, cond-false (ltb a b) (b - 1) b (le-ltb a b l))

pub pigeonhole : (m n : ℕ) (to : ℕ → ℕ) → ((i : ℕ) → i < m → to i < n) → ((i j : ℕ) → i < m → j < m → to i ≡ to j → i ≡ j) → m ≤ n
pigeonhole zero n to inside apart = omega arith
pigeonhole (suc m) zero to inside apart = absurd (omega (arith, inside 0 (omega arith)))
pigeonhole (suc m) (suc n) to inside apart =
    let fewer = pigeonhole m n (λ i. closed_up (to m) (to i)) (λ i l. below i l (closed_up_parts (to m) (to i))) (λ i j l k. others i j l k (closed_up_parts (to m) (to i)) (closed_up_parts (to m) (to j))) in
    omega arith
  where
    elsewhere : (i : ℕ) → i < m → to i ≡ to m → ⊥
    elsewhere i l e = omega (arith, apart i m (omega arith) (omega arith) e)

    below : (i : ℕ) → i < m → ((to m < to i) × (closed_up (to m) (to i) ≡ to i - 1)) ⊎ ((to i ≤ to m) × (closed_up (to m) (to i) ≡ to i)) → closed_up (to m) (to i) < n
    below i l (inl (a, e)) = rw e (omega (arith, inside i (omega arith)))
    below i l (inr (a, e)) = rw e (omega (arith, inside m (omega arith), elsewhere i l))

    others : (i j : ℕ) → i < m → j < m → ((to m < to i) × (closed_up (to m) (to i) ≡ to i - 1)) ⊎ ((to i ≤ to m) × (closed_up (to m) (to i) ≡ to i)) → ((to m < to j) × (closed_up (to m) (to j) ≡ to j - 1)) ⊎ ((to j ≤ to m) × (closed_up (to m) (to j) ≡ to j)) → closed_up (to m) (to i) ≡ closed_up (to m) (to j) → i ≡ j
    others i j l k (inl (a, e)) (inl (b, f)) same = let p = sym e ∙ same ∙ f in apart i j (omega arith) (omega arith) (omega arith)
    others i j l k (inl (a, e)) (inr (b, f)) same = let p = sym e ∙ same ∙ f in absurd (omega (arith, elsewhere j k))
    others i j l k (inr (a, e)) (inl (b, f)) same = let p = sym e ∙ same ∙ f in absurd (omega (arith, elsewhere i l))
    others i j l k (inr (a, e)) (inr (b, f)) same = apart i j (omega arith) (omega arith) (sym e ∙ same ∙ f)

-- the same where a place is known only for the numbers below m
pub pigeonhole_within : (m n : ℕ) (P : ℕ → ℕ → Type 0) → ((i : ℕ) → i < m → (j : ℕ) × (j < n) × P i j) → ((i h j : ℕ) → i < m → h < m → j < n → P i j → P h j → i ≡ h) → m ≤ n
pigeonhole_within m n P some apart = pigeonhole m n (λ i. to i (cases_lt i m)) inside others
  where
    to : (i : ℕ) → (i < m) ⊎ (m ≤ i) → ℕ
    to i (inl l) = (some i l).0
    to i (inr l) = 0

    sent : (i : ℕ) → i < m → (d : (i < m) ⊎ (m ≤ i)) → (to i d < n) × P i (to i d)
    sent i k (inl l) = ((some i l).1, (some i l).2)
    sent i k (inr l) = absurd (omega arith)

    inside : (i : ℕ) → i < m → to i (cases_lt i m) < n
    inside i l = (sent i l (cases_lt i m)).0

    others : (i h : ℕ) → i < m → h < m → to i (cases_lt i m) ≡ to h (cases_lt h m) → i ≡ h
    others i h l k e = apart i h (to h (cases_lt h m)) l k (inside h k) (rw e at (sent i l (cases_lt i m)).1) (sent h k (cases_lt h m)).1
