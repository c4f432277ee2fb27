-- Counting members.
use Rattle.std.proofs.Common.{◌≡◌, ℕ, zero, suc, ◌+◌, ◌<◌, ◌≤◌, min, Bool, true, false, cond, not, ◌&&◌, IsTrue, ltb, ◌⊎◌, ◌↔◌, sym, refl, ap, ◌∙◌, ap₂, inl, inr, not-suc-le-zero, add-zero, add-suc, arith}
use Rattle.std.proofs.lemmas.Bool.{ltb-true, lt-ltb, le-ltb, cases_lt, cases_eq, both_ways, and_from, and_left, and_right, not_from_true, not_from_false}
use Rattle.vertex_set.proofs.Sets.{without_here, without_other}
use Rattle.vertex_set.specs.Sets.{Set, ◌∈◌, ◌⊆◌, Same, Limited, ◌∖◌, none, below, without_vertex, count, size}

-- the count depends on the members below n alone
pub count_same : (s t : Set) (n : ℕ) → ((v : ℕ) → v < n → s v ≡ t v) → count s n ≡ count t n
unfolding count
count_same s t zero e = refl
count_same s t (suc n) e = ap₂ (λ (a : ℕ) (b : Bool). a + cond b 1 0) (count_same s t n (λ v l. e v (omega arith))) (e n (omega arith))

pub count_le : (s : Set) (n : ℕ) → count s n ≤ n
unfolding count
count_le s zero = omega arith
count_le s (suc n) = go (s n) (count_le s n)
  where
    go : (b : Bool) → count s n ≤ n → count s n + cond b 1 0 ≤ suc n
    go true l = omega arith
    go false l = omega arith

pub count_none : (n : ℕ) → count none n ≡ 0
unfolding count
count_none zero = refl
count_none (suc n) = omega (arith, count_none n)

pub count_below : (m n : ℕ) → count (below m) n ≡ min m n
unfolding count
count_below m zero = omega arith
count_below m (suc n) = go (cases_lt n m) (count_below m n)
  where
    go : (n < m) ⊎ (m ≤ n) → count (below m) n ≡ min m n → count (below m) n + cond (ltb n m) 1 0 ≡ min m (suc n)
    go (inl l) e = rw (lt-ltb n m l) (omega arith)
    go (inr l) e = rw (le-ltb n m l) (omega arith)

-- sets that differ at v alone
pub count_more : (s t : Set) (v n : ℕ) → s v ≡ false → t v ≡ true → ((u : ℕ) → (u ≡ v → ⊥) → s u ≡ t u) → v < n → count t n ≡ count s n + 1
unfolding count
count_more s t v zero a b e l = absurd (not-suc-le-zero l)
count_more s t v (suc n) a b e l = go (cases_eq v n) (count_more s t v n a b e)
  where
    go : (v ≡ n) ⊎ (v ≡ n → ⊥) → (v < n → count t n ≡ count s n + 1) → count t n + cond (t n) 1 0 ≡ (count s n + cond (s n) 1 0) + 1
    go (inl h) ih =
        let p : s n ≡ false = rw h at a in
        let q : t n ≡ true = rw h at b in
        let r : count s n ≡ count t n = count_same s t n (λ u m. e u (λ x. omega arith)) in
        rw (p, q) (omega arith)
    go (inr h) ih =
        let p : s n ≡ t n = e n (λ x. h (sym x)) in
        let r : count t n ≡ count s n + 1 = ih (omega arith) in
        rw p (omega arith)

-- a set without one of its members has one less
pub count_without : (s t : Set) (v n : ℕ) → v ∈ s → v < n → Same t (without_vertex s v) → count s n ≡ count t n + 1
count_without s t v n e l same = count_more t s v n (same v ∙ without_here s v) e (λ u d. same u ∙ without_other s v u d) l

-- the vertices below m + n are those below m and the n that follow
pub count_split : (s : Set) (m n : ℕ) → count s (m + n) ≡ count s m + count (λ v. s (m + v)) n
unfolding count
count_split s m zero = ap (count s) (add-zero m) ∙ sym (add-zero (count s m))
count_split s m (suc n) = rw add-suc (omega (arith, count_split s m n))

-- nobody is counted where nobody is a member
pub count_zero : (s : Set) (n : ℕ) → count s n ≡ 0 → (v : ℕ) → v < n → s v ≡ false
unfolding count
count_zero s zero e v l = absurd (not-suc-le-zero l)
count_zero s (suc n) e v l = go (s n) refl (cases_eq v n) (count_zero s n)
  where
    go : (b : Bool) → s n ≡ b → (v ≡ n) ⊎ (v ≡ n → ⊥) → (count s n ≡ 0 → (u : ℕ) → u < n → s u ≡ false) → s v ≡ false
    go true p d ih = absurd (omega (arith, simp p at e))
    go false p (inl d) ih = rw d p
    go false p (inr d) ih = ih (omega (arith, simp p at e)) v (omega arith)

-- s lies in t just if nobody is in s and not in t
pub subset_tested : (s t d : Set) (r : Bool) → Limited s → Same d (s ∖ t) → IsTrue r ↔ (size d ≡ 0) → IsTrue r ↔ (s ⊆ t)
subset_tested s t d r few same e = (λ yes. inside (e.0 yes), λ sub. e.1 (count_same d none 1024 (λ v l. same v ∙ out sub v) ∙ count_none 1024))
  where
    inside : size d ≡ 0 → s ⊆ t
    inside nobody v m = go (t v) refl
      where
        go : (b : Bool) → t v ≡ b → t v ≡ true
        go true p = p
        go false p = absurd (both_ways (d v) (count_zero d 1024 nobody v (ltb-true v 1024 (few v m))) (same v ∙ and_from _ _ m (not_from_false _ p)))

    out : s ⊆ t → (v : ℕ) → (s v && not (t v)) ≡ false
    out sub v = go (s v) refl
      where
        go : (b : Bool) → s v ≡ b → (s v && not (t v)) ≡ false
        go true p = and_right _ _ (not_from_true _ (sub v p))
        go false p = and_left _ _ p
