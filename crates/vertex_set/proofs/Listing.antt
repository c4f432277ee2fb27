-- The members in ascending order.
use Rattle.std.proofs.Common.{◌≡◌, ℕ, zero, suc, ◌+◌, ◌-◌, ◌<◌, ◌≤◌, Bool, true, false, cond, ◌⊎◌, List, [], ◌∷◌, ◌++◌, length, filter, get_or, sym, refl, ap, ◌∙◌, subst, inl, inr, not-suc-le-zero, arith}
use Rattle.std.specs.List.{range_with_len}
use Rattle.std.proofs.lemmas.List.{length_push, get_or_push, get_or_append_left}
use Rattle.std.proofs.lemmas.Bool.{cases_lt, cases_eq, both_ways, lt-ltb, ltb-true, and_parts, and_from}
use Rattle.vertex_set.specs.Sets.{Set, ◌∈◌, Limited, ◌∩◌, below}
use Rattle.vertex_set.specs.Lists.{Among, Lists, NoneFrom, FirstFrom, listed}

module _ (s : Set) where
  -- the members among the n vertices from v on
  abbrev among : ℕ → ℕ → List ℕ
  among v n = filter s (range_with_len v n)

  -- v, if b, and then the members among the n vertices behind it
  abbrev begun : Bool → ℕ → ℕ → List ℕ
  begun b v n = cond b (v ∷ among (v + 1) n) (among (v + 1) n)

  -- what is listed is a member, and at least v
  stands : (v n i : ℕ) → i < length (among v n) → (v ≤ get_or (among v n) i 0) × (get_or (among v n) i 0 ∈ s)
  stands v zero i l = absurd (not-suc-le-zero l)
  stands v (suc n) i l = go (stands (v + 1) n) (s v) refl i l
    where
      go : ((i : ℕ) → i < length (among (v + 1) n) → (v + 1 ≤ get_or (among (v + 1) n) i 0) × (get_or (among (v + 1) n) i 0 ∈ s)) → (b : Bool) → s v ≡ b → (i : ℕ) → i < length (begun b v n) → (v ≤ get_or (begun b v n) i 0) × (get_or (begun b v n) i 0 ∈ s)
      go later true e zero m = (omega arith, e)
      go later true e (suc i) m = let r = later i (omega arith) in (omega (arith, r.0), r.1)
      go later false e i m = let r = later i m in (omega (arith, r.0), r.1)

  -- each is larger than those before it
  rises : (v n i j : ℕ) → i < j → j < length (among v n) → get_or (among v n) i 0 < get_or (among v n) j 0
  rises v zero i j l m = absurd (not-suc-le-zero m)
  rises v (suc n) i j l m = go (rises (v + 1) n) (s v) i j l m
    where
      go : ((i j : ℕ) → i < j → j < length (among (v + 1) n) → get_or (among (v + 1) n) i 0 < get_or (among (v + 1) n) j 0) → (b : Bool) (i j : ℕ) → i < j → j < length (begun b v n) → get_or (begun b v n) i 0 < get_or (begun b v n) j 0
      go later true i zero a b = absurd (not-suc-le-zero a)
      go later true zero (suc j) a b = omega (arith, stands (v + 1) n j (omega arith))
      go later true (suc i) (suc j) a b = later i j (omega arith) (omega arith)
      go later false i j a b = later i j a b

  -- each member is listed
  found : (v n u : ℕ) → v ≤ u → u < v + n → u ∈ s → Among u (among v n)
  found v zero u l m e = absurd (omega arith)
  found v (suc n) u l m e = go (s v) refl (cases_eq u v) (found (v + 1) n u)
    where
      go : (b : Bool) → s v ≡ b → (u ≡ v) ⊎ (u ≡ v → ⊥) → (v + 1 ≤ u → u < v + 1 + n → u ∈ s → Among u (among (v + 1) n)) → Among u (begun b v n)
      go true f (inl d) later = (0, omega arith, sym d)
      go true f (inr d) later = let a = later (omega arith) (omega arith) e in (suc a.0, omega (arith, a.1), a.2)
      go false f (inl d) later = absurd (both_ways (s v) f (subst (λ (x : ℕ). x ∈ s) d e))
      go false f (inr d) later = later (omega arith) (omega arith) e

  none_among : (v n : ℕ) → NoneFrom s v → among v n ≡ []
  none_among v zero none = refl
  none_among v (suc n) none = go (none_among (v + 1) n (λ u l. none u (omega arith))) (s v) refl
    where
      go : among (v + 1) n ≡ [] → (b : Bool) → s v ≡ b → begun b v n ≡ []
      go later true e = absurd (none v (omega arith) e)
      go later false e = later

  first_among : (v n u m : ℕ) → v + n ≡ u + 1 + m → FirstFrom s v u → among v n ≡ u ∷ among (u + 1) m
  first_among v zero u m e f = absurd (omega (arith, f.from))
  first_among v (suc n) u m e f = go (first_among (v + 1) n u m) (s v) refl (cases_eq u v)
    where
      go : (v + 1 + n ≡ u + 1 + m → FirstFrom s (v + 1) u → among (v + 1) n ≡ u ∷ among (u + 1) m) → (b : Bool) → s v ≡ b → (u ≡ v) ⊎ (u ≡ v → ⊥) → begun b v n ≡ u ∷ among (u + 1) m
      go later true d (inl h) = let long : n ≡ m = omega arith in rw (h, long)
      go later true d (inr h) = absurd (f.first v (omega arith) (omega (arith, f.from)) d)
      go later false d (inl h) = absurd (both_ways (s v) d (subst (λ (x : ℕ). x ∈ s) h f.here))
      go later false d (inr h) = later (omega arith) (record { from = omega (arith, f.from); here = f.here; first = λ w a b. f.first w (omega arith) b })

  -- where no member is at least v, none is listed from v on
  pub none_listed : (v : ℕ) → NoneFrom s v → listed s v ≡ []
  unfolding listed
  none_listed v none = none_among v (1024 - v) none

  -- the first member from v on is listed first, and then those after it
  pub first_listed : (v u : ℕ) → u < 1024 → FirstFrom s v u → listed s v ≡ u ∷ listed s (u + 1)
  unfolding listed
  first_listed v u l f = first_among v (1024 - v) u (1024 - (u + 1)) (omega (arith, f.from)) f

  -- from 0 on all members are listed
  pub all_listed : Limited s → Lists s (listed s 0)
  unfolding listed
  all_listed few = whole 1024 few
    where
      whole : (n : ℕ) → ((u : ℕ) → u ∈ s → below n u ≡ true) → Lists s (among 0 n)
      whole n inside = record {
        ascending = rises 0 n;
        exactly = λ u. (
          (λ m. found 0 n u (omega arith) (omega (arith, ltb-true u n (inside u m))) m),
          λ a. subst (λ (x : ℕ). x ∈ s) a.2 (stands 0 n a.0 a.1).1,
        );
      }

-- a list of the members below a, grown by the next member
pub lists_more : (s : Set) (a : ℕ) (xs : List ℕ) (v : ℕ) → Lists (s ∩ below a) xs → FirstFrom s a v → Lists (s ∩ below (v + 1)) (xs ++ v ∷ [])
lists_more s a xs v h f = record { ascending = λ i j l m. up i j l (cases_lt j (length xs)) (omega (arith, length_push xs v)); exactly = λ u. (there u, back u) }
  where
    old : (i : ℕ) → i < length xs → get_or (xs ++ v ∷ []) i 0 ≡ get_or xs i 0
    old i l = get_or_append_left xs (v ∷ []) 0 i l

    last : get_or (xs ++ v ∷ []) (length xs) 0 ≡ v
    last = get_or_push xs v 0 (length xs) refl

    small : (i : ℕ) → i < length xs → get_or xs i 0 < a
    small i l = ltb-true (get_or xs i 0) a (and_parts (s (get_or xs i 0)) (below a (get_or xs i 0)) ((h.exactly (get_or xs i 0)).1 (i, l, refl))).1

    up : (i j : ℕ) → i < j → (j < length xs) ⊎ (length xs ≤ j) → j < length xs + 1 → get_or (xs ++ v ∷ []) i 0 < get_or (xs ++ v ∷ []) j 0
    up i j l (inl m) n = rw (old i (omega arith), old j m) (h.ascending i j l m)
    up i j l (inr m) n = let e : j ≡ length xs = omega arith in rw (e, last, old i (omega arith)) (omega (arith, small i (omega arith), f.from))

    there : (u : ℕ) → u ∈ s ∩ below (v + 1) → Among u (xs ++ v ∷ [])
    there u m = go (cases_eq u v) (cases_lt u a)
      where
        go : (u ≡ v) ⊎ (u ≡ v → ⊥) → (u < a) ⊎ (a ≤ u) → Among u (xs ++ v ∷ [])
        go (inl e) d = (length xs, omega (arith, length_push xs v), last ∙ sym e)
        go (inr n) (inl l) = let q = (h.exactly u).0 (and_from _ _ (and_parts (s u) (below (v + 1) u) m).0 (lt-ltb u a l)) in (q.0, omega (arith, q.1, length_push xs v), old q.0 q.1 ∙ q.2)
        go (inr n) (inr l) = absurd (f.first u l (omega (arith, ltb-true u (v + 1) (and_parts (s u) (below (v + 1) u) m).1, n)) (and_parts (s u) (below (v + 1) u) m).0)

    back : (u : ℕ) → Among u (xs ++ v ∷ []) → u ∈ s ∩ below (v + 1)
    back u (i, l, e) = go (cases_lt i (length xs))
      where
        go : (i < length xs) ⊎ (length xs ≤ i) → u ∈ s ∩ below (v + 1)
        go (inl m) = let q = (h.exactly u).1 (i, m, sym (old i m) ∙ e) in and_from _ _ (and_parts (s u) (below a u) q).0 (lt-ltb u (v + 1) (omega (arith, ltb-true u a (and_parts (s u) (below a u) q).1, f.from)))
        go (inr m) =
            let at_end : i ≡ length xs = omega (arith, length_push xs v) in
            let same : v ≡ u = sym last ∙ ap (λ (x : ℕ). get_or (xs ++ v ∷ []) x 0) (sym at_end) ∙ e in
            and_from _ _ (subst (λ (x : ℕ). x ∈ s) same f.here) (lt-ltb u (v + 1) (omega arith))
