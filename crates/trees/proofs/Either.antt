-- Two layers taken off, in either order.
use Rattle.std.proofs.Common.{◌≡◌, ℕ, zero, suc, ◌<◌, ◌≤◌, ◌⊎◌, ◌↔◌, [], ◌∷◌, length, get_or, sym, refl, ap, ◌∙◌, subst, inl, inr, le_of_suc-le-suc, not-suc-le-zero, arith}
use mathlib.Core.Logic.Iff
use Rattle.std.specs.List.{insert, remove}
use Rattle.std.proofs.lemmas.List.Edits.{length-remove}
use Rattle.cores.specs.Cores.{Order, Vector, VectorFor}
use Rattle.trees.specs.Trees.{Tree}
use Rattle.trees.specs.Layers.{Recorded, without_layer, TakenOff, Coherent}
use Rattle.trees.proofs.Same.{Agree, same_trees}
use Rattle.trees.proofs.Lines.{recorded}
use Rattle.trees.proofs.Networks.{inserted_fits, one_less}
use Rattle.trees.proofs.Parents.{Nested}
use Rattle.trees.proofs.Coherence.{skip, removed_at, skip_inside, without_layer_nested, off_coherent}

-- two zeros put in, the one further on first or last
inserted_twice : (k : Vector) (i m : ℕ) → i ≤ m → m ≤ length k → insert (insert k m 0) i 0 ≡ insert (insert k i 0) (suc m) 0
inserted_twice k zero m l n = refl
inserted_twice k (suc i) zero l n = absurd (not-suc-le-zero l)
inserted_twice [] (suc i) (suc m) l n = absurd (not-suc-le-zero n)
inserted_twice (x ∷ k) (suc i) (suc m) l n = ap (λ (y : Vector). x ∷ y) (inserted_twice k i m (le_of_suc-le-suc l) (le_of_suc-le-suc n))

-- two elements taken out, the one further on last or first
removed_twice : (o : Order) (i m : ℕ) → i ≤ m → suc m < length o → remove (remove o i) m ≡ remove (remove o (suc m)) i
removed_twice [] i m l n = absurd (not-suc-le-zero n)
removed_twice (x ∷ o) zero m l n = refl
removed_twice (x ∷ o) (suc i) zero l n = absurd (not-suc-le-zero l)
removed_twice (x ∷ o) (suc i) (suc m) l n = ap (λ (y : Order). x ∷ y) (removed_twice o i m (le_of_suc-le-suc l) (le_of_suc-le-suc n))

-- what stands at i of a list, and at j without that, stands at i', and at j' without that: these are the two ways
record Ways (i j i' j' : ℕ) : Type 0 where
  second : i' ≡ skip i j
  first : i ≡ skip i' j'

-- the one further on is a place nearer once the other is gone
ways_are : (i j i' j' : ℕ) → Ways i j i' j' → ((i ≤ j) × (i' ≡ suc j) × (j' ≡ i)) ⊎ ((i' ≤ j') × (i ≡ suc j') × (j ≡ i'))
ways_are zero j zero j' w = absurd (omega (arith, w.second))
ways_are zero j (suc i') zero w = inl (omega arith, w.second, refl)
ways_are zero j (suc i') (suc j') w = absurd (omega (arith, w.first))
ways_are (suc i) zero zero j' w = inr (omega arith, w.first, refl)
ways_are (suc i) zero (suc i') j' w = absurd (omega (arith, w.second))
ways_are (suc i) (suc j) zero j' w = absurd (omega (arith, w.second))
ways_are (suc i) (suc j) (suc i') zero w = absurd (omega (arith, w.first))
ways_are (suc i) (suc j) (suc i') (suc j') w = go (ways_are i j i' j' (record { second = omega (arith, w.second); first = omega (arith, w.first) }))
  where
    go : ((i ≤ j) × (i' ≡ suc j) × (j' ≡ i)) ⊎ ((i' ≤ j') × (i ≡ suc j') × (j ≡ i')) → ((suc i ≤ suc j) × (suc i' ≡ suc (suc j)) × (suc j' ≡ suc i)) ⊎ ((suc i' ≤ suc j') × (suc i ≡ suc (suc j')) × (suc j ≡ suc i'))
    go (inl (a, b, c)) = inl (omega arith, omega arith, omega arith)
    go (inr (a, b, c)) = inr (omega arith, omega arith, omega arith)

-- both ways put zeros in, and take elements out, at the same places
same_zeros : (k : Vector) (i j i' j' : ℕ) → Ways i j i' j' → j ≤ length k → j' ≤ length k → insert (insert k j 0) i 0 ≡ insert (insert k j' 0) i' 0
same_zeros k i j i' j' w l m = go (ways_are i j i' j' w)
  where
    go : ((i ≤ j) × (i' ≡ suc j) × (j' ≡ i)) ⊎ ((i' ≤ j') × (i ≡ suc j') × (j ≡ i')) → insert (insert k j 0) i 0 ≡ insert (insert k j' 0) i' 0
    go (inl (a, b, c)) = rw (b, c) (inserted_twice k i j a l)
    go (inr (a, b, c)) = rw (b, c) (sym (inserted_twice k i' j' a m))

same_left : (o : Order) (i j i' j' : ℕ) → Ways i j i' j' → i < length o → i' < length o → remove (remove o i) j ≡ remove (remove o i') j'
same_left o i j i' j' w l m = go (ways_are i j i' j' w)
  where
    go : ((i ≤ j) × (i' ≡ suc j) × (j' ≡ i)) ⊎ ((i' ≤ j') × (i ≡ suc j') × (j ≡ i')) → remove (remove o i) j ≡ remove (remove o i') j'
    go (inl (a, b, c)) = rw (b, c) (removed_twice o i j a (rw b at m))
    go (inr (a, b, c)) = rw (b, c) (sym (removed_twice o i' j' a (rw b at l)))

module _ (n : ℕ) (t : Tree) (w : Coherent n t) where
  -- what is left after one layer, by what t records
  left : (x : ℕ) (u : Tree) (r : TakenOff x t u) → Agree u.order (Recorded u) (without_layer r.index t)
  left x u r = recorded (without_layer r.index t) u r.tree (off_coherent n t w x u r).some (subst (λ (o : Order). Nested o (without_layer r.index t)) (sym r.order) (without_layer_nested n t w r.index r.shown))

  -- where a layer that is taken off second stands
  stands_at : (x y : ℕ) (u v u' : Tree) (r : TakenOff x t u) (s : TakenOff y u v) (r' : TakenOff y t u') → r'.index ≡ skip r.index s.index
  stands_at x y u v u' r s r' =
      let inside : s.index < length (remove t.order r.index) = subst (λ (o : Order). s.index < length o) r.order s.shown in
      let place : skip r.index s.index < length t.order = skip_inside r.index s.index (length t.order) r.shown (omega (arith, length-remove t.order r.index r.shown)) in
      w.different r'.index (skip r.index s.index) r'.shown place (r'.layer ∙ sym s.layer ∙ ap (λ (o : Order). get_or o s.index 0) r.order ∙ removed_at t.order r.index s.index r.shown)

  pub either_way : (x y : ℕ) (u v u' v' : Tree) → TakenOff x t u → TakenOff y u v → TakenOff y t u' → TakenOff x u' v' → v ≡ v'
  either_way x y u v u' v' r s r' s' = same_trees (without_layer s.index u) (without_layer s'.index u') v v' same_order agree s.tree s'.tree
    where
      ways : Ways r.index s.index r'.index s'.index
      ways = record { second = stands_at x y u v u' r s r'; first = stands_at y x u' v' u r' s' r }

      same_order : v.order ≡ v'.order
      same_order = s.order ∙ ap (λ (o : Order). remove o s.index) r.order ∙ same_left t.order r.index s.index r'.index s'.index ways r.shown r'.shown ∙ ap (λ (o : Order). remove o s'.index) (sym r'.order) ∙ sym s'.order

      -- a vector for what is left, through either tree
      through : (x y : ℕ) (u v : Tree) (r : TakenOff x t u) (s : TakenOff y u v) (k : Vector) → VectorFor v.order k → (VectorFor u.order (insert k s.index 0)) × (s.index ≤ length k)
      through x y u v r s k e =
          let fits : VectorFor (remove u.order s.index) k = e ∙ ap length s.order in
          (inserted_fits u.order s.index k s.shown fits, omega (arith, one_less u.order s.index k s.shown fits, s.shown))

      agree : Agree v'.order (without_layer s.index u) (without_layer s'.index u')
      agree k z e =
          let here = through x y u v r s k (e ∙ ap length (sym same_order)) in
          let there = through y x u' v' r' s' k e in
          Iff.trans (left x u r (insert k s.index 0) z here.0)
          (subst (λ (j : Vector). Recorded t j z ↔ Recorded u' (insert k s'.index 0) z) (sym (same_zeros k r.index s.index r'.index s'.index ways here.1 there.1)) (Iff.symm (left y u' r' (insert k s'.index 0) z there.0)))
