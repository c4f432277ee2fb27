-- The core computed: rounds of peeling, from all vertices, until nobody falls short.
use Rattle.std.proofs.Common.{◌≡◌, ℕ, zero, suc, ◌+◌, ◌<◌, ◌≤◌, Bool, true, false, cond, ◌&&◌, leb, ◌⊎◌, ◌↔◌, [], ◌∷◌, get_or, refl, ◌∙◌, inl, inr, suc-le-suc, zero-le, le_trans, le_of_suc-le-suc, not-suc-le-zero, arith}
use Rattle.std.proofs.lemmas.Bool.{ltb-true, leb-true, le-leb, cases_Bool, and_parts, and_from, both_ways}
use Rattle.vertex_set.specs.Sets.{Set, ◌∈◌, ◌⊆◌, below, without_vertex, count}
use Rattle.vertex_set.proofs.Counts.{count_le, count_without, count_zero}
use Rattle.vertex_set.proofs.Sets.{without_other}
use Rattle.network.specs.Networks.{Multilayer, Duties}
use Rattle.cores.specs.Cores.{Order, Vector, Strong, Meets, Core, InCore}
use Rattle.cores.proofs.Theory.{some_or_each}

-- whether v has within s the demanded strength in each layer
abbrev pub strong_test : Multilayer → Order → Vector → Set → ℕ → Bool
strong_test g [] k s v = true
strong_test g (l ∷ o) [] s v = true
strong_test g (l ∷ o) (x ∷ k) s v = leb x (g.strength l s v) && strong_test g o k s v

-- who is left after m rounds, each of which takes away all that fall short
abbrev pub round : Multilayer → Order → Vector → ℕ → Set
round g o k zero = below g.vertices
round g o k (suc m) = λ v. round g o k m v && strong_test g o k (round g o k m) v

-- who is left after as many rounds as there are vertices
abbrev pub core : Multilayer → Order → Vector → Set
core g o k = round g o k g.vertices

strong_from : (g : Multilayer) (o : Order) (k : Vector) (s : Set) (v : ℕ) → Strong g o k s v → strong_test g o k s v ≡ true
strong_from g [] k s v f = refl
strong_from g (l ∷ o) [] s v f = refl
strong_from g (l ∷ o) (x ∷ k) s v f = and_from _ _ (le-leb x (g.strength l s v) (f 0 (suc-le-suc zero-le))) (strong_from g o k s v (λ i m. f (suc i) (suc-le-suc m)))

strong_to : (g : Multilayer) (o : Order) (k : Vector) (s : Set) (v : ℕ) → strong_test g o k s v ≡ true → Strong g o k s v
strong_to g [] k s v e i l = absurd (not-suc-le-zero l)
strong_to g (x ∷ o) [] s v e i l = zero-le
strong_to g (x ∷ o) (y ∷ k) s v e zero l = leb-true y (g.strength x s v) (and_parts _ _ e).0
strong_to g (x ∷ o) (y ∷ k) s v e (suc i) l = strong_to g o k s v (and_parts _ _ e).1 i (le_of_suc-le-suc l)

-- of a larger set no fewer are counted
count_grows : (s t : Set) (n : ℕ) → s ⊆ t → count s n ≤ count t n
unfolding count
count_grows s t zero h = omega arith
count_grows s t (suc n) h = go (s n) (t n) (h n) (count_grows s t n h)
  where
    go : (a b : Bool) → (a ≡ true → b ≡ true) → count s n ≤ count t n → count s n + cond a 1 0 ≤ count t n + cond b 1 0
    go true b f l = rw (f refl) (omega arith)
    go false b f l = omega arith

-- and fewer where somebody is missing
count_less : (s t : Set) (v n : ℕ) → s ⊆ t → v < n → v ∈ t → s v ≡ false → count s n < count t n
count_less s t v n sub l here out = omega (arith, count_without t (without_vertex t v) v n here l (λ u. refl), count_grows s (without_vertex t v) n within)
  where
    within : s ⊆ without_vertex t v
    within u e = without_other t v u (λ f. both_ways (s v) out (rw f at e)) ∙ sub u e

module _ (highest : ℕ) (g : Multilayer) (d : Duties highest g) (o : Order) (k : Vector) where
  falls : (m : ℕ) → round g o k (suc m) ⊆ round g o k m
  falls m v e = (and_parts _ _ e).0

  inside : (m : ℕ) → round g o k m ⊆ below g.vertices
  inside zero v e = e
  inside (suc m) v e = inside m v (falls m v e)

  -- no round takes away a member of a group that meets the vector
  holds_all : (m : ℕ) (s : Set) → Meets g o k s → s ⊆ round g o k m
  holds_all zero s q v e = q.inside v e
  holds_all (suc m) s q v e = and_from _ _ (holds_all m s q v e) (strong_from g o k (round g o k m) v (λ i l. le_trans (q.strong v e i l) (d.monotone (get_or o i 0) s (round g o k m) v (holds_all m s q))))

  -- the next round takes nobody away
  abbrev Settled : ℕ → Type 0
  Settled m = round g o k m ⊆ round g o k (suc m)

  settled_next : (m : ℕ) → Settled m → Settled (suc m)
  settled_next m f v e = and_from _ _ e (strong_from g o k (round g o k (suc m)) v (λ i l. le_trans (strong_to g o k (round g o k m) v (and_parts _ _ e).1 i l) (d.monotone (get_or o i 0) (round g o k m) (round g o k (suc m)) v f)))

  settled_core : (m : ℕ) → Settled m → Core g o k (round g o k m)
  settled_core m f = record { meets = record { inside = inside m; strong = λ v e. strong_to g o k (round g o k m) v (and_parts _ _ (f v e)).1 }; largest = holds_all m }

  -- a round takes somebody away, or all are settled
  lost_or_settled : (m : ℕ) → ((v : ℕ) × (v < g.vertices) × ((v ∈ round g o k m) × (round g o k (suc m) v ≡ false))) ⊎ Settled m
  lost_or_settled m = go (some_or_each (λ v. (v ∈ round g o k m) × (round g o k (suc m) v ≡ false)) (λ v. v ∈ round g o k m → v ∈ round g o k (suc m)) (λ v. either v (cases_Bool (round g o k m v)) (cases_Bool (round g o k (suc m) v))) g.vertices)
    where
      either : (v : ℕ) → (round g o k m v ≡ true) ⊎ (round g o k m v ≡ false) → (round g o k (suc m) v ≡ true) ⊎ (round g o k (suc m) v ≡ false) → ((v ∈ round g o k m) × (round g o k (suc m) v ≡ false)) ⊎ (v ∈ round g o k m → v ∈ round g o k (suc m))
      either v a (inl b) = inr (λ _. b)
      either v (inl a) (inr b) = inl (a, b)
      either v (inr a) (inr b) = inr (λ e. absurd (both_ways _ a e))

      go : ((v : ℕ) × (v < g.vertices) × ((v ∈ round g o k m) × (round g o k (suc m) v ≡ false))) ⊎ ((v : ℕ) → v < g.vertices → v ∈ round g o k m → v ∈ round g o k (suc m)) → ((v : ℕ) × (v < g.vertices) × ((v ∈ round g o k m) × (round g o k (suc m) v ≡ false))) ⊎ Settled m
      go (inl x) = inl x
      go (inr f) = inr (λ v e. f v (ltb-true v g.vertices (inside m v e)) e)

  few_left : (m : ℕ) → Settled m ⊎ (count (round g o k m) g.vertices + m ≤ g.vertices)
  few_left zero = inr (omega (arith, count_le (below g.vertices) g.vertices))
  few_left (suc m) = go (few_left m) (lost_or_settled m)
    where
      go : Settled m ⊎ (count (round g o k m) g.vertices + m ≤ g.vertices) → ((v : ℕ) × (v < g.vertices) × ((v ∈ round g o k m) × (round g o k (suc m) v ≡ false))) ⊎ Settled m → Settled (suc m) ⊎ (count (round g o k (suc m)) g.vertices + suc m ≤ g.vertices)
      go a (inr f) = inl (settled_next m f)
      go (inl f) (inl x) = inl (settled_next m f)
      go (inr l) (inl (v, b, q)) = inr (omega (arith, count_less (round g o k (suc m)) (round g o k m) v g.vertices (falls m) b q.0 q.1))

  pub core_right : Core g o k (core g o k)
  core_right = go (few_left g.vertices)
    where
      go : Settled g.vertices ⊎ (count (core g o k) g.vertices + g.vertices ≤ g.vertices) → Core g o k (core g o k)
      go (inl f) = settled_core g.vertices f
      go (inr l) = settled_core g.vertices (λ v e. absurd (both_ways _ (count_zero (core g o k) g.vertices (omega arith) v (ltb-true v g.vertices (inside g.vertices v e))) e))

  pub in_core : (v : ℕ) → (v ∈ core g o k) ↔ InCore g o k v
  in_core v = (λ m. (core g o k, core_right.meets, m), λ q. core_right.largest q.0 q.1 v q.2)
