-- A layer taken off leaves no more nodes and no more stored vertices.
use Rattle.std.proofs.Common.{◌≡◌, ℕ, zero, suc, ◌+◌, ◌<◌, ◌≤◌, ◌⊎◌, [], ◌∷◌, ◌++◌, length, get_or, sym, refl, ap, ◌∙◌, subst, inl, inr, le_of_suc-le-suc, not-suc-le-zero, add-one, arith}
use Rattle.std.specs.List.{insert, remove}
use Rattle.std.proofs.ByRecursion.{All-get_or}
use Rattle.std.proofs.lemmas.List.{length-append, get_or_at, set_at}
use Rattle.std.proofs.lemmas.Bool.{cases_lt}
use Rattle.cores.specs.Cores.{Vector, VectorFor}
use Rattle.trees.specs.Vectors.{raised}
use Rattle.trees.specs.Trees.{Tree, node_at, places, last}
use Rattle.trees.specs.Layers.{Recorded, without_layer, TakenOff, Coherent}
use Rattle.trees.specs.Room.{Stores, stored_count}
use Rattle.trees.proofs.Same.{one_place}
use Rattle.trees.proofs.Networks.{inserted_fits, one_less}
use Rattle.trees.proofs.Coherence.{skip, raised_inserted}
use Rattle.trees.proofs.Room.{Pair, held, held_length, held_apart, held_from, held_to}
use Rattle.trees.proofs.Made.{recorded_or_not, all_demands, recorded_bounded}
use Rattle.trees.proofs.Pigeonhole.{pigeonhole_within}

removed_inserted : (k : Vector) (i : ℕ) → i ≤ length k → remove (insert k i 0) i ≡ k
removed_inserted k zero l = refl
removed_inserted [] (suc i) l = absurd (not-suc-le-zero l)
removed_inserted (x ∷ k) (suc i) l = ap (λ (y : Vector). x ∷ y) (removed_inserted k i (le_of_suc-le-suc l))

skip_behind : (i j : ℕ) → i ≤ j → skip i j ≡ suc j
skip_behind zero j l = refl
skip_behind (suc i) zero l = absurd (not-suc-le-zero l)
skip_behind (suc i) (suc j) l = ap suc (skip_behind i j (le_of_suc-le-suc l))

-- k with a last demand a behind it
abbrev ending : Vector → ℕ → Vector
ending k a = k ++ a ∷ []

raised_ending : (k : Vector) (a n : ℕ) → length k ≡ n → raised (ending k a) n ≡ ending k (suc a)
raised_ending k a n e = set_at k a [] _ n e ∙ ap (ending k) (ap (λ (x : ℕ). x + 1) (get_or_at k a [] 0 n e) ∙ add-one a)

removed_ending : (k : Vector) (a n : ℕ) → length k ≡ n → remove (ending k a) n ≡ k
removed_ending [] a zero e = refl
removed_ending [] a (suc n) e = absurd (omega arith)
removed_ending (x ∷ k) a zero e = absurd (omega arith)
removed_ending (x ∷ k) a (suc n) e = ap (λ (y : Vector). x ∷ y) (removed_ending k a n (omega arith))

inserted_ending : (k : Vector) (n : ℕ) → length k ≡ n → insert k n 0 ≡ ending k 0
inserted_ending [] zero e = refl
inserted_ending [] (suc n) e = absurd (omega arith)
inserted_ending (x ∷ k) zero e = absurd (omega arith)
inserted_ending (x ∷ k) (suc n) e = ap (λ (y : Vector). x ∷ y) (inserted_ending k n (omega arith))

length_ending : (k : Vector) (a : ℕ) → length (ending k a) ≡ suc (length k)
length_ending k a = length-append k (a ∷ []) ∙ add-one (length k)

module _ (n : ℕ) (t : Tree) (w : Coherent n t) where
  -- no vector that is recorded ends in more than all demands together
  ending_bounded : (k : Vector) (a v : ℕ) → Recorded t (ending k a) v → a ≤ all_demands t
  ending_bounded k a v q = rw (get_or_at k a [] 0 (length k) refl) at (All-get_or (λ x. x ≤ all_demands t) (ending k a) (length k) 0 (omega (arith, length_ending k a)) (recorded_bounded t (ending k a) v q))

  -- the highest last demand with which v is still recorded
  highest : (fuel : ℕ) (k : Vector) (a v : ℕ) → suc (length k) ≡ length t.order → all_demands t < a + fuel → Recorded t (ending k a) v → (b : ℕ) × Stores t.order (Recorded t) (ending k b, v)
  highest zero k a v e f q = absurd (omega (arith, ending_bounded k a v q))
  highest (suc fuel) k a v e f q = go (recorded_or_not n t w (ending k (suc a)) v) (highest fuel k (suc a) v e (omega arith))
    where
      go : Recorded t (ending k (suc a)) v ⊎ (Recorded t (ending k (suc a)) v → ⊥) → (Recorded t (ending k (suc a)) v → (b : ℕ) × Stores t.order (Recorded t) (ending k b, v)) → (b : ℕ) × Stores t.order (Recorded t) (ending k b, v)
      go (inl more) further = further more
      go (inr none) further = (a, (q, λ y. none (subst (λ (j : Vector). Recorded t j v) (raised_ending k a (last t.order) (omega arith)) y)))

  module _ (x : ℕ) (u : Tree) (r : TakenOff x t u) where
    abbrev at : ℕ
    at = r.index

    long : (k : Vector) → VectorFor u.order k → suc (length k) ≡ length t.order
    long k e = one_less t.order at k r.shown (e ∙ ap length r.order)

    -- what u stores with k, t stores with a vector that is k without the layer
    lifted : (k : Vector) (v : ℕ) → VectorFor u.order k → Stores u.order (without_layer at t) (k, v) → (j : Vector) × VectorFor t.order j × Stores t.order (Recorded t) (j, v) × (remove j at ≡ k)
    lifted k v e (q, out) = go (cases_lt at (length k))
      where
        go : (at < length k) ⊎ (length k ≤ at) → (j : Vector) × VectorFor t.order j × Stores t.order (Recorded t) (j, v) × (remove j at ≡ k)
        go (inl l) =
            let behind : at ≤ last u.order = omega arith in
            let next : last t.order ≡ skip at (last u.order) = omega (arith, long k e, skip_behind at (last u.order) behind) in
            let one_higher : raised (insert k at 0) (last t.order) ≡ insert (raised k (last u.order)) at 0 = ap (raised (insert k at 0)) next ∙ raised_inserted k at (last u.order) (omega arith) in
            (insert k at 0, inserted_fits t.order at k r.shown (e ∙ ap length r.order), (q, λ y. out (subst (λ (j : Vector). Recorded t j v) one_higher y)), removed_inserted k at (omega arith))
        go (inr l) =
            let end : length k ≡ at = omega (arith, long k e, r.shown) in
            let top = highest (suc (all_demands t)) k 0 v (long k e) (omega arith) (subst (λ (j : Vector). Recorded t j v) (inserted_ending k at end) q) in
            (ending k top.0, length_ending k top.0 ∙ long k e, top.1, removed_ending k top.0 at end)

    -- the vector at q in t is that at p in u, with nothing demanded on the layer
    abbrev Keeps : ℕ → ℕ → Type 0
    Keeps p q = (node_at t q).vector ≡ insert (node_at u p).vector at 0

    keeps : (p : ℕ) → p < places u → (q : ℕ) × (q < places t) × Keeps p q
    keeps p l = let old = (r.tree.nonempty p l).1 in (old.0, old.1.0, old.1.1)

    keeps_apart : (p h q : ℕ) → p < places u → h < places u → q < places t → Keeps p q → Keeps h q → p ≡ h
    keeps_apart p h q l m n e f = one_place (without_layer at t) u r.tree (node_at u h).vector p h (l, sym (back p l) ∙ ap (λ (k : Vector). remove k at) (sym e ∙ f) ∙ back h m) (m, refl)
      where
        back : (p : ℕ) → p < places u → remove (insert (node_at u p).vector at 0) at ≡ (node_at u p).vector
        back p l = removed_inserted (node_at u p).vector at (omega (arith, long (node_at u p).vector (r.tree.fits p l), r.shown))

    pub no_more_nodes : places u ≤ places t
    no_more_nodes = pigeonhole_within (places u) (places t) Keeps keeps keeps_apart

    -- what t stores at j is what u stores at i, but for the layer
    abbrev Lifts : ℕ → ℕ → Type 0
    Lifts i j = ((get_or (held t) j ([], 0)).1 ≡ (get_or (held u) i ([], 0)).1) × (remove (get_or (held t) j ([], 0)).0 at ≡ (get_or (held u) i ([], 0)).0)

    lifts : (i : ℕ) → i < length (held u) → (j : ℕ) × (j < length (held t)) × Lifts i j
    lifts i l =
        let pair = get_or (held u) i ([], 0) in
        let stored = held_to (without_layer at t) u r.tree pair (i, l, refl) in
        let up = lifted pair.0 pair.1 stored.0 stored.1 in
        let place = held_from (Recorded t) t w.tree up.0 pair.1 up.1 up.2 in
        (place.0, place.1, (ap (λ (x : Pair). x.1) place.2, ap (λ (x : Pair). remove x.0 at) place.2 ∙ up.3))

    lifts_apart : (i h j : ℕ) → i < length (held u) → h < length (held u) → j < length (held t) → Lifts i j → Lifts h j → i ≡ h
    lifts_apart i h j l m n e f = held_apart (without_layer at t) u r.tree i h l m (λ z. ((sym e.1 ∙ f.1) z, (sym e.0 ∙ f.0) z))

    pub no_more_stored : stored_count u ≤ stored_count t
    no_more_stored = omega (arith, pigeonhole_within (length (held u)) (length (held t)) Lifts lifts lifts_apart, held_length u, held_length t)
