-- A layer in front and a layer less give one tree each.
use Rattle.std.proofs.Common.{◌≡◌, ℕ, zero, suc, ◌+◌, ◌<◌, ◌≤◌, Bool, true, false, ◌⊎◌, ◌↔◌, [], ◌∷◌, length, sum_by, sum, sym, refl, ap, ◌∙◌, subst, inl, inr, zero-le, arith}
use Rattle.std.specs.List.{insert, remove, AllByRecursion as All}
use Rattle.std.specs.Str.{bytes_eq}
use Rattle.std.proofs.ByRecursion.{All-from_get_or, All-weaker}
use Rattle.std.proofs.lemmas.Slice.Eq.{bytes_eq-Decides}
use Rattle.std.proofs.lemmas.List.Sums.{get_or-le-sum_by}
use Rattle.std.proofs.lemmas.Bool.{cases_Bool, both_ways, false≢true}
use Rattle.vertex_set.specs.Lists.{Among}
use Rattle.network.specs.Networks.{Multilayer, Duties}
use Rattle.cores.specs.Cores.{Order, Vector, VectorFor}
use Rattle.cores.proofs.Theory.{some_or_each}
use Rattle.trees.specs.Trees.{Family, Node, Tree, TreeOf, no_node, node_at, places}
use Rattle.trees.specs.Walks.{Along}
use Rattle.trees.specs.Layers.{Recorded, with_layer, PutInFront, without_layer, TakenOff, Coherent}
use Rattle.trees.proofs.Same.{one_place, same_tree}
use Rattle.trees.proofs.Lines.{among_or_not, lines}
use Rattle.trees.proofs.Rounds.{core, in_core}
use Rattle.trees.proofs.Grown.{grown, grown_right}
use Rattle.trees.proofs.Networks.{core_bounded}
use Rattle.trees.proofs.Coherence.{with_layer_inside}

-- a fact that is decided, as a test
abbrev tested : {A : Type 0} → A ⊎ (A → ⊥) → Bool
tested (inl a) = true
tested (inr a) = false

tested_right : {A : Type 0} (d : A ⊎ (A → ⊥)) → (tested d ≡ true) ↔ A
tested_right (inl a) = (λ e. a, λ b. refl)
tested_right (inr a) = (λ e. absurd (false≢true e), λ b. absurd (a b))

-- a family that is decided, on n vertices and demands of at most h, has a tree on each order
pub family_tree : (o : Order) (c : Family) → ((k : Vector) (v : ℕ) → c k v ⊎ (c k v → ⊥)) → (n h : ℕ) → ((k : Vector) (v : ℕ) → c k v → v < n) → ((k : Vector) (v : ℕ) → VectorFor o k → c k v → All (λ x. x ≤ h) k) → (t : Tree) × (t.order ≡ o) × TreeOf c t
family_tree o c decided n h inside bounded =
    let sets = λ (k : Vector) (v : ℕ). tested (decided k v) in
    (grown o sets n h, refl, grown_right o sets n h c (λ k v e. tested_right (decided k v)) (λ k v e. inside k v) bounded)

same_or_not : (j k : Vector) → (j ≡ k) ⊎ (j ≡ k → ⊥)
same_or_not j k = go (cases_Bool (bytes_eq j k))
  where
    go : (bytes_eq j k ≡ true) ⊎ (bytes_eq j k ≡ false) → (j ≡ k) ⊎ (j ≡ k → ⊥)
    go (inl e) = inl ((bytes_eq-Decides j k).0 e)
    go (inr e) = inr (λ f. both_ways (bytes_eq j k) e ((bytes_eq-Decides j k).1 f))

-- what a tree records is decided
module _ (n : ℕ) (t : Tree) (w : Coherent n t) where
  along_or_not : (p v : ℕ) → p < places t → Along t p v ⊎ (Along t p v → ⊥)
  along_or_not p v l = let line = ((lines (Recorded t) t w.tree w.some w.nested).lines p l).1 in go (line.stored v) (among_or_not v _)
    where
      go : {A : Type 0} → Along t p v ↔ A → A ⊎ (A → ⊥) → Along t p v ⊎ (Along t p v → ⊥)
      go s (inl a) = inl (s.1 a)
      go s (inr a) = inr (λ x. a (s.0 x))

  pub recorded_or_not : (k : Vector) (v : ℕ) → Recorded t k v ⊎ (Recorded t k v → ⊥)
  recorded_or_not k v = go (some_or_each (λ p. (node_at t p).vector ≡ k) (λ p. (node_at t p).vector ≡ k → ⊥) (λ p. same_or_not (node_at t p).vector k) (places t))
    where
      here : (p : ℕ) → p < places t → (node_at t p).vector ≡ k → Along t p v ⊎ (Along t p v → ⊥) → Recorded t k v ⊎ (Recorded t k v → ⊥)
      here p l e (inl a) = inl (p, (l, e), a)
      here p l e (inr a) = inr (λ q. a (subst (λ (x : ℕ). Along t x v) (one_place (Recorded t) t w.tree k q.0 p q.1 (l, e)) q.2))

      go : ((p : ℕ) × (p < places t) × ((node_at t p).vector ≡ k)) ⊎ ((p : ℕ) → p < places t → (node_at t p).vector ≡ k → ⊥) → Recorded t k v ⊎ (Recorded t k v → ⊥)
      go (inl (p, l, e)) = here p l e (along_or_not p v l)
      go (inr f) = inr (λ q. f q.0 q.1.0 q.1.1)

-- no demand of a tree's vectors is above all of them together
abbrev pub all_demands : Tree → ℕ
all_demands t = sum_by (λ (n : Node). sum n.vector) t.nodes

pub recorded_bounded : (t : Tree) (k : Vector) (v : ℕ) → Recorded t k v → All (λ x. x ≤ all_demands t) k
recorded_bounded t k v (p, (l, e), a) = subst (All (λ x. x ≤ all_demands t)) e (All-from_get_or (λ x. x ≤ all_demands t) (node_at t p).vector 0 (λ i m. omega (arith, get_or-le-sum_by (λ x. x) (node_at t p).vector i 0 m, get_or-le-sum_by (λ (n : Node). sum n.vector) t.nodes p no_node l)))

-- a layer in front
module _ (highest : ℕ) (g : Multilayer) (d : Duties highest g) (l : ℕ) (t : Tree) (w : Coherent g.vertices t) where
  with_layer_decided : (k : Vector) (v : ℕ) → with_layer g l t k v ⊎ (with_layer g l t k v → ⊥)
  with_layer_decided [] v = inr (λ x. x)
  with_layer_decided (zero ∷ k) v = recorded_or_not g.vertices t w k v
  with_layer_decided (suc j ∷ k) v = go (cases_Bool (core g (l ∷ t.order) (suc j ∷ k) v)) (in_core highest g d (l ∷ t.order) (suc j ∷ k) v)
    where
      go : {A : Type 0} {b : Bool} → (b ≡ true) ⊎ (b ≡ false) → (b ≡ true) ↔ A → A ⊎ (A → ⊥)
      go (inl e) s = inl (s.0 e)
      go (inr e) s = inr (λ a. both_ways _ e (s.1 a))

  with_layer_bounded : (k : Vector) (v : ℕ) → VectorFor (l ∷ t.order) k → with_layer g l t k v → All (λ x. x ≤ all_demands t + highest) k
  with_layer_bounded [] v e x = tt
  with_layer_bounded (zero ∷ k) v e x = (zero-le, All-weaker _ _ (λ y m. omega arith) k (recorded_bounded t k v x))
  with_layer_bounded (suc j ∷ k) v e x = All-weaker _ _ (λ y m. omega arith) (suc j ∷ k) (core_bounded highest g d (l ∷ t.order) (suc j ∷ k) v e x)

  pub in_front_exists : (u : Tree) × PutInFront g l t u
  in_front_exists = let made = family_tree (l ∷ t.order) (with_layer g l t) with_layer_decided g.vertices (all_demands t + highest) (with_layer_inside g l t w) with_layer_bounded in (made.0, record { order = made.1; tree = made.2 })

pub in_front_same : (g : Multilayer) (l : ℕ) (t u u' : Tree) → PutInFront g l t u → PutInFront g l t u' → u ≡ u'
in_front_same g l t u u' r s = same_tree (with_layer g l t) u u' r.tree s.tree (r.order ∙ sym s.order)

-- a layer less
all_but_inserted : (P : ℕ → Type 0) (k : Vector) (i : ℕ) → All P (insert k i 0) → All P k
all_but_inserted P k zero e = e.1
all_but_inserted P [] (suc i) e = tt
all_but_inserted P (x ∷ k) (suc i) e = (e.0, all_but_inserted P k i e.1)

module _ (n : ℕ) (t : Tree) (w : Coherent n t) where
  pub off_exists : (x : ℕ) → Among x t.order → 1 < length t.order → (u : Tree) × TakenOff x t u
  off_exists x (i, l, e) m =
      let made = family_tree (remove t.order i) (without_layer i t) (λ k v. recorded_or_not n t w (insert k i 0) v) n (all_demands t) (λ k v q. w.inside (insert k i 0) v q) (λ k v f q. all_but_inserted _ k i (recorded_bounded t (insert k i 0) v q)) in
      (made.0, record { index = i; shown = l; layer = e; others = m; order = made.1; tree = made.2 })

  pub off_same : (x : ℕ) (u u' : Tree) → TakenOff x t u → TakenOff x t u' → u ≡ u'
  off_same x u u' r s = same_tree (without_layer s.index t) u u' (subst (λ (i : ℕ). TreeOf (without_layer i t) u) same r.tree) s.tree (r.order ∙ ap (remove t.order) same ∙ sym s.order)
    where
      same : r.index ≡ s.index
      same = w.different r.index s.index r.shown s.shown (r.layer ∙ sym s.layer)
