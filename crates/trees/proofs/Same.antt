-- A tree is known by its order and its cores.
use Rattle.std.proofs.Common.{◌≡◌, ℕ, ◌<◌, ◌⊎◌, ◌↔◌, List, [], map, length, get_or, Some, None, Option, sym, refl, ap, ◌∙◌, subst, inl, inr, lt_trans, lt_irrefl, arith, length-set}
use mathlib.Core.Logic.Iff
use lib.ListN.{length-map, get_or-map}
use Rattle.std.proofs.lemmas.Bool.{cases_order}
use Rattle.std.proofs.lemmas.List.{ext_get_or}
use Rattle.vertex_set.specs.Lists.{Among}
use Rattle.cores.specs.Cores.{Order, Vector, VectorFor}
use Rattle.trees.specs.Vectors.{raised, Before}
use Rattle.trees.specs.Trees.{Family, Node, Tree, TreeOf, no_node, node_at, child_at, places, last, Stands, ChildIs}
use Rattle.trees.proofs.Orders.{not_before_itself, before_apart, before_trans}
use Rattle.trees.proofs.Sorted.{Sorted, Within, same_sorted}

-- families that give the same cores to the vectors for an order
abbrev pub Agree : Order → Family → Family → Type 0
Agree o c d = (k : Vector) (v : ℕ) → VectorFor o k → c k v ↔ d k v

pub agree_sym : (o : Order) (c d : Family) → Agree o c d → Agree o d c
agree_sym o c d e k v f = Iff.symm (e k v f)

pub agree_trans : (o : Order) (c d e : Family) → Agree o c d → Agree o d e → Agree o c e
agree_trans o c d e f g k v h = Iff.trans (f k v h) (g k v h)

-- a raised vector has as many demands
pub raised_fits : (o : Order) (k : Vector) (i : ℕ) → VectorFor o k → VectorFor o (raised k i)
raised_fits o k i e = length-set k i _ ∙ e

-- families that agree have the same trees
pub tree_agrees : (c d : Family) (t : Tree) → Agree t.order c d → TreeOf c t → TreeOf d t
tree_agrees c d t e r = record {
  fits = r.fits;
  sorted = r.sorted;
  nonempty = λ p l. let q = r.nonempty p l in (q.0, (e (node_at t p).vector q.0 (r.fits p l)).0 q.1);
  complete = λ k v m q. r.complete k v m ((e k v m).1 q);
  slots = r.slots;
  child = r.child;
  ascending = r.ascending;
  stored = λ p v l. Iff.trans (r.stored p v l) (both (e (node_at t p).vector v (r.fits p l)) (e (raised (node_at t p).vector (last t.order)) v (raised_fits t.order (node_at t p).vector _ (r.fits p l))));
}
  where
    both : {A B C D : Type 0} → A ↔ C → B ↔ D → (A × (B → ⊥)) ↔ (C × (D → ⊥))
    both f g = (λ q. (f.0 q.0, λ z. q.1 (g.1 z)), λ q. (f.1 q.0, λ z. q.1 (g.0 z)))

-- a vector stands at one place
pub one_place : (c : Family) (t : Tree) → TreeOf c t → (k : Vector) (p q : ℕ) → Stands t k p → Stands t k q → p ≡ q
one_place c t r k p q a b = go (cases_order p q)
  where
    go : (p ≡ q) ⊎ ((p < q) ⊎ (q < p)) → p ≡ q
    go (inl e) = e
    go (inr (inl l)) = absurd (before_apart (r.sorted p q l b.0) (a.1 ∙ sym b.1))
    go (inr (inr l)) = absurd (before_apart (r.sorted q p l a.0) (b.1 ∙ sym a.1))

-- the vectors of a tree in their order
abbrev pub vectors : Tree → List Vector
vectors t = map (λ (n : Node). n.vector) t.nodes

pub vectors_at : (t : Tree) (p : ℕ) → get_or (vectors t) p [] ≡ (node_at t p).vector
vectors_at t p = get_or-map (λ (n : Node). n.vector) t.nodes p no_node

pub vectors_length : (t : Tree) → length (vectors t) ≡ places t
vectors_length t = length-map t.nodes (λ (n : Node). n.vector)

pub vectors_sorted : (c : Family) (t : Tree) → TreeOf c t → Sorted [] Before (vectors t)
vectors_sorted c t r i j l m =
    let n : j < places t = omega (arith, vectors_length t) in
    rw (vectors_at t i, vectors_at t j) (r.sorted i j l n)

vectors_within : (c : Family) (t u : Tree) → TreeOf c t → TreeOf c u → t.order ≡ u.order → Within [] (vectors t) (vectors u)
vectors_within c t u r s e i l =
    let m : i < places t = omega (arith, vectors_length t) in
    let some = r.nonempty i m in
    let there = s.complete (node_at t i).vector some.0 (r.fits i m ∙ ap length e) some.1 in
    (there.0, omega (arith, vectors_length u, there.1.0), vectors_at u there.0 ∙ there.1.1 ∙ sym (vectors_at t i))

module _ (c : Family) (t u : Tree) (r : TreeOf c t) (s : TreeOf c u) (e : t.order ≡ u.order) where
  same_vectors : vectors t ≡ vectors u
  same_vectors = same_sorted [] Before not_before_itself (λ a b c. before_trans) (vectors t) (vectors u) (vectors_sorted c t r) (vectors_sorted c u s) (vectors_within c t u r s e) (vectors_within c u t s r (sym e))

  same_places : places t ≡ places u
  same_places = sym (vectors_length t) ∙ ap length same_vectors ∙ vectors_length u

  same_vector : (p : ℕ) → (node_at t p).vector ≡ (node_at u p).vector
  same_vector p = sym (vectors_at t p) ∙ ap (λ (x : List Vector). get_or x p []) same_vectors ∙ vectors_at u p

  stands_there : (k : Vector) (p : ℕ) → Stands t k p → Stands u k p
  stands_there k p a = (rw (← same_places) a.0, sym (same_vector p) ∙ a.1)

  stands_here : (k : Vector) (p : ℕ) → Stands u k p → Stands t k p
  stands_here k p a = (rw same_places a.0, same_vector p ∙ a.1)

  same_child : (k : Vector) (i : ℕ) (x y : Option ℕ) → ChildIs t k i x → ChildIs u k i y → x ≡ y
  same_child k i None None a b = refl
  same_child k i None (Some q) a b = absurd (a b.0 q (stands_here (raised k i) q b.1))
  same_child k i (Some q) None a b = absurd (b a.0 q (stands_there (raised k i) q a.1))
  same_child k i (Some q) (Some p) a b = ap Some (one_place c t r (raised k i) q p a.1 (stands_here (raised k i) p b.1))

  same_slot : (p i : ℕ) → p < places t → i < length t.order → child_at t p i ≡ child_at u p i
  same_slot p i l m = same_child (node_at t p).vector i _ _ (r.child p i l m) (subst (λ (k : Vector). ChildIs u k i (child_at u p i)) (sym (same_vector p)) (s.child p i (omega (arith, same_places)) (omega (arith, ap length e))))

  same_children : (p : ℕ) → p < places t → (node_at t p).children ≡ (node_at u p).children
  same_children p l = ext_get_or None (node_at t p).children (node_at u p).children (r.slots p l ∙ ap length e ∙ sym (s.slots p (omega (arith, same_places)))) (λ i m. same_slot p i l (omega (arith, r.slots p l)))

  stored_there : (p v : ℕ) → p < places t → Among v (node_at t p).stored ↔ Among v (node_at u p).stored
  stored_there p v l =
      let m : p < places u = omega (arith, same_places) in
      let Stored = λ (o : Order) (k : Vector). c k v × (c (raised k (last o)) v → ⊥) in
      Iff.trans (r.stored p v l) (Iff.symm (subst (λ (o : Order). Among v (node_at u p).stored ↔ Stored o (node_at t p).vector) (sym e) (subst (λ (k : Vector). Among v (node_at u p).stored ↔ Stored u.order k) (sym (same_vector p)) (s.stored p v m))))

  same_stored : (p : ℕ) → p < places t → (node_at t p).stored ≡ (node_at u p).stored
  same_stored p l = same_sorted 0 ◌<◌ lt_irrefl (λ a b c. lt_trans) (node_at t p).stored (node_at u p).stored (r.ascending p l) (s.ascending p (omega (arith, same_places)))
      (λ i m. (stored_there p (get_or (node_at t p).stored i 0) l).0 (i, m, refl))
      (λ i m. (stored_there p (get_or (node_at u p).stored i 0) l).1 (i, m, refl))

  same_node : (p : ℕ) → p < places t → node_at t p ≡ node_at u p
  same_node p l = λ i. record { vector = same_vector p i; children = same_children p l i; stored = same_stored p l i }

  pub same_tree : t ≡ u
  same_tree = λ i. record { order = e i; nodes = ext_get_or no_node t.nodes u.nodes same_places same_node i }

pub same_trees : (c d : Family) (t u : Tree) → t.order ≡ u.order → Agree u.order c d → TreeOf c t → TreeOf d u → t ≡ u
same_trees c d t u e a r s = same_tree d t u (tree_agrees c d t (subst (λ (o : Order). Agree o c d) (sym e) a) r) s e
