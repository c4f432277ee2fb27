-- A tree has as many nodes and stored vertices as its family gives.
use Rattle.std.proofs.Common.{◌≡◌, ℕ, ◌<◌, ◌⊎◌, List, [], ◌∷◌, map, length, get_or, sum_by, sym, refl, ◌∙◌, subst, inl, inr, lt_irrefl, arith}
use lib.ListN.{length-map}
use Rattle.std.specs.List.{flat_map}
use Rattle.std.proofs.ByRecursion.{All-from_get_or, All-map}
use Rattle.std.proofs.lemmas.List.{get_or-map}
use Rattle.std.proofs.lemmas.List.Sums.{sum_by-cons}
use Rattle.cores.specs.Cores.{Vector, VectorFor}
use Rattle.trees.specs.Vectors.{Before}
use Rattle.trees.specs.Trees.{Family, Node, Tree, TreeOf, no_node, node_at, places}
use Rattle.trees.specs.Walks.{Apart}
use Rattle.trees.specs.Room.{stored_count, MoreNodes, Stores, MoreStored, Counted}
use Rattle.trees.proofs.Orders.{not_before_itself}
use Rattle.trees.proofs.Sorted.{Element, Sorted}
use Rattle.trees.proofs.Rising.{Up, up_sorted, up_from_sorted, up_map, up_joined, all_of, sorted_apart}
use Rattle.trees.proofs.Joined.{element_joined, joined_length}
use Rattle.trees.proofs.Same.{vectors, vectors_at, vectors_length, vectors_sorted}
use Rattle.trees.proofs.Pigeonhole.{pigeonhole_within}

-- a vector and a vertex that is stored with it
abbrev pub Pair : Type 0
Pair = Vector × ℕ

-- what a node stores, each with the node's vector
abbrev pub held_at : Node → List Pair
held_at n = map (λ (v : ℕ). (n.vector, v)) n.stored

held_at_length : (n : Node) → length (held_at n) ≡ length n.stored
held_at_length n = length-map n.stored _

held_at_is : (n : Node) (i : ℕ) → i < length n.stored → get_or (held_at n) i ([], 0) ≡ (n.vector, get_or n.stored i 0)
held_at_is n i l = get_or-map (λ (v : ℕ). (n.vector, v)) n.stored i 0 ([], 0) l

-- all stored vertices, each with its vector
abbrev pub held : Tree → List Pair
held t = flat_map held_at t.nodes

sum_same : {A : Type 0} (f g : A → ℕ) → ((x : A) → f x ≡ g x) → (xs : List A) → sum_by f xs ≡ sum_by g xs
sum_same f g e [] = refl
sum_same f g e (x ∷ xs) = let here = e x in let rest = sum_same f g e xs in omega (arith, sum_by-cons f x xs, sum_by-cons g x xs)

pub held_length : (t : Tree) → length (held t) ≡ stored_count t
held_length t = joined_length held_at no_node ([], 0) t.nodes ∙ sum_same _ _ held_at_length t.nodes ∙ sym (joined_length (λ (n : Node). n.stored) no_node 0 t.nodes)

-- the order of the store
abbrev Sooner : Pair → Pair → Type 0
Sooner a b = Before a.0 b.0 ⊎ ((a.0 ≡ b.0) × (a.1 < b.1))

not_sooner_itself : (a : Pair) → Sooner a a → ⊥
not_sooner_itself a (inl b) = not_before_itself a.0 b
not_sooner_itself a (inr b) = lt_irrefl a.1 b.1

module _ (c : Family) (t : Tree) (r : TreeOf c t) where
  held_sorted : Sorted ([], 0) Sooner (held t)
  held_sorted = up_sorted Sooner ([], 0) (held t) (up_joined Sooner held_at t.nodes
      (All-from_get_or (λ n. Up Sooner (held_at n)) t.nodes no_node (λ p l. up_map Sooner (λ (v : ℕ). ((node_at t p).vector, v)) (node_at t p).stored (up_from_sorted _ 0 (node_at t p).stored (λ i j a b. inr (refl, r.ascending p l i j a b)))))
      (up_from_sorted _ no_node t.nodes (λ p q l m. All-map _ (λ (v : ℕ). ((node_at t p).vector, v)) (node_at t p).stored (all_of _ (node_at t p).stored (λ v. All-map _ (λ (u : ℕ). ((node_at t q).vector, u)) (node_at t q).stored (all_of _ (node_at t q).stored (λ u. inl (r.sorted p q l m))))))))

  pub held_apart : Apart ([], 0) (held t)
  held_apart = sorted_apart Sooner not_sooner_itself ([], 0) (held t) held_sorted

  -- what is stored stands with its vector
  pub held_from : (k : Vector) (v : ℕ) → VectorFor t.order k → Stores t.order c (k, v) → Element ([], 0) (k, v) (held t)
  held_from k v e q =
      let s = r.complete k v e q.0 in
      let p = s.0 in
      let a = (r.stored p v s.1.0).1 (rw s.1.1 q) in
      let here : get_or (held_at (node_at t p)) a.0 ([], 0) ≡ (k, v) = held_at_is (node_at t p) a.0 a.1 ∙ (λ i. (s.1.1 i, a.2 i)) in
      (element_joined held_at no_node ([], 0) (k, v) t.nodes).1 (p, s.1.0, (a.0, omega (arith, held_at_length (node_at t p), a.1), here))

  pub held_to : (x : Pair) → Element ([], 0) x (held t) → VectorFor t.order x.0 × Stores t.order c x
  held_to x a =
      let b = (element_joined held_at no_node ([], 0) x t.nodes).0 a in
      let p = b.0 in
      let j = b.2 in
      let inside : j.0 < length (node_at t p).stored = omega (arith, held_at_length (node_at t p), j.1) in
      let is : ((node_at t p).vector, get_or (node_at t p).stored j.0 0) ≡ x = sym (held_at_is (node_at t p) j.0 inside) ∙ j.2 in
      let q = (r.stored p (get_or (node_at t p).stored j.0 0) b.1).0 (j.0, inside, refl) in
      subst (λ (y : Pair). VectorFor t.order y.0 × Stores t.order c y) is (r.fits p b.1, q)

  nodes_over : (m : ℕ) → m < places t → MoreNodes t.order c m
  nodes_over m l = record {
    vectors = vectors t;
    more = omega (arith, vectors_length t);
    apart = sorted_apart Before not_before_itself [] (vectors t) (vectors_sorted c t r);
    fit = λ i a. rw (vectors_at t i) (r.fits i (omega (arith, vectors_length t)));
    nonempty = λ i a. rw (vectors_at t i) (r.nonempty i (omega (arith, vectors_length t)));
  }

  nodes_fit : (m : ℕ) → MoreNodes t.order c m → m < places t
  nodes_fit m w = omega (arith, w.more, pigeonhole_within (length w.vectors) (places t) (λ i p. (node_at t p).vector ≡ get_or w.vectors i []) stands (λ i h p a b l e f. w.apart i h a b (sym e ∙ f)))
    where
      stands : (i : ℕ) → i < length w.vectors → (p : ℕ) × (p < places t) × ((node_at t p).vector ≡ get_or w.vectors i [])
      stands i l =
          let some = w.nonempty i l in
          let place = r.complete (get_or w.vectors i []) some.0 (w.fit i l) some.1 in
          (place.0, place.1.0, place.1.1)

  stored_over : (m : ℕ) → m < stored_count t → MoreStored t.order c m
  stored_over m l = record {
    pairs = held t;
    more = omega (arith, held_length t);
    apart = held_apart;
    fit = λ i a. (held_to (get_or (held t) i ([], 0)) (i, a, refl)).0;
    stored = λ i a. (held_to (get_or (held t) i ([], 0)) (i, a, refl)).1;
  }

  stored_fit : (m : ℕ) → MoreStored t.order c m → m < stored_count t
  stored_fit m w = omega (arith, w.more, held_length t, pigeonhole_within (length w.pairs) (length (held t)) (λ i j. get_or (held t) j ([], 0) ≡ get_or w.pairs i ([], 0)) stands (λ i h j a b l e f. w.apart i h a b (sym e ∙ f)))
    where
      stands : (i : ℕ) → i < length w.pairs → Element ([], 0) (get_or w.pairs i ([], 0)) (held t)
      stands i l = held_from (get_or w.pairs i ([], 0)).0 (get_or w.pairs i ([], 0)).1 (w.fit i l) (w.stored i l)

  pub counted : Counted t.order c t
  counted = record { nodes = λ m. (nodes_over m, nodes_fit m); stored = λ m. (stored_over m, stored_fit m) }
