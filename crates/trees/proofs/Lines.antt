-- Lines: what is stored along one is the core, and stands side by side.
use Rattle.std.proofs.Common.{◌≡◌, ℕ, zero, suc, ◌+◌, ◌<◌, ◌≤◌, ◌⊎◌, ◌↔◌, List, [], ◌∷◌, ◌++◌, length, Some, None, Option, sym, refl, ◌∙◌, subst, inl, inr, suc-le-suc, zero-le, le_of_suc-le-suc, not-suc-le-zero, lt_irrefl, arith}
use Rattle.std.specs.List.{between}
use Rattle.std.proofs.lemmas.List.Edits.{between_none}
use Rattle.std.proofs.lemmas.List.{append-nil}
use Rattle.std.proofs.lemmas.Bool.{cases_lt, cases_eq}
use Rattle.vertex_set.specs.Lists.{Among}
use Rattle.cores.specs.Cores.{Vector, VectorFor}
use Rattle.trees.specs.Vectors.{raised}
use Rattle.trees.specs.Trees.{Family, Node, Tree, TreeOf, no_node, node_at, places, last, last_child, ChildIs}
use Rattle.trees.specs.Walks.{OnLine, Along, store, begins, Apart, Split, LineTo, Lines}
use Rattle.trees.specs.Walks.OnLine.{start, next}
use Rattle.trees.specs.Layers.{Recorded}
use Rattle.trees.proofs.Same.{Agree, raised_fits}
use Rattle.trees.proofs.Rising.{sorted_apart}
use Rattle.trees.proofs.Joined.{apart_append, element_between, between_first}
use Rattle.trees.proofs.Parents.{Nested, some_same, none_apart, nothing_past, last_from_lnz, child_means, child_behind, last_next}

pub among_or_not : (v : ℕ) (xs : List ℕ) → Among v xs ⊎ (Among v xs → ⊥)
among_or_not v [] = inr (λ a. not-suc-le-zero a.1)
among_or_not v (x ∷ xs) = go (cases_eq x v) (among_or_not v xs)
  where
    neither : (x ≡ v → ⊥) → (Among v xs → ⊥) → Among v (x ∷ xs) → ⊥
    neither a b (zero, l, e) = a e
    neither a b (suc i, l, e) = b (i, le_of_suc-le-suc l, e)

    go : (x ≡ v) ⊎ (x ≡ v → ⊥) → Among v xs ⊎ (Among v xs → ⊥) → Among v (x ∷ xs) ⊎ (Among v (x ∷ xs) → ⊥)
    go (inl e) b = inl (0, suc-le-suc zero-le, e)
    go (inr n) (inl a) = inl (suc a.0, suc-le-suc a.1, a.2)
    go (inr n) (inr a) = inr (neither n a)

-- where something is stored, there is a node
pub stored_inside : (t : Tree) (p v : ℕ) → Among v (node_at t p).stored → p < places t
stored_inside t p v a = go (cases_lt p (places t))
  where
    go : (p < places t) ⊎ (places t ≤ p) → p < places t
    go (inl l) = l
    go (inr l) = absurd (not-suc-le-zero (rw (nothing_past t p l) at a.1))

-- a line ends where it begins, or goes on
pub line_parts : {t : Tree} {p q : ℕ} → OnLine t p q → (p ≡ q) ⊎ ((r : ℕ) × (last_child t p ≡ Some r) × OnLine t r q)
line_parts start = inl refl
line_parts (next {q = r} e m) = inr (r, e, m)

module _ (c : Family) (t : Tree) (r : TreeOf c t) (some : 1 ≤ length t.order) (nested : Nested t.order c) where
  falls : (k : Vector) (v : ℕ) → VectorFor t.order k → c (raised k (last t.order)) v → c k v
  falls k v e = nested k (last t.order) v e (omega arith) (last_from_lnz t.order k some e)

  -- what is stored on a line is in the core where it begins
  line_core : {p q : ℕ} → OnLine t p q → (v : ℕ) → Among v (node_at t q).stored → c (node_at t p).vector v
  line_core (start {p}) v a = ((r.stored p v (stored_inside t p v a)).0 a).0
  line_core (next {p} {q} e m) v a =
      let child = child_means c t r p q (last t.order) e in
      falls (node_at t p).vector v (r.fits p child.0) (subst (λ (k : Vector). c k v) child.3.1 (line_core m v a))

  -- a vertex of the core that is not stored is in the core of the child at the last position
  handed_on : (p v : ℕ) → p < places t → (Among v (node_at t p).stored → ⊥) → ((c (node_at t p).vector v → ⊥) → ⊥) → (c (raised (node_at t p).vector (last t.order)) v → ⊥) → ⊥
  handed_on p v l a z w = z (λ y. a ((r.stored p v l).1 (y, w)))

  -- with no such child all of the core is stored
  none_missing : (p v : ℕ) → p < places t → last_child t p ≡ None → c (raised (node_at t p).vector (last t.order)) v → ⊥
  none_missing p v l e x =
      let s = r.complete (raised (node_at t p).vector (last t.order)) v (raised_fits t.order (node_at t p).vector _ (r.fits p l)) x in
      subst (λ (y : Option ℕ). ChildIs t (node_at t p).vector (last t.order) y) e (r.child p (last t.order) l (omega arith)) (last_from_lnz t.order (node_at t p).vector some (r.fits p l)) s.0 s.1

  -- what is in the core, or only cannot be out of it, is stored on the line
  core_line : (n p v : ℕ) → places t ≤ p + n → p < places t → ((c (node_at t p).vector v → ⊥) → ⊥) → Along t p v
  core_line zero p v f l z = absurd (omega arith)
  core_line (suc n) p v f l z = go (λ q. core_line n q v) (among_or_not v (node_at t p).stored)
    where
      onward : ((q : ℕ) → places t ≤ q + n → q < places t → ((c (node_at t q).vector v → ⊥) → ⊥) → Along t q v) → (Among v (node_at t p).stored → ⊥) → (x : Option ℕ) → last_child t p ≡ x → Along t p v
      onward rest a None e = absurd (handed_on p v l a z (none_missing p v l e))
      onward rest a (Some q) e =
          let child = child_means c t r p q (last t.order) e in
          let further = rest q (omega (arith, child_behind c t r p q (last t.order) e)) child.3.0 (λ out. handed_on p v l a z (λ w. out (subst (λ (k : Vector). c k v) (sym child.3.1) w))) in
          (further.0, next e further.1, further.2)

      go : ((q : ℕ) → places t ≤ q + n → q < places t → ((c (node_at t q).vector v → ⊥) → ⊥) → Along t q v) → Among v (node_at t p).stored ⊎ (Among v (node_at t p).stored → ⊥) → Along t p v
      go rest (inl a) = (p, start, a)
      go rest (inr a) = onward rest a (last_child t p) refl

  pub along : (p v : ℕ) → p < places t → Along t p v ↔ c (node_at t p).vector v
  along p v l = (λ a. line_core a.1 v a.2, λ m. core_line (places t) p v (omega arith) l (λ out. out m))

  -- the tree records the cores of its family
  pub recorded : Agree t.order (Recorded t) c
  recorded k v e = (
    λ m. subst (λ (x : Vector). c x v) m.1.1 (line_core m.2.1 v m.2.2),
    λ m. let s = r.complete k v e m in (s.0, s.1, (along s.0 v s.1.0).1 (subst (λ (x : Vector). c x v) (sym s.1.1) m)),
  )

  pub split : Split c t
  split = record { together = λ p v l. (λ m. to p v l ((along p v l).1 m), back p v l); apart = apart }
    where
      to : (p v : ℕ) → p < places t → Along t p v → Among v (node_at t p).stored ⊎ ((q : ℕ) × (last_child t p ≡ Some q) × c (node_at t q).vector v)
      to p v l (q, m, a) = go (line_parts m)
        where
          go : (p ≡ q) ⊎ ((r : ℕ) × (last_child t p ≡ Some r) × OnLine t r q) → Among v (node_at t p).stored ⊎ ((q : ℕ) × (last_child t p ≡ Some q) × c (node_at t q).vector v)
          go (inl e) = inl (rw e a)
          go (inr (u, e, n)) = inr (u, e, line_core n v a)

      back : (p v : ℕ) → p < places t → Among v (node_at t p).stored ⊎ ((q : ℕ) × (last_child t p ≡ Some q) × c (node_at t q).vector v) → c (node_at t p).vector v
      back p v l (inl a) = ((r.stored p v l).0 a).0
      back p v l (inr (q, e, m)) = falls (node_at t p).vector v (r.fits p l) (subst (λ (k : Vector). c k v) (child_means c t r p q (last t.order) e).3.1 m)

      apart : (p q v : ℕ) → last_child t p ≡ Some q → Among v (node_at t p).stored → c (node_at t q).vector v → ⊥
      apart p q v e a m = ((r.stored p v (stored_inside t p v a)).0 a).1 (subst (λ (k : Vector). c k v) (child_means c t r p q (last t.order) e).3.1 m)

  -- how far a line goes, and that it stores nobody twice
  record Reaches (p e : ℕ) : Type 0 where
    some_places : p < e
    inside : e ≤ places t
    line : (q : ℕ) → OnLine t p q ↔ ((p ≤ q) × (q < e))
    next_place : (q : ℕ) → p ≤ q → suc q < e → last_child t q ≡ Some (suc q)
    end : (q : ℕ) → suc q ≡ e → last_child t q ≡ None
    once : Apart 0 (between (begins t p) (begins t e) (store t))

  -- what is stored at the places from p up to e
  stretch : (p e v : ℕ) → p ≤ e → e ≤ places t → Among v (between (begins t p) (begins t e) (store t)) ↔ ((i : ℕ) × (p ≤ i) × (i < e) × Among v (node_at t i).stored)
  stretch p e v l m = element_between (λ (n : Node). n.stored) no_node 0 v t.nodes p e l m

  stretch_first : (p e : ℕ) → p < e → e ≤ places t → between (begins t p) (begins t e) (store t) ≡ (node_at t p).stored ++ between (begins t (suc p)) (begins t e) (store t)
  stretch_first p e l m = between_first (λ (n : Node). n.stored) no_node 0 t.nodes p e l m

  stored_apart : (p : ℕ) → p < places t → Apart 0 (node_at t p).stored
  stored_apart p l = sorted_apart ◌<◌ lt_irrefl 0 (node_at t p).stored (r.ascending p l)

  reaches_here : (p : ℕ) → p < places t → last_child t p ≡ None → Reaches p (suc p)
  reaches_here p l none = record {
    some_places = omega arith;
    inside = l;
    line = λ q. (λ m. only q (line_parts m), λ m. let e : p ≡ q = omega arith in subst (λ (x : ℕ). OnLine t p x) e start);
    next_place = λ q a b. absurd (omega arith);
    end = λ q e. let same : q ≡ p = omega arith in rw same none;
    once = rw (stretch_first p (suc p) (omega arith) l, between_none (store t) (begins t (suc p)), append-nil (node_at t p).stored) (stored_apart p l);
  }
    where
      only : (q : ℕ) → (p ≡ q) ⊎ ((u : ℕ) × (last_child t p ≡ Some u) × OnLine t u q) → (p ≤ q) × (q < suc p)
      only q (inl e) = (omega arith, omega arith)
      only q (inr (u, e, m)) = absurd (none_apart (sym none ∙ e))

  reaches_on : (p e : ℕ) → last_child t p ≡ Some (suc p) → Reaches (suc p) e → Reaches p e
  reaches_on p e child further = record {
    some_places = omega (arith, further.some_places);
    inside = further.inside;
    line = λ q. (λ m. to q (line_parts m), λ m. back q m (cases_eq p q));
    next_place = λ q a b. on q a b (cases_eq p q);
    end = further.end;
    once = rw (stretch_first p e (omega (arith, further.some_places)) further.inside) (apart_append 0 (node_at t p).stored (between (begins t (suc p)) (begins t e) (store t)) (stored_apart p (omega (arith, further.some_places, further.inside))) further.once not_again);
  }
    where
      to : (q : ℕ) → (p ≡ q) ⊎ ((u : ℕ) × (last_child t p ≡ Some u) × OnLine t u q) → (p ≤ q) × (q < e)
      to q (inl f) = (omega arith, omega (arith, further.some_places))
      to q (inr (u, f, m)) = let there = (further.line q).0 (subst (λ (x : ℕ). OnLine t x q) (some_same (sym f ∙ child)) m) in (omega (arith, there.0), there.1)

      back : (q : ℕ) → (p ≤ q) × (q < e) → (p ≡ q) ⊎ (p ≡ q → ⊥) → OnLine t p q
      back q m (inl f) = subst (λ (x : ℕ). OnLine t p x) f start
      back q m (inr f) = next child ((further.line q).1 (omega arith, m.1))

      on : (q : ℕ) → p ≤ q → suc q < e → (p ≡ q) ⊎ (p ≡ q → ⊥) → last_child t q ≡ Some (suc q)
      on q a b (inl f) = subst (λ (x : ℕ). last_child t x ≡ Some (suc x)) f child
      on q a b (inr f) = further.next_place q (omega arith) b

      -- what is stored at p is not in the core further on
      not_again : (v : ℕ) → Among v (node_at t p).stored → Among v (between (begins t (suc p)) (begins t e) (store t)) → ⊥
      not_again v a b =
          let q = (stretch (suc p) e v (omega (arith, further.some_places)) further.inside).0 b in
          split.apart p (suc p) v child a (line_core ((further.line q.0).1 (q.1, q.2)) v q.3)

  reaches : (n p : ℕ) → places t ≤ p + n → p < places t → (e : ℕ) × Reaches p e
  reaches zero p f l = absurd (omega arith)
  reaches (suc n) p f l = go (last_child t p) refl (reaches n (suc p))
    where
      go : (x : Option ℕ) → last_child t p ≡ x → (places t ≤ suc p + n → suc p < places t → (e : ℕ) × Reaches (suc p) e) → (e : ℕ) × Reaches p e
      go None e rest = (suc p, reaches_here p l e)
      go (Some q) e rest =
          let is_next : q ≡ suc p = last_next c t r p q e in
          let further = rest (omega arith) (rw (← is_next) (child_means c t r p q (last t.order) e).3.0) in
          (further.0, reaches_on p further.0 (rw is_next at e) further.1)

  line_to : (p e : ℕ) → Reaches p e → LineTo t p e
  line_to p e h = record {
    some = h.some_places;
    inside = h.inside;
    line = h.line;
    next = h.next_place;
    end = h.end;
    stored = λ v. (
      λ a. let m = (h.line a.0).0 a.1 in (stretch p e v (omega (arith, h.some_places)) h.inside).1 (a.0, m.0, m.1, a.2),
      λ b. let a = (stretch p e v (omega (arith, h.some_places)) h.inside).0 b in (a.0, (h.line a.0).1 (a.1, a.2), a.3),
    );
    once = h.once;
  }

  pub lines : Lines t
  lines = record { next = last_next c t r; lines = λ p l. let e = reaches (places t) p (omega arith) l in (e.0, line_to p e.0 e.1) }
