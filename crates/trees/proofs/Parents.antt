-- Parents and children, and the paths from the root.
use Rattle.std.proofs.Common.{◌≡◌, ℕ, zero, suc, ◌+◌, ◌<◌, ◌≤◌, ◌⊎◌, List, [], ◌∷◌, ◌++◌, length, get_or, Some, None, Option, sym, refl, ap, ◌∙◌, subst, ap₂, inl, inr, le_trans, not-suc-le-zero, arith, length-set}
use Rattle.std.proofs.lemmas.Bool.{cases_lt, cases_eq, cases_order}
use Rattle.std.proofs.lemmas.List.{get_or_past, ext_get_or}
use Rattle.cores.specs.Cores.{Order, Vector, VectorFor}
use Rattle.trees.specs.Vectors.{raised, Before, lnz}
use Rattle.trees.specs.Trees.{Family, Node, Tree, TreeOf, no_node, node_at, child_at, places, last, last_child, Stands, ChildIs}
use Rattle.trees.specs.Walks.{Parent, Leads, OneParent, OnePath}
use Rattle.trees.specs.Walks.Leads.{arrived, step}
use Rattle.trees.proofs.Orders.{not_before_itself, before_apart, before_trans, before_raised, none_between}
use Rattle.trees.proofs.Positions.{Zero, Raised, behind_from_lnz, lnz_from_behind, raised_rises, raised_at, raised_off, zero_or_raised, zero_first, not_before_nonzero}
use Rattle.trees.proofs.Same.{one_place}

pub some_same : {A : Type 0} {x y : A} → Some x ≡ Some y → x ≡ y
some_same e = cc

pub none_apart : {A : Type 0} {x : A} → None ≡ Some x → ⊥
none_apart e = let z : ◌≡◌ {A = ℕ} 0 1 = cc in omega arith

-- the core of a child lies inside the core of its parent
abbrev pub Nested : Order → Family → Type 0
Nested o c = (k : Vector) (i v : ℕ) → VectorFor o k → i < length o → lnz k ≤ suc i → c (raised k i) v → c k v

-- past the last place there is nothing
pub nothing_past : (t : Tree) (p : ℕ) → places t ≤ p → node_at t p ≡ no_node
nothing_past t p l = get_or_past t.nodes p no_node l

-- the last position is from lnz on
pub last_from_lnz : (o : Order) (k : Vector) → 1 ≤ length o → VectorFor o k → lnz k ≤ suc (last o)
last_from_lnz o k some e = lnz_from_behind k (last o) (λ j l. get_or_past k j 0 (omega arith))

module _ (c : Family) (t : Tree) (r : TreeOf c t) where
  -- what it is to be a child
  pub child_means : (p q i : ℕ) → Parent t q p i → (p < places t) × (i < length t.order) × (lnz (node_at t p).vector ≤ suc i) × Stands t (raised (node_at t p).vector i) q
  child_means p q i e = go (cases_lt p (places t)) (cases_lt i (length t.order))
    where
      go : (p < places t) ⊎ (places t ≤ p) → (i < length t.order) ⊎ (length t.order ≤ i) → (p < places t) × (i < length t.order) × (lnz (node_at t p).vector ≤ suc i) × Stands t (raised (node_at t p).vector i) q
      go (inl l) (inl m) = let x = subst (λ (y : Option ℕ). ChildIs t (node_at t p).vector i y) e (r.child p i l m) in (l, m, x.0, x.1)
      go (inl l) (inr m) = absurd (none_apart (sym (get_or_past (node_at t p).children i None (omega (arith, r.slots p l))) ∙ e))
      go (inr l) m = absurd (none_apart (sym (ap (λ (n : Node). get_or n.children i None) (nothing_past t p l)) ∙ e))

  pub is_child : (p q i : ℕ) → p < places t → i < length t.order → lnz (node_at t p).vector ≤ suc i → Stands t (raised (node_at t p).vector i) q → Parent t q p i
  is_child p q i l m z s = go (child_at t p i) (r.child p i l m)
    where
      go : (x : Option ℕ) → ChildIs t (node_at t p).vector i x → x ≡ Some q
      go None f = absurd (f z q s)
      go (Some u) f = ap Some (one_place c t r (raised (node_at t p).vector i) u q f.1 s)

  -- a child stands behind its parent
  pub child_behind : (p q i : ℕ) → Parent t q p i → p < q
  child_behind p q i e = go (cases_order p q)
    where
      up : Before (node_at t p).vector (node_at t q).vector
      up = let m = child_means p q i e in rw m.3.1 (before_raised (node_at t p).vector i (omega (arith, r.fits p m.0, m.1)))

      go : (p ≡ q) ⊎ ((p < q) ⊎ (q < p)) → p < q
      go (inl f) = absurd (before_apart up (ap (λ (x : ℕ). (node_at t x).vector) f))
      go (inr (inl l)) = l
      go (inr (inr l)) = absurd (not_before_itself _ (before_trans up (r.sorted q p l (child_means p q i e).0)))

  -- the child at the last position stands at the next place
  pub last_next : (p q : ℕ) → last_child t p ≡ Some q → q ≡ suc p
  last_next p q e = go (cases_order q (suc p))
    where
      m : (p < places t) × (last t.order < length t.order) × (lnz (node_at t p).vector ≤ suc (last t.order)) × Stands t (raised (node_at t p).vector (last t.order)) q
      m = child_means p q (last t.order) e

      go : (q ≡ suc p) ⊎ ((q < suc p) ⊎ (suc p < q)) → q ≡ suc p
      go (inl f) = f
      go (inr (inl l)) = absurd (omega (arith, child_behind p q (last t.order) e))
      go (inr (inr l)) =
          let n : suc p < places t = omega (arith, m.3.0) in
          absurd (none_between (node_at t p).vector (node_at t (suc p)).vector (last t.order) (r.fits (suc p) n ∙ sym (r.fits p m.0)) (omega (arith, m.1, r.fits p m.0)) (r.sorted p (suc p) (omega arith) n) (rw (← m.3.1) (r.sorted (suc p) q l m.3.0)))

  -- a child's vector is its parent's, one higher at the position
  at_position : (p q i : ℕ) → Parent t q p i → get_or (node_at t q).vector i 0 ≡ get_or (node_at t p).vector i 0 + 1
  at_position p q i e = let m = child_means p q i e in ap (λ (k : Vector). get_or k i 0) m.3.1 ∙ raised_at (node_at t p).vector i (omega (arith, r.fits p m.0, m.1))

  elsewhere : (p q i j : ℕ) → Parent t q p i → (j ≡ i → ⊥) → get_or (node_at t q).vector j 0 ≡ get_or (node_at t p).vector j 0
  elsewhere p q i j e d = ap (λ (k : Vector). get_or k j 0) (child_means p q i e).3.1 ∙ raised_off (node_at t p).vector i j d

  -- along a path no demand falls
  rises : {p q : ℕ} {is : List ℕ} → Leads t p is q → (j : ℕ) → get_or (node_at t p).vector j 0 ≤ get_or (node_at t q).vector j 0
  rises arrived j = omega arith
  rises (step {p} {q} {i = i} e s) j = le_trans (rw (child_means p q i e).3.1 (raised_rises (node_at t p).vector i j)) (rises s j)

  -- and those before a nonzero one stay
  stays : {p q : ℕ} {is : List ℕ} → Leads t p is q → (i : ℕ) → 0 < get_or (node_at t p).vector i 0 → (j : ℕ) → j < i → get_or (node_at t q).vector j 0 ≡ get_or (node_at t p).vector j 0
  stays arrived i some j l = refl
  stays (step {p} {q} {i = h} e s) i some j l =
      let m = child_means p q h e in
      let behind : i ≤ h = not_before_nonzero (node_at t p).vector i h some m.2 in
      stays s i (le_trans some (rw m.3.1 (raised_rises (node_at t p).vector h i))) j l ∙ elsewhere p q h j e (λ f. absurd (omega arith))

  climbs : (p q s i : ℕ) {is : List ℕ} → Parent t q p i → Leads t q is s → get_or (node_at t p).vector i 0 < get_or (node_at t s).vector i 0
  climbs p q s i e a = omega (arith, at_position p q i e, rises a i)

  unmoved : (p q s i j : ℕ) {is : List ℕ} → Parent t q p i → Leads t q is s → j < i → get_or (node_at t s).vector j 0 ≡ get_or (node_at t p).vector j 0
  unmoved p q s i j e a l = stays a i (omega (arith, at_position p q i e)) j l ∙ elsewhere p q i j e (λ f. absurd (omega arith))

  -- so two paths between the same places begin with the same step
  same_step : (p p' q q' s s' i j : ℕ) {is js : List ℕ} → Parent t q p i → Leads t q is s → Parent t q' p' j → Leads t q' js s' → p ≡ p' → s ≡ s' → i ≡ j
  same_step p p' q q' s s' i j e a f b m n = go (cases_order i j)
    where
      from : (x : ℕ) → get_or (node_at t p).vector x 0 ≡ get_or (node_at t p').vector x 0
      from x = ap (λ (y : ℕ). get_or (node_at t y).vector x 0) m

      to : (x : ℕ) → get_or (node_at t s).vector x 0 ≡ get_or (node_at t s').vector x 0
      to x = ap (λ (y : ℕ). get_or (node_at t y).vector x 0) n

      go : (i ≡ j) ⊎ ((i < j) ⊎ (j < i)) → i ≡ j
      go (inl u) = u
      go (inr (inl l)) = absurd (omega (arith, climbs p q s i e a, unmoved p' q' s' j i f b l, from i, to i))
      go (inr (inr l)) = absurd (omega (arith, climbs p' q' s' j f b, unmoved p q s i j e a l, from j, to j))

  same_path : {p p' q q' : ℕ} {is js : List ℕ} → Leads t p is q → Leads t p' js q' → p ≡ p' → q ≡ q' → js ≡ is
  same_path arrived arrived a b = refl
  same_path (arrived {p}) (step {p = p'} {q = u} {r = q'} {i = i} e s) a b = absurd (omega (arith, climbs p' u q' i e s, ap (λ (y : ℕ). get_or (node_at t y).vector i 0) (sym a ∙ b)))
  same_path (step {p = p} {q = u} {r = q} {i = i} e s) (arrived {p = p'}) a b = absurd (omega (arith, climbs p u q i e s, ap (λ (y : ℕ). get_or (node_at t y).vector i 0) (a ∙ sym b)))
  same_path (step {p = p} {q = u} {r = q} {i = i} {is = is} e s) (step {p = p'} {q = u'} {r = q'} {i = j} {is = js} f s') a b =
      let position : i ≡ j = same_step p p' u u' q q' i j e s f s' a b in
      let child : child_at t p i ≡ child_at t p' j = ap₂ (λ (y z : ℕ). child_at t y z) a position in
      let rest : js ≡ is = same_path s s' (some_same (sym e ∙ child ∙ f)) b in
      cc

  -- a place has at most one parent
  same_parent : (q p p' i i' : ℕ) → Parent t q p i → Parent t q p' i' → (p' ≡ p) × (i' ≡ i)
  same_parent q p p' i i' e f = (one_place c t r (node_at t p).vector p' p (n.0, same_vector) (m.0, refl), sym position)
    where
      m : (p < places t) × (i < length t.order) × (lnz (node_at t p).vector ≤ suc i) × Stands t (raised (node_at t p).vector i) q
      m = child_means p q i e

      n : (p' < places t) × (i' < length t.order) × (lnz (node_at t p').vector ≤ suc i') × Stands t (raised (node_at t p').vector i') q
      n = child_means p' q i' f

      -- behind a raised position there are zeros, and at it there is none
      not_behind : (p i p' i' : ℕ) → Parent t q p i → Parent t q p' i' → i < i' → ⊥
      not_behind p i p' i' e f l = omega (arith, at_position p' q i' f, elsewhere p q i i' e (λ h. absurd (omega arith)), behind_from_lnz (node_at t p).vector i (child_means p q i e).2 i' l)

      position : i ≡ i'
      position = go (cases_order i i')
        where
          go : (i ≡ i') ⊎ ((i < i') ⊎ (i' < i)) → i ≡ i'
          go (inl h) = h
          go (inr (inl l)) = absurd (not_behind p i p' i' e f l)
          go (inr (inr l)) = absurd (not_behind p' i' p i f e l)

      same_vector : (node_at t p').vector ≡ (node_at t p).vector
      same_vector = ext_get_or 0 (node_at t p').vector (node_at t p).vector (r.fits p' n.0 ∙ sym (r.fits p m.0)) (λ j l. go j (cases_eq j i))
        where
          f' : Parent t q p' i
          f' = subst (λ (x : ℕ). Parent t q p' x) (sym position) f

          go : (j : ℕ) → (j ≡ i) ⊎ (j ≡ i → ⊥) → get_or (node_at t p').vector j 0 ≡ get_or (node_at t p).vector j 0
          go j (inl h) = rw h (omega (arith, at_position p q i e, at_position p' q i f'))
          go j (inr d) = sym (elsewhere p' q i j f' d) ∙ elsewhere p q i j e d

  leads_on : {p q s : ℕ} {is : List ℕ} (i : ℕ) → Leads t p is q → Parent t s q i → Leads t p (is ++ i ∷ []) s
  leads_on i arrived e = step e arrived
  leads_on i (step f a) e = step f (leads_on i a e)

  module _ (nested : Nested t.order c) where
    -- a place has a parent, or its vector is zero
    parent_or_zero : (q : ℕ) → q < places t → Zero (node_at t q).vector ⊎ ((p i : ℕ) × Parent t q p i)
    parent_or_zero q l = go (zero_or_raised (node_at t q).vector)
      where
        go : Zero (node_at t q).vector ⊎ Raised (node_at t q).vector → Zero (node_at t q).vector ⊎ ((p i : ℕ) × Parent t q p i)
        go (inl z) = inl z
        go (inr u) =
            let some = r.nonempty q l in
            let long : VectorFor t.order u.lower = sym (length-set u.lower _ _) ∙ ap length u.is ∙ r.fits q l in
            let m : u.index < length t.order = omega (arith, u.inside) in
            let core = nested u.lower u.index some.0 long m u.from_lnz (subst (λ (k : Vector). c k some.0) (sym u.is) some.1) in
            let p = r.complete u.lower some.0 long core in
            inr (p.0, u.index, is_child p.0 q u.index p.1.0 m (rw p.1.1 u.from_lnz) (l, sym (ap (λ (k : Vector). raised k u.index) p.1.1 ∙ u.is)))

    -- the zero vector stands at the root
    root_zero : (q : ℕ) → q < places t → Zero (node_at t q).vector → q ≡ 0
    root_zero zero l z = refl
    root_zero (suc q) l z = absurd (zero_first (r.sorted 0 (suc q) (omega arith) l) z)

    pub one_parent : OneParent t
    one_parent = record { one = λ q some l. go q some (parent_or_zero q l) l; none = λ p i e. not-suc-le-zero (child_behind p 0 i e) }
      where
        go : (q : ℕ) → 0 < q → Zero (node_at t q).vector ⊎ ((p i : ℕ) × Parent t q p i) → q < places t → (p i : ℕ) × Parent t q p i × ((p' i' : ℕ) → Parent t q p' i' → (p' ≡ p) × (i' ≡ i))
        go q some (inl z) l = absurd (omega (arith, root_zero q l z))
        go q some (inr (p, i, e)) l = (p, i, e, λ p' i' f. same_parent q p p' i i' e f)

    path : (n p : ℕ) → p < n → p < places t → (is : List ℕ) × Leads t 0 is p
    path zero p a l = absurd (not-suc-le-zero a)
    path (suc n) p a l = go (path n) (parent_or_zero p l)
      where
        go : ((q : ℕ) → q < n → q < places t → (is : List ℕ) × Leads t 0 is q) → Zero (node_at t p).vector ⊎ ((q i : ℕ) × Parent t p q i) → (is : List ℕ) × Leads t 0 is p
        go rest (inl z) = ([], subst (λ (x : ℕ). Leads t 0 [] x) (sym (root_zero p l z)) arrived)
        go rest (inr (q, i, e)) =
            let before = rest q (omega (arith, child_behind q p i e)) (child_means q p i e).0 in
            (before.0 ++ i ∷ [], leads_on i before.1 e)

    pub path_is_one : OnePath t
    path_is_one p l = let x = path (suc p) p (omega arith) l in (x.0, x.1, λ js y. same_path x.1 y refl refl)
