-- Trees in general: those of networks are coherent, and stay so with a layer in front or one less.
use Rattle.std.proofs.Common.{◌≡◌, ℕ, zero, suc, ◌<◌, ◌≤◌, [], ◌∷◌, length, get_or, sym, refl, ap, ◌∙◌, subst, suc-le-suc, zero-le, le_of_suc-le-suc, not-suc-le-zero, add-one, arith}
use Rattle.std.specs.List.{insert, remove}
use Rattle.std.proofs.lemmas.List.Edits.{length-remove}
use Rattle.vertex_set.specs.Lists.{Among}
use Rattle.network.specs.Networks.{Multilayer}
use Rattle.cores.specs.Cores.{Order, Vector, VectorFor, ValidOrder, InCore}
use Rattle.trees.specs.Vectors.{raised, lnz}
use Rattle.trees.specs.Trees.{Family, Tree, TreeOf, CoreTree}
use Rattle.trees.specs.Layers.{Recorded, with_layer, PutInFront, without_layer, TakenOff, Different, Coherent}
use Rattle.trees.proofs.Positions.{Zero, ZeroBehind, behind_from_lnz, lnz_from_behind}
use Rattle.trees.proofs.Same.{Agree, agree_sym, tree_agrees, raised_fits}
use Rattle.trees.proofs.Parents.{Nested}
use Rattle.trees.proofs.Lines.{recorded}
use Rattle.trees.proofs.Networks.{core_nested, core_root, core_inside, one_less, inserted_fits}

-- all vertices below n are in the core of the zero vector
abbrev pub Rooted : ℕ → Order → Family → Type 0
Rooted n o c = (k : Vector) (v : ℕ) → VectorFor o k → Zero k → v < n → c k v

-- the tree of a nested family is coherent
pub coherent_from : (n : ℕ) (c : Family) (t : Tree) → 1 ≤ length t.order → Different t.order → TreeOf c t → Nested t.order c → Rooted n t.order c → ((k : Vector) (v : ℕ) → VectorFor t.order k → c k v → v < n) → Coherent n t
coherent_from n c t some apart r nested root inside = record {
  some = some;
  different = apart;
  tree = tree_agrees c (Recorded t) t (agree_sym t.order (Recorded t) c same) r;
  nested = λ k i v e l z q. (same k v e).1 (nested k i v e l z ((same (raised k i) v (raised_fits t.order k i e)).0 q));
  root = λ k v e z l. (same k v e).1 (root k v e z l);
  inside = λ k v q. let e = sym (ap length q.1.1) ∙ r.fits q.0 q.1.0 in inside k v e ((same k v e).0 q);
}
  where
    same : Agree t.order (Recorded t) c
    same = recorded c t r some nested

-- what holds over the order o holds over the tree's own
over : (P : Order → Type 0) (t : Tree) (o : Order) → t.order ≡ o → P o → P t.order
over P t o e = subst P (sym e)

pub core_coherent : (g : Multilayer) (o : Order) → ValidOrder g o → (t : Tree) → CoreTree g o t → Coherent g.vertices t
core_coherent g o w t r = coherent_from g.vertices (InCore g o) t
    (over (λ x. 1 ≤ length x) t o r.order w.some)
    (over Different t o r.order w.different)
    r.tree
    (over (λ x. Nested x (InCore g o)) t o r.order (core_nested g o))
    (λ k v e z l. core_root g o k v z l)
    (λ k v e q. core_inside g o k v q)

-- behind a position of x ∷ k are those behind one of k
behind_rest : (x : ℕ) (k : Vector) (i : ℕ) → lnz (x ∷ k) ≤ suc (suc i) → lnz k ≤ suc i
behind_rest x k i z = lnz_from_behind k i (λ j l. behind_from_lnz (x ∷ k) (suc i) z (suc j) (suc-le-suc l))

rest_zero : (x : ℕ) (k : Vector) → lnz (x ∷ k) ≤ 1 → Zero k
rest_zero x k z j = behind_from_lnz (x ∷ k) 0 z (suc j) (omega arith)

module _ (g : Multilayer) (l : ℕ) (t : Tree) (w : Coherent g.vertices t) where
  pub with_layer_inside : (k : Vector) (v : ℕ) → with_layer g l t k v → v < g.vertices
  with_layer_inside [] v x = absurd x
  with_layer_inside (zero ∷ k) v x = w.inside k v x
  with_layer_inside (suc j ∷ k) v x = core_inside g (l ∷ t.order) (suc j ∷ k) v x

  pub with_layer_nested : Nested (l ∷ t.order) (with_layer g l t)
  with_layer_nested [] i v e m z x = absurd (omega arith)
  with_layer_nested (zero ∷ k) zero v e m z x = w.root k v (omega arith) (rest_zero 0 k z) (core_inside g (l ∷ t.order) (1 ∷ k) v x)
  with_layer_nested (zero ∷ k) (suc i) v e m z x = w.nested k i v (omega arith) (le_of_suc-le-suc m) (behind_rest 0 k i z) x
  with_layer_nested (suc j ∷ k) zero v e m z x = core_nested g (l ∷ t.order) (suc j ∷ k) 0 v e m z (subst (λ (a : ℕ). InCore g (l ∷ t.order) (a ∷ k) v) (sym (add-one (suc j))) (subst (λ (a : ℕ). with_layer g l t (a ∷ k) v) (add-one (suc j)) x))
  with_layer_nested (suc j ∷ k) (suc i) v e m z x = core_nested g (l ∷ t.order) (suc j ∷ k) (suc i) v e m z x

  pub with_layer_rooted : Rooted g.vertices (l ∷ t.order) (with_layer g l t)
  with_layer_rooted [] v e z m = absurd (omega arith)
  with_layer_rooted (zero ∷ k) v e z m = w.root k v (omega arith) (λ i. z (suc i)) m
  with_layer_rooted (suc j ∷ k) v e z m = absurd (omega (arith, z 0))

  different_front : (Among l t.order → ⊥) → Different (l ∷ t.order)
  different_front n zero zero a b e = refl
  different_front n zero (suc j) a b e = absurd (n (j, le_of_suc-le-suc b, sym e))
  different_front n (suc i) zero a b e = absurd (n (i, le_of_suc-le-suc a, e))
  different_front n (suc i) (suc j) a b e = ap suc (w.different i j (le_of_suc-le-suc a) (le_of_suc-le-suc b) e)

  pub in_front_coherent : (Among l t.order → ⊥) → (u : Tree) → PutInFront g l t u → Coherent g.vertices u
  in_front_coherent n u r = coherent_from g.vertices (with_layer g l t) u
      (over (λ x. 1 ≤ length x) u (l ∷ t.order) r.order (suc-le-suc zero-le))
      (over Different u (l ∷ t.order) r.order (different_front n))
      r.tree
      (over (λ x. Nested x (with_layer g l t)) u (l ∷ t.order) r.order with_layer_nested)
      (over (λ x. Rooted g.vertices x (with_layer g l t)) u (l ∷ t.order) r.order with_layer_rooted)
      (λ k v e. with_layer_inside k v)

-- where position j of a list without element i stands in the list
abbrev pub skip : ℕ → ℕ → ℕ
skip zero j = suc j
skip (suc i) zero = zero
skip (suc i) (suc j) = suc (skip i j)

pub skip_inside : (i j n : ℕ) → i < n → suc j < n → skip i j < n
skip_inside zero j n l m = m
skip_inside (suc i) zero n l m = omega arith
skip_inside (suc i) (suc j) zero l m = absurd (not-suc-le-zero l)
skip_inside (suc i) (suc j) (suc n) l m = suc-le-suc (skip_inside i j n (le_of_suc-le-suc l) (le_of_suc-le-suc m))

pub skip_apart : (i j k : ℕ) → skip i j ≡ skip i k → j ≡ k
skip_apart zero j k e = omega arith
skip_apart (suc i) zero zero e = refl
skip_apart (suc i) zero (suc k) e = absurd (omega arith)
skip_apart (suc i) (suc j) zero e = absurd (omega arith)
skip_apart (suc i) (suc j) (suc k) e = ap suc (skip_apart i j k (omega arith))

pub removed_at : (o : Order) (i j : ℕ) → i < length o → get_or (remove o i) j 0 ≡ get_or o (skip i j) 0
removed_at [] i j l = absurd (not-suc-le-zero l)
removed_at (x ∷ o) zero j l = refl
removed_at (x ∷ o) (suc i) zero l = refl
removed_at (x ∷ o) (suc i) (suc j) l = removed_at o i j (le_of_suc-le-suc l)

pub different_less : (o : Order) (i : ℕ) → i < length o → Different o → Different (remove o i)
different_less o i l apart p q a b e = skip_apart i p q (apart (skip i p) (skip i q) (inside p a) (inside q b) (sym (removed_at o i p l) ∙ e ∙ removed_at o i q l))
  where
    inside : (j : ℕ) → j < length (remove o i) → skip i j < length o
    inside j a = skip_inside i j (length o) l (omega (arith, length-remove o i l))

-- a zero put in, and a demand raised
pub raised_inserted : (k : Vector) (i j : ℕ) → j < length k → raised (insert k i 0) (skip i j) ≡ insert (raised k j) i 0
raised_inserted k zero j m = refl
raised_inserted [] (suc i) j m = absurd (not-suc-le-zero m)
raised_inserted (x ∷ k) (suc i) zero m = refl
raised_inserted (x ∷ k) (suc i) (suc j) m = ap (λ (y : Vector). x ∷ y) (raised_inserted k i j (le_of_suc-le-suc m))

zero_inserted : (k : Vector) (i : ℕ) → Zero k → Zero (insert k i 0)
zero_inserted k zero z zero = refl
zero_inserted k zero z (suc m) = z m
zero_inserted [] (suc i) z zero = refl
zero_inserted [] (suc i) z (suc m) = refl
zero_inserted (x ∷ k) (suc i) z zero = z 0
zero_inserted (x ∷ k) (suc i) z (suc m) = zero_inserted k i (λ j. z (suc j)) m

behind_inserted : (k : Vector) (i j : ℕ) → ZeroBehind k j → ZeroBehind (insert k i 0) (skip i j)
behind_inserted k zero j z zero l = absurd (not-suc-le-zero l)
behind_inserted k zero j z (suc m) l = z m (le_of_suc-le-suc l)
behind_inserted [] (suc i) j z zero l = refl
behind_inserted [] (suc i) j z (suc m) l = refl
behind_inserted (x ∷ k) (suc i) zero z zero l = absurd (not-suc-le-zero l)
behind_inserted (x ∷ k) (suc i) zero z (suc m) l = zero_inserted k i (λ j. z (suc j) (suc-le-suc zero-le)) m
behind_inserted (x ∷ k) (suc i) (suc j) z zero l = absurd (not-suc-le-zero l)
behind_inserted (x ∷ k) (suc i) (suc j) z (suc m) l = behind_inserted k i j (λ p q. z (suc p) (suc-le-suc q)) m (le_of_suc-le-suc l)

module _ (n : ℕ) (t : Tree) (w : Coherent n t) (i : ℕ) (l : i < length t.order) where
  pub without_layer_nested : Nested (remove t.order i) (without_layer i t)
  without_layer_nested k j v e m z q = w.nested (insert k i 0) (skip i j) v (inserted_fits t.order i k l e)
      (skip_inside i j (length t.order) l (omega (arith, one_less t.order i k l e)))
      (lnz_from_behind (insert k i 0) (skip i j) (behind_inserted k i j (behind_from_lnz k j z)))
      (rw (raised_inserted k i j (omega arith)) q)

  pub without_layer_rooted : Rooted n (remove t.order i) (without_layer i t)
  without_layer_rooted k v e z m = w.root (insert k i 0) v (inserted_fits t.order i k l e) (zero_inserted k i z) m

pub off_coherent : (n : ℕ) (t : Tree) → Coherent n t → (x : ℕ) (u : Tree) → TakenOff x t u → Coherent n u
off_coherent n t w x u r =
    let i = r.index in
    let o = remove t.order i in
    coherent_from n (without_layer i t) u
    (over (λ y. 1 ≤ length y) u o r.order (omega (arith, length-remove t.order i r.shown, r.others)))
    (over Different u o r.order (different_less t.order i r.shown w.different))
    r.tree
    (over (λ y. Nested y (without_layer i t)) u o r.order (without_layer_nested n t w i r.shown))
    (over (λ y. Rooted n y (without_layer i t)) u o r.order (without_layer_rooted n t w i r.shown))
    (λ k v e q. w.inside (insert k i 0) v q)
