-- The tree of a network: its cores, and what a layer in front or one less does to them.
use Rattle.std.proofs.Common.{◌≡◌, ℕ, zero, suc, ◌+◌, ◌-◌, ◌<◌, ◌≤◌, ◌⊎◌, ◌↔◌, [], ◌∷◌, length, get_or, sym, refl, ◌∙◌, subst, inl, inr, suc-le-suc, zero-le, le_trans, le_of_suc-le-suc, arith}
use mathlib.Core.Logic.Iff
use Rattle.std.specs.List.{insert, remove, AllByRecursion as All}
use Rattle.std.proofs.ByRecursion.{All-from_get_or}
use Rattle.std.proofs.lemmas.List.Edits.{length-insert, length-remove, get_or-insert_below, get_or-insert_at, get_or-insert_above, get_or-remove_below, get_or-remove_above}
use Rattle.std.proofs.lemmas.Bool.{cases_lt, cases_order, lt-ltb, ltb-true}
use Rattle.vertex_set.specs.Sets.{Set, ◌∈◌, below}
use Rattle.network.specs.Networks.{Multilayer, Duties}
use Rattle.cores.specs.Cores.{Order, Vector, VectorFor, Strong, Meets, InCore}
use Rattle.cores.proofs.Theory.{meets_lower}
use Rattle.trees.specs.Trees.{Tree, CoreTree}
use Rattle.trees.specs.Layers.{Recorded, with_layer, without_layer}
use Rattle.trees.proofs.Positions.{Zero, raised_rises}
use Rattle.trees.proofs.Same.{Agree, same_tree}
use Rattle.trees.proofs.Parents.{Nested}
use Rattle.trees.proofs.Lines.{recorded}
use Rattle.trees.proofs.Rounds.{core, in_core}
use Rattle.trees.proofs.Grown.{grown, grown_right}

-- cores lie inside those of lower vectors
pub core_nested : (g : Multilayer) (o : Order) → Nested o (InCore g o)
core_nested g o k i v e l z q = (q.0, meets_lower g o k _ q.0 (λ j m. raised_rises k i j) q.1, q.2)

-- the zero vector has everybody in its core
pub core_root : (g : Multilayer) (o : Order) (k : Vector) (v : ℕ) → Zero k → v < g.vertices → InCore g o k v
core_root g o k v z l = (below g.vertices, record { inside = λ u m. m; strong = λ u m i b. rw (z i) zero-le }, lt-ltb v g.vertices l)

pub core_inside : (g : Multilayer) (o : Order) (k : Vector) (v : ℕ) → InCore g o k v → v < g.vertices
core_inside g o k v q = ltb-true v g.vertices (q.1.inside v q.2)

-- no vector with a nonempty core demands more than the highest strength
pub core_bounded : (highest : ℕ) (g : Multilayer) → Duties highest g → (o : Order) (k : Vector) (v : ℕ) → VectorFor o k → InCore g o k v → All (λ x. x ≤ highest) k
core_bounded highest g d o k v e q = All-from_get_or (λ x. x ≤ highest) k 0 (λ i l. le_trans (q.1.strong v q.2 i (omega arith)) (d.bounded (get_or o i 0) q.0 v))

-- a tree that computes
pub core_grown : (highest : ℕ) (g : Multilayer) → Duties highest g → (o : Order) → CoreTree g o (grown o (core g o) g.vertices highest)
core_grown highest g d o = record { order = refl; tree = grown_right o (core g o) g.vertices highest (InCore g o) (λ k v e. in_core highest g d o k v) (λ k v e. core_inside g o k v) (core_bounded highest g d o) }

-- there is one tree
pub core_tree_same : (g : Multilayer) (o : Order) (t u : Tree) → CoreTree g o t → CoreTree g o u → t ≡ u
core_tree_same g o t u r s = same_tree (InCore g o) t u r.tree s.tree (r.order ∙ sym s.order)

module _ (g : Multilayer) (o : Order) (some : 1 ≤ length o) (t : Tree) (r : CoreTree g o t) where
  -- it records the cores
  pub core_recorded : Agree o (Recorded t) (InCore g o)
  core_recorded = subst (λ (x : Order). Agree x (Recorded t) (InCore g o)) r.order (recorded (InCore g o) t r.tree (rw r.order some) (subst (λ (x : Order). Nested x (InCore g o)) (sym r.order) (core_nested g o)))

-- a layer in front on which nothing is demanded changes no core
in_front : (g : Multilayer) (l : ℕ) (o : Order) (k : Vector) (v : ℕ) → InCore g o k v ↔ InCore g (l ∷ o) (0 ∷ k) v
in_front g l o k v = (λ q. (q.0, to q.0 q.1, q.2), λ q. (q.0, back q.0 q.1, q.2))
  where
    to : (s : Set) → Meets g o k s → Meets g (l ∷ o) (0 ∷ k) s
    to s m = record { inside = m.inside; strong = strong }
      where
        strong : (u : ℕ) → u ∈ s → Strong g (l ∷ o) (0 ∷ k) s u
        strong u e zero b = zero-le
        strong u e (suc i) b = m.strong u e i (le_of_suc-le-suc b)

    back : (s : Set) → Meets g (l ∷ o) (0 ∷ k) s → Meets g o k s
    back s m = record { inside = m.inside; strong = λ u e i b. m.strong u e (suc i) (suc-le-suc b) }

pub with_layer_core : (g : Multilayer) (o : Order) → 1 ≤ length o → (t : Tree) → CoreTree g o t → (l : ℕ) → Agree (l ∷ o) (with_layer g l t) (InCore g (l ∷ o))
with_layer_core g o some t r l [] v e = absurd (omega arith)
with_layer_core g o some t r l (zero ∷ k) v e = Iff.trans (core_recorded g o some t r k v (omega arith)) (in_front g l o k v)
with_layer_core g o some t r l (suc j ∷ k) v e = subst (λ (x : Order). InCore g (l ∷ x) (suc j ∷ k) v ↔ InCore g (l ∷ o) (suc j ∷ k) v) (sym r.order) Iff.rfl

-- a layer on which nothing is demanded is as good as none
module _ (o : Order) (i : ℕ) (k : Vector) (l : i < length o) (e : suc (length k) ≡ length o) (f : ℕ → ℕ) where
  demands_off : ((j : ℕ) → j < length o → get_or (insert k i 0) j 0 ≤ f (get_or o j 0)) → (j : ℕ) → j < length (remove o i) → get_or k j 0 ≤ f (get_or (remove o i) j 0)
  demands_off h j m = go (cases_lt j i)
    where
      go : (j < i) ⊎ (i ≤ j) → get_or k j 0 ≤ f (get_or (remove o i) j 0)
      go (inl n) = rw (get_or-remove_below o i 0 j n l, ← get_or-insert_below k i 0 0 j n (omega arith)) (h j (omega arith))
      go (inr n) = rw (get_or-remove_above o i 0 j n l, ← get_or-insert_above k i 0 0 j n (omega arith)) (h (j + 1) (omega (arith, length-remove o i l)))

  demands_on : ((j : ℕ) → j < length (remove o i) → get_or k j 0 ≤ f (get_or (remove o i) j 0)) → (j : ℕ) → j < length o → get_or (insert k i 0) j 0 ≤ f (get_or o j 0)
  demands_on h j m = go (cases_order j i)
    where
      behind : (b : ℕ) → b + 1 ≡ j → i ≤ b → get_or (insert k i 0) j 0 ≤ f (get_or o j 0)
      behind b p n = rw (← p) (rw (get_or-insert_above k i 0 0 b n (omega arith), ← get_or-remove_above o i 0 b n l) (h b (omega (arith, length-remove o i l))))

      go : (j ≡ i) ⊎ ((j < i) ⊎ (i < j)) → get_or (insert k i 0) j 0 ≤ f (get_or o j 0)
      go (inl p) = rw (p, get_or-insert_at k i 0 0 (omega arith)) zero-le
      go (inr (inl n)) = rw (get_or-insert_below k i 0 0 j n (omega arith), ← get_or-remove_below o i 0 j n l) (h j (omega (arith, length-remove o i l)))
      go (inr (inr n)) = behind (j - 1) (omega arith) (omega arith)

off_core : (g : Multilayer) (o : Order) (i : ℕ) (k : Vector) (v : ℕ) → i < length o → suc (length k) ≡ length o → InCore g o (insert k i 0) v ↔ InCore g (remove o i) k v
off_core g o i k v l e = (
  λ q. (q.0, record { inside = q.1.inside; strong = λ u n. demands_off o i k l e (λ x. g.strength x q.0 u) (q.1.strong u n) }, q.2),
  λ q. (q.0, record { inside = q.1.inside; strong = λ u n. demands_on o i k l e (λ x. g.strength x q.0 u) (q.1.strong u n) }, q.2),
)

-- a vector for the order without a layer has one demand less
pub one_less : (o : Order) (i : ℕ) (k : Vector) → i < length o → VectorFor (remove o i) k → suc (length k) ≡ length o
one_less o i k l e = omega (arith, length-remove o i l)

pub inserted_fits : (o : Order) (i : ℕ) (k : Vector) → i < length o → VectorFor (remove o i) k → VectorFor o (insert k i 0)
inserted_fits o i k l e = omega (arith, length-insert k i 0 (omega (arith, one_less o i k l e)), one_less o i k l e)

pub without_layer_core : (g : Multilayer) (o : Order) → 1 ≤ length o → (t : Tree) → CoreTree g o t → (i : ℕ) → i < length o → Agree (remove o i) (without_layer i t) (InCore g (remove o i))
without_layer_core g o some t r i l k v e = Iff.trans (core_recorded g o some t r (insert k i 0) v (inserted_fits o i k l e)) (off_core g o i k v l (one_less o i k l e))
