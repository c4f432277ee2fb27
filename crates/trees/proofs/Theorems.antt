-- The theorems, from what the other files show.
use Rattle.std.proofs.Common.{◌≡◌, ℕ, ◌+◌, ◌-◌, ◌<◌, ◌≤◌, ◌⊎◌, ◌∷◌, length, get_or, sym, ap, ◌∙◌, subst, inl, inr, arith}
use mathlib.Core.Logic.Iff
use Rattle.std.specs.List.{remove}
use Rattle.std.proofs.lemmas.List.Edits.{length-remove, get_or-remove_below, get_or-remove_above}
use Rattle.std.proofs.lemmas.Bool.{cases_order}
use Rattle.vertex_set.specs.Lists.{Among}
use Rattle.cores.specs.Cores.{Order, InCore}
use Rattle.trees.specs.Trees.{Tree, TreeOf, CoreTree}
use Rattle.trees.specs.Walks.{Lines}
use Rattle.trees.specs.Layers.{Recorded, with_layer, PutInFront, without_layer, TakenOff, Coherent}
use Rattle.trees.specs.Room.{Counted}
use Rattle.trees.specs.Theorems.{EachTree, OneTree, RecordsCores, OneInFront, OneTakenOff, OneParents, OnePaths, CoresSplit, LinesLieTogether, FrontOfNetwork, OffNetwork, EitherWay, OffInEitherOrder, OffNeedsNoMore, RoomIsCounted}
use Rattle.trees.proofs.Same.{Agree, agree_sym, tree_agrees}
use Rattle.trees.proofs.Parents.{Nested, one_parent, path_is_one}
use Rattle.trees.proofs.Lines.{lines, split}
use Rattle.trees.proofs.Networks.{core_nested, core_grown, core_tree_same, core_recorded, with_layer_core, without_layer_core}
use Rattle.trees.proofs.Coherence.{core_coherent, in_front_coherent, off_coherent}
use Rattle.trees.proofs.Room.{counted}
use Rattle.trees.proofs.Made.{in_front_exists, in_front_same, off_exists, off_same}
use Rattle.trees.proofs.Either.{either_way}
use Rattle.trees.proofs.Fewer.{no_more_nodes, no_more_stored}

-- what holds of coherent trees holds of those of networks
each_tree : (P : Tree → Type 0) → ((n : ℕ) (t : Tree) → Coherent n t → P t) → EachTree P
each_tree P f = (λ highest g d o w t r. f g.vertices t (core_coherent g o w t r), f)

pub one_tree_is : OneTree
one_tree_is highest g d o = (_, core_grown highest g d o, λ u r. core_tree_same g o u _ r (core_grown highest g d o))

pub records_cores_is : RecordsCores
records_cores_is highest g d o w t r = (core_coherent g o w t r, λ k e c x v. Iff.trans (λ m. (c, x.meets, m), λ q. x.largest q.0 q.1 v q.2) (Iff.symm (core_recorded g o w.some t r k v e)))

pub one_in_front_is : OneInFront
one_in_front_is highest g d t w l n =
    let made = in_front_exists highest g d l t w in
    (made.0, made.1, in_front_coherent g l t w n made.0 made.1, λ u r. in_front_same g l t u made.0 r made.1)

pub one_taken_off_is : OneTakenOff
one_taken_off_is n t w l a m =
    let made = off_exists n t w l a m in
    (made.0, made.1, off_coherent n t w l made.0 made.1, λ u r. off_same n t w l u made.0 r made.1)

pub one_parents_is : OneParents
one_parents_is = each_tree _ (λ n t w. one_parent (Recorded t) t w.tree w.nested)

pub one_paths_is : OnePaths
one_paths_is = each_tree _ (λ n t w. path_is_one (Recorded t) t w.tree w.nested)

pub cores_split_is : CoresSplit
cores_split_is = (
  λ highest g d o w t r. split (InCore g o) t r.tree (rw r.order w.some) (subst (λ (x : Order). Nested x (InCore g o)) (sym r.order) (core_nested g o)),
  λ n t w. split (Recorded t) t w.tree w.some w.nested,
)

pub lines_lie_together_is : LinesLieTogether
lines_lie_together_is = each_tree Lines (λ n t w. lines (Recorded t) t w.tree w.some w.nested)

pub front_of_network_is : FrontOfNetwork
front_of_network_is highest g d o w t r l u = (to, back)
  where
    agree : Agree (l ∷ o) (with_layer g l t) (InCore g (l ∷ o))
    agree = with_layer_core g o w.some t r l

    to : PutInFront g l t u → CoreTree g (l ∷ o) u
    to s =
        let order : u.order ≡ l ∷ o = s.order ∙ ap (λ (x : Order). l ∷ x) r.order in
        record { order = order; tree = tree_agrees (with_layer g l t) (InCore g (l ∷ o)) u (subst (λ (x : Order). Agree x (with_layer g l t) (InCore g (l ∷ o))) (sym order) agree) s.tree }

    back : CoreTree g (l ∷ o) u → PutInFront g l t u
    back s = record {
      order = s.order ∙ ap (λ (x : Order). l ∷ x) (sym r.order);
      tree = tree_agrees (InCore g (l ∷ o)) (with_layer g l t) u (subst (λ (x : Order). Agree x (InCore g (l ∷ o)) (with_layer g l t)) (sym s.order) (agree_sym (l ∷ o) (with_layer g l t) (InCore g (l ∷ o)) agree)) s.tree;
    }

pub off_network_is : OffNetwork
off_network_is highest g d o w t r i l m u = (to, back)
  where
    agree : Agree (remove o i) (without_layer i t) (InCore g (remove o i))
    agree = without_layer_core g o w.some t r i l

    to : TakenOff (get_or o i 0) t u → CoreTree g (remove o i) u
    to s =
        let shown : s.index < length o = rw r.order at s.shown in
        let place : s.index ≡ i = w.different s.index i shown l (rw r.order at s.layer) in
        let order : u.order ≡ remove o i = s.order ∙ ap (λ (x : Order). remove x s.index) r.order ∙ ap (remove o) place in
        record { order = order; tree = tree_agrees (without_layer i t) (InCore g (remove o i)) u (subst (λ (x : Order). Agree x (without_layer i t) (InCore g (remove o i))) (sym order) agree) (subst (λ (x : ℕ). TreeOf (without_layer x t) u) place s.tree) }

    back : CoreTree g (remove o i) u → TakenOff (get_or o i 0) t u
    back s = record {
      index = i;
      shown = rw r.order l;
      layer = ap (λ (x : Order). get_or x i 0) r.order;
      others = rw r.order m;
      order = s.order ∙ ap (λ (x : Order). remove x i) (sym r.order);
      tree = tree_agrees (InCore g (remove o i)) (without_layer i t) u (subst (λ (x : Order). Agree x (InCore g (remove o i)) (without_layer i t)) (sym s.order) (agree_sym (remove o i) (without_layer i t) (InCore g (remove o i)) agree)) s.tree;
    }

-- a layer is still shown when another one is gone
still_among : (o : Order) (i y : ℕ) → i < length o → (get_or o i 0 ≡ y → ⊥) → Among y o → Among y (remove o i)
still_among o i y l n (j, m, e) = go (cases_order j i)
  where
    nearer : (b : ℕ) → b + 1 ≡ j → i ≤ b → Among y (remove o i)
    nearer b f k = (b, omega (arith, length-remove o i l), get_or-remove_above o i 0 b k l ∙ ap (λ (x : ℕ). get_or o x 0) f ∙ e)

    go : (j ≡ i) ⊎ ((j < i) ⊎ (i < j)) → Among y (remove o i)
    go (inl f) = absurd (n (ap (λ (x : ℕ). get_or o x 0) (sym f) ∙ e))
    go (inr (inl k)) = (j, omega (arith, length-remove o i l), get_or-remove_below o i 0 j k l ∙ e)
    go (inr (inr k)) = nearer (j - 1) (omega arith) (omega arith)

either_way_is : (n : ℕ) (t : Tree) → Coherent n t → EitherWay t
either_way_is n t w = record { possible = possible; same = either_way n t w }
  where
    -- a second layer can be taken off, if a third is left
    second : (x y : ℕ) → Among y t.order → (x ≡ y → ⊥) → 3 ≤ length t.order → (u : Tree) → TakenOff x t u → (v : Tree) × TakenOff y u v
    second x y b d l u r =
        let long : length u.order + 1 ≡ length t.order = ap (λ (o : Order). length o + 1) r.order ∙ length-remove t.order r.index r.shown in
        let shown : Among y u.order = subst (λ (o : Order). Among y o) (sym r.order) (still_among t.order r.index y r.shown (λ e. d (sym r.layer ∙ e)) b) in
        off_exists n u (off_coherent n t w x u r) y shown (omega arith)

    possible : (x y : ℕ) → Among x t.order → Among y t.order → (x ≡ y → ⊥) → 3 ≤ length t.order → (u u' v : Tree) × TakenOff x t u × TakenOff y u v × TakenOff y t u' × TakenOff x u' v
    possible x y a b d l =
        let u = off_exists n t w x a (omega arith) in
        let v = second x y b d l u.0 u.1 in
        let u' = off_exists n t w y b (omega arith) in
        let v' = second y x a (λ e. d (sym e)) l u'.0 u'.1 in
        let same : v.0 ≡ v'.0 = either_way n t w x y u.0 v.0 u'.0 v'.0 u.1 v.1 u'.1 v'.1 in
        (u.0, u'.0, v.0, u.1, v.1, u'.1, rw same v'.1)

pub off_in_either_order_is : OffInEitherOrder
off_in_either_order_is = each_tree EitherWay either_way_is

pub off_needs_no_more_is : OffNeedsNoMore
off_needs_no_more_is = each_tree _ (λ n t w l u r. (no_more_nodes n t w l u r, no_more_stored n t w l u r))

pub room_is_counted_is : RoomIsCounted
room_is_counted_is = (
  λ highest g d o w t r. subst (λ (x : Order). Counted x (InCore g o) t) r.order (counted (InCore g o) t r.tree),
  λ g t l u r. subst (λ (x : Order). Counted x (with_layer g l t) u) r.order (counted (with_layer g l t) u r.tree),
)
