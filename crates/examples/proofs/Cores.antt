-- Tests of cores and orders that compute, for those that are written out.
use Rattle.std.proofs.Common.{◌≡◌, ℕ, ◌<◌, ◌≤◌, Bool, true, false, not, ◌&&◌, ◌||◌, eqb, ltb, leb, ◌⊎◌, List, length, get_or, sym, ◌∙◌, subst, inl, inr}
use Rattle.std.specs.List.{list_all}
use Rattle.std.proofs.ByRecursion.{All-get_or}
use Rattle.std.proofs.lemmas.Bool.{cases_lt, cases_Bool, and_parts, leb-true, ltb-true, le-ltb, eqb-true, eqb-false, not-true, or_cases, both_ways}
use Rattle.vertex_set.specs.Sets.{Set, ◌⊆◌, Same, below}
use Rattle.vertex_set.specs.Lists.{elements}
use Rattle.vertex_set.proofs.Elements.{among_from}
use Rattle.network.specs.Networks.{Multilayer, Duties}
use Rattle.cores.specs.Cores.{Order, Vector, ValidOrder, Core}
use Rattle.trees.proofs.Rounds.{core, core_right}
use Rattle.examples.proofs.Tables.{all_below, below_passes, list_passes}

abbrev agree : Bool → Bool → Bool
agree true b = b
agree false b = not b

agree_same : (a b : Bool) → agree a b ≡ true → a ≡ b
agree_same true b e = sym e
agree_same false b e = sym (not-true b e)

-- who is at or above n is no member of a set below n
outside : (s : Set) (n v : ℕ) → s ⊆ below n → n ≤ v → s v ≡ false
outside s n v sub l = go (cases_Bool (s v))
  where
    go : (s v ≡ true) ⊎ (s v ≡ false) → s v ≡ false
    go (inl e) = absurd (both_ways (below n v) (le-ltb v n l) (sub v e))
    go (inr e) = e

-- sets below n that agree below n are the same
same_by_test : (s t : Set) (n : ℕ) → s ⊆ below n → t ⊆ below n → all_below (λ v. agree (s v) (t v)) n ≡ true → Same s t
same_by_test s t n a b e v = go (cases_lt v n)
  where
    go : (v < n) ⊎ (n ≤ v) → s v ≡ t v
    go (inl l) = agree_same (s v) (t v) (below_passes (λ u. agree (s u) (t u)) n e v l)
    go (inr l) = outside s n v a l ∙ sym (outside t n v b l)

elements_below : (xs : List ℕ) (n : ℕ) → list_all (λ x. ltb x n) xs ≡ true → elements xs ⊆ below n
elements_below xs n e v m =
    let place = among_from xs v m in
    subst (λ (x : ℕ). ltb x n ≡ true) place.2 (All-get_or _ xs place.0 0 place.1 (list_passes (λ x. ltb x n) xs e))

-- a list of the members that peeling in rounds leaves is the core
pub core_listed : (highest : ℕ) (g : Multilayer) → Duties highest g → (o : Order) (k : Vector) (xs : List ℕ) → list_all (λ x. ltb x g.vertices) xs ≡ true → all_below (λ v. agree (core g o k v) (elements xs v)) g.vertices ≡ true → Core g o k (elements xs)
core_listed highest g d o k xs few e =
    let right = core_right highest g d o k in
    let same = same_by_test (core g o k) (elements xs) g.vertices right.meets.inside (elements_below xs g.vertices few) e in
    subst (λ (s : Set). Core g o k s) (λ i v. same v i) right

-- an order that passes is one for the network
abbrev order_test : Multilayer → Order → Bool
order_test g o = leb 1 (length o) && (all_below (λ i. ltb (get_or o i 0) g.layers) (length o) && all_below (λ i. all_below (λ j. eqb i j || not (eqb (get_or o i 0) (get_or o j 0))) (length o)) (length o))

pub valid_order : (g : Multilayer) (o : Order) → order_test g o ≡ true → ValidOrder g o
valid_order g o e = record {
  some = leb-true 1 (length o) first.0;
  known = λ i l. ltb-true (get_or o i 0) g.layers (below_passes _ (length o) second.0 i l);
  different = λ i j l m f. go i j f (or_cases (eqb i j) _ (below_passes _ (length o) (below_passes (λ h. all_below (λ n. eqb h n || not (eqb (get_or o h 0) (get_or o n 0))) (length o)) (length o) second.1 i l) j m));
}
  where
    first : (leb 1 (length o) ≡ true) × ((all_below (λ i. ltb (get_or o i 0) g.layers) (length o) && all_below (λ i. all_below (λ j. eqb i j || not (eqb (get_or o i 0) (get_or o j 0))) (length o)) (length o)) ≡ true)
    first = and_parts (leb 1 (length o)) _ e

    second : (all_below (λ i. ltb (get_or o i 0) g.layers) (length o) ≡ true) × (all_below (λ i. all_below (λ j. eqb i j || not (eqb (get_or o i 0) (get_or o j 0))) (length o)) (length o) ≡ true)
    second = and_parts (all_below (λ i. ltb (get_or o i 0) g.layers) (length o)) _ first.1

    go : (i j : ℕ) → get_or o i 0 ≡ get_or o j 0 → (eqb i j ≡ true) ⊎ (not (eqb (get_or o i 0) (get_or o j 0)) ≡ true) → i ≡ j
    go i j f (inl a) = eqb-true i j a
    go i j f (inr a) = absurd (eqb-false (get_or o i 0) (get_or o j 0) (not-true _ a) f)
