-- What tests of the elements of a list, or of each vertex in each layer, tell.
use Rattle.std.proofs.Common.{◌≡◌, ◌∙◌, ℕ, zero, suc, ◌+◌, ◌<◌, ◌≤◌, Bool, true, false, not, ◌&&◌, eqb, leb, ltb, List, [], ◌∷◌, length, get_or, sym, refl, ap, subst, ⊎_elim, arith}
use Rattle.std.proofs.lemmas.Bool.{both_ways, false≢true, leb-true, le-leb, ltb-true, lt-ltb, eqb-true, eq-eqb, ne_eqb, not-true, not_from_false, and_parts, and_from, or_cases, or_left, or_right}
use Rattle.std.proofs.lemmas.Fn.{always_returns_same}
use Rattle.std.proofs.lemmas.List.Kept.{AllPairs-from_increasing}
use Rattle.std.proofs.lemmas.List.Sorted.{answers_always}
use Rattle.std.specs.Prelude.{◌↔◌, IsTrue}
use Rattle.std.specs.Fn.{Called, ComputesOnPairs}
use Rattle.std.specs.List.{IsAllAdjacentAnswer, list_all}
use denote.Param.Members.{Mut}
use denote.Ref.{Bor}
use Rattle.vertex_set.specs.Sets.{◌∈◌}
use Rattle.vertex_set.specs.Lists.{Ascending, elements}
use Rattle.tables.specs.Rows.{RowRight}

-- what the result r of `is_sorted_by` tells, where the closure computes a test
module _ {F : Type 0} {g : Mut F (Bor ℕ × (Bor ℕ × Unit {0})) Bool} {f : F} (xs : List ℕ) (r : Bool) (says : (e : ℕ → ℕ → Bool) → ComputesOnPairs g e f → IsAllAdjacentAnswer (λ x y b. b ≡ e x y) xs r) where
  -- each element is at most the next
  pub rises : ((f : F) (a : Bor ℕ × (Bor ℕ × Unit {0})) (b : Bool) (q : F) → Called g f a b q → b ≡ leb a.0.now a.1.0.now) → IsTrue r ↔ ((k : ℕ) → k + 1 < length xs → get_or xs k 0 ≤ get_or xs (k + 1) 0)
  rises computes = go r (says leb (answers_always g (λ a b. b ≡ leb a.0.now a.1.0.now) f computes))
    where
      go : (r : Bool) → IsAllAdjacentAnswer (λ x y b. b ≡ leb x y) xs r → IsTrue r ↔ ((k : ℕ) → k + 1 < length xs → get_or xs k 0 ≤ get_or xs (k + 1) 0)
      go true h = ((λ _. λ k l. leb-true _ _ (sym (h k 0 l))), λ _. refl)
      go false h = ((λ none. absurd (false≢true none)), λ up. absurd (both_ways _ (sym (h.2 0)) (le-leb _ _ (up h.0 h.1))))

  -- each element is below the next, and the next passes a test
  pub ascends : (test : ℕ → Bool) → ((a : Bor ℕ × (Bor ℕ × Unit {0})) (b : Bool) (q : F) → Called g f a b q → (b ≡ (ltb a.0.now a.1.0.now && test a.1.0.now)) × (q ≡ f)) → IsTrue r ↔ (Ascending xs × ((k : ℕ) → k + 1 < length xs → test (get_or xs (k + 1) 0) ≡ true))
  ascends test computes = go r (says (λ x y. ltb x y && test y) (always_returns_same g (λ a b. b ≡ (ltb a.0.now a.1.0.now && test a.1.0.now)) f computes))
    where
      go : (r : Bool) → IsAllAdjacentAnswer (λ x y b. b ≡ (ltb x y && test y)) xs r → IsTrue r ↔ (Ascending xs × ((k : ℕ) → k + 1 < length xs → test (get_or xs (k + 1) 0) ≡ true))
      go true h =
          let both = λ (k : ℕ) (l : k + 1 < length xs). and_parts (ltb (get_or xs k 0) (get_or xs (k + 1) 0)) (test (get_or xs (k + 1) 0)) (sym (h k 0 l)) in
          ((λ _. ((λ i j l m. AllPairs-from_increasing xs (λ k n. ltb-true _ _ (both k n).0) i j 0 l m), λ k l. (both k l).1)), λ _. refl)
      go false h = ((λ none. absurd (false≢true none)), λ up. absurd (both_ways _ (sym (h.2 0)) (and_from _ _ (lt-ltb _ _ (up.0 h.0 (h.0 + 1) (omega arith) h.1)) (up.1 h.0 h.1))))

module _ (n v : ℕ) where
  -- whether u is one of n vertices, and not v
  abbrev pub other : ℕ → Bool
  other u = ltb u n && not (eqb u v)

  -- a list is the right row of v just if each element is below the next, and the next a vertex other than v, where the first is one
  pub right_if : (xs : List ℕ) (r : Bool) → (0 < length xs → other (get_or xs 0 0) ≡ true) → IsTrue r ↔ (Ascending xs × ((k : ℕ) → k + 1 < length xs → other (get_or xs (k + 1) 0) ≡ true)) → IsTrue r ↔ RowRight n v xs
  right_if xs r first rest = ((λ yes. made (rest.0 yes)), λ right. rest.1 (right.ascending, λ k l. and_from _ _ (lt-ltb _ _ (right.inside (k + 1) l)) (not_from_false _ (ne_eqb _ _ (right.others (k + 1) l)))))
    where
      made : Ascending xs × ((k : ℕ) → k + 1 < length xs → other (get_or xs (k + 1) 0) ≡ true) → RowRight n v xs
      made (up, next) = record { ascending = up; inside = λ i l. ltb-true _ n (and_parts _ _ (each i l)).0; others = λ i l same. both_ways _ (not-true _ (and_parts _ _ (each i l)).1) (eq-eqb _ v same) }
        where
          each : (i : ℕ) → i < length xs → other (get_or xs i 0) ≡ true
          each zero l = first l
          each (suc i) l = let place : i + 1 ≡ suc i = omega arith in subst (λ (x : ℕ). other (get_or xs x 0) ≡ true) place (next i (omega arith))

-- a test passes a list if it passes each of its elements
pub all_elements : (p : ℕ → Bool) (xs : List ℕ) → IsTrue (list_all p xs) ↔ ((u : ℕ) → u ∈ elements xs → p u ≡ true)
all_elements p [] = ((λ _. λ u none. absurd (false≢true none)), λ _. refl)
all_elements p (x ∷ xs) = both (all_elements p xs)
  where
    both : IsTrue (list_all p xs) ↔ ((u : ℕ) → u ∈ elements xs → p u ≡ true) → IsTrue (list_all p (x ∷ xs)) ↔ ((u : ℕ) → u ∈ elements (x ∷ xs) → p u ≡ true)
    both rest = (
      (λ all u m. ⊎_elim (λ here. ap p (eqb-true u x here) ∙ (and_parts (p x) (list_all p xs) all).0) (rest.0 (and_parts (p x) (list_all p xs) all).1 u) (or_cases (eqb u x) (elements xs u) m)),
      λ each. and_from _ _ (each x (or_left _ _ (eq-eqb x x refl))) (rest.1 (λ u m. each u (or_right _ _ m))),
    )

-- what a test of each vertex in each layer tells, where passing it says that P holds, and failing it that P does not
pub each_place : {layers vertices : ℕ} {Passes Fails : ℕ → ℕ → Type 0} {r : Bool} (P : ℕ → ℕ → Type 0)
    → (r ≡ true → (l v : ℕ) → l < layers → v < vertices → Passes l v)
    → (r ≡ false → (l : ℕ) × (v : ℕ) × (l < layers) × (v < vertices) × Fails l v)
    → ((l v : ℕ) → l < layers → v < vertices → Passes l v → P l v)
    → ((l v : ℕ) → l < layers → v < vertices → Fails l v → P l v → ⊥)
    → IsTrue r ↔ ((l v : ℕ) → l < layers → v < vertices → P l v)
each_place {r = true} P passed failed has lacks = ((λ _. λ l v a b. has l v a b (passed refl l v a b)), λ _. refl)
each_place {r = false} P passed failed has lacks =
    let f = failed refl in
    ((λ none. absurd (false≢true none)), λ all. absurd (lacks f.0 f.1 f.2 f.3 f.4 (all f.0 f.1 f.2 f.3)))
