-- Lists in which each element stands in a relation to those behind it, built from their parts.
use Rattle.std.proofs.Common.{◌≡◌, zero, suc, ◌<◌, Bool, true, false, cond, ◌⊎◌, List, [], ◌∷◌, ◌++◌, map, get_or, filter, sym, subst, inl, inr, suc-le-suc, zero-le, le_of_suc-le-suc, not-suc-le-zero}
use Rattle.std.specs.List.{flat_map, AllByRecursion as All}
use Rattle.std.proofs.ByRecursion.{All-get_or, All-from_get_or, All-append, All-weaker, All-map, all_kept_by}
use Rattle.std.proofs.lemmas.Bool.{cases_order}
use Rattle.trees.specs.Walks.{Apart}
use Rattle.trees.proofs.Sorted.{Sorted}

module _ {A : Type 0} where
  -- each element stands in the relation to those behind it
  abbrev pub Up : (A → A → Type 0) → List A → Type 0
  Up R [] = Unit {0}
  Up R (x ∷ xs) = All (R x) xs × Up R xs

  pub up_sorted : (R : A → A → Type 0) (d : A) (xs : List A) → Up R xs → Sorted d R xs
  up_sorted R d [] u i j l m = absurd (not-suc-le-zero m)
  up_sorted R d (x ∷ xs) u zero zero l m = absurd (not-suc-le-zero l)
  up_sorted R d (x ∷ xs) u zero (suc j) l m = All-get_or (R x) xs j d (le_of_suc-le-suc m) u.0
  up_sorted R d (x ∷ xs) u (suc i) zero l m = absurd (not-suc-le-zero l)
  up_sorted R d (x ∷ xs) u (suc i) (suc j) l m = up_sorted R d xs u.1 i j (le_of_suc-le-suc l) (le_of_suc-le-suc m)

  pub up_from_sorted : (R : A → A → Type 0) (d : A) (xs : List A) → Sorted d R xs → Up R xs
  up_from_sorted R d [] s = tt
  up_from_sorted R d (x ∷ xs) s = (All-from_get_or (R x) xs d (λ j l. s 0 (suc j) (suc-le-suc zero-le) (suc-le-suc l)), up_from_sorted R d xs (λ i j l m. s (suc i) (suc j) (suc-le-suc l) (suc-le-suc m)))

  pub up_weaker : (R S : A → A → Type 0) → ((x y : A) → R x y → S x y) → (xs : List A) → Up R xs → Up S xs
  up_weaker R S f [] u = tt
  up_weaker R S f (x ∷ xs) u = (All-weaker (R x) (S x) (f x) xs u.0, up_weaker R S f xs u.1)

  up_append : (R : A → A → Type 0) (xs ys : List A) → Up R xs → Up R ys → All (λ x. All (R x) ys) xs → Up R (xs ++ ys)
  up_append R [] ys u v c = v
  up_append R (x ∷ xs) ys u v c = (All-append (R x) xs ys u.0 c.0, up_append R xs ys u.1 v c.1)

  pub up_kept : (R : A → A → Type 0) (test : A → Bool) (xs : List A) → Up R xs → Up R (filter test xs)
  up_kept R test [] u = tt
  up_kept R test (x ∷ xs) u = go (test x) (up_kept R test xs u.1)
    where
      go : (b : Bool) → Up R (filter test xs) → Up R (cond b (x ∷ filter test xs) (filter test xs))
      go true v = (all_kept_by test (R x) xs u.0, v)
      go false v = v

  pub all_of : (P : A → Type 0) (xs : List A) → ((x : A) → P x) → All P xs
  all_of P [] f = tt
  all_of P (x ∷ xs) f = (f x, all_of P xs f)

  -- in a strict order no element stands twice
  pub sorted_apart : (R : A → A → Type 0) → ((x : A) → R x x → ⊥) → (d : A) (xs : List A) → Sorted d R xs → Apart d xs
  sorted_apart R strict d xs s i j l m e = go (cases_order i j)
    where
      go : (i ≡ j) ⊎ ((i < j) ⊎ (j < i)) → i ≡ j
      go (inl f) = f
      go (inr (inl f)) = absurd (strict _ (subst (λ (z : A). R (get_or xs i d) z) (sym e) (s i j f m)))
      go (inr (inr f)) = absurd (strict _ (subst (λ (z : A). R (get_or xs j d) z) e (s j i f l)))

module _ {A B : Type 0} where
  pub up_map : (R : B → B → Type 0) (f : A → B) (xs : List A) → Up (λ x y. R (f x) (f y)) xs → Up R (map f xs)
  up_map R f [] u = tt
  up_map R f (x ∷ xs) u = (All-map (R (f x)) f xs u.0, up_map R f xs u.1)

  pub all_joined : (P : B → Type 0) (f : A → List B) (xs : List A) → All (λ x. All P (f x)) xs → All P (flat_map f xs)
  all_joined P f [] e = tt
  all_joined P f (x ∷ xs) e = All-append P (f x) (flat_map f xs) e.0 (all_joined P f xs e.1)

  -- what holds of each x and y, in either order
  all_turned : (Q : B → A → Type 0) (xs : List A) (ys : List B) → All (λ x. All (λ y. Q y x) ys) xs → All (λ y. All (Q y) xs) ys
  all_turned Q xs [] e = tt
  all_turned Q xs (y ∷ ys) e = (All-weaker _ (Q y) (λ x q. q.0) xs e, all_turned Q xs ys (All-weaker _ (λ x. All (λ z. Q z x) ys) (λ x q. q.1) xs e))

  -- lists that rise, one behind the other
  pub up_joined : (R : B → B → Type 0) (f : A → List B) (xs : List A) → All (λ x. Up R (f x)) xs → Up (λ x y. All (λ a. All (R a) (f y)) (f x)) xs → Up R (flat_map f xs)
  up_joined R f [] e u = tt
  up_joined R f (x ∷ xs) e u = up_append R (f x) (flat_map f xs) e.0 (up_joined R f xs e.1 u.1)
      (All-weaker (λ a. All (λ y. All (R a) (f y)) xs) (λ a. All (R a) (flat_map f xs)) (λ a q. all_joined (R a) f xs q) (f x) (all_turned (λ a y. All (R a) (f y)) xs (f x) u.0))
