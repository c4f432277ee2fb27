-- Lists that a strict order sorts: they are known by their elements.
use Rattle.std.proofs.Common.{◌≡◌, ℕ, zero, suc, ◌<◌, List, [], ◌∷◌, length, get_or, sym, refl, ◌∙◌, subst, suc-le-suc, zero-le, le_of_suc-le-suc, not-suc-le-zero, arith}

module _ {A : Type 0} (d : A) where
  -- x stands in the list
  abbrev pub Element : A → List A → Type 0
  Element x xs = (i : ℕ) × (i < length xs) × (get_or xs i d ≡ x)

  -- each element stands in the relation to those behind it
  abbrev pub Sorted : (A → A → Type 0) → List A → Type 0
  Sorted R xs = (i j : ℕ) → i < j → j < length xs → R (get_or xs i d) (get_or xs j d)

  -- each element of xs is one of ys
  abbrev pub Within : List A → List A → Type 0
  Within xs ys = (i : ℕ) → i < length xs → Element (get_or xs i d) ys

module _ {A : Type 0} (d : A) (R : A → A → Type 0) (strict : (a : A) → R a a → ⊥) (trans : (a b c : A) → R a b → R b c → R a c) where
  same_head : (x y : A) (xs ys : List A) → Sorted d R (x ∷ xs) → Sorted d R (y ∷ ys) → (i j : ℕ) → i < length (x ∷ xs) → j < length (y ∷ ys) → get_or (x ∷ xs) i d ≡ y → get_or (y ∷ ys) j d ≡ x → x ≡ y
  same_head x y xs ys s t zero j l m e f = e
  same_head x y xs ys s t (suc i) zero l m e f = sym f
  same_head x y xs ys s t (suc i) (suc j) l m e f = absurd (strict x (trans x y x (subst (λ (z : A). R x z) e (s 0 (suc i) (omega arith) l)) (subst (λ (z : A). R y z) f (t 0 (suc j) (omega arith) m))))

  rest_within : (x y : A) (xs ys : List A) → Sorted d R (x ∷ xs) → x ≡ y → Within d (x ∷ xs) (y ∷ ys) → Within d xs ys
  rest_within x y xs ys s e w i l = go (w (suc i) (suc-le-suc l))
    where
      go : Element d (get_or xs i d) (y ∷ ys) → Element d (get_or xs i d) ys
      go (zero, m, f) = absurd (strict x (subst (λ (z : A). R x z) (sym f ∙ sym e) (s 0 (suc i) (omega arith) (suc-le-suc l))))
      go (suc j, m, f) = (j, le_of_suc-le-suc m, f)

  rest_sorted : (x : A) (xs : List A) → Sorted d R (x ∷ xs) → Sorted d R xs
  rest_sorted x xs s i j l m = s (suc i) (suc j) (suc-le-suc l) (suc-le-suc m)

  -- two sorted lists with the same elements are equal
  pub same_sorted : (xs ys : List A) → Sorted d R xs → Sorted d R ys → Within d xs ys → Within d ys xs → xs ≡ ys
  same_sorted [] [] s t v w = refl
  same_sorted [] (y ∷ ys) s t v w = absurd (not-suc-le-zero (w 0 (omega arith)).1)
  same_sorted (x ∷ xs) [] s t v w = absurd (not-suc-le-zero (v 0 (omega arith)).1)
  same_sorted (x ∷ xs) (y ∷ ys) s t v w =
      let a = v 0 (suc-le-suc zero-le) in
      let b = w 0 (suc-le-suc zero-le) in
      let e : x ≡ y = same_head x y xs ys s t b.0 a.0 b.1 a.1 b.2 a.2 in
      let r : xs ≡ ys = same_sorted xs ys (rest_sorted x xs s) (rest_sorted y ys t) (rest_within x y xs ys s e v) (rest_within y x ys xs t (sym e) w) in
      cc
