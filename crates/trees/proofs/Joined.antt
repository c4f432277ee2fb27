-- Lists that are laid one behind the other.
use Rattle.std.proofs.Common.{◌≡◌, ℕ, zero, suc, ◌+◌, ◌-◌, ◌<◌, ◌≤◌, ◌⊎◌, ◌↔◌, List, [], ◌∷◌, ◌++◌, length, get_or, take, drop, sum_by, sym, refl, ap, ◌∙◌, ap₂, inl, inr, suc-le-suc, zero-le, le_of_suc-le-suc, not-suc-le-zero, add-one, arith}
use Rattle.std.specs.List.{flat_map, between}
use Rattle.std.proofs.lemmas.List.{length-append, get_or_append_left, get_or-append_right, drop_more}
use Rattle.std.proofs.lemmas.List.Sums.{sum_by-cons}
use Rattle.std.proofs.lemmas.Bool.{cases_lt}
use Rattle.std.proofs.lemmas.List.Edits.{length-between, get_or-between}
use Rattle.trees.specs.Walks.{Apart}
use Rattle.trees.proofs.Sorted.{Element}

module _ {B : Type 0} (z : B) where
  element_append : (v : B) (xs ys : List B) → Element z v (xs ++ ys) ↔ (Element z v xs ⊎ Element z v ys)
  element_append v xs ys = (λ a. go a (cases_lt a.0 (length xs)), back)
    where
      go : (a : Element z v (xs ++ ys)) → (a.0 < length xs) ⊎ (length xs ≤ a.0) → Element z v xs ⊎ Element z v ys
      go a (inl l) = inl (a.0, l, sym (get_or_append_left xs ys z a.0 l) ∙ a.2)
      go a (inr l) = inr (a.0 - length xs, omega (arith, length-append xs ys, a.1), sym (get_or-append_right xs ys (length xs) a.0 z refl l) ∙ a.2)

      back : Element z v xs ⊎ Element z v ys → Element z v (xs ++ ys)
      back (inl a) = (a.0, omega (arith, length-append xs ys, a.1), get_or_append_left xs ys z a.0 a.1 ∙ a.2)
      back (inr a) =
          let there : length xs + a.0 - length xs ≡ a.0 = omega arith in
          (length xs + a.0, omega (arith, length-append xs ys, a.1), get_or-append_right xs ys (length xs) (length xs + a.0) z refl (omega arith) ∙ ap (λ (i : ℕ). get_or ys i z) there ∙ a.2)

  drop_past : (xs ys : List B) (n : ℕ) → drop (length xs + n) (xs ++ ys) ≡ drop n ys
  drop_past [] ys n = let e : 0 + n ≡ n = omega arith in ap (λ (m : ℕ). drop m ys) e
  drop_past (x ∷ xs) ys n = let e : suc (length xs) + n ≡ suc (length xs + n) = omega arith in ap (λ (m : ℕ). drop m (x ∷ xs ++ ys)) e ∙ drop_past xs ys n

  take_past : (xs ys : List B) (n : ℕ) → take (length xs + n) (xs ++ ys) ≡ xs ++ take n ys
  take_past [] ys n = let e : 0 + n ≡ n = omega arith in ap (λ (m : ℕ). take m ys) e
  take_past (x ∷ xs) ys n = let e : suc (length xs) + n ≡ suc (length xs + n) = omega arith in ap (λ (m : ℕ). take m (x ∷ xs ++ ys)) e ∙ ap (λ (zs : List B). x ∷ zs) (take_past xs ys n)

  -- lists that have nothing in common have nothing twice together
  pub apart_append : (xs ys : List B) → Apart z xs → Apart z ys → ((v : B) → Element z v xs → Element z v ys → ⊥) → Apart z (xs ++ ys)
  apart_append xs ys a b c i j l m e = go (cases_lt i (length xs)) (cases_lt j (length xs))
    where
      left : (h : ℕ) → h < length xs → get_or (xs ++ ys) h z ≡ get_or xs h z
      left h k = get_or_append_left xs ys z h k

      right : (h : ℕ) → length xs ≤ h → get_or (xs ++ ys) h z ≡ get_or ys (h - length xs) z
      right h k = get_or-append_right xs ys (length xs) h z refl k

      go : (i < length xs) ⊎ (length xs ≤ i) → (j < length xs) ⊎ (length xs ≤ j) → i ≡ j
      go (inl p) (inl q) = a i j p q (sym (left i p) ∙ e ∙ left j q)
      go (inl p) (inr q) = absurd (c (get_or xs i z) (i, p, refl) (j - length xs, omega (arith, length-append xs ys), sym (right j q) ∙ sym e ∙ left i p))
      go (inr p) (inl q) = absurd (c (get_or xs j z) (j, q, refl) (i - length xs, omega (arith, length-append xs ys), sym (right i p) ∙ e ∙ left j q))
      go (inr p) (inr q) = omega (arith, b (i - length xs) (j - length xs) (omega (arith, length-append xs ys)) (omega (arith, length-append xs ys)) (sym (right i p) ∙ e ∙ right j q))

module _ {A B : Type 0} (f : A → List B) (d : A) (z : B) where
  -- what stands in one of the lists stands in them all together
  pub element_joined : (v : B) (xs : List A) → Element z v (flat_map f xs) ↔ ((i : ℕ) × (i < length xs) × Element z v (f (get_or xs i d)))
  element_joined v [] = (λ a. absurd (not-suc-le-zero a.1), λ a. absurd (not-suc-le-zero a.1))
  element_joined v (x ∷ xs) = (λ a. to ((element_append z v (f x) (flat_map f xs)).0 a) (element_joined v xs).0, λ a. (element_append z v (f x) (flat_map f xs)).1 (back a (element_joined v xs).1))
    where
      to : Element z v (f x) ⊎ Element z v (flat_map f xs) → (Element z v (flat_map f xs) → (i : ℕ) × (i < length xs) × Element z v (f (get_or xs i d))) → (i : ℕ) × (i < length (x ∷ xs)) × Element z v (f (get_or (x ∷ xs) i d))
      to (inl a) rest = (0, suc-le-suc zero-le, a)
      to (inr a) rest = let b = rest a in (suc b.0, suc-le-suc b.1, b.2)

      back : (i : ℕ) × (i < length (x ∷ xs)) × Element z v (f (get_or (x ∷ xs) i d)) → ((i : ℕ) × (i < length xs) × Element z v (f (get_or xs i d)) → Element z v (flat_map f xs)) → Element z v (f x) ⊎ Element z v (flat_map f xs)
      back (zero, l, a) rest = inl a
      back (suc i, l, a) rest = inr (rest (i, le_of_suc-le-suc l, a))

  -- how long the first n lists are together
  abbrev pub upto : List A → ℕ → ℕ
  upto xs n = sum_by (λ (x : A). length (f x)) (take n xs)

  pub joined_length : (xs : List A) → length (flat_map f xs) ≡ sum_by (λ (x : A). length (f x)) xs
  joined_length [] = refl
  joined_length (x ∷ xs) = length-append (f x) (flat_map f xs) ∙ ap (λ (n : ℕ). length (f x) + n) (joined_length xs) ∙ sym (sum_by-cons (λ (y : A). length (f y)) x xs)

  drop_joined : (xs : List A) (n : ℕ) → drop (upto xs n) (flat_map f xs) ≡ flat_map f (drop n xs)
  drop_joined xs zero = refl
  drop_joined [] (suc n) = refl
  drop_joined (x ∷ xs) (suc n) = ap (λ (m : ℕ). drop m (f x ++ flat_map f xs)) (sum_by-cons (λ (y : A). length (f y)) x (take n xs)) ∙ drop_past z (f x) (flat_map f xs) (upto xs n) ∙ drop_joined xs n

  take_joined : (xs : List A) (n : ℕ) → take (upto xs n) (flat_map f xs) ≡ flat_map f (take n xs)
  take_joined xs zero = refl
  take_joined [] (suc n) = refl
  take_joined (x ∷ xs) (suc n) = ap (λ (m : ℕ). take m (f x ++ flat_map f xs)) (sum_by-cons (λ (y : A). length (f y)) x (take n xs)) ∙ take_past z (f x) (flat_map f xs) (upto xs n) ∙ ap (λ (zs : List B). f x ++ zs) (take_joined xs n)

  -- the first m and n lists differ by the n - m that follow the first m
  upto_apart : (xs : List A) (m n : ℕ) → m ≤ n → upto xs n - upto xs m ≡ upto (drop m xs) (n - m)
  upto_apart xs zero n l =
      let none : upto xs n - 0 ≡ upto xs n = omega arith in
      let e : n - 0 ≡ n = omega arith in
      none ∙ ap (λ (k : ℕ). upto xs k) (sym e)
  upto_apart xs (suc m) zero l = absurd (not-suc-le-zero l)
  upto_apart [] (suc m) (suc n) l = go (suc n - suc m)
    where
      go : (k : ℕ) → 0 ≡ upto [] k
      go zero = refl
      go (suc k) = refl
  upto_apart (x ∷ xs) (suc m) (suc n) l =
      let e : suc n - suc m ≡ n - m = omega arith in
      let long : upto (x ∷ xs) (suc n) ≡ length (f x) + upto xs n = sum_by-cons (λ (y : A). length (f y)) x (take n xs) in
      let short : upto (x ∷ xs) (suc m) ≡ length (f x) + upto xs m = sum_by-cons (λ (y : A). length (f y)) x (take m xs) in
      let rest = upto_apart xs m n (le_of_suc-le-suc l) in
      let apart : upto (x ∷ xs) (suc n) - upto (x ∷ xs) (suc m) ≡ upto xs n - upto xs m = omega arith in
      apart ∙ rest ∙ ap (λ (k : ℕ). upto (drop m xs) k) (sym e)

  -- the lists from m up to n lie side by side
  between_joined : (xs : List A) (m n : ℕ) → m ≤ n → between (upto xs m) (upto xs n) (flat_map f xs) ≡ flat_map f (between m n xs)
  between_joined xs m n l =
      ap₂ (λ (k : ℕ) (ys : List B). take k ys) (upto_apart xs m n l) (drop_joined xs m) ∙ take_joined (drop m xs) (n - m)

  pub element_between : (v : B) (xs : List A) (m n : ℕ) → m ≤ n → n ≤ length xs → Element z v (between (upto xs m) (upto xs n) (flat_map f xs)) ↔ ((i : ℕ) × (m ≤ i) × (i < n) × Element z v (f (get_or xs i d)))
  element_between v xs m n l h = rw (between_joined xs m n l) (to, back)
    where
      to : Element z v (flat_map f (between m n xs)) → (i : ℕ) × (m ≤ i) × (i < n) × Element z v (f (get_or xs i d))
      to a =
          let b = (element_joined v (between m n xs)).0 a in
          let inside : m + b.0 < n = omega (arith, length-between xs m n h, b.1) in
          (m + b.0, omega arith, inside, rw (get_or-between xs m n b.0 d inside) at b.2)

      back : (i : ℕ) × (m ≤ i) × (i < n) × Element z v (f (get_or xs i d)) → Element z v (flat_map f (between m n xs))
      back (i, a, b, e) =
          let there : m + (i - m) ≡ i = omega arith in
          (element_joined v (between m n xs)).1 (i - m, omega (arith, length-between xs m n h), rw (get_or-between xs m n (i - m) d (omega arith), there) e)

  -- the lists from m up to n are that at m and those behind it
  pub between_first : (xs : List A) (m n : ℕ) → m < n → n ≤ length xs → between (upto xs m) (upto xs n) (flat_map f xs) ≡ f (get_or xs m d) ++ between (upto xs (suc m)) (upto xs n) (flat_map f xs)
  between_first xs m n l h =
      let more : n - m ≡ suc (n - suc m) = omega arith in
      between_joined xs m n (omega arith)
      ∙ ap (flat_map f) (ap₂ (λ (k : ℕ) (ys : List A). take k ys) more (drop_more xs m d (omega arith) ∙ ap (λ (k : ℕ). get_or xs m d ∷ drop k xs) (add-one m)))
      ∙ ap (λ (ys : List B). f (get_or xs m d) ++ ys) (sym (between_joined xs (suc m) n l))
