-- A tree that computes, from a family of cores that are sets.
use Rattle.std.proofs.Common.{◌≡◌, ℕ, zero, suc, ◌+◌, ◌<◌, ◌≤◌, Bool, true, false, cond, not, ◌&&◌, ◌||◌, leb, ◌⊎◌, ◌↔◌, List, [], ◌∷◌, map, length, get_or, Some, None, filter, Option, sym, refl, ap, ◌∙◌, subst, inl, inr, suc-le-suc, zero-le, lt_trans, le_of_suc-le-suc, not-suc-le-zero, zero-add, arith}
use lib.ListN.{length-map}
use Rattle.std.specs.List.{range_with_len, ContainsAt as Has, flat_map, AllByRecursion as All}
use Rattle.std.specs.Str.{bytes_eq}
use Rattle.std.proofs.lemmas.Slice.Eq.{bytes_eq-Decides}
use Rattle.std.proofs.ByRecursion.{All-get_or, All-weaker, All-map, all_kept_by, kept_by_passes, has_append_left, has_append_right}
use Rattle.std.proofs.lemmas.List.FromFn.{length-range_with_len, get_or-range_with_len}
use Rattle.std.proofs.lemmas.Bool.{cases_eq, and_parts, and_from, both_ways, leb-true, le-leb, not-true, or_cases, or_left, or_right}
use Rattle.std.proofs.lemmas.List.{nil_from_length, get_or-map}
use Rattle.vertex_set.specs.Sets.{Set, ◌∈◌}
use Rattle.vertex_set.specs.Lists.{Ascending, Among}
use Rattle.cores.specs.Cores.{Order, Vector, VectorFor}
use Rattle.trees.specs.Vectors.{raised, Before, lnz}
use Rattle.trees.specs.Vectors.Before.{here, later}
use Rattle.trees.specs.Trees.{Family, Node, Tree, TreeOf, no_node, node_at, places, last, ChildIs}
use Rattle.trees.proofs.Sorted.{Sorted}
use Rattle.trees.proofs.Rising.{Up, up_sorted, up_weaker, up_kept, up_map, up_joined, all_of, all_joined}
use Rattle.trees.proofs.Same.{raised_fits}

-- elements of lists
module _ {A : Type 0} where
  has_first : (x : A) (xs : List A) → Has (x ∷ xs) x
  has_first x xs = (0, suc-le-suc zero-le, λ d. refl)

  has_later : (x y : A) (xs : List A) → Has xs y → Has (x ∷ xs) y
  has_later x y xs h = (suc h.0, suc-le-suc h.1, h.2)

  has_cases : (x y : A) (xs : List A) → Has (x ∷ xs) y → (x ≡ y) ⊎ Has xs y
  has_cases x y xs (zero, l, e) = inl (e x)
  has_cases x y xs (suc i, l, e) = inr (i, le_of_suc-le-suc l, e)

  has_kept : (test : A → Bool) (x : A) (xs : List A) → test x ≡ true → Has xs x → Has (filter test xs) x
  has_kept test x [] e h = absurd (not-suc-le-zero h.1)
  has_kept test x (y ∷ xs) e h = go (has_cases y x xs h) (test y) refl (has_kept test x xs e)
    where
      go : (y ≡ x) ⊎ Has xs x → (b : Bool) → test y ≡ b → (Has xs x → Has (filter test xs) x) → Has (cond b (y ∷ filter test xs) (filter test xs)) x
      go (inl f) true p rest = subst (λ (z : A). Has (y ∷ filter test xs) z) f (has_first y (filter test xs))
      go (inl f) false p rest = absurd (both_ways (test y) p (ap test f ∙ e))
      go (inr f) true p rest = has_later y x (filter test xs) (rest f)
      go (inr f) false p rest = rest f

-- numbers in turn
all_counting : (a b n : ℕ) → b ≤ a → All (λ x. b ≤ x) (range_with_len a n)
all_counting a b zero l = tt
all_counting a b (suc n) l = (l, all_counting (a + 1) b n (omega arith))

up_counting : (a n : ℕ) → Up ◌<◌ (range_with_len a n)
up_counting a zero = tt
up_counting a (suc n) = (All-weaker (λ x. a + 1 ≤ x) (λ x. a < x) (λ x l. omega arith) (range_with_len (a + 1) n) (all_counting (a + 1) (a + 1) n (omega arith)), up_counting (a + 1) n)

has_counting : (n v : ℕ) → v < n → Has (range_with_len 0 n) v
has_counting n v l = (v, omega (arith, length-range_with_len 0 n), λ d. get_or-range_with_len 0 n v d l ∙ zero-add v)

-- every vector of n demands of at most h, in dictionary order
abbrev pub grid : ℕ → ℕ → List Vector
grid h zero = [] ∷ []
grid h (suc n) = flat_map (λ a. map (λ (k : Vector). a ∷ k) (grid h n)) (range_with_len 0 (suc h))

module _ (ks : List Vector) where
  -- each of the vectors with a before it
  abbrev fronted : ℕ → List Vector
  fronted a = map (λ (k : Vector). a ∷ k) ks

  up_fronted : (xs : List ℕ) → Up ◌<◌ xs → Up Before ks → Up Before (flat_map fronted xs)
  up_fronted xs u v = up_joined Before fronted xs
      (all_of _ xs (λ a. up_map Before (λ (k : Vector). a ∷ k) ks (up_weaker Before (λ j k. Before (a ∷ j) (a ∷ k)) (λ j k b. later b) ks v)))
      (up_weaker ◌<◌ (λ a b. All (λ j. All (Before j) (fronted b)) (fronted a)) (λ a b l. All-map _ (λ (k : Vector). a ∷ k) ks (all_of _ ks (λ j. All-map (Before (a ∷ j)) (λ (k : Vector). b ∷ k) ks (all_of _ ks (λ k. here l))))) xs u)

  has_front : (a : ℕ) (k : Vector) → Has ks k → Has (fronted a) (a ∷ k)
  has_front a k h = (h.0, omega (arith, length-map ks (λ (j : Vector). a ∷ j), h.1), λ d. get_or-map (λ (j : Vector). a ∷ j) ks h.0 [] d h.1 ∙ ap (λ (j : Vector). a ∷ j) (h.2 []))

  has_fronted : (a : ℕ) (k : Vector) (xs : List ℕ) → Has xs a → Has ks k → Has (flat_map fronted xs) (a ∷ k)
  has_fronted a k [] h m = absurd (not-suc-le-zero h.1)
  has_fronted a k (x ∷ xs) h m = go (has_cases x a xs h) (has_fronted a k xs)
    where
      go : (x ≡ a) ⊎ Has xs a → (Has xs a → Has ks k → Has (flat_map fronted xs) (a ∷ k)) → Has (flat_map fronted (x ∷ xs)) (a ∷ k)
      go (inl e) rest = has_append_left (fronted x) (flat_map fronted xs) (a ∷ k) (subst (λ (y : ℕ). Has (fronted y) (a ∷ k)) (sym e) (has_front a k m))
      go (inr e) rest = has_append_right (fronted x) (flat_map fronted xs) (a ∷ k) (rest e m)

up_grid : (h n : ℕ) → Up Before (grid h n)
up_grid h zero = (tt, tt)
up_grid h (suc n) = up_fronted (grid h n) (range_with_len 0 (suc h)) (up_counting 0 (suc h)) (up_grid h n)

long_grid : (h n : ℕ) → All (λ k. length k ≡ n) (grid h n)
long_grid h zero = (refl, tt)
long_grid h (suc n) = all_joined (λ k. length k ≡ suc n) (fronted (grid h n)) (range_with_len 0 (suc h)) (all_of _ (range_with_len 0 (suc h)) (λ a. All-map (λ k. length k ≡ suc n) (λ k. a ∷ k) (grid h n) (All-weaker (λ k. length k ≡ n) (λ k. suc (length k) ≡ suc n) (λ k e. ap suc e) (grid h n) (long_grid h n))))

has_grid : (h n : ℕ) (k : Vector) → length k ≡ n → All (λ x. x ≤ h) k → Has (grid h n) k
has_grid h zero k e b = subst (λ (j : Vector). Has ([] ∷ []) j) (sym (nil_from_length k e)) (has_first [] [])
has_grid h (suc n) [] e b = absurd (omega arith)
has_grid h (suc n) (x ∷ k) e b = has_fronted (grid h n) x k (range_with_len 0 (suc h)) (has_counting (suc h) x (omega (arith, b.0))) (has_grid h n k (omega arith) b.1)

-- the place of k in the list
abbrev onward : Option ℕ → Option ℕ
onward None = None
onward (Some q) = Some (suc q)

abbrev pub place_of : List Vector → Vector → Option ℕ
place_of [] k = None
place_of (j ∷ ks) k = cond (bytes_eq j k) (Some 0) (onward (place_of ks k))

abbrev PlaceIs : List Vector → Vector → Option ℕ → Type 0
PlaceIs ks k None = (q : ℕ) → q < length ks → get_or ks q [] ≡ k → ⊥
PlaceIs ks k (Some q) = (q < length ks) × (get_or ks q [] ≡ k)

place_is : (ks : List Vector) (k : Vector) → PlaceIs ks k (place_of ks k)
place_is [] k = λ q l e. not-suc-le-zero l
place_is (j ∷ ks) k = go (bytes_eq j k) refl (place_of ks k) (place_is ks k)
  where
    nowhere : bytes_eq j k ≡ false → ((q : ℕ) → q < length ks → get_or ks q [] ≡ k → ⊥) → (q : ℕ) → q < length (j ∷ ks) → get_or (j ∷ ks) q [] ≡ k → ⊥
    nowhere e f zero l m = both_ways (bytes_eq j k) e ((bytes_eq-Decides j k).1 m)
    nowhere e f (suc q) l m = f q (le_of_suc-le-suc l) m

    go : (b : Bool) → bytes_eq j k ≡ b → (p : Option ℕ) → PlaceIs ks k p → PlaceIs (j ∷ ks) k (cond b (Some 0) (onward p))
    go true e p f = (suc-le-suc zero-le, (bytes_eq-Decides j k).0 e)
    go false e None f = nowhere e f
    go false e (Some q) f = (suc-le-suc f.0, f.1)

-- whether one of the first n vertices is a member
abbrev pub occupied : ℕ → Set → Bool
occupied zero s = false
occupied (suc n) s = s n || occupied n s

occupied_to : (n : ℕ) (s : Set) → occupied n s ≡ true → (v : ℕ) × (v ∈ s)
occupied_to zero s e = absurd (both_ways false refl e)
occupied_to (suc n) s e = go (or_cases (s n) (occupied n s) e) (occupied_to n s)
  where
    go : (s n ≡ true) ⊎ (occupied n s ≡ true) → (occupied n s ≡ true → (v : ℕ) × (v ∈ s)) → (v : ℕ) × (v ∈ s)
    go (inl a) rest = (n, a)
    go (inr a) rest = rest a

occupied_from : (n : ℕ) (s : Set) (v : ℕ) → v < n → v ∈ s → occupied n s ≡ true
occupied_from zero s v l e = absurd (not-suc-le-zero l)
occupied_from (suc n) s v l e = go (cases_eq v n) (occupied_from n s v)
  where
    go : (v ≡ n) ⊎ (v ≡ n → ⊥) → (v < n → v ∈ s → occupied n s ≡ true) → (s n || occupied n s) ≡ true
    go (inl a) rest = or_left (s n) (occupied n s) (subst (λ (u : ℕ). u ∈ s) a e)
    go (inr a) rest = or_right (s n) (occupied n s) (rest (omega arith) e)

-- the tree on o of the cores that a function gives, looked for among n vertices and demands of at most h
module _ (o : Order) (core : Vector → Set) (n h : ℕ) where
  abbrev pub grown_vectors : List Vector
  grown_vectors = filter (λ k. occupied n (core k)) (grid h (length o))

  abbrev pub grown_child : List Vector → Vector → ℕ → Option ℕ
  grown_child ks k i = cond (leb (lnz k) (suc i)) (place_of ks (raised k i)) None

  abbrev pub grown_stored : Vector → List ℕ
  grown_stored k = filter (λ v. core k v && not (core (raised k (last o)) v)) (range_with_len 0 n)

  abbrev pub grown_node : List Vector → Vector → Node
  grown_node ks k = record { vector = k; children = map (grown_child ks k) (range_with_len 0 (length o)); stored = grown_stored k }

  abbrev pub grown : Tree
  grown = record { order = o; nodes = map (grown_node grown_vectors) grown_vectors }

  module _ (c : Family) (same : (k : Vector) (v : ℕ) → VectorFor o k → (v ∈ core k) ↔ c k v) (inside : (k : Vector) (v : ℕ) → VectorFor o k → c k v → v < n) (bounded : (k : Vector) (v : ℕ) → VectorFor o k → c k v → All (λ x. x ≤ h) k) where
    abbrev ks : List Vector
    ks = grown_vectors

    fit : All (VectorFor o) ks
    fit = all_kept_by _ (VectorFor o) (grid h (length o)) (long_grid h (length o))

    ks_fits : (p : ℕ) → p < length ks → VectorFor o (get_or ks p [])
    ks_fits p l = All-get_or (VectorFor o) ks p [] l fit

    ks_nonempty : (p : ℕ) → p < length ks → (v : ℕ) × c (get_or ks p []) v
    ks_nonempty p l =
        let some = occupied_to n (core (get_or ks p [])) (All-get_or _ ks p [] l (kept_by_passes (λ k. occupied n (core k)) (grid h (length o)))) in
        (some.0, (same (get_or ks p []) some.0 (ks_fits p l)).0 some.1)

    ks_complete : (k : Vector) (v : ℕ) → VectorFor o k → c k v → Has ks k
    ks_complete k v e q = has_kept _ k (grid h (length o)) (occupied_from n (core k) v (inside k v e q) ((same k v e).1 q)) (has_grid h (length o) k e (bounded k v e q))

    ks_sorted : Sorted [] Before ks
    ks_sorted = up_sorted Before [] ks (up_kept Before _ (grid h (length o)) (up_grid h (length o)))

    many : places grown ≡ length ks
    many = length-map ks (grown_node ks)

    node_is : (p : ℕ) → p < places grown → node_at grown p ≡ grown_node ks (get_or ks p [])
    node_is p l = get_or-map (grown_node ks) ks p [] no_node (omega (arith, many))

    vector_is : (p : ℕ) → p < places grown → (node_at grown p).vector ≡ get_or ks p []
    vector_is p l = ap (λ (x : Node). x.vector) (node_is p l)

    child_is : (k : Vector) (i : ℕ) → ChildIs grown k i (grown_child ks k i)
    child_is k i = go (leb (lnz k) (suc i)) refl (place_of ks (raised k i)) (place_is ks (raised k i))
      where
        go : (b : Bool) → leb (lnz k) (suc i) ≡ b → (p : Option ℕ) → PlaceIs ks (raised k i) p → ChildIs grown k i (cond b p None)
        go true e None f = λ z q s. f q (omega (arith, many, s.0)) (sym (vector_is q s.0) ∙ s.1)
        go true e (Some q) f = let l : q < places grown = omega (arith, many, f.0) in (leb-true (lnz k) (suc i) e, (l, vector_is q l ∙ f.1))
        go false e p f = λ z. absurd (both_ways (leb (lnz k) (suc i)) e (le-leb (lnz k) (suc i) z))

    abbrev test : Vector → ℕ → Bool
    test k v = core k v && not (core (raised k (last o)) v)

    stored_to : (k : Vector) → VectorFor o k → (v : ℕ) → Among v (grown_stored k) → c k v × (c (raised k (last o)) v → ⊥)
    stored_to k f v a =
        let passed : test k v ≡ true = subst (λ (x : ℕ). test k x ≡ true) a.2 (All-get_or _ (grown_stored k) a.0 0 a.1 (kept_by_passes (test k) (range_with_len 0 n))) in
        let parts = and_parts (core k v) _ passed in
        ((same k v f).0 parts.0, λ q. both_ways _ (not-true _ parts.1) ((same (raised k (last o)) v (raised_fits o k _ f)).1 q))

    stored_from : (k : Vector) → VectorFor o k → (v : ℕ) → c k v × (c (raised k (last o)) v → ⊥) → Among v (grown_stored k)
    stored_from k f v (q, out) = let h = has_kept (test k) v (range_with_len 0 n) (and_from _ _ ((same k v f).1 q) (absent (core (raised k (last o)) v) refl)) (has_counting n v (inside k v f q)) in (h.0, h.1, h.2 0)
      where
        absent : (b : Bool) → core (raised k (last o)) v ≡ b → not b ≡ true
        absent true e = absurd (out ((same (raised k (last o)) v (raised_fits o k _ f)).0 e))
        absent false e = refl

    pub grown_right : TreeOf c grown
    grown_right = record {
      fits = λ p l. rw (vector_is p l) (ks_fits p (omega (arith, many)));
      sorted = λ p q l m. rw (vector_is p (lt_trans l m), vector_is q m) (ks_sorted p q l (omega (arith, many)));
      nonempty = λ p l. rw (vector_is p l) (ks_nonempty p (omega (arith, many)));
      complete = λ k v e q. let i = ks_complete k v e q in let l : i.0 < places grown = omega (arith, many, i.1) in (i.0, (l, vector_is i.0 l ∙ i.2 []));
      slots = λ p l. ap (λ (x : Node). length x.children) (node_is p l) ∙ length-map (range_with_len 0 (length o)) (grown_child ks (get_or ks p [])) ∙ length-range_with_len 0 (length o);
      child = λ p i l m. subst (λ (x : Node). ChildIs grown x.vector i (get_or x.children i None)) (sym (node_is p l)) (subst (λ (x : Option ℕ). ChildIs grown (get_or ks p []) i x) (sym (slot p i m)) (child_is (get_or ks p []) i));
      ascending = λ p l. subst (λ (x : Node). Ascending x.stored) (sym (node_is p l)) (up_sorted ◌<◌ 0 (grown_stored (get_or ks p [])) (up_kept ◌<◌ _ (range_with_len 0 n) (up_counting 0 n)));
      stored = λ p v l. subst (λ (x : Node). Among v x.stored ↔ (c x.vector v × (c (raised x.vector (last o)) v → ⊥))) (sym (node_is p l)) (stored_to (get_or ks p []) (ks_fits p (omega (arith, many))) v, stored_from (get_or ks p []) (ks_fits p (omega (arith, many))) v);
    }
      where
        slot : (p i : ℕ) → i < length o → get_or (map (grown_child ks (get_or ks p [])) (range_with_len 0 (length o))) i None ≡ grown_child ks (get_or ks p []) i
        slot p i m = get_or-map (grown_child ks (get_or ks p [])) (range_with_len 0 (length o)) i 0 None (omega (arith, length-range_with_len 0 (length o))) ∙ ap (grown_child ks (get_or ks p [])) (get_or-range_with_len 0 (length o) i 0 m ∙ zero-add i)
