-- Tests of tables that compute, for tables that are written out.
use Rattle.std.proofs.Common.{◌≡◌, ℕ, zero, suc, ◌+◌, ◌*◌, ◌<◌, ◌≤◌, Bool, true, not, ◌&&◌, eqb, ltb, leb, List, [], ◌∷◌, length, get_or, count_by, refl, subst, le_trans, arith}
use Rattle.std.specs.List.{AllByRecursion as All, list_all}
use Rattle.std.proofs.ByRecursion.{All-get_or, All-weaker, Decides-by_and}
use Rattle.std.proofs.lemmas.List.Sums.{count_by-le-length}
use Rattle.std.proofs.lemmas.Bool.{and_parts, leb-true, ltb-true, eqb-true, eqb-false, not-true, cond_both}
use Rattle.std.proofs.lemmas.Bool.Decides.{Decides-below_and}
use Rattle.vertex_set.specs.Sets.{Set, ◌∈◌}
use Rattle.vertex_set.specs.Lists.{elements}
use Rattle.vertex_set.proofs.Elements.{among_from}
use Rattle.network.specs.Networks.{Duties}
use Rattle.network.specs.Sizes.{WithinLimits}
use Rattle.tables.specs.Rows.{Rows, Shaped, RowsRight, MutualRows, row}
use Rattle.tables.specs.Neighbours.{neighbours_in, neighbour_network}
use Rattle.tables.specs.Refusals.{EachRule}
use Rattle.tables.specs.Duties.{neighbour_duties}
use Rattle.tables.specs.declared.error.TableError.TheVariants.{Size, Shape, Row, Mutual}
use Rattle.trees.proofs.Rising.{Up, up_sorted}

-- whether each number below n passes
abbrev pub all_below : (ℕ → Bool) → ℕ → Bool
all_below p zero = true
all_below p (suc n) = p n && all_below p n

pub below_passes : (p : ℕ → Bool) (n : ℕ) → all_below p n ≡ true → (i : ℕ) → i < n → p i ≡ true
below_passes p n e = (Decides-below_and p (λ i. p i ≡ true) (all_below p) (λ i. (λ f. f, λ f. f)) refl (λ m. refl) n).0 e

pub list_passes : {A : Type 0} (p : A → Bool) (xs : List A) → list_all p xs ≡ true → All (λ x. p x ≡ true) xs
list_passes p xs e = (Decides-by_and p (λ x. p x ≡ true) (list_all p) (λ x. (λ f. f, λ f. f)) refl (λ x ys. refl) xs).0 e

-- each element is smaller than those behind it
abbrev rises : List ℕ → Bool
rises [] = true
rises (x ∷ xs) = list_all (λ y. ltb x y) xs && rises xs

rises_up : (xs : List ℕ) → rises xs ≡ true → Up ◌<◌ xs
rises_up [] e = tt
rises_up (x ∷ xs) e = let both = and_parts (list_all (λ y. ltb x y) xs) (rises xs) e in (All-weaker (λ y. ltb x y ≡ true) (λ y. x < y) (ltb-true x) xs (list_passes (λ y. ltb x y) xs both.0), rises_up xs both.1)

-- in each layer, for each vertex
abbrev each_row : Rows → (ℕ → ℕ → Bool) → Bool
each_row t p = all_below (λ l. all_below (p l) t.vertices) t.layers

each_row_passes : (t : Rows) (p : ℕ → ℕ → Bool) → each_row t p ≡ true → (l v : ℕ) → l < t.layers → v < t.vertices → p l v ≡ true
each_row_passes t p e l v a b = below_passes (p l) t.vertices (below_passes (λ m. all_below (p m) t.vertices) t.layers e l a) v b

-- a test for each rule
abbrev sized_test : Rows → Bool
sized_test t = leb 1 t.vertices && (leb t.vertices 1024 && (leb 1 t.layers && leb t.layers 6))

abbrev shaped_test : Rows → Bool
shaped_test t = eqb (length t.starts) (t.layers * t.vertices + 1)
    && (eqb (get_or t.starts 0 0) 0
    && (all_below (λ r. leb (get_or t.starts r 0) (get_or t.starts (r + 1) 0)) (t.layers * t.vertices)
    && (eqb (get_or t.starts (t.layers * t.vertices) 0) (length t.neighbours)
    && leb (length t.neighbours) 65536)))

abbrev right_test : Rows → ℕ → ℕ → Bool
right_test t l v = rises (row t l v) && list_all (λ u. ltb u t.vertices && not (eqb u v)) (row t l v)

abbrev mutual_test : Rows → ℕ → ℕ → Bool
mutual_test t l v = list_all (λ u. elements (row t l u) v) (row t l v)

abbrev pub table_test : Rows → Bool
table_test t = sized_test t && (shaped_test t && (each_row t (right_test t) && each_row t (mutual_test t)))

sized : (t : Rows) → sized_test t ≡ true → WithinLimits 1024 t.vertices t.layers
sized t e =
    let a = and_parts (leb 1 t.vertices) _ e in
    let b = and_parts (leb t.vertices 1024) _ a.1 in
    let c = and_parts (leb 1 t.layers) _ b.1 in
    (leb-true 1 t.vertices a.0, leb-true t.vertices 1024 b.0, leb-true 1 t.layers c.0, leb-true t.layers 6 c.1)

shaped : (t : Rows) → shaped_test t ≡ true → Shaped t
shaped t e =
    let n = t.layers * t.vertices in
    let a = and_parts (eqb (length t.starts) (n + 1)) _ e in
    let b = and_parts (eqb (get_or t.starts 0 0) 0) _ a.1 in
    let c = and_parts (all_below (λ r. leb (get_or t.starts r 0) (get_or t.starts (r + 1) 0)) n) _ b.1 in
    let d = and_parts (eqb (get_or t.starts n 0) (length t.neighbours)) _ c.1 in (
      eqb-true (length t.starts) (n + 1) a.0,
      eqb-true (get_or t.starts 0 0) 0 b.0,
      λ r l. leb-true (get_or t.starts r 0) (get_or t.starts (r + 1) 0) (below_passes _ n c.0 r l),
      eqb-true (get_or t.starts n 0) (length t.neighbours) d.0,
      leb-true (length t.neighbours) 65536 d.1,
    )

right : (t : Rows) → each_row t (right_test t) ≡ true → RowsRight t
right t e l v a b =
    let both = and_parts (rises (row t l v)) _ (each_row_passes t (right_test t) e l v a b) in
    let inside = list_passes (λ u. ltb u t.vertices && not (eqb u v)) (row t l v) both.1 in
    record {
      ascending = up_sorted ◌<◌ 0 (row t l v) (rises_up (row t l v) both.0);
      inside = λ i m. ltb-true _ t.vertices (and_parts _ _ (All-get_or _ (row t l v) i 0 m inside)).0;
      others = λ i m. eqb-false _ v (not-true _ (and_parts (ltb (get_or (row t l v) i 0) t.vertices) _ (All-get_or _ (row t l v) i 0 m inside)).1);
    }

rows_are_mutual : (t : Rows) → each_row t (mutual_test t) ≡ true → MutualRows t
rows_are_mutual t e l v a b u m =
    let place = among_from (row t l v) u m in
    let passed = All-get_or _ (row t l v) place.0 0 place.1 (list_passes (λ w. elements (row t l w) v) (row t l v) (each_row_passes t (mutual_test t) e l v a b)) in
    subst (λ (w : ℕ). v ∈ elements (row t l w)) place.2 passed

-- a table that passes keeps the rules
pub table_rules : (t : Rows) → table_test t ≡ true → EachRule t
table_rules t e Size = sized t (and_parts (sized_test t) _ e).0
table_rules t e Shape = shaped t (and_parts (shaped_test t) _ (and_parts (sized_test t) _ e).1).0
table_rules t e Row = right t (and_parts (each_row t (right_test t)) _ (and_parts (shaped_test t) _ (and_parts (sized_test t) _ e).1).1).0
table_rules t e Mutual = rows_are_mutual t (and_parts (each_row t (right_test t)) _ (and_parts (shaped_test t) _ (and_parts (sized_test t) _ e).1).1).1

-- a table with rows of at most m neighbours has the duties with m for the highest strength
pub table_duties : (t : Rows) (m : ℕ) → table_test t ≡ true → each_row t (λ l v. leb (length (row t l v)) m) ≡ true → m ≤ 65535 → Duties m (neighbour_network t)
table_duties t m e short few =
    let rules = table_rules t e in
    let d = neighbour_duties t (rules Size) (rules Row) in
    record {
      stated = few;
      some_vertices = d.some_vertices;
      few_vertices = d.few_vertices;
      some_layers = d.some_layers;
      few_layers = d.few_layers;
      bounded = bounded;
      monotone = d.monotone;
      local = d.local;
      lacking = d.lacking;
    }
  where
    bounded : (l : ℕ) (s : Set) (v : ℕ) → neighbours_in t l s v ≤ m
    bounded l s v = cond_both (ltb l t.layers && ltb v t.vertices) (count_by s (row t l v)) 0 (λ (n : ℕ). n ≤ m) counted (λ f. omega arith)
      where
        counted : (ltb l t.layers && ltb v t.vertices) ≡ true → count_by s (row t l v) ≤ m
        counted f =
            let both = and_parts (ltb l t.layers) _ f in
            le_trans (count_by-le-length s (row t l v)) (leb-true (length (row t l v)) m (each_row_passes t (λ k u. leb (length (row t k u)) m) short l v (ltb-true l t.layers both.0) (ltb-true v t.vertices both.1)))
