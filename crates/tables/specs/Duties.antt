-- A neighbour table keeps the duties of a network.
use Rattle.std.specs.Prelude.{◌≡◌, ℕ, ◌<◌, ◌≤◌, Bool, true, false, cond, ◌&&◌, count_by, nat_lt, slice_index, refl}
use Rattle.std.proofs.Common.{arith}
use Rattle.std.proofs.lemmas.List.Sums.{count_by-le-length}
use Rattle.std.proofs.lemmas.Bool.{and_parts, ltb-true, cond_both}
use Rattle.vertex_set.specs.Sets.{Set, ◌⊆◌, ◌∩◌, below}
use Rattle.vertex_set.proofs.Sets.{same_below}
use Rattle.network.specs.Networks.{Duties}
use Rattle.network.proofs.Strengths.{cond_grows, none_missing}
use Rattle.network.specs.Sizes.{WithinLimits}
use Rattle.tables.specs.Rows.{Rows, RowRight, RowsRight, row}
use Rattle.tables.specs.Neighbours.{neighbours_in, neighbour_network}
use Rattle.tables.specs.Counting.{count_grows, count_agrees, row_short}

module _ (t : Rows) (limits : WithinLimits 1024 t.vertices t.layers) (right : RowsRight t) where
  -- a row in which a strength counts is right
  counted : (l v : ℕ) → (nat_lt l t.layers && nat_lt v t.vertices) ≡ true → (v < t.vertices) × RowRight t.vertices v (row t l v)
  counted l v e =
      let both = and_parts (nat_lt l t.layers) (nat_lt v t.vertices) e in
      let inside = ltb-true v t.vertices both.1 in
      (inside, right l v (ltb-true l t.layers both.0) inside)

  -- no strength exceeds 1,023
  bounded : (l : ℕ) (s : Set) (v : ℕ) → neighbours_in t l s v ≤ 1023
  bounded l s v = cond_both (nat_lt l t.layers && nat_lt v t.vertices) (count_by s (row t l v)) 0 (λ (n : ℕ). n ≤ 1023) most (λ e. omega arith)
    where
      most : (nat_lt l t.layers && nat_lt v t.vertices) ≡ true → count_by s (row t l v) ≤ 1023
      most e = let c = counted l v e in omega (arith, row_short t.vertices v (row t l v) c.1 c.0, count_by-le-length s (row t l v), limits.1)

  -- in a larger group no vertex is weaker
  monotone : (l : ℕ) (s u : Set) (v : ℕ) → s ⊆ u → neighbours_in t l s v ≤ neighbours_in t l u v
  monotone l s u v h = cond_grows (nat_lt l t.layers && nat_lt v t.vertices) (count_grows s u (row t l v) h)

  -- members that are no vertices do not count
  local : (l : ℕ) (s : Set) (v : ℕ) → neighbours_in t l s v ≡ neighbours_in t l (s ∩ below t.vertices) v
  local l s v = go (nat_lt l t.layers && nat_lt v t.vertices) (counted l v)
    where
      go : (b : Bool) → (b ≡ true → (v < t.vertices) × RowRight t.vertices v (row t l v)) → cond b (count_by s (row t l v)) 0 ≡ cond b (count_by (s ∩ below t.vertices) (row t l v)) 0
      go true c = count_agrees s (s ∩ below t.vertices) (row t l v) (λ i m. same_below s t.vertices (slice_index (row t l v) i) ((c refl).1.inside i m))
      go false c = refl

  -- the duties, with the highest strength 1,023
  pub neighbour_duties : Duties 1023 (neighbour_network t)
  neighbour_duties = record {
    stated = omega arith;
    some_vertices = limits.0;
    few_vertices = limits.1;
    some_layers = limits.2;
    few_layers = limits.3;
    bounded = bounded;
    monotone = monotone;
    local = local;
    lacking = λ l s v. none_missing t.layers t.vertices l v (count_by s (row t l v));
  }
