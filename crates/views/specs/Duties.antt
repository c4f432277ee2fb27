-- A view keeps the duties of a network, if what is beneath does.
use Rattle.std.specs.Prelude.{◌≡◌, ℕ, ◌≤◌, Bool, true, false, cond, ◌&&◌, refl}
use Rattle.std.proofs.Common.{sym, ◌∙◌, ap, le_antisymm, arith}
use Rattle.std.proofs.lemmas.Bool.{and_parts, and_from, cond_both, ltb-true, lt-ltb}
use Rattle.vertex_set.specs.Sets.{Set, ◌⊆◌, Same, ◌∩◌, below}
use Rattle.network.specs.Networks.{Multilayer, Duties}
use Rattle.network.proofs.Strengths.{cond_grows}
use Rattle.views.specs.Views.{restricted, thousandths, relative}
use Rattle.views.specs.Thousandths.{none_of_nothing, at_most_whole, more_of_more}

module _ (highest : ℕ) (m : Set) (g : Multilayer) (d : Duties highest g) where
  -- the parts in m of two groups
  parts : (s t : Set) → s ⊆ t → (s ∩ m) ⊆ (t ∩ m)
  parts s t h v e = let both = and_parts (s v) (m v) e in and_from (t v) (m v) (h v both.0) both.1

  -- the order in which a group is cut off does not matter
  cut : (s : Set) → (s ∩ m ∩ below g.vertices) ≡ (s ∩ below g.vertices ∩ m ∩ below g.vertices)
  cut s i v = go (s v) (m v) (below g.vertices v) i
    where
      go : (a b c : Bool) → (a && b && c) ≡ (a && c && b && c)
      go true true true = refl
      go true true false = refl
      go true false true = refl
      go true false false = refl
      go false b c = refl

  pub restricted_duties : Duties highest (restricted m g)
  restricted_duties = record {
    stated = d.stated;
    some_vertices = d.some_vertices;
    few_vertices = d.few_vertices;
    some_layers = d.some_layers;
    few_layers = d.few_layers;
    bounded = λ l s v. cond_both (m v) (g.strength l (s ∩ m) v) 0 (λ (n : ℕ). n ≤ highest) (λ e. d.bounded l (s ∩ m) v) (λ e. omega arith);
    monotone = λ l s t v h. cond_grows (m v) (d.monotone l (s ∩ m) (t ∩ m) v (parts s t h));
    local = λ l s v. ap (λ (n : ℕ). cond (m v) n 0) (d.local l (s ∩ m) v ∙ ap (λ (x : Set). g.strength l x v) (cut s) ∙ sym (d.local l (s ∩ below g.vertices ∩ m) v));
    lacking = λ l s v a. cond_both (m v) (g.strength l (s ∩ m) v) 0 (λ (n : ℕ). n ≡ 0) (λ e. d.lacking l (s ∩ m) v a) (λ e. refl);
  }

module _ (highest : ℕ) (g : Multilayer) (d : Duties highest g) where
  -- nobody is stronger in a group than among all vertices
  part_of_whole : (l : ℕ) (s : Set) (v : ℕ) → g.strength l s v ≤ g.strength l (below g.vertices) v
  part_of_whole l s v = rw (d.local l s v) (d.monotone l (s ∩ below g.vertices) (below g.vertices) v (λ u e. (and_parts (s u) (below g.vertices u) e).1))

  -- the strength in a set of all that a set can have is that among all vertices
  pub whole_of_all : (l : ℕ) (s : Set) (v n : ℕ) → Same s (below 1024) → n ≡ g.strength l s v → n ≡ g.strength l (below g.vertices) v
  whole_of_all l s v n h e = e ∙ le_antisymm (part_of_whole l s v) (d.monotone l (below g.vertices) s v (λ u m. h u ∙ lt-ltb u 1024 (omega (arith, ltb-true u g.vertices m, d.few_vertices))))

  pub relative_duties : Duties 1000 (relative g)
  relative_duties = record {
    stated = omega arith;
    some_vertices = d.some_vertices;
    few_vertices = d.few_vertices;
    some_layers = d.some_layers;
    few_layers = d.few_layers;
    bounded = λ l s v. at_most_whole (g.strength l s v) (g.strength l (below g.vertices) v) (part_of_whole l s v);
    monotone = λ l s t v h. more_of_more (g.strength l s v) (g.strength l t v) (g.strength l (below g.vertices) v) (d.monotone l s t v h);
    local = λ l s v. ap (λ (n : ℕ). thousandths n (g.strength l (below g.vertices) v)) (d.local l s v);
    lacking = λ l s v a. none_of_nothing (g.strength l s v) (g.strength l (below g.vertices) v) (d.lacking l (below g.vertices) v a);
  }
