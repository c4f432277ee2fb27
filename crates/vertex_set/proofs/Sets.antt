-- Sets with and without a vertex, and cut off at a number.
use Rattle.std.proofs.Common.{◌≡◌, ℕ, ◌<◌, Bool, true, false, not, ◌&&◌, ◌||◌, sym, refl, ap, ◌∙◌}
use Rattle.std.proofs.Math.Bool.{and-true}
use Rattle.std.proofs.lemmas.Bool.{eq-eqb, ne_eqb, lt-ltb, and_right, or_left, not_from_true}
use Rattle.vertex_set.specs.Sets.{Set, ◌∩◌, below, with_vertex, without_vertex}

pub with_here : (s : Set) (v : ℕ) → with_vertex s v v ≡ true
with_here s v = or_left _ _ (eq-eqb v v refl)

pub with_other : (s : Set) (v u : ℕ) → (u ≡ v → ⊥) → with_vertex s v u ≡ s u
with_other s v u d = ap (λ (b : Bool). b || s u) (ne_eqb u v d)

pub without_here : (s : Set) (v : ℕ) → without_vertex s v v ≡ false
without_here s v = and_right _ _ (not_from_true _ (eq-eqb v v refl))

pub without_other : (s : Set) (v u : ℕ) → (u ≡ v → ⊥) → without_vertex s v u ≡ s u
without_other s v u d = ap (λ (b : Bool). s u && not b) (ne_eqb u v d) ∙ and-true (s u)

-- below n, what is cut off at n is as before
pub same_below : (s : Set) (n v : ℕ) → v < n → s v ≡ (s ∩ below n) v
same_below s n v l = sym (ap (λ (b : Bool). s v && b) (lt-ltb v n l) ∙ and-true (s v))
