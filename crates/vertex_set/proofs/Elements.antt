-- The elements of a list, by their places.
use Rattle.std.proofs.Common.{◌≡◌, ℕ, zero, suc, ◌<◌, ◌≤◌, true, eqb, ◌⊎◌, List, [], ◌∷◌, length, get_or, sym, inl, inr, arith}
use Rattle.std.proofs.lemmas.Bool.{false≢true, cases_lt, eq-eqb, eqb-true, or_cases, or_left, or_right}
use Rattle.vertex_set.specs.Sets.{◌∈◌}
use Rattle.vertex_set.specs.Lists.{Ascending, Among, elements}

-- what stands at a place is an element
pub element_from : (xs : List ℕ) (v i : ℕ) → i < length xs → get_or xs i 0 ≡ v → v ∈ elements xs
element_from [] v i l e = absurd (omega arith)
element_from (x ∷ xs) v zero l e = or_left (eqb v x) (elements xs v) (eq-eqb v x (sym e))
element_from (x ∷ xs) v (suc i) l e = or_right (eqb v x) (elements xs v) (element_from xs v i (omega arith) e)

-- an element stands at a place
pub among_from : (xs : List ℕ) (v : ℕ) → v ∈ elements xs → Among v xs
among_from [] v h = absurd (false≢true h)
among_from (x ∷ xs) v h = go (or_cases (eqb v x) (elements xs v) h) (among_from xs v)
  where
    go : (eqb v x ≡ true) ⊎ (elements xs v ≡ true) → (v ∈ elements xs → Among v xs) → Among v (x ∷ xs)
    go (inl e) later = (0, omega arith, sym (eqb-true v x e))
    go (inr e) later = let a = later e in (suc a.0, omega (arith, a.1), a.2)

-- of two places of an ascending list the later one has no less
pub ascending_rises : (xs : List ℕ) → Ascending xs → (i j : ℕ) → i ≤ j → j < length xs → get_or xs i 0 ≤ get_or xs j 0
ascending_rises xs up i j l m = go (cases_lt i j)
  where
    go : (i < j) ⊎ (j ≤ i) → get_or xs i 0 ≤ get_or xs j 0
    go (inl n) = omega (arith, up i j n m)
    go (inr n) = let e : i ≡ j = omega arith in rw e (omega arith)
