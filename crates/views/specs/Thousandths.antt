-- Parts of a whole, in thousandths.
use Rattle.std.specs.Prelude.{◌≡◌, ℕ, ◌*◌, ◌/◌, ◌≤◌, Bool, true, false, cond, ◌==◌, ◌≢◌, refl}
use Rattle.std.proofs.Math.Nat.{div-le_of_le-mul}
use Rattle.std.proofs.Common.{div-mul-le_self, arith}
use Rattle.std.proofs.lemmas.Nat.{le-div}
use Rattle.std.proofs.lemmas.Bool.{cond_both, cond-true, eq-eqb, eqb-false}
use Rattle.views.specs.Views.{thousandths}

-- of nothing there is no part
pub none_of_nothing : (part whole : ℕ) → whole ≡ 0 → thousandths part whole ≡ 0
none_of_nothing part whole h = cond-true (whole == 0) 0 (1000 * part / whole) (eq-eqb whole 0 h)

-- a part is at most 1,000 thousandths
pub at_most_whole : (part whole : ℕ) → part ≤ whole → thousandths part whole ≤ 1000
at_most_whole part whole h = cond_both (whole == 0) 0 (1000 * part / whole) (λ (n : ℕ). n ≤ 1000) (λ e. omega arith) (λ e. div-le_of_le-mul whole (omega arith))

-- a larger part has no fewer thousandths
pub more_of_more : (p q whole : ℕ) → p ≤ q → thousandths p whole ≤ thousandths q whole
more_of_more p q whole h = go (whole == 0) (eqb-false whole 0)
  where
    go : (b : Bool) → (b ≡ false → whole ≢ 0) → cond b 0 (1000 * p / whole) ≤ cond b 0 (1000 * q / whole)
    go true some = omega arith
    go false some = le-div (1000 * p / whole) (1000 * q) whole (omega (arith, some refl)) (omega (arith, div-mul-le_self (1000 * p) whole))
