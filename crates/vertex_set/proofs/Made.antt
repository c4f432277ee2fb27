-- Arrays that are made from a function of the index.
use Rattle.std.proofs.Common.{◌≡◌, ℕ, zero, suc, ◌+◌, ◌<◌, List, get_or, subst, sym, not-suc-le-zero, arith}
use Rattle.std.specs.Array.{IsFromFnResult, IsFromFnResultFrom}
use Rattle.std.specs.Fn.{Called}
use denote.Param.Members.{Mut}

module _ {F B : Type 0} {g : Mut F (ℕ × Unit {0}) B} (P : ℕ → B → Type 0) (d : B) where
  from : {f : F} (ys : List B) (i n k j : ℕ) → IsFromFnResultFrom g f ys i n → ((i : ℕ) (y : B) (q : F) → Called g f (i, tt) y q → (q ≡ f) × P i y) → k < n → i + k ≡ j → P j (get_or ys j d)
  from ys i zero k j made each l e = absurd (not-suc-le-zero l)
  from ys i (suc n) zero j (q, y, at, call, rest) each l e = let here : i ≡ j = omega arith in subst (λ (x : ℕ). P x (get_or ys x d)) here (subst (P i) (sym (at.1 d)) (each i y q call).1)
  from {f} ys i (suc n) (suc k) j (q, y, at, call, rest) each l e = from ys (i + 1) n k j (subst (λ (p : F). IsFromFnResultFrom g p ys (i + 1) n) (each i y q call).0 rest) each (omega arith) (omega arith)

  -- what each call gives holds of the element at its index
  pub made_each : {f : F} {ys : List B} {n : ℕ} → IsFromFnResult g f ys n → ((i : ℕ) (y : B) (q : F) → Called g f (i, tt) y q → (q ≡ f) × P i y) → (k : ℕ) → k < n → P k (get_or ys k d)
  made_each {f} {ys} {n} made each k l = from ys 0 n k k made.each each l (omega arith)
