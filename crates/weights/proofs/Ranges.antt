-- Tests of all numbers below one.
use Rattle.std.proofs.Common.{◌≡◌, ℕ, ◌<◌, Bool, true, false, IsTrue, ◌↔◌, List, length, get_or, MatchBool, MatchOption, Option, subst, refl, arith}
use Rattle.std.proofs.iter.Yields.{nat_range_steps}
use Rattle.std.proofs.lemmas.Iterator.{cases_from_all, YieldsList-from_range}
use Rattle.std.proofs.lemmas.Bool.{false≢true}
use Rattle.std.proofs.lemmas.List.FromFn.{length-range_with_len, get_or-range_with_len}
use Rattle.std.specs.Fn.{Called}
use Rattle.std.specs.Iterator.{YieldsThen}
use Rattle.std.specs.List.{FoldsTo, AllWithin, HoldsAt, range_with_len}
use Rattle.std.specs.declared.ops.Range.{Range}
use denote.Param.Members.{Mut}

-- `all` over the numbers below n answers whether each has P, if its closure answers whether one has
pub each_below : {F : Type 0} {g : Mut F (ℕ × Unit {0}) Bool} {u : Range ℕ} {f : F} {r : Bool} {n : ℕ} (P : ℕ → Type 0)
    → (xs : List ℕ) × (o : Option ℕ) × (j : F) × YieldsThen nat_range_steps (record { start = 0; end = n }) xs o u × FoldsTo (λ p x q. Called g p (x, tt) true q) f xs j × MatchOption o (r ≡ true) (λ x. (r ≡ false) × ((h : F) × Called g j (x, tt) false h))
    → ((x : ℕ) (q : F) → Called g f (x, tt) true q → (q ≡ f) × (x < n → P x)) → ((x : ℕ) (q : F) → Called g f (x, tt) false q → x < n → P x → ⊥)
    → IsTrue r ↔ ((k : ℕ) → k < n → P k)
each_below {u = u} {f = f} {r = r} {n = n} P ran has lacks = by r (cases_from_all u f r (λ x. x < n → P x) (λ x. x < n → P x → ⊥) ran (YieldsList-from_range 0 n n refl (omega arith)) has lacks)
  where
    all : List ℕ
    all = range_with_len 0 n

    long : length all ≡ n
    long = length-range_with_len 0 n

    place : (k : ℕ) → k < n → get_or all k 0 ≡ k
    place k l = omega (arith, get_or-range_with_len 0 n k 0 l)

    by : (b : Bool) → MatchBool b (AllWithin (λ x. x < n → P x) all 0 (length all)) ((k : ℕ) × (k < length all) × HoldsAt (λ x. x < n → P x → ⊥) all k) → IsTrue b ↔ ((k : ℕ) → k < n → P k)
    by true h = (λ _ k l. subst (λ x. x < n → P x) (place k l) (h k 0 (omega arith) (omega (arith, long))) l, λ _. refl)
    by false h =
        let l : h.0 < n = omega (arith, long, h.1) in
        (λ e. absurd (false≢true e), λ each. absurd (subst (λ x. x < n → P x → ⊥) (place h.0 l) (h.2 0) l (each h.0 l)))
