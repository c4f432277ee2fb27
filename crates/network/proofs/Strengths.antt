-- Strengths that are 0 but on a condition.
use Rattle.std.proofs.Common.{◌≡◌, ℕ, ◌≤◌, Bool, true, false, cond, ◌&&◌, ltb, ◌⊎◌, inl, inr, arith}
use Rattle.std.proofs.lemmas.Bool.{and_left, and_right, le-ltb, cond-false}

-- on the same condition, the larger strength stays the larger
pub cond_grows : (b : Bool) {m n : ℕ} → m ≤ n → cond b m 0 ≤ cond b n 0
cond_grows true h = h
cond_grows false h = omega arith

-- there is no strength in a layer, or of a vertex, that is missing
pub none_missing : (layers vertices l v n : ℕ) → (layers ≤ l) ⊎ (vertices ≤ v) → cond (ltb l layers && ltb v vertices) n 0 ≡ 0
none_missing layers vertices l v n (inl a) = cond-false _ _ _ (and_left _ _ (le-ltb l layers a))
none_missing layers vertices l v n (inr a) = cond-false _ _ _ (and_right _ _ (le-ltb v vertices a))
