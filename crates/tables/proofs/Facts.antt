-- The rules of a table are facts: each is kept in at most one way.
use Rattle.std.proofs.Math.Logic.{∥∥₁_elim}
use Rattle.std.proofs.Math.Bool.{Bool-set}
use Rattle.std.proofs.Math.Bridge.{le_prop}
use Rattle.std.proofs.Common.{ℕ, List}
use Rattle.std.proofs.Props.{props}
use mathlib.Core.HLevel.{Π_prop, ⊥_prop}
use Rattle.tables.specs.Rows.{Rows, RowRight}
use Rattle.tables.specs.Refusals.{Rule, EachRule}
use Rattle.tables.specs.declared.error.TableError.{TableError}
use Rattle.tables.specs.declared.error.TableError.TheVariants.{Size, Shape, Row, Mutual}

-- a row is right in at most one way
pub right_prop : {n v : ℕ} {xs : List ℕ} → IsProp (RowRight n v xs)
right_prop p q = λ i. record {
  ascending = Π_prop (λ j. Π_prop (λ k. Π_prop (λ a. Π_prop (λ b. le_prop)))) p.ascending q.ascending i;
  inside = Π_prop (λ j. Π_prop (λ a. le_prop)) p.inside q.inside i;
  others = Π_prop (λ j. Π_prop (λ a. Π_prop (λ e. ⊥_prop))) p.others q.others i;
}

-- a rule is kept in at most one way
pub rule_prop : (t : Rows) (e : TableError) → IsProp (Rule t e)
rule_prop t Size = hlevel props
rule_prop t Shape = hlevel props
rule_prop t Row = Π_prop (λ l. Π_prop (λ v. Π_prop (λ a. Π_prop (λ b. right_prop))))
rule_prop t Mutual = Π_prop (λ l. Π_prop (λ v. Π_prop (λ a. Π_prop (λ b. Π_prop (λ u. Π_prop (λ c. Bool-set _ _))))))

-- rules of which it is only known that they are kept are kept
pub rules_kept : (t : Rows) → ∥ EachRule t ∥₁ → EachRule t
rules_kept t valid = ∥∥₁_elim valid (Π_prop (rule_prop t)) (λ each. each)
