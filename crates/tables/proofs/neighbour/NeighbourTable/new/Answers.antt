use Rattle.std.proofs.Common.{◌∙◌, subst}
use Rattle.std.proofs.lemmas.Bool.{iff_false, false≢true}
use Rattle.vertex_set.specs.Refusals.{FirstBroken}
use Rattle.tables.specs.Rows.{Rows}
use Rattle.tables.specs.Refusals.{refusal, Rule, EachRule}
use Rattle.tables.specs.Stored.{stored_rows}
use Rattle.tables.specs.Right.{right_rows}
use Rattle.tables.specs.declared.error.TableError.TheVariants.{Row, Mutual}
use Rattle.tables.proofs.Broken.{row_broken, mutual_broken, all_kept}
use Rattle.tables.proofs.neighbour.NeighbourTable.new.Goals as goal

pub returns-in_default-clause-err : goal.returns-in_default-clause-err
returns-in_default-clause-err c =
    let stored = c.in_ok-rows.rows in
    subst (λ (t : Rows). FirstBroken refusal (Rule t) Row) c.in_ok-rows.ensures.ok
    (row_broken (stored_rows stored) stored.size.within stored.shaped (λ right. false≢true (c.in_default.ensures.right.1 right)))

pub returns-then-not-are_mutual-clause-err : goal.returns-then-not-are_mutual-clause-err
returns-then-not-are_mutual-clause-err c =
    let rows = c.in-Some.rows in
    subst (λ (t : Rows). FirstBroken refusal (Rule t) Mutual) (c.in-Some.ensures.same ∙ c.in_ok-rows.ensures.ok)
    (mutual_broken (right_rows rows) rows.rows.size.within rows.rows.shaped rows.right (iff_false c.are_mutual.ensures c.if-not-are_mutual.true))

pub returns-clause-kept : goal.returns-clause-kept
returns-clause-kept c =
    let rows = c.in-Some.rows in
    subst EachRule (c.in-Some.ensures.same ∙ c.in_ok-rows.ensures.ok)
    (all_kept (right_rows rows) rows.rows.size.within rows.rows.shaped rows.right (c.are_mutual.ensures.0 c.if-not-are_mutual.false))
