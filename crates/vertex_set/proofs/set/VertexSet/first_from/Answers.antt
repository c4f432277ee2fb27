use Rattle.std.proofs.Common.{◌≡◌, ◌/◌, ◌%◌, ◌+◌, ◌*◌, ◌^◌, ◌<◌, get_or, arith, w64, Fits, rules}
use lib.Count.{count_trailing_zeros}
use borrow.Author.Tests.{tests}
use Rattle.std.proofs.lemmas.Bool.{ltb-true}
use Rattle.std.proofs.lemmas.Iterator.{first_from_Range}
use Rattle.vertex_set.specs.Lists.{FirstFrom}
use Rattle.vertex_set.specs.Members.{members}
use Rattle.vertex_set.proofs.Firsts.{first_in_rest, Found, none_found, first_found}
use Rattle.vertex_set.proofs.set.VertexSet.first_from.Goals as goal

pub returns-then-rest-ne0 : goal.returns-then-rest-ne0
returns-then-rest-ne0 c =
    let word : c.in_ok-rest.field-0.now ≡ get_or c.args.self.now.words (c.args.v / 64) 0 = search rules in
    let fits : Fits w64 (get_or c.args.self.now.words (c.args.v / 64) 0) = search rules in
    let some : 0 < c.in_ok-rest.field-0.now / 2 ^ (c.args.v % 64) = omega arith in
    rw word (first_in_rest c.args.self.now.words c.args.v fits.fits (rw word at some))

pub returns-in_err-i : goal.returns-in_err-i
returns-in_err-i c =
    let words = c.args.self.now.words in
    let start : c.from-start.result ≡ c.args.v / 64 = search rules in
    let word : c.in_ok-rest.field-0.now ≡ get_or words (c.args.v / 64) 0 = search rules in
    let empty : c.in_ok-rest.field-0.now / 2 ^ (c.args.v % 64) ≡ 0 = search rules in
    let found : Found words c.args.v (c.from-start.result + 1) c.find.result = first_from_Range _ _ _ c.find.result (λ i. 0 < get_or words i 0) (λ i. get_or words i 0 ≡ 0) c.find.ensures.ran (λ x q k. search (rules, tests)) (λ x q k. search (rules, tests)) in
    rw c.from_residual-in_err-i.ensures (none_found words c.args.v (rw word at empty) c.args.self.now.limited (rw (start, c.in_err-i.was) at found))

first : (c : goal.After-result-1) → FirstFrom (members c.args.self.now) c.args.v (64 * c.in_ok-i.i + count_trailing_zeros 64 (get_or c.args.self.now.words c.in_ok-i.i 0))
first c =
    let words = c.args.self.now.words in
    let start : c.from-start.result ≡ c.args.v / 64 = search rules in
    let word : c.in_ok-rest.field-0.now ≡ get_or words (c.args.v / 64) 0 = search rules in
    let empty : c.in_ok-rest.field-0.now / 2 ^ (c.args.v % 64) ≡ 0 = search rules in
    let found : Found words c.args.v (c.from-start.result + 1) c.find.result = first_from_Range _ _ _ c.find.result (λ i. 0 < get_or words i 0) (λ i. get_or words i 0 ≡ 0) c.find.ensures.ran (λ x q k. search (rules, tests)) (λ x q k. search (rules, tests)) in
    let fits : Fits w64 (get_or words c.in_ok-i.i 0) = search rules in
    first_found words c.args.v (rw word at empty) c.in_ok-i.i (rw (start, c.in_ok-i.was) at found) fits.fits

pub overflow_add-result-2 : goal.overflow_add-result-2
overflow_add-result-2 c = record { fits = omega (arith, ltb-true _ 1024 (c.args.self.now.limited _ (first c).here)) }

pub returns : goal.returns
returns c = first c
