-- The worked examples, by computing.
use Rattle.std.proofs.Common.{◌≡◌, eqb, [], ◌∷◌, refl, lt_irrefl, arith}
use Rattle.std.proofs.lemmas.Bool.{eqb-true}
use Rattle.vertex_set.specs.Sets.{none}
use Rattle.vertex_set.specs.Lists.{elements}
use Rattle.network.specs.Networks.{Duties}
use Rattle.tables.specs.Rows.{row_at}
use Rattle.tables.specs.Refusals as table
use Rattle.tables.specs.Neighbours.{neighbour_network}
use Rattle.weights.specs.Weights.{NoOwn, weight}
use Rattle.weights.specs.Networks.{sum_over, weight_network}
use Rattle.weights.specs.Refusals as weight_rule
use Rattle.weights.specs.declared.error.WeightError.TheVariants.{Size, Length, Own}
use Rattle.views.specs.Views.{restricted, relative}
use Rattle.cores.specs.Cores.{Core, InCore}
use Rattle.trees.specs.Trees.{CoreTree}
use Rattle.trees.specs.Layers.{PutInFront, TakenOff}
use Rattle.trees.specs.Room.{Counted}
use Rattle.trees.proofs.Networks.{core_grown}
use Rattle.trees.proofs.Room.{counted}
use Rattle.trees.proofs.Theorems.{front_of_network_is, off_network_is}
use Rattle.examples.specs.Samples.{four, triangle, alone, heavy, ab, ba, four_on_ab, four_on_ba, four_on_a, four_on_b, triangle_on_ab, alone_on_a}
use Rattle.examples.specs.Examples.{WorkedExamples}
use Rattle.examples.proofs.Tables.{below_passes, table_rules, table_duties}
use Rattle.examples.proofs.Cores.{core_listed, valid_order}

four_rules : table.EachRule four
unfolding row_at
four_rules = table_rules four refl

triangle_rules : table.EachRule triangle
unfolding row_at
triangle_rules = table_rules triangle refl

alone_rules : table.EachRule alone
unfolding row_at
alone_rules = table_rules alone refl

heavy_rules : weight_rule.EachRule heavy
heavy_rules Size = omega arith
heavy_rules Length = refl
heavy_rules Own = own
  where
    own : NoOwn heavy
    own l v (a, b) =
        let first : l ≡ 0 = omega arith in
        rw first (eqb-true (weight heavy 0 v v) 0 (below_passes (λ u. eqb (weight heavy 0 u u) 0) 3 refl v b))

-- no vertex of the four has more than two neighbours
four_duties : Duties 2 (neighbour_network four)
unfolding row_at
four_duties = table_duties four 2 refl refl (omega arith)

triangle_duties : Duties 2 (neighbour_network triangle)
unfolding row_at
triangle_duties = table_duties triangle 2 refl refl (omega arith)

alone_duties : Duties 0 (neighbour_network alone)
unfolding row_at
alone_duties = table_duties alone 0 refl refl (omega arith)

on_ab : CoreTree (neighbour_network four) ab four_on_ab
unfolding row_at
on_ab = core_grown 2 (neighbour_network four) four_duties ab

on_ba : CoreTree (neighbour_network four) ba four_on_ba
unfolding row_at
on_ba = core_grown 2 (neighbour_network four) four_duties ba

on_a : CoreTree (neighbour_network four) (0 ∷ []) four_on_a
unfolding row_at
on_a = core_grown 2 (neighbour_network four) four_duties (0 ∷ [])

on_b : CoreTree (neighbour_network four) (1 ∷ []) four_on_b
unfolding row_at
on_b = core_grown 2 (neighbour_network four) four_duties (1 ∷ [])

triangle_tree : CoreTree (neighbour_network triangle) ab triangle_on_ab
unfolding row_at
triangle_tree = core_grown 2 (neighbour_network triangle) triangle_duties ab

alone_tree : CoreTree (neighbour_network alone) (0 ∷ []) alone_on_a
unfolding row_at
alone_tree = core_grown 0 (neighbour_network alone) alone_duties (0 ∷ [])

core_1_1 : Core (neighbour_network four) ab (1 ∷ 1 ∷ []) (elements (0 ∷ 1 ∷ []))
unfolding row_at
core_1_1 = core_listed 2 (neighbour_network four) four_duties ab (1 ∷ 1 ∷ []) (0 ∷ 1 ∷ []) refl refl

core_2_1 : Core (neighbour_network four) ab (2 ∷ 1 ∷ []) none
unfolding row_at
core_2_1 = core_listed 2 (neighbour_network four) four_duties ab (2 ∷ 1 ∷ []) [] refl refl

core_0_2 : Core (neighbour_network four) ab (0 ∷ 2 ∷ []) none
unfolding row_at
core_0_2 = core_listed 2 (neighbour_network four) four_duties ab (0 ∷ 2 ∷ []) [] refl refl

b_off : TakenOff 1 four_on_ab four_on_a
b_off = (off_network_is 2 (neighbour_network four) four_duties ab (valid_order (neighbour_network four) ab refl) four_on_ab on_ab 1 (omega arith) (omega arith) four_on_a).1 on_a

a_in_front : PutInFront (neighbour_network four) 0 four_on_b four_on_ab
a_in_front = (front_of_network_is 2 (neighbour_network four) four_duties (1 ∷ []) (valid_order (neighbour_network four) (1 ∷ []) refl) four_on_b on_b 0 four_on_ab).1 on_ab

room : Counted ab (InCore (neighbour_network four) ab) four_on_ab
room = counted (InCore (neighbour_network four) ab) four_on_ab on_ab.tree

half : (relative (neighbour_network four)).strength 0 (elements (0 ∷ 1 ∷ [])) 0 ≡ 500
unfolding row_at
half = refl

no_tie : (relative (neighbour_network four)).strength 0 (elements (0 ∷ 1 ∷ [])) 3 ≡ 0
unfolding row_at
no_tie = refl

capped : (weight_network heavy).strength 0 (elements (1 ∷ 2 ∷ [])) 0 ≡ 65535
unfolding sum_over
capped = refl

within : (restricted (elements (0 ∷ 1 ∷ 3 ∷ [])) (neighbour_network four)).strength 0 (elements (0 ∷ 1 ∷ 2 ∷ [])) 0 ≡ 1
unfolding row_at
within = refl

pub worked : WorkedExamples
worked = record {
  four_table = four_rules;
  triangle_table = triangle_rules;
  alone_table = alone_rules;
  heavy_table = heavy_rules;
  on_ab = on_ab;
  core_1_1 = core_1_1;
  core_2_1 = core_2_1;
  core_0_2 = core_0_2;
  nodes_over_4 = (room.nodes 4).0 (omega arith);
  nodes_in_5 = λ more. lt_irrefl 5 ((room.nodes 5).1 more);
  stored_over_9 = (room.stored 9).0 (omega arith);
  stored_in_10 = λ more. lt_irrefl 10 ((room.stored 10).1 more);
  on_ba = on_ba;
  b_off = b_off;
  on_b = on_b;
  a_in_front = a_in_front;
  triangle_tree = triangle_tree;
  alone_tree = alone_tree;
  half = half;
  no_tie = no_tie;
  capped = capped;
  within = within;
}
