-- The worked examples, in one sentence on the definitions.
use Rattle.std.specs.Prelude.{◌≡◌, [], ◌∷◌}
use Rattle.vertex_set.specs.Sets.{none}
use Rattle.vertex_set.specs.Lists.{elements}
use Rattle.tables.specs.Refusals as table
use Rattle.tables.specs.Neighbours.{neighbour_network}
use Rattle.weights.specs.Refusals as weight
use Rattle.weights.specs.Networks.{weight_network}
use Rattle.views.specs.Views.{restricted, relative}
use Rattle.cores.specs.Cores.{Core, InCore}
use Rattle.trees.specs.Trees.{CoreTree}
use Rattle.trees.specs.Layers.{PutInFront, TakenOff}
use Rattle.trees.specs.Room.{MoreNodes, MoreStored}
use Rattle.examples.specs.Samples.{four, triangle, alone, heavy, ab, ba, four_on_ab, four_on_ba, four_on_a, four_on_b, triangle_on_ab, alone_on_a}

pub record WorkedExamples : Type 0 where
  -- the samples are tables that keep the rules
  pub four_table : table.EachRule four
  pub triangle_table : table.EachRule triangle
  pub alone_table : table.EachRule alone
  pub heavy_table : weight.EachRule heavy
  -- the tree of the four on a, b; the core of (1,1) is 0 and 1; (2,1) and (0,2) have none
  pub on_ab : CoreTree (neighbour_network four) ab four_on_ab
  pub core_1_1 : Core (neighbour_network four) ab (1 ∷ 1 ∷ []) (elements (0 ∷ 1 ∷ []))
  pub core_2_1 : Core (neighbour_network four) ab (2 ∷ 1 ∷ []) none
  pub core_0_2 : Core (neighbour_network four) ab (0 ∷ 2 ∷ []) none
  -- it has more than 4 nodes and not more than 5, more than 9 stored vertices and not more than 10
  pub nodes_over_4 : MoreNodes ab (InCore (neighbour_network four) ab) 4
  pub nodes_in_5 : MoreNodes ab (InCore (neighbour_network four) ab) 5 → ⊥
  pub stored_over_9 : MoreStored ab (InCore (neighbour_network four) ab) 9
  pub stored_in_10 : MoreStored ab (InCore (neighbour_network four) ab) 10 → ⊥
  -- on b, a it stores otherwise
  pub on_ba : CoreTree (neighbour_network four) ba four_on_ba
  -- taking b off the tree on a, b leaves that on a, which stores 3; nothing; 0, 1, 2
  pub b_off : TakenOff 1 four_on_ab four_on_a
  -- putting a in front of the tree on b gives that on a, b
  pub on_b : CoreTree (neighbour_network four) (1 ∷ []) four_on_b
  pub a_in_front : PutInFront (neighbour_network four) 0 four_on_b four_on_ab
  -- the triangle has three nodes, and each stores everybody
  pub triangle_tree : CoreTree (neighbour_network triangle) ab triangle_on_ab
  -- a lone vertex is stored with the only node
  pub alone_tree : CoreTree (neighbour_network alone) (0 ∷ []) alone_on_a
  -- in relative strengths, in the layer a, vertex 0 has 500 in the group 0, 1, and vertex 3 has none
  pub half : (relative (neighbour_network four)).strength 0 (elements (0 ∷ 1 ∷ [])) 0 ≡ 500
  pub no_tie : (relative (neighbour_network four)).strength 0 (elements (0 ∷ 1 ∷ [])) 3 ≡ 0
  -- two weights of 40,000 are together no more than 65,535
  pub capped : (weight_network heavy).strength 0 (elements (1 ∷ 2 ∷ [])) 0 ≡ 65535
  -- restricted to 0, 1, 3, in the layer a, vertex 0 has 1 in the group 0, 1, 2
  pub within : (restricted (elements (0 ∷ 1 ∷ 3 ∷ [])) (neighbour_network four)).strength 0 (elements (0 ∷ 1 ∷ 2 ∷ [])) 0 ≡ 1
