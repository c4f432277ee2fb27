-- Sample networks and their trees, written out.
use Rattle.std.specs.Prelude.{ℕ, List, [], ◌∷◌, Some, None, Option}
use Rattle.tables.specs.Rows.{Rows, rows}
use Rattle.weights.specs.Weights.{Weights, weights}
use Rattle.cores.specs.Cores.{Order, Vector}
use Rattle.trees.specs.Trees.{Node, Tree}

-- 4 vertices; in the layer a the ties 0-1, 0-2 and 1-2, in the layer b the ties 0-1 and 2-3
abbrev pub four : Rows
four = rows 4 2 (0 ∷ 2 ∷ 4 ∷ 6 ∷ 6 ∷ 7 ∷ 8 ∷ 9 ∷ 10 ∷ []) (1 ∷ 2 ∷ 0 ∷ 2 ∷ 0 ∷ 1 ∷ 1 ∷ 0 ∷ 3 ∷ 2 ∷ [])

-- 3 vertices; in the layer a each is tied to each, in the layer b there is no tie
abbrev pub triangle : Rows
triangle = rows 3 2 (0 ∷ 2 ∷ 4 ∷ 6 ∷ 6 ∷ 6 ∷ 6 ∷ []) (1 ∷ 2 ∷ 0 ∷ 2 ∷ 0 ∷ 1 ∷ [])

-- 1 vertex and no tie
abbrev pub alone : Rows
alone = rows 1 1 (0 ∷ 0 ∷ []) []

-- 3 vertices; the row of vertex 0 is 0, 40,000, 40,000, and the others have no weight
abbrev pub heavy : Weights
heavy = weights 3 1 (0 ∷ 40000 ∷ 40000 ∷ 0 ∷ 0 ∷ 0 ∷ 0 ∷ 0 ∷ 0 ∷ [])

-- the orders a, b and b, a; the layers are the numbers 0 and 1
abbrev pub ab : Order
ab = 0 ∷ 1 ∷ []

abbrev pub ba : Order
ba = 1 ∷ 0 ∷ []

-- a node, with its children position by position
abbrev pub node : Vector → List (Option ℕ) → List ℕ → Node
node k children stored = record { vector = k; children = children; stored = stored }

-- an order with its nodes
abbrev pub tree : Order → List Node → Tree
tree o nodes = record { order = o; nodes = nodes }

-- the tree of the four on a, b
abbrev pub four_on_ab : Tree
four_on_ab = tree ab (
    node (0 ∷ 0 ∷ []) (Some 2 ∷ Some 1 ∷ []) []
    ∷ node (0 ∷ 1 ∷ []) (None ∷ None ∷ []) (0 ∷ 1 ∷ 2 ∷ 3 ∷ [])
    ∷ node (1 ∷ 0 ∷ []) (Some 4 ∷ Some 3 ∷ []) (2 ∷ [])
    ∷ node (1 ∷ 1 ∷ []) (None ∷ None ∷ []) (0 ∷ 1 ∷ [])
    ∷ node (2 ∷ 0 ∷ []) (None ∷ None ∷ []) (0 ∷ 1 ∷ 2 ∷ [])
    ∷ [])

-- and on b, a
abbrev pub four_on_ba : Tree
four_on_ba = tree ba (
    node (0 ∷ 0 ∷ []) (Some 3 ∷ Some 1 ∷ []) (3 ∷ [])
    ∷ node (0 ∷ 1 ∷ []) (None ∷ Some 2 ∷ []) []
    ∷ node (0 ∷ 2 ∷ []) (None ∷ None ∷ []) (0 ∷ 1 ∷ 2 ∷ [])
    ∷ node (1 ∷ 0 ∷ []) (None ∷ Some 4 ∷ []) (2 ∷ 3 ∷ [])
    ∷ node (1 ∷ 1 ∷ []) (None ∷ None ∷ []) (0 ∷ 1 ∷ [])
    ∷ [])

-- on a alone
abbrev pub four_on_a : Tree
four_on_a = tree (0 ∷ []) (
    node (0 ∷ []) (Some 1 ∷ []) (3 ∷ [])
    ∷ node (1 ∷ []) (Some 2 ∷ []) []
    ∷ node (2 ∷ []) (None ∷ []) (0 ∷ 1 ∷ 2 ∷ [])
    ∷ [])

-- and on b alone
abbrev pub four_on_b : Tree
four_on_b = tree (1 ∷ []) (
    node (0 ∷ []) (Some 1 ∷ []) []
    ∷ node (1 ∷ []) (None ∷ []) (0 ∷ 1 ∷ 2 ∷ 3 ∷ [])
    ∷ [])

-- the tree of the triangle on a, b
abbrev pub triangle_on_ab : Tree
triangle_on_ab = tree ab (
    node (0 ∷ 0 ∷ []) (Some 1 ∷ None ∷ []) (0 ∷ 1 ∷ 2 ∷ [])
    ∷ node (1 ∷ 0 ∷ []) (Some 2 ∷ None ∷ []) (0 ∷ 1 ∷ 2 ∷ [])
    ∷ node (2 ∷ 0 ∷ []) (None ∷ None ∷ []) (0 ∷ 1 ∷ 2 ∷ [])
    ∷ [])

-- the tree of the lone vertex on a
abbrev pub alone_on_a : Tree
alone_on_a = tree (0 ∷ []) (node (0 ∷ []) (None ∷ []) (0 ∷ []) ∷ [])
