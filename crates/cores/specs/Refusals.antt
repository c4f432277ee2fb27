-- The rules of an order and a vector, and the numbers of their refusals.
use Rattle.std.specs.Prelude.{ℕ}
use Rattle.network.specs.Networks.{Multilayer}
use Rattle.cores.specs.Cores.{Order, Vector, ValidOrder, VectorFor}
use Rattle.cores.specs.declared.error.PeelError as error
use Rattle.cores.specs.declared.error.PeelError.TheVariants as case

-- the number of each refusal
abbrev pub refusal : error.PeelError → ℕ
refusal case.Order = 6
refusal case.Vector = 8

-- the rule whose break each error reports
abbrev pub Rule : Multilayer → Order → Vector → error.PeelError → Type 0
Rule g o k case.Order = ValidOrder g o
Rule g o k case.Vector = VectorFor o k

-- o is an order for the network, and k a vector for it
abbrev pub EachRule : Multilayer → Order → Vector → Type 0
EachRule g o k = (e : error.PeelError) → Rule g o k e
