-- What a pile of views means.
use Rattle.vertex_set.specs.Sets.{Set}
use Rattle.network.specs.Networks.{Multilayer}
use Rattle.weights.specs.Weights.{Weights}
use Rattle.weights.specs.Networks.{weight_network}
use Rattle.views.specs.Views.{restricted, relative}

-- the weights restricted to a group, in relative strengths, and restricted to another group
abbrev pub pile : Set → Set → Weights → Multilayer
pile lower upper t = restricted upper (relative (restricted lower (weight_network t)))
