-- Refusals and their numbers.
use Rattle.std.specs.Prelude.{ℕ, ◌<◌}
use Rattle.vertex_set.specs.declared.error.SetError.{SetError}
use Rattle.vertex_set.specs.declared.error.SetError.TheVariants.{OutOfRange}

-- each error stands for a rule: e's is broken, and none with a smaller number is
abbrev pub FirstBroken : {E : Type 0} → (E → ℕ) → (E → Type 0) → E → Type 0
FirstBroken {E} number rule e = (rule e → ⊥) × ((d : E) → number d < number e → rule d)

-- the number of a set's refusal
abbrev pub refusal : SetError → ℕ
refusal OutOfRange = 20

-- the rule behind it: the vertex is one of 0 to 1,023
abbrev pub Inside : ℕ → SetError → Type 0
Inside v OutOfRange = v < 1024
