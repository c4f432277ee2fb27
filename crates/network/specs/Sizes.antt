-- How large a network may be.
use Rattle.std.specs.Prelude.{ℕ, ◌≤◌}

-- there are 1 to so many vertices, and 1 to 6 layers
abbrev pub WithinLimits : ℕ → ℕ → ℕ → Type 0
WithinLimits most vertices layers = (1 ≤ vertices) × (vertices ≤ most) × (1 ≤ layers) × (layers ≤ 6)
