-- The numbers and the names of the two sides.
use Rattle.std.specs.Prelude.{◌≡◌, ℕ, ◌<◌, List, codes, Result, MatchResult}
use Rattle.sums.specs.declared.Side.{Side}
use Rattle.sums.specs.declared.Side.TheVariants.{A, B}
use Rattle.sums.specs.declared.NoSide.{NoSide}

abbrev pub number_of : Side → ℕ
number_of A = 0
number_of B = 1

-- the result is the side with this number, or an error with a number that no side has
abbrev pub Decodes : ℕ → Result Side NoSide → Type 0
Decodes number r = MatchResult r (λ side. number_of side ≡ number) (λ e. (e.0 ≡ number) × (1 < number))

abbrev pub name_of : Side → List ℕ
name_of A = codes "A"
name_of B = codes "B"
