-- The codes of a pair as one record, from the members of its trait.
use Rattle.std.specs.Prelude.{ℕ}
use Rattle.sums.specs.Codes.{Codes, codes_at}
use Rattle.pairs.specs.declared.Pair.{Ghosts}

-- what an implementation of the trait means
abbrev pub PairModel : Type 0 → Type 0 → Type 1
PairModel P S = Ghosts P S

abbrev pub codes_of : {P S : Type 0} → PairModel P S → P → Codes S
codes_of m = codes_at m.span m.energy m.code m.counts

-- the span and the energy of two codes
abbrev pub size_of : {S : Type 0} → Codes S → ℕ × ℕ
size_of c = (c.span, c.energy)
