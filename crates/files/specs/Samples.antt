-- The samples of a record, read from its bytes.
use Rattle.std.specs.Prelude.{ℕ, ◌+◌, ◌*◌, List, map, ℤ, pos}
use Rattle.std.specs.Int.{w16}
use Rattle.std.proofs.Common.{to_z}
use Rattle.std.specs.List.{range_with_len}
use Rattle.kinds.specs.declared.kind_name.KindName.{KindName}
use Rattle.kinds.specs.declared.kind_name.KindName.TheVariants.{Hall, Radio}
use Rattle.layout.specs.Fields.{two_bytes}

-- the signed 16-bit number in the two bytes from byte i on
abbrev pub number_in : List ℕ → ℕ → ℤ
number_in bytes i = to_z w16 (two_bytes bytes i)

-- the two words of sample t: a hall sample is one number, a radio sample is x and then y
abbrev pub sample_in : KindName → List ℕ → ℕ → ℤ × ℤ
sample_in Hall bytes t = (number_in bytes (2 * t), pos 0)
sample_in Radio bytes t = (number_in bytes (4 * t), number_in bytes (4 * t + 2))

-- the first n samples
abbrev pub samples_in : KindName → List ℕ → ℕ → List (ℤ × ℤ)
samples_in kind bytes n = map (sample_in kind bytes) (range_with_len 0 n)
