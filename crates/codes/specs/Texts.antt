-- The bytes of an entry.
use Rattle.std.specs.Prelude.{ℕ, List, ◌++◌, ℤ, codes}
use Rattle.std.specs.Fmt.{signed_decimal}
use Rattle.kinds.specs.declared.kind_name.KindName.{KindName}
use Rattle.kinds.specs.declared.kind_name.KindName.TheVariants.{Hall, Radio}

abbrev pub one_word : ℤ → List ℕ
one_word x = codes " " ++ signed_decimal x

abbrev pub two_words : ℤ → ℤ → List ℕ
two_words x y = codes " " ++ (signed_decimal x ++ (codes "," ++ signed_decimal y))

-- an entry by its two words, after a blank
abbrev pub entry_of : KindName → ℤ → ℤ → List ℕ
entry_of Hall x y = one_word x
entry_of Radio x y = two_words x y
