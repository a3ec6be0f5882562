-- The kinds by their names: in words, as bytes of a file, and what a file has to know of each.
use Rattle.std.specs.Prelude.{◌≡◌, ℕ, cond, List, Some, None, codes, Option, Result, MatchResult, ◌==◌}
use Rattle.std.specs.Str.{bytes_eq}
use Rattle.kinds.specs.declared.kind_name.KindName.{KindName}
use Rattle.kinds.specs.declared.kind_name.KindName.TheVariants.{Hall, Radio}
use Rattle.kinds.specs.declared.kind_name.UnknownKind.{UnknownKind}

-- the kind of a word
abbrev pub kind_of : List ℕ → Option KindName
kind_of word = cond (bytes_eq word (codes "hall")) (Some Hall) (cond (bytes_eq word (codes "radio")) (Some Radio) None)

abbrev pub kind_byte : KindName → ℕ
kind_byte Hall = 1
kind_byte Radio = 2

-- the kind that a byte names
abbrev pub kind_named : ℕ → Option KindName
kind_named b = cond (b == 1) (Some Hall) (cond (b == 2) (Some Radio) None)

-- how many roots the kind has
abbrev pub roots : KindName → ℕ
roots Hall = 2
roots Radio = 4

-- how many bytes a sample has: one number of two bytes, or two
abbrev pub width : KindName → ℕ
width Hall = 2
width Radio = 4

-- the answer of a conversion: the kind that is named, or that none is
abbrev pub Answers : Option KindName → Result KindName UnknownKind → Type 0
Answers named r = MatchResult r (λ kind. named ≡ Some kind) (λ _. named ≡ None)
