-- Decimal numbers: indices, of which those above 2 ^ 64 - 1 count as 2 ^ 64 - 1, and the words of a sample.
use Rattle.std.specs.Prelude.{ℕ, ◌-◌, ◌^◌, cond, List, [], ◌∷◌, ℤ, pos, neg_ℤ, Some, None, Option, ◌==◌, nat_le, nat_lt}
use Rattle.keytext.specs.Numbers.{number_up_to}
use Rattle.keytext.specs.Steps.{and_then}

-- one digit or more
abbrev pub index_of : List ℕ → Option ℕ
index_of = number_up_to (2 ^ 64 - 1)

-- n as a word, which is below 2 ^ 63
abbrev pub positive : ℕ → Option ℤ
positive n = cond (nat_lt n (2 ^ 63)) (Some (pos n)) None

-- -n as a word, which is -(2 ^ 63) or above
abbrev pub negative : ℕ → Option ℤ
negative n = cond (nat_le n (2 ^ 63)) (Some (neg_ℤ (pos n))) None

-- the byte 45 is the minus sign
abbrev pub word_of : List ℕ → Option ℤ
word_of [] = None
word_of (byte ∷ bytes) = cond (byte == 45) (and_then (index_of bytes) negative) (and_then (index_of (byte ∷ bytes)) positive)
