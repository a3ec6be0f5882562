-- Decimal numbers, of which those above the most count as the most.
use Rattle.std.specs.Prelude.{ℕ, ◌+◌, ◌-◌, ◌*◌, min, Bool, cond, ◌&&◌, List, [], ◌∷◌, Some, None, Option, nat_le}
use Rattle.keytext.specs.Steps.{and_then}

-- the bytes 48 to 57 are the digits 0 to 9
abbrev pub is_digit : ℕ → Bool
is_digit byte = nat_le 48 byte && nat_le byte 57

-- the number n with one more digit behind it
abbrev pub with_digit : ℕ → ℕ → ℕ → Option ℕ
with_digit most n byte = cond (is_digit byte) (Some (min (10 * n + (byte - 48)) most)) None

-- the number n with all of these digits behind it
abbrev pub digits_after : ℕ → ℕ → List ℕ → Option ℕ
digits_after most n [] = Some n
digits_after most n (byte ∷ bytes) = and_then (with_digit most n byte) (λ m. digits_after most m bytes)

-- one digit or more
abbrev pub number_up_to : ℕ → List ℕ → Option ℕ
number_up_to most [] = None
number_up_to most (byte ∷ bytes) = digits_after most 0 (byte ∷ bytes)

-- numbers that fit a byte
abbrev pub number_of : List ℕ → Option ℕ
number_of = number_up_to 255
