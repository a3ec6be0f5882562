-- The bytes of a report.
use Rattle.std.specs.Prelude.{ℕ, ◌+◌, ◌*◌, ◌/◌, ◌%◌, Bool, not, ◌&&◌, ◌||◌, List, [], ◌∷◌, ◌++◌, length, take, drop, ℤ, Some, None, Option, nat_le, nat_lt, unsigned_abs}
use Rattle.std.specs.Int.{w64}
use Rattle.std.proofs.Common.{of_z}
use Rattle.std.specs.List.{flat_map}
use Rattle.kinds.specs.declared.kind_name.KindName.{KindName}
use Rattle.kinds.specs.declared.kind_name.KindName.TheVariants.{Hall, Radio}
use Rattle.calls.specs.declared.refusal.Refusal.TheVariants.{RoomLength}
use Rattle.layout.specs.declared.refusal.FileRefusal.{FileRefusal}
use Rattle.layout.specs.declared.refusal.FileRefusal.TheVariants.{Sounder, Buffer, Tap}
use Rattle.kinds.specs.KindNames.{kind_byte, width}
use Rattle.layout.specs.Tests.{Test, each}

-- a number in two bytes, the high one first
abbrev pub in_two_bytes : ℕ → List ℕ
in_two_bytes n = (n / 256 % 256) ∷ (n % 256) ∷ []

-- a signed number by its low 16 bits
abbrev pub number_bytes : ℤ → List ℕ
number_bytes z = in_two_bytes (of_z w64 z)

-- a tap by its two words, written like a sample
abbrev pub tap_bytes : KindName → ℤ × ℤ → List ℕ
tap_bytes Hall t = number_bytes t.0
tap_bytes Radio t = number_bytes t.0 ++ number_bytes t.1

-- version 1, the length of what follows the length field, the kind, the room length
abbrev pub report_head : KindName → ℕ → List ℕ
report_head kind room = 1 ∷ (in_two_bytes (3 + width kind * room) ++ kind_byte kind ∷ in_two_bytes room)

abbrev pub report_bytes : KindName → ℕ → List (ℤ × ℤ) → List ℕ
report_bytes kind room taps = report_head kind room ++ flat_map (tap_bytes kind) taps

-- how long a report is
abbrev pub report_length : KindName → ℕ → ℕ
report_length kind room = 6 + width kind * room

-- outside −32,767 .. 32,767
abbrev pub outside : ℤ → Bool
outside z = nat_lt 32767 (unsigned_abs z)

abbrev pub tap_outside : ℤ × ℤ → Bool
tap_outside t = outside t.0 || outside t.1

-- bytes laid over d from place n on
abbrev pub laid : List ℕ → ℕ → List ℕ → List ℕ
laid d n bs = take n d ++ (bs ++ drop (n + length bs) d)

-- a buffer d after an answer: it begins with the report and its rest is kept, or a refusal leaves it as it was
abbrev pub buffer_after : Option FileRefusal → List ℕ → List ℕ → List ℕ
buffer_after None report d = report ++ drop (length report) d
buffer_after (Some e) report d = d

-- each tap
abbrev pub tap_tests : ℕ → List (ℤ × ℤ) → List Test
tap_tests size ts = each (λ i t. (tap_outside t, Tap i size) ∷ []) 0 ts

-- the room length, the buffer, each tap; `size` is the length of the file that is answered, `space` that of the buffer
abbrev pub report_tests : KindName → List (ℤ × ℤ) → ℕ → ℕ → List Test
report_tests kind ts size space =
    (not (nat_le 1 (length ts) && nat_le (length ts) 256), Sounder RoomLength size)
    ∷ (nat_lt space (report_length kind (length ts)), Buffer size)
    ∷ tap_tests size ts
