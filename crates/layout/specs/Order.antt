-- The tests on the fields of a sounding file, in their order.
use Rattle.std.specs.Prelude.{ℕ, zero, suc, ◌+◌, ◌-◌, ◌*◌, true, not, ◌||◌, List, [], ◌∷◌, ◌++◌, length, Ok, Err, ◌==◌, nat_lt}
use Rattle.keys.specs.declared.refusal.KeyRefusal.{KeyRefusal}
use Rattle.keys.specs.declared.refusal.KeyRefusal.TheVariants.{Kernel, StageCount, Delays, WeightCode}
use Rattle.keys.specs.Judged.{Verdict, count_judged, judged}
use Rattle.layout.specs.declared.refusal.FileRefusal.TheVariants.{Key, Length, Version, Kind}
use Rattle.kinds.specs.KindNames.{roots}
use Rattle.layout.specs.Tests.{Test}
use Rattle.layout.specs.Fields.{byte_at, two_bytes, kind_of, kernel_of, count_of, stages_of}

-- a field of k bytes that begins at this byte is missing if the file ends before the field does
abbrev pub missing : ℕ → ℕ → ℕ → Test
missing size byte k = (nat_lt size (byte + k), Length byte)

-- n fields of one byte each
abbrev pub missing_bytes : ℕ → ℕ → ℕ → List Test
missing_bytes size byte zero = []
missing_bytes size byte (suc n) = missing size byte 1 ∷ missing_bytes size (byte + 1) n

-- version, length, kind, kernel and number of stages
abbrev pub head_tests : List ℕ → List Test
head_tests file =
    missing (length file) 0 1
    ∷ (not (byte_at file 0 == 1), Version)
    ∷ missing (length file) 1 2
    ∷ (not (two_bytes file 1 == length file - 3), Length 1)
    ∷ missing (length file) 3 1
    ∷ (not (byte_at file 3 == 1 || byte_at file 3 == 2), Kind)
    ∷ missing (length file) 4 1
    ∷ missing (length file) 5 1
    ∷ []

-- where a key is wrong: the kernel byte, the number of stages, the first delay, or the code of a stage
abbrev pub key_byte : KeyRefusal → ℕ
key_byte Kernel = 4
key_byte StageCount = 5
key_byte Delays = 6
key_byte (WeightCode stage) = 7 + 2 * stage

-- what the key says
abbrev pub key_says : Verdict → List Test
key_says (Ok u) = []
key_says (Err e) = (true, Key e (key_byte e)) ∷ []

-- the delay and the code of each stage, then the room length
abbrev pub field_tests : ℕ → ℕ → List Test
field_tests size count = missing_bytes size 6 (2 * count) ++ missing size (6 + 2 * count) 2 ∷ []

-- all tests up to the key
abbrev pub layout_tests : List ℕ → List Test
layout_tests file =
    head_tests file
    ++ (key_says (count_judged (kernel_of file) (count_of file))
    ++ (field_tests (length file) (count_of file)
    ++ key_says (judged (roots (kind_of file)) (kernel_of file) (stages_of file))))
