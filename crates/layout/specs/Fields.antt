-- The fields of a sounding file, by their places. All are big-endian.
use Rattle.std.specs.Prelude.{ℕ, ◌+◌, ◌*◌, cond, List, map, drop, ◌==◌, slice_index}
use Rattle.std.specs.List.{range_with_len}
use Rattle.keys.specs.declared.stage.KeyStage.{KeyStage}
use Rattle.keys.specs.Plans.{Plan, plan}
use Rattle.kinds.specs.declared.kind_name.KindName.{KindName}
use Rattle.kinds.specs.declared.kind_name.KindName.TheVariants.{Hall, Radio}
use Rattle.kinds.specs.KindNames.{roots}

-- byte i, 0 past the end
abbrev pub byte_at : List ℕ → ℕ → ℕ
byte_at bytes i = slice_index bytes i

-- the number in the two bytes from byte i on, the high one first
abbrev pub two_bytes : List ℕ → ℕ → ℕ
two_bytes bytes i = byte_at bytes i * 256 + byte_at bytes (i + 1)

-- byte 0 is the version, bytes 1 and 2 are the length of all that follows them, then come the kind, the kernel and the number of stages
abbrev pub kind_of : List ℕ → KindName
kind_of file = cond (byte_at file 3 == 1) Hall Radio

abbrev pub kernel_of : List ℕ → ℕ
kernel_of file = byte_at file 4

abbrev pub count_of : List ℕ → ℕ
count_of file = byte_at file 5

-- each stage is a delay byte and a code byte
abbrev pub stage_in : List ℕ → ℕ → KeyStage
stage_in bytes i = record { delay = byte_at bytes (2 * i); code = byte_at bytes (2 * i + 1) }

abbrev pub stages_in : List ℕ → ℕ → List KeyStage
stages_in bytes n = map (stage_in bytes) (range_with_len 0 n)

abbrev pub stages_of : List ℕ → List KeyStage
stages_of file = stages_in (drop 6 file) (count_of file)

-- the key of the file, for the kind that it names
abbrev pub plan_in : List ℕ → Plan
plan_in file = plan (kernel_of file) (roots (kind_of file)) (stages_of file)

-- behind the stages come two bytes of room length, and then the records
abbrev pub room_byte_of : List ℕ → ℕ
room_byte_of file = 6 + 2 * count_of file

abbrev pub room_of : List ℕ → ℕ
room_of file = two_bytes file (room_byte_of file)

abbrev pub record_byte : List ℕ → ℕ
record_byte file = room_byte_of file + 2

abbrev pub records_of : List ℕ → List ℕ
records_of file = drop (record_byte file) file
