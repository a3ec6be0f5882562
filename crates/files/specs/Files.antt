-- What a sounding file is answered: the tests in their order, the report, and what it says of the room.
use Rattle.std.specs.Prelude.{◌≡◌, ℕ, ◌≤◌, List, ◌∷◌, ◌++◌, length, IfOk, Result, nat_lt}
use Rattle.kinds.specs.Kinds.{KindModel}
use Rattle.kinds.specs.declared.hall.Hall as of-hall
use Rattle.kinds.specs.declared.radio.Radio as of-radio
use Rattle.kinds.specs.Halls.{hall_ring, hall_words, hall_polar}
use Rattle.kinds.specs.Radios.{radio_ring, radio_words, radio_polar}
use Rattle.sums.specs.Codes.{Codes}
use Rattle.keys.specs.Plans.{Plan}
use Rattle.kinds.specs.declared.kind_name.KindName.{KindName}
use Rattle.kinds.specs.declared.kind_name.KindName.TheVariants.{Hall, Radio}
use Rattle.layout.specs.declared.refusal.FileRefusal.{FileRefusal}
use Rattle.layout.specs.declared.refusal.FileRefusal.TheVariants.{Length}
use Rattle.layout.specs.Tests.{Test, first_refusal, unless}
use Rattle.layout.specs.Fields.{kind_of, plan_in, room_byte_of, room_of, records_of}
use Rattle.layout.specs.Order.{layout_tests}
use Rattle.reports.specs.Reports.{report_bytes, buffer_after}
use Rattle.keys.specs.KeyCodes.{key_codes}
use Rattle.files.specs.declared.sounding.SoundingFile.{SoundingFile}
use Rattle.files.specs.Soundings.{taps, TapsLaws}
use Rattle.files.specs.Order.{sounding_tests}

abbrev pub hall_kind : KindModel of-hall.Hall
hall_kind = record { ROOTS = 2; ring = hall_ring; encoding = hall_words; polar = hall_polar }

abbrev pub radio_kind : KindModel of-radio.Radio
radio_kind = record { ROOTS = 4; ring = radio_ring; encoding = radio_words; polar = radio_polar }

-- the fields of a file, sounded over a pair with the codes c
module _ {S : Type 0} (k : KindModel S) (c : Codes S) (s : SoundingFile) where
  abbrev pub tests_over : ℕ → List Test
  tests_over space = sounding_tests k c s.kind s.room s.records.now s.room_byte s.size space

  abbrev pub report_over : List ℕ
  report_over = report_bytes s.kind s.room (taps k c s.kind s.room s.records.now)

  abbrev pub LawsOver : Type 0
  LawsOver = TapsLaws k c s.kind s.room s.records.now

-- a sounding of a kind over the pair of the key p, at a room length, with the bytes of its records
module _ (p : Plan) (room : ℕ) (records : List ℕ) where
  abbrev pub tests_for : KindName → ℕ → ℕ → ℕ → List Test
  tests_for Hall at size space = sounding_tests hall_kind (key_codes hall_kind p) Hall room records at size space
  tests_for Radio at size space = sounding_tests radio_kind (key_codes radio_kind p) Radio room records at size space

  abbrev pub report_for : KindName → List ℕ
  report_for Hall = report_bytes Hall room (taps hall_kind (key_codes hall_kind p) Hall room records)
  report_for Radio = report_bytes Radio room (taps radio_kind (key_codes radio_kind p) Radio room records)

  abbrev pub LawsFor : KindName → Type 0
  LawsFor Hall = TapsLaws hall_kind (key_codes hall_kind p) Hall room records
  LawsFor Radio = TapsLaws radio_kind (key_codes radio_kind p) Radio room records

-- all tests on a file, in their order; `space` is the length of the report's buffer
abbrev pub file_tests : List ℕ → ℕ → List Test
file_tests file space = layout_tests file ++ tests_for (plan_in file) (room_of file) (records_of file) (kind_of file) (room_byte_of file) (length file) space

-- what a program reads has at most 8,192 bytes
abbrev pub input_tests : List ℕ → ℕ → List Test
input_tests input space = (nat_lt 8192 (length input), Length 8192) ∷ file_tests input space

abbrev pub report_of : List ℕ → List ℕ
report_of file = report_for (plan_in file) (room_of file) (records_of file) (kind_of file)

-- the taps of the report are the sounder's answers, and lie as near to those of any room as the samples of the file to the room's answers
abbrev pub ReportLaws : List ℕ → Type 0
ReportLaws file = LawsFor (plan_in file) (room_of file) (records_of file) (kind_of file)

-- an answer r that these tests decide, with this report and these laws of it: the buffer was d and is then e
pub record Reports (tests : List Test) (report : List ℕ) (Laws : Type 0) (r : Result ℕ FileRefusal) (d e : List ℕ) : Type 0 where
  -- the first refusal that comes, or else the length of the report, which is within the buffer
  pub value : r ≡ unless (first_refusal tests) (length report)
  pub within : IfOk r (λ n. n ≤ length d)
  -- the buffer begins with the report and its rest is kept, or a refusal leaves it as it was
  pub after : e ≡ buffer_after (first_refusal tests) report d
  pub laws : IfOk r (λ _. Laws)
