-- The tests on a sounding, in their order, behind those on the fields of the file.
use Rattle.std.specs.Prelude.{ℕ, ◌+◌, ◌*◌, true, not, List, [], ◌∷◌, ◌++◌, length, ℤ, ◌==◌, nat_lt}
use Rattle.kinds.specs.Kinds.{KindModel}
use Rattle.sums.specs.Codes.{Codes}
use Rattle.calls.specs.declared.call.Call.TheVariants.{Open}
use Rattle.calls.specs.declared.call.Answer.{Answer}
use Rattle.calls.specs.declared.call.Answer.TheVariants.{Done, Words, Refused}
use Rattle.calls.specs.Answers.{sample_answer}
use Rattle.calls.specs.Runs.{new, answer_after}
use Rattle.kinds.specs.declared.kind_name.KindName.{KindName}
use Rattle.layout.specs.declared.refusal.FileRefusal.TheVariants.{Sounder, Length, Buffer}
use Rattle.kinds.specs.KindNames.{width}
use Rattle.layout.specs.Tests.{Test, each}
use Rattle.reports.specs.Reports.{report_length, tap_tests}
use Rattle.files.specs.Soundings.{record_size, first_record, second_record, taps}

-- what the sounder says to a call that comes from the field at this byte
abbrev pub sounder_says : ℕ → Answer → List Test
sounder_says byte Done = []
sounder_says byte (Words a b) = []
sounder_says byte (Refused e) = (true, Sounder e byte) ∷ []

module _ {S : Type 0} (k : KindModel S) (c : Codes S) where
  -- what the sounder says to sample t of a record that begins at byte `from`
  abbrev pub sample_test : KindName → ℕ → ℕ → ℤ × ℤ → List Test
  sample_test kind from t x = sounder_says (from + width kind * t) (sample_answer k c t (k.encoding.sample x.0 x.1))

  abbrev pub sample_tests : KindName → ℕ → List (ℤ × ℤ) → List Test
  sample_tests kind from xs = each (sample_test kind from) 0 xs

  -- the room length stands at byte `at`; `size` is the length of the file, `space` that of the report's buffer
  abbrev pub record_tests : KindName → ℕ → List ℕ → ℕ → ℕ → ℕ → List Test
  record_tests kind room records at size space =
      sounder_says at (answer_after k c new (Open room))
      ++ (not (length records == 2 * record_size k c kind room records), Length (at + 2))
      ∷ (nat_lt space (report_length kind room), Buffer size)
      ∷ (sample_tests kind (at + 2) (first_record k c kind room records)
      ++ sample_tests kind (at + 2 + record_size k c kind room records) (second_record k c kind room records))

  abbrev pub sounding_tests : KindName → ℕ → List ℕ → ℕ → ℕ → ℕ → List Test
  sounding_tests kind room records at size space = record_tests kind room records at size space ++ tap_tests size (taps k c kind room records)
