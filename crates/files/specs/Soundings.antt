-- A whole sounding over a pair: the calls that it makes, and the taps that they bring.
use Rattle.std.specs.Prelude.{◌≡◌, ℕ, ◌*◌, ◌^◌, ◌<◌, ◌≤◌, List, [], ◌∷◌, ◌++◌, map, length, drop, ℤ, pos, slice_index_or}
use Rattle.std.specs.List.{range_with_len}
use Rattle.kinds.specs.Kinds.{KindModel}
use Rattle.sums.specs.Codes.{Codes}
use Rattle.sums.specs.Rooms.{at, Near}
use Rattle.calls.specs.declared.call.Call.{Call}
use Rattle.calls.specs.declared.call.Call.TheVariants.{Open, Sample, Turn, Close, Tap}
use Rattle.calls.specs.declared.call.Answer.{Answer}
use Rattle.calls.specs.declared.call.Answer.TheVariants.{Done, Words, Refused}
use Rattle.calls.specs.Answers.{full}
use Rattle.calls.specs.Runs.{Run, new, after, answer_after, SamplesNear}
use Rattle.kinds.specs.declared.kind_name.KindName.{KindName}
use Rattle.kinds.specs.KindNames.{width}
use Rattle.files.specs.Samples.{samples_in}

-- the samples of a record, one call each
abbrev pub sample_calls : List (ℤ × ℤ) → List Call
sample_calls xs = map (λ (x : ℤ × ℤ). Sample x.0 x.1) xs

-- the first record, turn, the second record, close
abbrev pub record_calls : List (ℤ × ℤ) → List (ℤ × ℤ) → List Call
record_calls first second = sample_calls first ++ (Turn ∷ (sample_calls second ++ (Close ∷ [])))

-- open, and then both records
abbrev pub sounding_calls : ℕ → List (ℤ × ℤ) → List (ℤ × ℤ) → List Call
sounding_calls room first second = Open room ∷ record_calls first second

-- the words that a call answers
abbrev pub words_in : Answer → ℤ × ℤ
words_in (Words a b) = (a, b)
words_in Done = (pos 0, pos 0)
words_in (Refused e) = (pos 0, pos 0)

module _ {S : Type 0} (k : KindModel S) (c : Codes S) where
  -- a run that goes on by a list of calls, each of which gets its answer
  abbrev pub run_by : Run → List Call → Run
  run_by h [] = h
  run_by h (x ∷ xs) = run_by (after h x (answer_after k c h x)) xs

  -- a sounding of a kind, at a room length, with the bytes of its two records
  module _ (kind : KindName) (room : ℕ) (records : List ℕ) where
    -- how many bytes a full record has
    abbrev pub record_size : ℕ
    record_size = width kind * full k c room

    abbrev pub first_record : List (ℤ × ℤ)
    first_record = samples_in kind records (full k c room)

    abbrev pub second_record : List (ℤ × ℤ)
    second_record = samples_in kind (drop record_size records) (full k c room)

    -- all calls of the sounding, given to a new sounder
    abbrev pub sounded : Run
    sounded = run_by new (sounding_calls room first_record second_record)

    -- what the sounder then answers to tap 0, tap 1 .. tap (room - 1)
    abbrev pub taps : List (ℤ × ℤ)
    taps = map (λ i. words_in (answer_after k c sounded (Tap i))) (range_with_len 0 room)

-- what holds of the taps of a sounding that is accepted
pub record TapsLaws {S : Type 0} (k : KindModel S) (c : Codes S) (kind : KindName) (room : ℕ) (records : List ℕ) : Type 0 where
  -- each is an answer of the sounder, and none is refused
  pub answered : (i : ℕ) → i < room → answer_after k c (sounded k c kind room records) (Tap i) ≡ Words (slice_index_or (taps k c kind room records) i (pos 0, pos 0)).0 (slice_index_or (taps k c kind room records) i (pos 0, pos 0)).1
  -- for every room h and every E, both up to 2 ^ 40: where each sample of the records lies within E of the room's answer to the code then playing, each word of a tap lies within E of that word of the room's tap
  pub near : (E : ℕ) (h : List S) → E ≤ 2 ^ 40 → ((i : ℕ) → i < length h → k.polar.magnitude (at k.ring h i) ≤ 2 ^ 40) → SamplesNear k c E h (sounded k c kind room records)
      → (i : ℕ) → i < room → Near E (slice_index_or (taps k c kind room records) i (pos 0, pos 0)).0 (k.encoding.first (at k.ring h i)) × Near E (slice_index_or (taps k c kind room records) i (pos 0, pos 0)).1 (k.encoding.second (at k.ring h i))
