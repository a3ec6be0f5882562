-- The worked cases, one by one, and their list.
use Rattle.std.specs.Prelude.{ℕ, List, [], ◌∷◌, map, ℤ, pos, neg_ℤ}
use Rattle.kinds.specs.declared.kind_name.KindName.{KindName}
use Rattle.kinds.specs.declared.kind_name.KindName.TheVariants.{Hall, Radio}
use Rattle.keys.specs.declared.stage.KeyStage.{KeyStage}
use Rattle.calls.specs.declared.refusal.Refusal.TheVariants.{Magnitude}
use Rattle.layout.specs.declared.refusal.FileRefusal.TheVariants.{Sounder, Version}
use Rattle.soundings.specs.Cases.{Sample, CaseKey, RoomSounding, Case, codes, sounding, rounding, reported, refused}

abbrev pub minus : ℕ → ℤ
minus n = neg_ℤ (pos n)

-- a whole number as a sample: its second word is 0
abbrev pub whole : ℤ → Sample
whole z = (z, pos 0)

abbrev pub one : Sample
one = whole (pos 1)

abbrev pub minus_one : Sample
minus_one = whole (minus 1)

abbrev pub i : Sample
i = (pos 0, pos 1)

abbrev pub minus_i : Sample
minus_i = (pos 0, minus 1)

abbrev pub key_of : KindName → ℕ → List KeyStage → CaseKey
key_of kind kernel stages = record { kind = kind; kernel = kernel; stages = stages }

abbrev pub stage : ℕ → ℕ → KeyStage
stage delay code = record { delay = delay; code = code }

abbrev pub one_stage : List KeyStage
one_stage = stage 1 0 ∷ []

-- the unit kernel, for both kinds
abbrev pub hall_kernel : Case
hall_kernel = codes (key_of Hall 1 []) 2 (one ∷ []) (one ∷ [])

abbrev pub radio_kernel : Case
radio_kernel = codes (key_of Radio 1 []) 2 (one ∷ []) (one ∷ [])

-- delay 1, code 0
abbrev pub hall_stage : Case
hall_stage = codes (key_of Hall 1 one_stage) 4 (one ∷ one ∷ []) (one ∷ minus_one ∷ [])

-- delays 1 and 2, codes 0 and 0
abbrev pub hall_stages : Case
hall_stages = codes (key_of Hall 1 (stage 1 0 ∷ stage 2 0 ∷ [])) 8 (one ∷ one ∷ one ∷ minus_one ∷ []) (one ∷ one ∷ minus_one ∷ one ∷ [])

-- delays 1 and 2, codes 1 and 0
abbrev pub turned_stages : List KeyStage
turned_stages = stage 1 1 ∷ stage 2 0 ∷ []

abbrev pub hall_turned : Case
hall_turned = codes (key_of Hall 1 turned_stages) 8 (minus_one ∷ one ∷ minus_one ∷ minus_one ∷ []) (minus_one ∷ one ∷ one ∷ one ∷ [])

abbrev pub radio_turned : Case
radio_turned = codes (key_of Radio 1 turned_stages) 8 (i ∷ one ∷ i ∷ minus_one ∷ []) (i ∷ one ∷ minus_i ∷ one ∷ [])

-- a room with the one tap 2 − 5i
abbrev pub radio_room : Case
radio_room = sounding (key_of Radio 1 []) (record {
  room_length = 1;
  room = (pos 2, minus 5) ∷ [];
  first = (pos 2, minus 5) ∷ [];
  second = (pos 2, minus 5) ∷ [];
  sums = (pos 4, minus 10) ∷ [];
  taps = (pos 2, minus 5) ∷ [];
})

-- the taps 3 and −1
abbrev pub two_taps : List Sample
two_taps = map whole (pos 3 ∷ minus 1 ∷ [])

abbrev pub two_tap_sounding : RoomSounding
two_tap_sounding = record {
  room_length = 2;
  room = two_taps;
  first = map whole (pos 3 ∷ pos 2 ∷ minus 1 ∷ []);
  second = map whole (pos 3 ∷ minus 4 ∷ pos 1 ∷ []);
  sums = map whole (pos 12 ∷ minus 4 ∷ []);
  taps = two_taps;
}

abbrev pub hall_room : Case
hall_room = sounding (key_of Hall 1 one_stage) two_tap_sounding

-- the same room, of which one tap is asked for
abbrev pub hall_tap : Case
hall_tap = sounding (key_of Hall 1 one_stage) (record {
  room_length = 1;
  room = two_taps;
  first = map whole (pos 3 ∷ pos 2 ∷ []);
  second = map whole (pos 3 ∷ minus 4 ∷ []);
  sums = map whole (pos 12 ∷ []);
  taps = map whole (pos 3 ∷ []);
})

-- halves go away from zero
abbrev pub halves : Case
halves = rounding 4 (pos 6 ∷ minus 6 ∷ pos 10 ∷ []) (pos 2 ∷ minus 2 ∷ pos 3 ∷ [])

-- the same sounding as a file, and the report of the file
abbrev pub hall_file : Case
hall_file = reported (key_of Hall 1 one_stage) two_tap_sounding (1 ∷ 0 ∷ 19 ∷ 1 ∷ 1 ∷ 1 ∷ 1 ∷ 0 ∷ 0 ∷ 2 ∷ 0 ∷ 3 ∷ 0 ∷ 2 ∷ 255 ∷ 255 ∷ 0 ∷ 3 ∷ 255 ∷ 252 ∷ 0 ∷ 1 ∷ []) (1 ∷ 0 ∷ 7 ∷ 1 ∷ 0 ∷ 2 ∷ 0 ∷ 3 ∷ 255 ∷ 255 ∷ [])

abbrev pub wrong_version : Case
wrong_version = refused (2 ∷ []) Version

-- the bytes 80 00 in place of sample 1 of the first record
abbrev pub loud_sample : Case
loud_sample = refused (1 ∷ 0 ∷ 19 ∷ 1 ∷ 1 ∷ 1 ∷ 1 ∷ 0 ∷ 0 ∷ 2 ∷ 0 ∷ 3 ∷ 128 ∷ 0 ∷ 255 ∷ 255 ∷ 0 ∷ 3 ∷ 255 ∷ 252 ∷ 0 ∷ 1 ∷ []) (Sounder (Magnitude 1) 12)

abbrev pub cases : List Case
cases =
    hall_kernel
    ∷ radio_kernel
    ∷ hall_stage
    ∷ hall_stages
    ∷ radio_room
    ∷ hall_turned
    ∷ radio_turned
    ∷ hall_room
    ∷ hall_file
    ∷ hall_tap
    ∷ halves
    ∷ wrong_version
    ∷ loud_sample
    ∷ []
