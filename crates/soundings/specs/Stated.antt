-- The case that a value of the program states. The program keeps its lists behind references, which have addresses, so its cases have types of their own.
use Rattle.soundings.specs.Cases.{CaseKey, RoomSounding, Case, codes, sounding, rounding, reported, refused}
use Rattle.soundings.specs.declared.case.CaseKey as of-key
use Rattle.soundings.specs.declared.case.RoomSounding as of-sounding
use Rattle.soundings.specs.declared.case.Case as of-case
use Rattle.soundings.specs.declared.case.Case.TheVariants.{Codes, Sounding, Rounding, Reported, Refused}

abbrev pub stated_key : of-key.CaseKey → CaseKey
stated_key k = record { kind = k.kind; kernel = k.kernel; stages = k.stages.now }

abbrev pub stated_sounding : of-sounding.RoomSounding → RoomSounding
stated_sounding s = record {
  room_length = s.room_length;
  room = s.room.now;
  first = s.first.now;
  second = s.second.now;
  sums = s.sums.now;
  taps = s.taps.now;
}

abbrev pub stated : of-case.Case → Case
stated (Codes key energy a b) = codes (stated_key key) energy a.now b.now
stated (Sounding key s) = sounding (stated_key key) (stated_sounding s)
stated (Rounding energy sums taps) = rounding energy sums.now taps.now
stated (Reported key s file report) = reported (stated_key key) (stated_sounding s) file.now report.now
stated (Refused file refusal) = refused file.now refusal
