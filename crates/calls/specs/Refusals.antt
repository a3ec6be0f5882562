-- The number, the layer and the place of each refusal of a sounder.
use Rattle.std.specs.Prelude.{ℕ, List}
use Rattle.refusals.specs.Texts.{refusal_with}
use Rattle.calls.specs.Phases.{phase_number}
use Rattle.calls.specs.declared.refusal.Refusal.{Refusal}
use Rattle.calls.specs.declared.refusal.Refusal.TheVariants.{RoomLength, WrongPhase, NoSample, Magnitude, RecordFull, RecordNotFull, Index}

abbrev pub number : Refusal → ℕ
number RoomLength = 5
number (WrongPhase p) = 6
number (NoSample t) = 7
number (Magnitude t) = 8
number (RecordFull t) = 9
number (RecordNotFull t) = 10
number (Index i) = 11

-- a sounder is layer 3
abbrev pub layer : Refusal → ℕ
layer r = 3

-- the number of the phase, the samples already accepted in the record, or the index
abbrev pub place : Refusal → ℕ
place RoomLength = 0
place (WrongPhase p) = phase_number p
place (NoSample t) = t
place (Magnitude t) = t
place (RecordFull t) = t
place (RecordNotFull t) = t
place (Index i) = i

abbrev pub refusal_text : Refusal → List ℕ
refusal_text r = refusal_with (number r) (layer r) (place r)
