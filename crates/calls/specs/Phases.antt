-- The phases of a sounder: their numbers, and which calls each allows.
use Rattle.std.specs.Prelude.{ℕ, Bool, true, false}
use Rattle.calls.specs.declared.phase.Phase.{Phase}
use Rattle.calls.specs.declared.phase.Phase.TheVariants.{Idle, FirstRecord, SecondRecord, Complete}

abbrev pub phase_number : Phase → ℕ
phase_number Idle = 0
phase_number FirstRecord = 1
phase_number SecondRecord = 2
phase_number Complete = 3

abbrev pub may_open : Phase → Bool
may_open Idle = true
may_open FirstRecord = false
may_open SecondRecord = false
may_open Complete = true

abbrev pub may_sample : Phase → Bool
may_sample Idle = false
may_sample FirstRecord = true
may_sample SecondRecord = true
may_sample Complete = false

abbrev pub may_turn : Phase → Bool
may_turn Idle = false
may_turn FirstRecord = true
may_turn SecondRecord = false
may_turn Complete = false

abbrev pub may_close : Phase → Bool
may_close Idle = false
may_close FirstRecord = false
may_close SecondRecord = true
may_close Complete = false

-- sums and taps
abbrev pub may_read : Phase → Bool
may_read Idle = false
may_read FirstRecord = false
may_read SecondRecord = false
may_read Complete = true
