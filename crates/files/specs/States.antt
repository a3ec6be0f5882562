-- What a sounder holds while it is given the calls of a sounding.
use Rattle.std.specs.Prelude.{◌≡◌, ℕ, ◌≤◌, true, List, [], ◌∷◌, ℤ}
use Rattle.kinds.specs.Kinds.{KindModel}
use Rattle.sums.specs.Codes.{Codes}
use Rattle.calls.specs.declared.phase.Phase.TheVariants.{FirstRecord}
use Rattle.calls.specs.Phases.{may_sample}
use Rattle.calls.specs.Answers.{full}
use Rattle.calls.specs.declared.call.Call.{Call}
use Rattle.sounder.specs.States.{State, next}
use Rattle.kinds.specs.declared.kind_name.KindName.{KindName}
use Rattle.reports.specs.Reports.{report_length}
use Rattle.files.specs.Soundings.{taps, TapsLaws}

-- the state after a list of calls
abbrev pub led : {S : Type 0} → KindModel S → List Call → State S → State S
led k [] s = s
led k (x ∷ xs) s = led k xs (next k x s)

-- a record is begun that has place for n samples
pub record Ready {S : Type 0} (k : KindModel S) (n : ℕ) (s : State S) : Type 0 where
  pub phase_takes : may_sample s.phase ≡ true
  pub none_yet : s.count ≡ 0
  pub place : n ≤ full k s.codes s.room

-- the first record is begun, and is full at n samples
pub record Begun {S : Type 0} (k : KindModel S) (n : ℕ) (s : State S) : Type 0 where
  pub phase_first : s.phase ≡ FirstRecord
  pub none_yet : s.count ≡ 0
  pub full_at : n ≡ full k s.codes s.room

-- n samples were taken in the state s, and t came of it
pub record Took {S : Type 0} (n : ℕ) (s t : State S) : Type 0 where
  pub codes_stay : t.codes ≡ s.codes
  pub phase_stays : t.phase ≡ s.phase
  pub room_stays : t.room ≡ s.room
  pub counted : t.count ≡ n

-- what comes of a sounding that is accepted: the taps, as many as the room length says, and a buffer that has place for their report
pub record Sounded {S : Type 0} (k : KindModel S) (c : Codes S) (kind : KindName) (room : ℕ) (records : List ℕ) (space : ℕ) (t : List (ℤ × ℤ)) : Type 0 where
  pub taps_are : t ≡ taps k c kind room records
  pub room_least : 1 ≤ room
  pub room_most : room ≤ 256
  pub placed : report_length kind room ≤ space
  pub laws : TapsLaws k c kind room records
