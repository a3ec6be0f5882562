-- What a call answers in a phase of a sounder: the tests from left to right, in their order.
use Rattle.std.specs.Prelude.{ℕ, ◌+◌, ◌-◌, Bool, true, false, cond, ◌&&◌, ℤ, Some, None, Ok, Err, Option, Result, ◌==◌, nat_le, nat_lt}
use Rattle.kinds.specs.Kinds.{KindModel}
use Rattle.sums.specs.declared.Side.{Side}
use Rattle.sums.specs.declared.Side.TheVariants.{A, B}
use Rattle.sums.specs.Codes.{Codes}
use Rattle.sums.specs.Rooms.{rounded}
use Rattle.calls.specs.Phases.{may_open, may_sample, may_turn, may_close, may_read}
use Rattle.calls.specs.declared.phase.Phase.{Phase}
use Rattle.calls.specs.declared.refusal.Refusal.{Refusal}
use Rattle.calls.specs.declared.refusal.Refusal.TheVariants.{RoomLength, WrongPhase, NoSample, Magnitude, RecordFull, RecordNotFull, Index}
use Rattle.calls.specs.declared.call.Call.{Call}
use Rattle.calls.specs.declared.call.Call.TheVariants.{Open, Sample, Turn, Close, Abandon, Code, Sum, Tap}
use Rattle.calls.specs.declared.call.Answer.{Answer}
use Rattle.calls.specs.declared.call.Answer.TheVariants.{Done, Words, Refused}

-- a result as an answer
abbrev pub done : {T : Type 0} → Result T Refusal → Answer
done (Ok x) = Done
done (Err e) = Refused e

abbrev pub worded : Result (ℤ × ℤ) Refusal → Answer
worded (Ok w) = Words w.0 w.1
worded (Err e) = Refused e

-- a call is accepted if it answers no refusal
abbrev pub accepted : Answer → Bool
accepted Done = true
accepted (Words a b) = true
accepted (Refused r) = false

-- go on if the test holds, else refuse
abbrev pub require : Bool → Refusal → Answer → Answer
require test e rest = cond test rest (Refused e)

-- the code of a side given as a number
abbrev pub side_of : ℕ → Side
side_of s = cond (s == 0) A B

abbrev pub words_of : {S : Type 0} → KindModel S → S → Answer
words_of k x = Words (k.encoding.first x) (k.encoding.second x)

module _ {S : Type 0} (k : KindModel S) (c : Codes S) where
  -- how many samples a full record has, at room length g
  abbrev pub full : ℕ → ℕ
  full g = c.span + g - 1

  -- a sum divided by the energy, word by word
  abbrev pub tap_of : S → Answer
  tap_of x = Words (rounded (k.encoding.first x) c.energy) (rounded (k.encoding.second x) c.energy)

  -- a sample is admitted if its magnitude is at most 32,767
  abbrev pub admitted : S → Bool
  admitted x = nat_le (k.polar.magnitude x) 32767

  abbrev pub sample_answer : ℕ → Option S → Answer
  sample_answer t None = Refused (NoSample t)
  sample_answer t (Some x) = require (admitted x) (Magnitude t) Done

  -- the answer in the phase p, with room length g, t samples accepted in the record, and these sums
  abbrev pub answer_to : Phase → ℕ → ℕ → (ℕ → S) → Call → Answer
  answer_to p g t sums (Open n) = require (may_open p) (WrongPhase p) (require (nat_le 1 n && nat_le n 256) RoomLength Done)
  answer_to p g t sums (Sample a b) = require (may_sample p) (WrongPhase p) (require (nat_lt t (full g)) (RecordFull t) (sample_answer t (k.encoding.sample a b)))
  answer_to p g t sums Turn = require (may_turn p) (WrongPhase p) (require (t == full g) (RecordNotFull t) Done)
  answer_to p g t sums Close = require (may_close p) (WrongPhase p) (require (t == full g) (RecordNotFull t) Done)
  answer_to p g t sums Abandon = Done
  answer_to p g t sums (Code s i) = require (nat_le s 1 && nat_lt i c.span) (Index i) (words_of k (c.entry (side_of s) i))
  answer_to p g t sums (Sum i) = require (may_read p) (WrongPhase p) (require (nat_lt i g) (Index i) (words_of k (sums i)))
  answer_to p g t sums (Tap i) = require (may_read p) (WrongPhase p) (require (nat_lt i g) (Index i) (tap_of (sums i)))
