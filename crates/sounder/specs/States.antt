-- What a sounder holds, and what each call makes of it.
use Rattle.std.specs.Prelude.{◌≡◌, ℕ, ◌+◌, ◌-◌, false, cond, Some, None, Ok, Err, Option, Result, ◌==◌, nat_lt}
use Rattle.kinds.specs.Kinds.{KindModel}
use Rattle.sums.specs.declared.Side.{Side}
use Rattle.sums.specs.declared.Side.TheVariants.{A, B}
use Rattle.sums.specs.Codes.{Codes, Pending, arriving, pushed, silent}
use Rattle.pairs.specs.Pairs.{PairModel, codes_of}
use Rattle.tables.specs.Tables.{words, sample_of}
use Rattle.calls.specs.Phases.{may_read}
use Rattle.calls.specs.declared.refusal.Refusal.{Refusal}
use Rattle.calls.specs.declared.refusal.Refusal.TheVariants.{WrongPhase, Index}
use Rattle.calls.specs.Answers.{accepted, answer_to}
use Rattle.calls.specs.declared.phase.Phase.{Phase}
use Rattle.calls.specs.declared.phase.Phase.TheVariants.{Idle, FirstRecord, SecondRecord, Complete}
use Rattle.calls.specs.declared.call.Call.{Call}
use Rattle.calls.specs.declared.call.Call.TheVariants.{Open, Sample, Turn, Close, Abandon, Code, Sum, Tap}
use Rattle.calls.specs.declared.call.Answer.{Answer}
use Rattle.sounder.specs.declared.state.Sounder.{Sounder}

pub record State (S : Type 0) : Type 0 where
  pub codes : Codes S
  pub pending : Pending S
  pub phase : Phase
  pub room : ℕ
  pub count : ℕ
  pub sums : ℕ → S

abbrev pub state : {S : Type 0} → Codes S → Pending S → Phase → ℕ → ℕ → (ℕ → S) → State S
state codes pending phase room count sums = record { codes = codes; pending = pending; phase = phase; room = room; count = count; sums = sums }

-- what is read back from the tables of a sounder
abbrev pub state_of : {P S : Type 0} → KindModel S → PairModel P S → Sounder P → State S
state_of k m s = state (codes_of m s.pair) (m.pending s.pair) s.phase s.room s.count (λ i. sample_of k.ring k.encoding (words s.sums i))

-- a new sounder is idle, with room length and sums zero
abbrev pub fresh : {P S : Type 0} → KindModel S → PairModel P S → P → State S
fresh k m pair = state (codes_of m pair) (m.pending pair) Idle 0 0 (λ i. k.ring.zero)

-- the code that plays while a record is taken: A in the first, B in the second
abbrev pub playing : Phase → Side
playing Idle = A
playing FirstRecord = A
playing SecondRecord = B
playing Complete = A

-- y is added to the sum that comes out with sample `count` of a record
abbrev pub gathered : {S : Type 0} → KindModel S → ℕ → ℕ → S → (ℕ → S) → ℕ → S
gathered k span count y sums i = cond (i + (span - 1) == count) (k.ring.add (sums i) y) (sums i)

-- one more sample: it is pushed, and what comes out is gathered
abbrev pub took : {S : Type 0} → KindModel S → S → State S → State S
took k x s =
    state s.codes (pushed k.ring s.codes s.pending x) s.phase s.room (s.count + 1)
    (gathered k s.codes.span s.count (arriving k.ring s.codes s.pending x (playing s.phase) 0) s.sums)

abbrev pub took_if : {S : Type 0} → KindModel S → Option S → State S → State S
took_if k (Some x) s = took k x s
took_if k None s = s

-- what an accepted call makes of the state
abbrev pub moved : {S : Type 0} → KindModel S → Call → State S → State S
moved k (Open n) s = state s.codes (silent k.ring) FirstRecord n 0 (λ i. k.ring.zero)
moved k (Sample a b) s = took_if k (k.encoding.sample a b) s
moved k Turn s = state s.codes (silent k.ring) SecondRecord s.room 0 s.sums
moved k Close s = state s.codes s.pending Complete s.room s.count s.sums
moved k Abandon s = state s.codes s.pending Idle s.room s.count s.sums
moved k (Code e i) s = s
moved k (Sum i) s = s
moved k (Tap i) s = s

-- the sum of an index, or the refusal of a call that asks for it
abbrev pub sum_read : {S : Type 0} → State S → ℕ → Result S Refusal
sum_read s i = cond (may_read s.phase) (cond (nat_lt i s.room) (Ok (s.sums i)) (Err (Index i))) (Err (WrongPhase s.phase))

-- what the call answers
abbrev pub says : {S : Type 0} → KindModel S → Call → State S → Answer
says k call s = answer_to k s.codes s.phase s.room s.count s.sums call

-- what the sounder then holds
abbrev pub next : {S : Type 0} → KindModel S → Call → State S → State S
next k call s = cond (accepted (says k call s)) (moved k call s) s

-- a call of the sounder s answers r and makes t of it; a refused call leaves the sounder itself as it was
pub record Does {P S : Type 0} (k : KindModel S) (m : PairModel P S) (call : Call) (s t : Sounder P) (r : Answer) : Type 0 where
  pub value : r ≡ says k call (state_of k m s)
  pub after : state_of k m t ≡ next k call (state_of k m s)
  pub kept : accepted r ≡ false → t ≡ s
