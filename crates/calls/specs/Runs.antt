-- Whole runs of a sounder in the words of a sounding: what was accepted, opened, recorded and closed.
use Rattle.std.specs.Prelude.{◌≡◌, ℕ, ◌+◌, ◌-◌, ◌^◌, ◌<◌, ◌≤◌, Bool, true, false, cond, ◌↔◌, List, [], ◌∷◌, ◌++◌, map, length, ℤ, Some, None, Option, nat_lt}
use Rattle.kinds.specs.Kinds.{KindModel}
use Rattle.sums.specs.declared.Side.{Side}
use Rattle.sums.specs.declared.Side.TheVariants.{A, B}
use Rattle.sums.specs.Codes.{Codes, Pending}
use Rattle.sums.specs.Rooms.{at, room_answer, correlation, sum_at, left_by, Near, Within}
use Rattle.calls.specs.Answers.{accepted, answer_to, words_of}
use Rattle.calls.specs.declared.phase.Phase.{Phase}
use Rattle.calls.specs.declared.phase.Phase.TheVariants.{Idle, FirstRecord, SecondRecord, Complete}
use Rattle.calls.specs.declared.call.Call.{Call}
use Rattle.calls.specs.declared.call.Call.TheVariants.{Open, Sample, Turn, Close, Abandon, Code, Sum, Tap}
use Rattle.calls.specs.declared.call.Answer.{Answer}
use Rattle.calls.specs.declared.call.Answer.TheVariants.{Words}
use Rattle.calls.specs.declared.call.Event.{Event}

-- the calls that a sounder was given since it was new, each with its answer
pub data Run : Type 0 where
  new : Run
  after : Run → Call → Answer → Run

-- a run that goes on by a list of calls with their answers
abbrev pub on : Run → List Event → Run
on h [] = h
on h (e ∷ es) = on (after h e.call e.answer) es

abbrev pub run_of : List Event → Run
run_of es = on new es

abbrev pub calls_of : List Event → List Call
calls_of es = map (λ (e : Event). e.call) es

abbrev pub answers_of : List Event → List Answer
answers_of es = map (λ (e : Event). e.answer) es

-- open, turn, close and abandon leave a mark
pub data Mark : Type 0 where
  none opened turned closed abandoned : Mark

abbrev pub marked : Call → Mark → Mark
marked (Open n) m = opened
marked (Sample a b) m = m
marked Turn m = turned
marked Close m = closed
marked Abandon m = abandoned
marked (Code s i) m = m
marked (Sum i) m = m
marked (Tap i) m = m

-- the last accepted of open, turn, close and abandon
abbrev pub last_mark : Run → Mark
last_mark new = none
last_mark (after h c r) = cond (accepted r) (marked c (last_mark h)) (last_mark h)

abbrev pub phase_after : Mark → Phase
phase_after none = Idle
phase_after opened = FirstRecord
phase_after turned = SecondRecord
phase_after closed = Complete
phase_after abandoned = Idle

-- whether this code plays after this mark
abbrev pub plays : Mark → Side → Bool
plays none side = false
plays opened A = true
plays opened B = false
plays turned A = false
plays turned B = true
plays closed side = false
plays abandoned side = false

abbrev pub opening : Call → ℕ → ℕ
opening (Open n) g = n
opening (Sample a b) g = g
opening Turn g = g
opening Close g = g
opening Abandon g = g
opening (Code s i) g = g
opening (Sum i) g = g
opening (Tap i) g = g

-- the room length of the last accepted open
abbrev pub room_length : Run → ℕ
room_length new = 0
room_length (after h c r) = cond (accepted r) (opening c (room_length h)) (room_length h)

abbrev pub is_open : Call → Bool
is_open (Open n) = true
is_open (Sample a b) = false
is_open Turn = false
is_open Close = false
is_open Abandon = false
is_open (Code s i) = false
is_open (Sum i) = false
is_open (Tap i) = false

-- whether an open was ever accepted
abbrev pub ever_opened : Run → Bool
ever_opened new = false
ever_opened (after h c r) = cond (accepted r) (cond (is_open c) true (ever_opened h)) (ever_opened h)

module _ {S : Type 0} (k : KindModel S) where
  abbrev pub with_sample : Option S → List S → List S
  with_sample (Some x) xs = xs ++ (x ∷ [])
  with_sample None xs = xs

  -- a record after one more accepted call, where the code of its side plays or not
  abbrev pub recorded : Bool → Call → List S → List S
  recorded now (Open n) xs = []
  recorded now (Sample a b) xs = cond now (with_sample (k.encoding.sample a b) xs) xs
  recorded now Turn xs = xs
  recorded now Close xs = xs
  recorded now Abandon xs = xs
  recorded now (Code s i) xs = xs
  recorded now (Sum i) xs = xs
  recorded now (Tap i) xs = xs

  -- the samples accepted since the last accepted open: up to an accepted turn (side A), or from there (side B)
  abbrev pub record_of : Side → Run → List S
  record_of side new = []
  record_of side (after h c r) = cond (accepted r) (recorded (plays (last_mark h) side) c (record_of side h)) (record_of side h)

  abbrev pub listened : Call → List S → List S
  listened (Open n) xs = []
  listened (Sample a b) xs = with_sample (k.encoding.sample a b) xs
  listened Turn xs = []
  listened Close xs = xs
  listened Abandon xs = xs
  listened (Code s i) xs = xs
  listened (Sum i) xs = xs
  listened (Tap i) xs = xs

  -- the samples accepted since the last accepted open or turn
  abbrev pub latest_record : Run → List S
  latest_record new = []
  latest_record (after h c r) = cond (accepted r) (listened c (latest_record h)) (latest_record h)

  -- both records as functions of the place
  abbrev pub records : Run → Side → ℕ → S
  records h side = at k.ring (record_of side h)

module _ {S : Type 0} (k : KindModel S) (c : Codes S) where
  -- what the call answers after the run
  abbrev pub answer_after : Run → Call → Answer
  answer_after h call = answer_to k c (phase_after (last_mark h)) (room_length h) (length (latest_record k h)) (sum_at k.ring c (records k h)) call

  -- the answers to a list of calls after the run
  abbrev pub answers : Run → List Call → List Answer
  answers h [] = []
  answers h (x ∷ xs) = answer_after h x ∷ answers (after h x (answer_after h x)) xs

  -- the part of sum i that a record makes with the code of its side: it counts once sample i + span - 1 is accepted
  abbrev pub part : Side → List S → ℕ → S
  part side xs i = cond (nat_lt (i + (c.span - 1)) (length xs)) (correlation k.ring c.span (c.entry side) (at k.ring xs) i) k.ring.zero

  -- sum i of what was accepted so far, also in the midst of a record
  abbrev pub so_far : Run → ℕ → S
  so_far h i = k.ring.add (part A (record_of k A h) i) (part B (record_of k B h) i)

  -- what is pending in the pair: before the first accepted open what it had, then what the samples since the last accepted open or turn leave
  abbrev pub pending_after : Pending S → Run → Pending S
  pending_after start h side j = cond (ever_opened h) (left_by k.ring c.span (c.entry side) (at k.ring (latest_record k h)) (length (latest_record k h)) j) (start side j)

-- what holds of each call of a run with its answer, after the calls before it
abbrev pub AtEach : (Run → Call → Answer → Type 0) → Run → Type 0
AtEach P new = Unit {0}
AtEach P (after h c r) = AtEach P h × P h c r

module _ {S : Type 0} (k : KindModel S) (c : Codes S) where
  -- every call got the answer that the calls before it determine
  abbrev pub Answered : Run → Type 0
  Answered h = AtEach (λ g call r. r ≡ answer_after k c g call) h

  -- every sample accepted since the last accepted open lies within E of the room's answer to the code then playing
  abbrev pub SamplesNear : ℕ → List S → Run → Type 0
  SamplesNear E taps h = (side : Side) (t : ℕ) → t < length (record_of k side h) → Within k.ring k.polar E (records k h side t) (room_answer k.ring c.span (c.entry side) (at k.ring taps) t)

  -- for every room and every E, both up to 2 ^ 40: each word that a tap gives lies within E of that word of the room's tap
  abbrev pub TapsWithin : Run → Type 0
  TapsWithin h = (E : ℕ) (taps : List S) → E ≤ 2 ^ 40 → ((i : ℕ) → i < length taps → k.polar.magnitude (at k.ring taps i) ≤ 2 ^ 40)
      → AtEach (λ g call r. (i : ℕ) (a b : ℤ) → call ≡ Tap i → r ≡ Words a b → SamplesNear E taps g → Near E a (k.encoding.first (at k.ring taps i)) × Near E b (k.encoding.second (at k.ring taps i))) h

-- a tap is accepted exactly if the last accepted mark is a close and the index is below the room length
abbrev pub TapAllowed : Run → Type 0
TapAllowed h = AtEach (λ g call r. (i : ℕ) → call ≡ Tap i → (accepted r ≡ true) ↔ ((last_mark g ≡ closed) × (i < room_length g))) h

-- a run that is answered, and closed at this room length
pub record Closed {S : Type 0} (k : KindModel S) (c : Codes S) (g : ℕ) (h : Run) : Type 0 where
  pub answered : Answered k c h
  pub mark : last_mark h ≡ closed
  pub room_is : room_length h ≡ g

pub record SameCodes {S : Type 0} (c d : Codes S) : Type 0 where
  pub same_span : c.span ≡ d.span
  pub same_entry : c.entry ≡ d.entry

-- of three closed runs with the same codes and room length: where the samples of h are the sums of those of f and g, place by place, so are its sums, index by index
abbrev pub SumsAdd : {S : Type 0} → KindModel S → Codes S → Run → Type 0
SumsAdd {S} k c h = (d e : Codes S) (f g : Run) (n : ℕ) → SameCodes d c → SameCodes e c → Closed k d n f → Closed k e n g → Closed k c n h
    → ((side : Side) (t : ℕ) → records k h side t ≡ k.ring.add (records k f side t) (records k g side t))
    → (i : ℕ) → i < n → (x y : S) → answer_after k d f (Sum i) ≡ words_of k x → answer_after k e g (Sum i) ≡ words_of k y → answer_after k c h (Sum i) ≡ words_of k (k.ring.add x y)

-- all that holds of a run over a pair with these codes
pub record RunLaws {S : Type 0} (k : KindModel S) (c : Codes S) (h : Run) : Type 0 where
  pub answered : Answered k c h
  pub taps_within : TapsWithin k c h
  pub tap_allowed : TapAllowed h
  pub sums_add : SumsAdd k c h
