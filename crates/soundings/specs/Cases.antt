-- Worked cases: what a case is, and what it claims of the definitions that the contracts of the library cite.
use Rattle.std.specs.Prelude.{◌≡◌, ℕ, ◌+◌, ◌≤◌, List, map, length, replicate, ℤ, Some, None, Ok}
use Rattle.std.specs.List.{range_with_len}
use Rattle.kinds.specs.Kinds.{KindModel}
use Rattle.kinds.specs.Halls.{hall}
use Rattle.kinds.specs.Radios.{radio}
use Rattle.kinds.specs.KindNames.{roots}
use Rattle.kinds.specs.declared.kind_name.KindName.{KindName}
use Rattle.kinds.specs.declared.kind_name.KindName.TheVariants.{Hall, Radio}
use Rattle.sums.specs.declared.Side.{Side}
use Rattle.sums.specs.declared.Side.TheVariants.{A, B}
use Rattle.sums.specs.Codes.{Codes}
use Rattle.sums.specs.Rooms.{at, room_answer, rounded}
use Rattle.keys.specs.declared.stage.KeyStage.{KeyStage}
use Rattle.keys.specs.Judged.{judged}
use Rattle.keys.specs.Plans.{Plan, plan}
use Rattle.keys.specs.KeyCodes.{key_codes}
use Rattle.calls.specs.declared.call.Call.TheVariants.{Sum, Tap}
use Rattle.calls.specs.declared.call.Answer.TheVariants.{Done, Words}
use Rattle.calls.specs.Answers.{full}
use Rattle.calls.specs.Runs.{Run, new, answers, answer_after}
use Rattle.layout.specs.declared.refusal.FileRefusal.{FileRefusal}
use Rattle.layout.specs.Fields.{kind_of, plan_in, room_of, records_of}
use Rattle.layout.specs.Tests.{first_refusal}
use Rattle.files.specs.Soundings.{sounding_calls, run_by, first_record, second_record, taps}
use Rattle.files.specs.Files.{hall_kind, radio_kind, input_tests, report_of}

-- a sample, an entry, a sum or a tap by its two words
abbrev pub Sample : Type 0
Sample = ℤ × ℤ

-- a key and the kind that it is for
pub record CaseKey : Type 0 where
  pub kind : KindName
  pub kernel : ℕ
  -- the lowest first
  pub stages : List KeyStage

-- a sounding at a room length: the taps of the room, both records, and the sums and taps that come of them
pub record RoomSounding : Type 0 where
  pub room_length : ℕ
  pub room : List Sample
  pub first : List Sample
  pub second : List Sample
  pub sums : List Sample
  pub taps : List Sample

pub data Case : Type 0 where
  -- a key, its energy and its codes A and B
  codes : CaseKey → ℕ → List Sample → List Sample → Case
  -- a sounding with the codes of a key
  sounding : CaseKey → RoomSounding → Case
  -- an energy, sums, and each sum divided by the energy and rounded
  rounding : ℕ → List ℤ → List ℤ → Case
  -- a sounding with the codes of a key, its sounding file and the report of the file
  reported : CaseKey → RoomSounding → List ℕ → List ℕ → Case
  -- a file and its refusal
  refused : List ℕ → FileRefusal → Case

abbrev pub plan_of : CaseKey → Plan
plan_of key = plan key.kernel (roots key.kind) key.stages

-- the key is one that is accepted
abbrev pub IsAccepted : CaseKey → Type 0
IsAccepted key = judged (roots key.kind) key.kernel key.stages ≡ Ok tt

module _ {S : Type 0} (k : KindModel S) where
  -- the samples at the first n places, by their words
  abbrev pub worded : (ℕ → S) → ℕ → List Sample
  worded f n = map (λ j. (k.encoding.first (f j), k.encoding.second (f j))) (range_with_len 0 n)

  -- codes with this energy and these entries
  pub record AreCodes (c : Codes S) (energy : ℕ) (a b : List Sample) : Type 0 where
    pub energy_is : c.energy ≡ energy
    pub code_a : worded (c.entry A) c.span ≡ a
    pub code_b : worded (c.entry B) c.span ≡ b

  -- a full record of what a room with these taps answers to the code of a side
  abbrev pub room_record : Codes S → List S → ℕ → Side → List Sample
  room_record c room g side = worded (room_answer k.ring c.span (c.entry side) (at k.ring room)) (full k c g)

  -- a new sounder after the calls of the sounding
  abbrev pub closed_run : Codes S → RoomSounding → Run
  closed_run c s = run_by k c new (sounding_calls s.room_length s.first s.second)

  -- the sounding of a room with these taps over a pair with the codes c
  pub record IsSounded (c : Codes S) (room : List S) (s : RoomSounding) : Type 0 where
    -- the records are what the room answers to the two codes
    pub first_is : room_record c room s.room_length A ≡ s.first
    pub second_is : room_record c room s.room_length B ≡ s.second
    -- open, each sample, turn and close are accepted
    pub all_done : answers k c new (sounding_calls s.room_length s.first s.second) ≡ replicate (length s.first + length s.second + 3) Done
    -- each sum and each tap that is then asked for
    pub sums_are : map (λ i. answer_after k c (closed_run c s) (Sum i)) (range_with_len 0 s.room_length) ≡ map (λ (x : Sample). Words x.0 x.1) s.sums
    pub taps_are : map (λ i. answer_after k c (closed_run c s) (Tap i)) (range_with_len 0 s.room_length) ≡ map (λ (x : Sample). Words x.0 x.1) s.taps

  -- the file says this key, this room length and these records, and the taps are these
  pub record IsFiled (p : Plan) (kind : KindName) (s : RoomSounding) (file : List ℕ) : Type 0 where
    pub kind_is : kind_of file ≡ kind
    pub plan_is : plan_in file ≡ p
    pub room_length_is : room_of file ≡ s.room_length
    pub first_is : first_record k (key_codes k p) kind s.room_length (records_of file) ≡ s.first
    pub second_is : second_record k (key_codes k p) kind s.room_length (records_of file) ≡ s.second
    pub taps_are : taps k (key_codes k p) kind s.room_length (records_of file) ≡ s.taps

abbrev pub CodesClaim : KindName → Plan → ℕ → List Sample → List Sample → Type 0
CodesClaim Hall p = AreCodes hall_kind (key_codes hall_kind p)
CodesClaim Radio p = AreCodes radio_kind (key_codes radio_kind p)

abbrev pub SoundingClaim : KindName → Plan → RoomSounding → Type 0
SoundingClaim Hall p s = IsSounded hall_kind (key_codes hall_kind p) (map (λ (x : Sample). hall x.0) s.room) s
SoundingClaim Radio p s = IsSounded radio_kind (key_codes radio_kind p) (map radio s.room) s

abbrev pub FileClaim : KindName → Plan → RoomSounding → List ℕ → Type 0
FileClaim Hall p = IsFiled hall_kind p Hall
FileClaim Radio p = IsFiled radio_kind p Radio

-- the file passes every test if the buffer has place for the report, and these are the report's bytes
pub record IsReported (file bytes : List ℕ) : Type 0 where
  pub passed : (space : ℕ) → length bytes ≤ space → first_refusal (input_tests file space) ≡ None
  pub bytes_are : report_of file ≡ bytes

-- what a case claims
abbrev pub Claims : Case → Type 0
Claims (codes key energy a b) = IsAccepted key × CodesClaim key.kind (plan_of key) energy a b
Claims (sounding key s) = IsAccepted key × SoundingClaim key.kind (plan_of key) s
Claims (rounding energy sums taps) = map (λ z. rounded z energy) sums ≡ taps
Claims (reported key s file bytes) = FileClaim key.kind (plan_of key) s file × IsReported file bytes
-- with each buffer that has place for the longest report, of 1,030 bytes
Claims (refused file refusal) = (space : ℕ) → 1030 ≤ space → first_refusal (input_tests file space) ≡ Some refusal
