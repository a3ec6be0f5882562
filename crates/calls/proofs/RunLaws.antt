-- What follows of a run in which every call got the answer that the calls before it determine.
use Rattle.std.proofs.Common.{◌≡◌, ℕ, ◌+◌, ◌^◌, ◌<◌, ◌≤◌, Bool, true, false, cond, eqb, ltb, List, [], length, ℤ, Option, sym, refl, ap, ◌∙◌, subst, ap₂, ⊎_elim, arith}
use lib.ListN.{get_or-eq_default}
use Rattle.std.proofs.lemmas.Bool.{cases_lt, false≢true, ltb-true, lt-ltb, eqb-true, cond-true}
use Rattle.kinds.specs.Kinds.{KindModel, KindLaws}
use Rattle.sums.specs.declared.Side.{Side}
use Rattle.sums.specs.declared.Side.TheVariants.{A, B}
use Rattle.sums.specs.Codes.{Codes, Pending, PairLaws}
use Rattle.sums.specs.Rooms.{at, correlation, sum_at, rounded, Near}
use Rattle.sums.proofs.Pushes.{sum_at_same, sum_at_add}
use Rattle.sums.proofs.Noise.{magnitude_zero}
use Rattle.sums.proofs.Taps.{taps_near}
use Rattle.calls.specs.declared.refusal.Refusal.{Refusal}
use Rattle.calls.specs.declared.refusal.Refusal.TheVariants.{WrongPhase, RecordNotFull, Index}
use Rattle.calls.specs.declared.call.Call.{Call}
use Rattle.calls.specs.declared.call.Call.TheVariants.{Open, Sample, Turn, Close, Abandon, Code, Sum, Tap}
use Rattle.calls.specs.declared.call.Answer.{Answer}
use Rattle.calls.specs.declared.call.Answer.TheVariants.{Done, Words}
use Rattle.calls.specs.Phases.{may_turn, may_close, may_read}
use Rattle.calls.specs.Answers.{accepted, require, words_of, full}
use Rattle.calls.specs.Runs

-- what each call has, if each has what implies it
each_map : (P Q : Runs.Run → Call → Answer → Type 0) → ((h : Runs.Run) (c : Call) (r : Answer) → P h c r → Q h c r) → (h : Runs.Run) → Runs.AtEach P h → Runs.AtEach Q h
each_map P Q f Runs.new a = tt
each_map P Q f (Runs.after h c r) a = (each_map P Q f h a.0, f h c r a.1)

-- a test was passed on the way to an acceptance
passed : (b : Bool) (e : Refusal) (w : Answer) → accepted (require b e w) ≡ true → (b ≡ true) × (require b e w ≡ w)
passed true e w a = (refl, refl)
passed false e w a = absurd (false≢true a)

-- an index asked for after a mark
abbrev reading : Runs.Mark → ℕ → ℕ → Answer → Answer
reading m i g w = require (may_read (Runs.phase_after m)) (WrongPhase (Runs.phase_after m)) (require (ltb i g) (Index i) w)

reading_out : (m : Runs.Mark) (i g : ℕ) (w : Answer) → accepted (reading m i g w) ≡ true → (m ≡ Runs.closed) × (i < g) × (reading m i g w ≡ w)
reading_out Runs.none i g w a = absurd (false≢true a)
reading_out Runs.opened i g w a = absurd (false≢true a)
reading_out Runs.turned i g w a = absurd (false≢true a)
reading_out Runs.abandoned i g w a = absurd (false≢true a)
reading_out Runs.closed i g w a = let p = passed (ltb i g) (Index i) w a in (refl, ltb-true i g p.0, p.1)

reading_in : (m : Runs.Mark) (i g : ℕ) (w : Answer) → m ≡ Runs.closed → i < g → reading m i g w ≡ w
reading_in m i g w e l = ap (λ n. reading n i g w) e ∙ cond-true _ _ _ (lt-ltb i g l)

module _ {S : Type 0} (k : KindModel S) (c : Codes S) where
  allowed : (h : Runs.Run) → Runs.Answered k c h → Runs.TapAllowed h
  allowed = each_map _ _ (λ h call r e i is.
      let same : r ≡ Runs.answer_after k c h (Tap i) = e ∙ ap (Runs.answer_after k c h) is in (
        (λ a. let o = reading_out (Runs.last_mark h) i (Runs.room_length h) _ (ap accepted (sym same) ∙ a) in (o.0, o.1)),
        (λ p. ap accepted (same ∙ reading_in (Runs.last_mark h) i (Runs.room_length h) _ p.0 p.1)),
      ))

  -- how the records x and y and the latest record z stand to each other after each mark, at room length g; b says whether there was an open
  abbrev pub Fits : Runs.Mark → ℕ → Bool → List S → List S → List S → Type 0
  Fits Runs.none g b x y z = Unit {0}
  Fits Runs.opened g b x y z = (b ≡ true) × (z ≡ x) × (y ≡ [])
  Fits Runs.turned g b x y z = (b ≡ true) × (z ≡ y) × (length x ≡ full k c g)
  Fits Runs.closed g b x y z = (length x ≡ full k c g) × (length y ≡ full k c g)
  Fits Runs.abandoned g b x y z = Unit {0}

  abbrev pub FitsRun : Runs.Run → Type 0
  FitsRun h = Fits (Runs.last_mark h) (Runs.room_length h) (Runs.ever_opened h) (Runs.record_of k A h) (Runs.record_of k B h) (Runs.latest_record k h)

  -- the same after one more accepted call
  abbrev FitsNext : Runs.Run → Call → Type 0
  FitsNext h call =
      Fits (Runs.marked call (Runs.last_mark h)) (Runs.opening call (Runs.room_length h)) (cond (Runs.is_open call) true (Runs.ever_opened h))
      (Runs.recorded k (Runs.plays (Runs.last_mark h) A) call (Runs.record_of k A h)) (Runs.recorded k (Runs.plays (Runs.last_mark h) B) call (Runs.record_of k B h)) (Runs.listened k call (Runs.latest_record k h))

  -- an accepted call goes on, a refused one leaves all
  by_answer : (h : Runs.Run) (call : Call) (r : Answer) → FitsRun h → (accepted r ≡ true → FitsNext h call) → FitsRun (Runs.after h call r)
  by_answer h call r old more = go (accepted r) more
    where
      go : (b : Bool) → (b ≡ true → FitsNext h call)
          → Fits (cond b (Runs.marked call (Runs.last_mark h)) (Runs.last_mark h)) (cond b (Runs.opening call (Runs.room_length h)) (Runs.room_length h)) (cond b (cond (Runs.is_open call) true (Runs.ever_opened h)) (Runs.ever_opened h))
          (cond b (Runs.recorded k (Runs.plays (Runs.last_mark h) A) call (Runs.record_of k A h)) (Runs.record_of k A h)) (cond b (Runs.recorded k (Runs.plays (Runs.last_mark h) B) call (Runs.record_of k B h)) (Runs.record_of k B h)) (cond b (Runs.listened k call (Runs.latest_record k h)) (Runs.latest_record k h))
      go true f = f refl
      go false f = old

  sample_fits : (m : Runs.Mark) (g : ℕ) (b : Bool) (x y z : List S) (o : Option S) → Fits m g b x y z → Fits m g b (cond (Runs.plays m A) (Runs.with_sample k o x) x) (cond (Runs.plays m B) (Runs.with_sample k o y) y) (Runs.with_sample k o z)
  sample_fits Runs.none g b x y z o f = tt
  sample_fits Runs.opened g b x y z o f = (f.0, ap (Runs.with_sample k o) f.1, f.2)
  sample_fits Runs.turned g b x y z o f = (f.0, ap (Runs.with_sample k o) f.1, f.2)
  sample_fits Runs.closed g b x y z o f = f
  sample_fits Runs.abandoned g b x y z o f = tt

  full_only : (t n : ℕ) → accepted (require (eqb t n) (RecordNotFull t) Done) ≡ true → t ≡ n
  full_only t n a = eqb-true t n (passed (eqb t n) (RecordNotFull t) Done a).0

  turn_fits : (m : Runs.Mark) (g : ℕ) (b : Bool) (x y z : List S) → accepted (require (may_turn (Runs.phase_after m)) (WrongPhase (Runs.phase_after m)) (require (eqb (length z) (full k c g)) (RecordNotFull (length z)) Done)) ≡ true → Fits m g b x y z → Fits Runs.turned g b x y []
  turn_fits Runs.none g b x y z a f = absurd (false≢true a)
  turn_fits Runs.opened g b x y z a f = (f.0, sym f.2, ap length (sym f.1) ∙ full_only _ _ a)
  turn_fits Runs.turned g b x y z a f = absurd (false≢true a)
  turn_fits Runs.closed g b x y z a f = absurd (false≢true a)
  turn_fits Runs.abandoned g b x y z a f = absurd (false≢true a)

  close_fits : (m : Runs.Mark) (g : ℕ) (b : Bool) (x y z : List S) → accepted (require (may_close (Runs.phase_after m)) (WrongPhase (Runs.phase_after m)) (require (eqb (length z) (full k c g)) (RecordNotFull (length z)) Done)) ≡ true → Fits m g b x y z → Fits Runs.closed g b x y z
  close_fits Runs.none g b x y z a f = absurd (false≢true a)
  close_fits Runs.opened g b x y z a f = absurd (false≢true a)
  close_fits Runs.turned g b x y z a f = (f.2, ap length (sym f.1) ∙ full_only _ _ a)
  close_fits Runs.closed g b x y z a f = absurd (false≢true a)
  close_fits Runs.abandoned g b x y z a f = absurd (false≢true a)

  call_fits : (h : Runs.Run) (call : Call) → FitsRun h → accepted (Runs.answer_after k c h call) ≡ true → FitsNext h call
  call_fits h (Open n) f a = (refl, refl, refl)
  call_fits h (Sample u v) f a = sample_fits (Runs.last_mark h) (Runs.room_length h) (Runs.ever_opened h) _ _ _ (k.encoding.sample u v) f
  call_fits h Turn f a = turn_fits (Runs.last_mark h) (Runs.room_length h) (Runs.ever_opened h) _ _ (Runs.latest_record k h) a f
  call_fits h Close f a = close_fits (Runs.last_mark h) (Runs.room_length h) (Runs.ever_opened h) _ _ (Runs.latest_record k h) a f
  call_fits h Abandon f a = tt
  call_fits h (Code s i) f a = f
  call_fits h (Sum i) f a = f
  call_fits h (Tap i) f a = f

  pub fits : (h : Runs.Run) → Runs.Answered k c h → FitsRun h
  fits Runs.new a = tt
  fits (Runs.after h call r) a = let old = fits h a.0 in by_answer h call r old (λ t. call_fits h call old (ap accepted (sym a.1) ∙ t))

  -- after a close both records are full
  pub both_full : (h : Runs.Run) → Runs.Answered k c h → Runs.last_mark h ≡ Runs.closed → (side : Side) → length (Runs.record_of k side h) ≡ full k c (Runs.room_length h)
  both_full h a e side =
      let f = subst (λ m. Fits m (Runs.room_length h) (Runs.ever_opened h) (Runs.record_of k A h) (Runs.record_of k B h) (Runs.latest_record k h)) e (fits h a) in
      elim side as (λ s. length (Runs.record_of k s h) ≡ full k c (Runs.room_length h)) [ A ↦ f.0 | B ↦ f.1 ]

module _ {S : Type 0} (k : KindModel S) (K : KindLaws k) (c : Codes S) (start : Pending S) (P : PairLaws k.ring k.polar c start) where
  -- a room is silent outside its list
  tall_all : (taps : List S) → ((i : ℕ) → i < length taps → k.polar.magnitude (at k.ring taps i) ≤ 2 ^ 40) → (i : ℕ) → k.polar.magnitude (at k.ring taps i) ≤ 2 ^ 40
  tall_all taps h i =
      ⊎_elim (h i) (λ l. let e = ap k.polar.magnitude (get_or-eq_default taps k.ring.zero l) ∙ magnitude_zero K.algebra K.conjugation K.wordwise K.unity K.magnitudes in omega arith) (cases_lt i (length taps))

  -- the taps after a close
  closed_near : (h : Runs.Run) (E : ℕ) (taps : List S) (i : ℕ) → Runs.Answered k c h → Runs.last_mark h ≡ Runs.closed → i < Runs.room_length h → E ≤ 2 ^ 40 → k.polar.magnitude (at k.ring taps i) ≤ 2 ^ 40 → Runs.SamplesNear k c E taps h
      → Near E (rounded (k.encoding.first (sum_at k.ring c (Runs.records k h) i)) c.energy) (k.encoding.first (at k.ring taps i)) × Near E (rounded (k.encoding.second (sum_at k.ring c (Runs.records k h) i)) c.energy) (k.encoding.second (at k.ring taps i))
  closed_near h E taps i a mark l far tall near =
      let one = P.span_least in
      taps_near K c start P (at k.ring taps) (Runs.records k h) E i far tall (λ side j b. near side (j + i) (let n = both_full k c h a mark side in omega arith))

  same_words : (a b u v : ℤ) → Words a b ≡ Words u v → (a ≡ u) × (b ≡ v)
  same_words a b u v e = ((cc), (cc))

  near : (h : Runs.Run) → Runs.Answered k c h → Runs.TapsWithin k c h
  near Runs.new a E taps far tall = tt
  near (Runs.after h call r) a E taps far tall = (
    near h a.0 E taps far tall,
    (λ i u v is gives samples.
        let same : Words u v ≡ Runs.answer_after k c h (Tap i) = sym gives ∙ a.1 ∙ ap (Runs.answer_after k c h) is in
        let o = reading_out (Runs.last_mark h) i (Runs.room_length h) _ (ap accepted (sym same)) in
        let w = same_words _ _ _ _ (same ∙ o.2) in
        let both = closed_near h E taps i a.0 o.0 o.1 far (tall_all taps tall i) samples in
        (subst (λ z. Near E z (k.encoding.first (at k.ring taps i))) (sym w.0) both.0, subst (λ z. Near E z (k.encoding.second (at k.ring taps i))) (sym w.1) both.1)),
  )

-- the words of a sample are those of no other
only_words : {S : Type 0} (k : KindModel S) → KindLaws k → (x y : S) → words_of k x ≡ words_of k y → x ≡ y
only_words k K x y e =
    let a : k.encoding.first x ≡ k.encoding.first y = cc in
    let b : k.encoding.second x ≡ k.encoding.second y = cc in
    let s = sym (K.encodes.back x) ∙ ap₂ k.encoding.sample a b ∙ K.encodes.back y in
    cc

-- what a sum answers after a close
closed_sum : {S : Type 0} (k : KindModel S) (c : Codes S) (n : ℕ) (h : Runs.Run) (i : ℕ) → Runs.Closed k c n h → i < n → Runs.answer_after k c h (Sum i) ≡ words_of k (sum_at k.ring c (Runs.records k h) i)
closed_sum k c n h i C l = let r = C.room_is in reading_in (Runs.last_mark h) i (Runs.room_length h) _ C.mark (omega arith)

same_sum : {S : Type 0} (k : KindModel S) (c d : Codes S) → Runs.SameCodes c d → (x : Side → ℕ → S) (i : ℕ) → sum_at k.ring c x i ≡ sum_at k.ring d x i
same_sum {S} k c d e x i = ap₂ (λ (n : ℕ) (f : Side → ℕ → S). k.ring.add (correlation k.ring n (f A) (x A) i) (correlation k.ring n (f B) (x B) i)) e.same_span e.same_entry

add : {S : Type 0} (k : KindModel S) (c : Codes S) → KindLaws k → (h : Runs.Run) → Runs.SumsAdd k c h
add {S} k c K h d e f g n sd se F G H adds i l x y gx gy =
    let ex = only_words k K _ _ (sym gx ∙ closed_sum k d n f i F l) in
    let ey = only_words k K _ _ (sym gy ∙ closed_sum k e n g i G l) in
    closed_sum k c n h i H l
    ∙ ap (words_of k)
    (sum_at_same K.algebra c (Runs.records k h) (λ side t. k.ring.add (Runs.records k f side t) (Runs.records k g side t)) i (λ side j b. adds side (j + i))
    ∙ sum_at_add K.algebra c (Runs.records k f) (Runs.records k g) i
    ∙ ap₂ k.ring.add (sym (ex ∙ same_sum k d c sd (Runs.records k f) i)) (sym (ey ∙ same_sum k e c se (Runs.records k g) i)))

-- all of it
pub run_laws : {S : Type 0} (k : KindModel S) → KindLaws k → (c : Codes S) (start : Pending S) → PairLaws k.ring k.polar c start → (h : Runs.Run) → Runs.Answered k c h → Runs.RunLaws k c h
run_laws k K c start P h a = record { answered = a; taps_within = near k K c start P h a; tap_allowed = allowed k c h a; sums_add = add k c K h }
