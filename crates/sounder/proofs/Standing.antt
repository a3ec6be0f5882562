-- A sounder stands as its run says: at first, and after one more call.
use Rattle.std.proofs.Common.{◌≡◌, ℕ, ◌+◌, ◌-◌, ◌≤◌, Bool, true, false, cond, eqb, ltb, List, [], ◌∷◌, ◌++◌, length, Some, None, Option, sym, refl, ap, ◌∙◌, subst, ap₂, arith, length-append}
use mathlib.Core.Path.{fun_ext}
use Rattle.std.proofs.lemmas.Bool.{false≢true, ltb-true, lt-ltb, cond-true}
use Rattle.kinds.specs.Samples.{RingLaws, ConjugationLaws}
use Rattle.kinds.specs.Kinds.{KindModel}
use Rattle.sums.specs.declared.Side.{Side}
use Rattle.sums.specs.declared.Side.TheVariants.{A, B}
use Rattle.sums.specs.Codes.{Codes, Pending, arriving, pushed}
use Rattle.sums.specs.Rooms.{at, correlation, sum_at, left_by}
use Rattle.calls.specs.declared.phase.Phase.TheVariants.{Idle}
use Rattle.calls.specs.declared.refusal.Refusal.{Refusal}
use Rattle.calls.specs.declared.call.Call.{Call}
use Rattle.calls.specs.declared.call.Call.TheVariants.{Open, Sample, Turn, Close, Abandon, Code, Sum, Tap}
use Rattle.calls.specs.declared.call.Answer.{Answer}
use Rattle.calls.specs.Phases.{may_sample, may_turn, may_read}
use Rattle.calls.specs.Answers.{accepted, require, words_of, tap_of, answer_to}
use Rattle.calls.specs.Runs
use Rattle.sounder.specs.States.{State, playing, gathered, took_if, moved, says, next}
use Rattle.sounder.specs.Standing.{Stands}
use Rattle.sounder.proofs.Records.{Left, part_none, left_next, part_next, grow_first, grow_second}
use Rattle.calls.proofs.RunLaws.{Fits, fits}

require_same : (b : Bool) (e : Refusal) (r s : Answer) → (b ≡ true → r ≡ s) → require b e r ≡ require b e s
require_same true e r s h = h refl
require_same false e r s h = refl

module _ {S : Type 0} (k : KindModel S) (c : Codes S) (start : Pending S) where
  -- what the samples of z leave, or what there was before the first open
  abbrev pending_by : Bool → List S → Pending S
  pending_by b z side j = cond b (left_by k.ring c.span (c.entry side) (at k.ring z) (length z) j) (start side j)

  abbrev sum_by : List S → List S → ℕ → S
  sum_by x y i = k.ring.add (Runs.part k c A x i) (Runs.part k c B y i)

  -- what a state holds after the mark m, at room length g, with the records x and y and the latest record z; b says whether there was an open
  record Held (s : State S) (m : Runs.Mark) (g : ℕ) (b : Bool) (x y z : List S) : Type 0 where
    held_codes : s.codes ≡ c
    held_phase : s.phase ≡ Runs.phase_after m
    held_room : s.room ≡ g
    held_count : s.count ≡ length z
    held_sums : (i : ℕ) → s.sums i ≡ sum_by x y i
    held_pending : s.pending ≡ pending_by b z

  abbrev HeldRun : State S → Runs.Run → Type 0
  HeldRun s h = Held s (Runs.last_mark h) (Runs.room_length h) (Runs.ever_opened h) (Runs.record_of k A h) (Runs.record_of k B h) (Runs.latest_record k h)

  held : (s : State S) (h : Runs.Run) → Stands k c start s h → HeldRun s h
  held s h T = record { held_codes = T.codes_are; held_phase = T.phase_is; held_room = T.room_is; held_count = T.count_is; held_sums = T.sums_are; held_pending = T.pending_is }

  -- after a close both parts of each sum have come
  closed_sum : (m : Runs.Mark) (g : ℕ) (b : Bool) (x y z : List S) (s : State S) (i : ℕ) → 1 ≤ c.span → ((j : ℕ) → s.sums j ≡ sum_by x y j) → Fits k c m g b x y z → may_read (Runs.phase_after m) ≡ true → ltb i g ≡ true
      → s.sums i ≡ k.ring.add (correlation k.ring c.span (c.entry A) (at k.ring x) i) (correlation k.ring c.span (c.entry B) (at k.ring y) i)
  closed_sum Runs.none g b x y z s i one H F e l = absurd (false≢true e)
  closed_sum Runs.opened g b x y z s i one H F e l = absurd (false≢true e)
  closed_sum Runs.turned g b x y z s i one H F e l = absurd (false≢true e)
  closed_sum Runs.abandoned g b x y z s i one H F e l = absurd (false≢true e)
  closed_sum Runs.closed g b x y z s i one H F e l =
      let below = ltb-true i g l in
      let X : length x ≡ c.span + g - 1 = F.0 in
      let Y : length y ≡ c.span + g - 1 = F.1 in
      H i ∙ ap₂ k.ring.add (cond-true _ _ _ (lt-ltb (i + (c.span - 1)) (length x) (omega arith))) (cond-true _ _ _ (lt-ltb (i + (c.span - 1)) (length y) (omega arith)))

  module _ (s : State S) (h : Runs.Run) (T : Stands k c start s h) (a : Runs.Answered k c h) (one : 1 ≤ c.span) where
    abbrev said : Call → Answer
    said = answer_to k c (Runs.phase_after (Runs.last_mark h)) (Runs.room_length h) (length (Runs.latest_record k h)) s.sums

    sum_is : (i : ℕ) → may_read (Runs.phase_after (Runs.last_mark h)) ≡ true → ltb i (Runs.room_length h) ≡ true → s.sums i ≡ sum_at k.ring c (Runs.records k h) i
    sum_is i e l = closed_sum (Runs.last_mark h) (Runs.room_length h) (Runs.ever_opened h) (Runs.record_of k A h) (Runs.record_of k B h) (Runs.latest_record k h) s i one T.sums_are (fits k c h a) e l

    -- the answers are the same, though the sums are those of full records only after a close
    said_is : (call : Call) → said call ≡ Runs.answer_after k c h call
    said_is (Open n) = refl
    said_is (Sample u v) = refl
    said_is Turn = refl
    said_is Close = refl
    said_is Abandon = refl
    said_is (Code e i) = refl
    said_is (Sum i) = require_same _ _ _ _ (λ e. require_same _ _ _ _ (λ l. ap (words_of k) (sum_is i e l)))
    said_is (Tap i) = require_same _ _ _ _ (λ e. require_same _ _ _ _ (λ l. ap (tap_of k c) (sum_is i e l)))

    -- the sounder answers as the run says
    pub says_is : (call : Call) → says k call s ≡ Runs.answer_after k c h call
    says_is call = (λ i. answer_to k (T.codes_are i) (T.phase_is i) (T.room_is i) (T.count_is i) s.sums call) ∙ said_is call

  module _ (ring : RingLaws k.ring) (bar : ConjugationLaws k.ring) (one : 1 ≤ c.span) where
    -- what is pending on a side while a record is taken
    left : (s : State S) (b : Bool) (z : List S) → s.pending ≡ pending_by b z → b ≡ true → (side : Side) → Left k.ring c.span (c.entry side) (s.pending side) z
    left s b z p e side j = ap (λ (f : Pending S). f side j) p ∙ cond-true _ _ _ e

    -- what is pending after one more sample
    pending_next : (s : State S) (b : Bool) (z : List S) (v : S) → s.codes ≡ c → s.pending ≡ pending_by b z → b ≡ true → pushed k.ring s.codes s.pending v ≡ pending_by b (z ++ (v ∷ []))
    pending_next s b z v codes p e =
        ap (λ d. pushed k.ring d s.pending v) codes
        ∙ fun_ext (λ side. fun_ext (λ j. left_next k.ring c.span (c.entry side) ring bar one z v (s.pending side) (left s b z p e side) j ∙ sym (cond-true _ _ _ e)))

    -- the sums after one more sample, in the words of the run
    gathered_is : (s : State S) (v : S) (m : Runs.Mark) (x y z : List S) → s.codes ≡ c → s.phase ≡ Runs.phase_after m → s.count ≡ length z → ((i : ℕ) → s.sums i ≡ sum_by x y i) → (i : ℕ)
        → gathered k s.codes.span s.count (arriving k.ring s.codes s.pending v (playing s.phase) 0) s.sums i
        ≡ gathered k c.span (length z) (arriving k.ring c s.pending v (playing (Runs.phase_after m)) 0) (sum_by x y) i
    gathered_is s v m x y z codes phase count sums i =
        (λ t. gathered k (codes t).span (count t) (arriving k.ring (codes t) s.pending v (playing (phase t)) 0) s.sums i)
        ∙ ap (λ u. cond (eqb (i + (c.span - 1)) (length z)) (k.ring.add u (arriving k.ring c s.pending v (playing (Runs.phase_after m)) 0)) u) (sums i)

    took_held : (m : Runs.Mark) (s : State S) (g : ℕ) (b : Bool) (x y z : List S) (o : Option S) → may_sample (Runs.phase_after m) ≡ true → Fits k c m g b x y z → Held s m g b x y z
        → Held (took_if k o s) m g b (cond (Runs.plays m A) (Runs.with_sample k o x) x) (cond (Runs.plays m B) (Runs.with_sample k o y) y) (Runs.with_sample k o z)
    took_held Runs.none s g b x y z o a F H = absurd (false≢true a)
    took_held Runs.closed s g b x y z o a F H = absurd (false≢true a)
    took_held Runs.abandoned s g b x y z o a F H = absurd (false≢true a)
    took_held Runs.opened s g b x y z None a F H = H
    took_held Runs.turned s g b x y z None a F H = H
    took_held Runs.opened s g b x y z (Some v) a F H =
        let r = k.ring in
        let now = subst (Left r c.span (c.entry A) (s.pending A)) F.1 (left s b z H.held_pending F.0 A) in
        record {
          held_codes = H.held_codes;
          held_phase = H.held_phase;
          held_room = H.held_room;
          held_count = ap (λ t. t + 1) H.held_count ∙ sym (length-append z (v ∷ []));
          held_sums = λ i. gathered_is s v Runs.opened x y z H.held_codes H.held_phase H.held_count H.held_sums i
              ∙ ap (λ t. gathered k c.span (length t) (arriving r c s.pending v A 0) (sum_by x y) i) F.1
              ∙ grow_first ring (eqb (i + (c.span - 1)) (length x)) (Runs.part k c A x i) (Runs.part k c B y i) (arriving r c s.pending v A 0)
              ∙ ap (λ u. r.add u (Runs.part k c B y i)) (part_next r c.span (c.entry A) ring bar one x v (s.pending A) now i);
          held_pending = pending_next s b z v H.held_codes H.held_pending F.0;
        }
    took_held Runs.turned s g b x y z (Some v) a F H =
        let r = k.ring in
        let now = subst (Left r c.span (c.entry B) (s.pending B)) F.1 (left s b z H.held_pending F.0 B) in
        record {
          held_codes = H.held_codes;
          held_phase = H.held_phase;
          held_room = H.held_room;
          held_count = ap (λ t. t + 1) H.held_count ∙ sym (length-append z (v ∷ []));
          held_sums = λ i. gathered_is s v Runs.turned x y z H.held_codes H.held_phase H.held_count H.held_sums i
              ∙ ap (λ t. gathered k c.span (length t) (arriving r c s.pending v B 0) (sum_by x y) i) F.1
              ∙ grow_second ring (eqb (i + (c.span - 1)) (length y)) (Runs.part k c A x i) (Runs.part k c B y i) (arriving r c s.pending v B 0)
              ∙ ap (λ u. r.add (Runs.part k c A x i) u) (part_next r c.span (c.entry B) ring bar one y v (s.pending B) now i);
          held_pending = pending_next s b z v H.held_codes H.held_pending F.0;
        }

    -- nothing is recorded
    sums_none : (i : ℕ) → k.ring.zero ≡ sum_by [] [] i
    sums_none i = sym (ap₂ k.ring.add (part_none k.ring c.span (c.entry A) i) (part_none k.ring c.span (c.entry B) i) ∙ ring.zero_add _)

    turn_held : (m : Runs.Mark) (s : State S) (g : ℕ) (b : Bool) (x y z : List S) → may_turn (Runs.phase_after m) ≡ true → Fits k c m g b x y z → Held s m g b x y z → Held (moved k Turn s) Runs.turned g b x y []
    turn_held Runs.none s g b x y z a F H = absurd (false≢true a)
    turn_held Runs.turned s g b x y z a F H = absurd (false≢true a)
    turn_held Runs.closed s g b x y z a F H = absurd (false≢true a)
    turn_held Runs.abandoned s g b x y z a F H = absurd (false≢true a)
    turn_held Runs.opened s g b x y z a F H = record {
      held_codes = H.held_codes;
      held_phase = refl;
      held_room = H.held_room;
      held_count = refl;
      held_sums = H.held_sums;
      held_pending = fun_ext (λ side. fun_ext (λ j. sym (cond-true b k.ring.zero (start side j) F.0)));
    }

    allowed : (b : Bool) (e : Refusal) (w : Answer) → accepted (require b e w) ≡ true → b ≡ true
    allowed true e w a = refl
    allowed false e w a = absurd (false≢true a)

    module _ (s : State S) (h : Runs.Run) (T : Stands k c start s h) (ans : Runs.Answered k c h) where
      moved_held : (call : Call) → accepted (Runs.answer_after k c h call) ≡ true
          → Held (moved k call s) (Runs.marked call (Runs.last_mark h)) (Runs.opening call (Runs.room_length h)) (cond (Runs.is_open call) true (Runs.ever_opened h)) (Runs.recorded k (Runs.plays (Runs.last_mark h) A) call (Runs.record_of k A h)) (Runs.recorded k (Runs.plays (Runs.last_mark h) B) call (Runs.record_of k B h)) (Runs.listened k call (Runs.latest_record k h))
      moved_held (Open n) a = record { held_codes = T.codes_are; held_phase = refl; held_room = refl; held_count = refl; held_sums = sums_none; held_pending = refl }
      moved_held (Sample u v) a = took_held (Runs.last_mark h) s _ _ _ _ _ (k.encoding.sample u v) (allowed _ _ _ a) (fits k c h ans) (held s h T)
      moved_held Turn a = turn_held (Runs.last_mark h) s _ _ _ _ _ (allowed _ _ _ a) (fits k c h ans) (held s h T)
      moved_held Close a = record { held_codes = T.codes_are; held_phase = refl; held_room = T.room_is; held_count = T.count_is; held_sums = T.sums_are; held_pending = T.pending_is }
      moved_held Abandon a = record { held_codes = T.codes_are; held_phase = refl; held_room = T.room_is; held_count = T.count_is; held_sums = T.sums_are; held_pending = T.pending_is }
      moved_held (Code e i) a = held s h T
      moved_held (Sum i) a = held s h T
      moved_held (Tap i) a = held s h T

      next_held : (call : Call) (b : Bool) → (b ≡ true → accepted (Runs.answer_after k c h call) ≡ true)
          → Held (cond b (moved k call s) s) (cond b (Runs.marked call (Runs.last_mark h)) (Runs.last_mark h)) (cond b (Runs.opening call (Runs.room_length h)) (Runs.room_length h)) (cond b (cond (Runs.is_open call) true (Runs.ever_opened h)) (Runs.ever_opened h))
          (cond b (Runs.recorded k (Runs.plays (Runs.last_mark h) A) call (Runs.record_of k A h)) (Runs.record_of k A h)) (cond b (Runs.recorded k (Runs.plays (Runs.last_mark h) B) call (Runs.record_of k B h)) (Runs.record_of k B h)) (cond b (Runs.listened k call (Runs.latest_record k h)) (Runs.latest_record k h))
      next_held call true f = moved_held call (f refl)
      next_held call false f = held s h T

      -- after one more call
      pub stands_next : (call : Call) → Stands k c start (next k call s) (Runs.after h call (says k call s))
      stands_next call =
          let H = next_held call (accepted (says k call s)) (λ e. ap accepted (sym (says_is s h T ans one call)) ∙ e) in
          record { codes_are = H.held_codes; phase_is = H.held_phase; room_is = H.held_room; count_is = H.held_count; sums_are = H.held_sums; pending_is = H.held_pending }

    -- a new sounder
    pub stands_new : (s : State S) → s.codes ≡ c → s.pending ≡ start → s.phase ≡ Idle → s.room ≡ 0 → s.count ≡ 0 → ((i : ℕ) → s.sums i ≡ k.ring.zero) → Stands k c start s Runs.new
    stands_new s codes pending phase room count silent = record { codes_are = codes; phase_is = phase; room_is = room; count_is = count; sums_are = λ i. silent i ∙ sums_none i; pending_is = pending }
