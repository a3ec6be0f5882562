-- A sounder that is given a list of calls stands as the run of these calls says, and so its taps lie near the room's.
use Rattle.std.proofs.Common.{◌≡◌, ℕ, ◌^◌, ◌<◌, ◌≤◌, List, [], ◌∷◌, map, length, get_or, ℤ, pos, sym, refl, ap, ◌∙◌, subst, arith}
use mathlib.Core.Path.{fun_ext}
use Rattle.std.proofs.lemmas.List.FromFn.{get_or-map-range_with_len}
use Rattle.std.proofs.lemmas.Bool.{lt-ltb, cond-true}
use Rattle.std.specs.List.{range_with_len}
use Rattle.kinds.specs.Kinds.{KindModel, KindLaws}
use Rattle.sums.specs.Codes.{Codes, Pending, PairLaws}
use Rattle.sums.specs.Rooms.{at, Near}
use Rattle.calls.specs.declared.phase.Phase.TheVariants.{Complete}
use Rattle.calls.specs.declared.call.Call.{Call}
use Rattle.calls.specs.declared.call.Call.TheVariants.{Tap}
use Rattle.calls.specs.declared.call.Answer.{Answer}
use Rattle.calls.specs.declared.call.Answer.TheVariants.{Words}
use Rattle.calls.specs.Answers.{answer_to, tap_of}
use Rattle.calls.specs.Runs.{Run, new, after, answer_after, Answered, SamplesNear}
use Rattle.calls.proofs.RunLaws.{run_laws}
use Rattle.sounder.specs.States.{State, says, next}
use Rattle.sounder.specs.Standing.{Stands}
use Rattle.sounder.proofs.Standing.{says_is, stands_next}
use Rattle.files.specs.Soundings.{words_in, run_by}
use Rattle.files.specs.States.{led}

module _ {S : Type 0} (k : KindModel S) (K : KindLaws k) (c : Codes S) (start : Pending S) (P : PairLaws k.ring k.polar c start) where
  stands_led : (xs : List Call) (s : State S) (h : Run) → Stands k c start s h → Answered k c h → Stands k c start (led k xs s) (run_by k c h xs) × Answered k c (run_by k c h xs)
  stands_led [] s h T a = (T, a)
  stands_led (x ∷ xs) s h T a =
      stands_led xs (next k x s) (after h x (answer_after k c h x))
      (subst (λ r. Stands k c start (next k x s) (after h x r)) (says_is k c start s h T a P.span_least x) (stands_next k c start K.algebra K.conjugation P.span_least s h T a x))
      (a, refl)

  -- the calls of a sounding, given to a new sounder
  module _ (xs : List Call) (s : State S) (T : Stands k c start s new) where
    -- what it answers to a tap
    pub tap_says : (i : ℕ) → says k (Tap i) (led k xs s) ≡ answer_after k c (run_by k c new xs) (Tap i)
    tap_says i = let both = stands_led xs s new T tt in says_is k c start (led k xs s) (run_by k c new xs) both.0 both.1 P.span_least (Tap i)

    module _ (room : ℕ) (p : (led k xs s).phase ≡ Complete) (r : (led k xs s).room ≡ room) where
      tap_is : (i : ℕ) → i < room → answer_after k c (run_by k c new xs) (Tap i) ≡ tap_of k (led k xs s).codes ((led k xs s).sums i)
      tap_is i l =
          let u = led k xs s in
          sym (tap_says i) ∙ (λ j. answer_to k u.codes (p j) (r j) u.count u.sums (Tap i)) ∙ cond-true _ _ _ (lt-ltb i room l)

      by_words : (r : Answer) (a b : ℤ) → r ≡ Words a b → r ≡ Words (words_in r).0 (words_in r).1
      by_words r a b e = e ∙ ap (λ q. Words (words_in q).0 (words_in q).1) (sym e)

      abbrev told : List (ℤ × ℤ)
      told = map (λ i. words_in (answer_after k c (run_by k c new xs) (Tap i))) (range_with_len 0 room)

      told_at : (i : ℕ) → i < room → get_or told i (pos 0, pos 0) ≡ words_in (answer_after k c (run_by k c new xs) (Tap i))
      told_at i l = get_or-map-range_with_len (λ i. words_in (answer_after k c (run_by k c new xs) (Tap i))) 0 room i i (pos 0, pos 0) l (omega arith)

      -- each tap is answered
      pub taps_answered : (i : ℕ) → i < room → answer_after k c (run_by k c new xs) (Tap i) ≡ Words (get_or told i (pos 0, pos 0)).0 (get_or told i (pos 0, pos 0)).1
      taps_answered i l = by_words _ _ _ (tap_is i l) ∙ ap (λ (q : ℤ × ℤ). Words q.0 q.1) (sym (told_at i l))

      -- and lies as near to the room's as the samples to the room's answers
      pub taps_near : (E : ℕ) (h : List S) → E ≤ 2 ^ 40 → ((i : ℕ) → i < length h → k.polar.magnitude (at k.ring h i) ≤ 2 ^ 40) → SamplesNear k c E h (run_by k c new xs)
          → (i : ℕ) → i < room → Near E (get_or told i (pos 0, pos 0)).0 (k.encoding.first (at k.ring h i)) × Near E (get_or told i (pos 0, pos 0)).1 (k.encoding.second (at k.ring h i))
      taps_near E h e m N i l =
          let g = run_by k c new xs in
          let laws = run_laws k K c start P (after g (Tap i) (answer_after k c g (Tap i))) ((stands_led xs s new T tt).1, refl) in
          (laws.taps_within E h e m).1 i _ _ refl (taps_answered i l) N

    -- the taps that are gathered from it
    pub taps_are : (u : State S) → u ≡ led k xs s → (places : List ℕ) → map (λ i. words_in (says k (Tap i) u)) places ≡ map (λ i. words_in (answer_after k c (run_by k c new xs) (Tap i))) places
    taps_are u e places =
        ap (λ (q : State S). map (λ i. words_in (says k (Tap i) q)) places) e
        ∙ ap {B = List (ℤ × ℤ)} (λ f. map f places) (fun_ext (λ i. ap words_in (tap_says i)))
