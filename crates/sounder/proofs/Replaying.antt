-- Runs that grow by one call at a time.
use Rattle.std.proofs.Common.{◌≡◌, ℕ, zero, suc, ◌+◌, ◌<◌, ◌≤◌, List, [], ◌∷◌, ◌++◌, length, get_or, take, set, sym, refl, ap, ◌∙◌, subst, ap₂, le_of_suc-le-suc, not-suc-le-zero, add-one, take_all}
use Rattle.kinds.specs.Kinds.{KindModel, KindLaws}
use Rattle.sums.specs.Codes.{Codes, Pending, PairLaws}
use Rattle.calls.specs.declared.call.Call.{Call}
use Rattle.calls.specs.declared.call.Answer.{Answer}
use Rattle.calls.specs.declared.call.Event.{Event}
use Rattle.calls.specs.Runs.{Run, new, after, on, run_of, calls_of, answers_of, answers, Answered, RunLaws}
use Rattle.sounder.specs.States.{State, says, next}
use Rattle.sounder.specs.Standing.{Stands}
use Rattle.sounder.proofs.Standing.{says_is, stands_next}
use Rattle.calls.proofs.RunLaws.{run_laws}

on_append : (h : Run) (es : List Event) (e : Event) → on h (es ++ (e ∷ [])) ≡ after (on h es) e.call e.answer
on_append h [] e = refl
on_append h (f ∷ es) e = on_append (after h f.call f.answer) es e

take_set : (es : List Event) (i : ℕ) (e : Event) → i < length es → take (suc i) (set es i e) ≡ take i es ++ (e ∷ [])
take_set [] i e l = absurd (not-suc-le-zero l)
take_set (f ∷ es) zero e l = refl
take_set (f ∷ es) (suc i) e l = ap {B = List Event} (λ r. f ∷ r) (take_set es i e (le_of_suc-le-suc l))

-- event i with the answer r
abbrev pub answered_at : List Event → ℕ → Event → Answer → Event
answered_at es i d r = record { call = (get_or es i d).call; answer = r }

pub calls_set : (es : List Event) (i : ℕ) (d : Event) (r : Answer) → calls_of (set es i (answered_at es i d r)) ≡ calls_of es
calls_set [] i d r = refl
calls_set (f ∷ es) zero d r = refl
calls_set (f ∷ es) (suc i) d r = ap {B = List Call} (λ cs. f.call ∷ cs) (calls_set es i d r)

module _ {S : Type 0} (k : KindModel S) (c : Codes S) where
  answered_front : (h : Run) (es : List Event) → Answered k c (on h es) → Answered k c h
  answered_front h [] a = a
  answered_front h (e ∷ es) a = (answered_front (after h e.call e.answer) es a).0

  -- the calls determine the answers
  pub answers_on : (h : Run) (es : List Event) → Answered k c (on h es) → answers_of es ≡ answers k c h (calls_of es)
  answers_on h [] a = refl
  answers_on h (e ∷ es) a =
      let more : Run = after h e.call e.answer in
      let same = (answered_front more es a).1 in
      ap₂ {C = List Answer} (λ r rs. r ∷ rs) same (answers_on more es a ∙ ap (λ r. answers k c (after h e.call r) (calls_of es)) same)

module _ {S : Type 0} (k : KindModel S) (c : Codes S) (start : Pending S) where
  -- every call so far got its answer, and the sounder stands as the run says
  pub record Going (s : State S) (h : Run) : Type 0 where
    pub answered : Answered k c h
    pub standing : Stands k c start s h

  module _ (K : KindLaws k) (P : PairLaws k.ring k.polar c start) where
    -- one more call
    pub again : (s t : State S) (es : List Event) (i : ℕ) (d : Event) (r : Answer) → i < length es → Going s (run_of (take i es))
        → r ≡ says k (get_or es i d).call s → t ≡ next k (get_or es i d).call s → Going t (run_of (take (i + 1) (set es i (answered_at es i d r))))
    again s t es i d r l G says_r is =
        let h = run_of (take i es) in
        let call = (get_or es i d).call in
        let grown : run_of (take (i + 1) (set es i (answered_at es i d r))) ≡ after h call (says k call s) =
        ap (λ n. run_of (take n (set es i (answered_at es i d r)))) (add-one i) ∙ ap run_of (take_set es i (answered_at es i d r) l) ∙ on_append new (take i es) (answered_at es i d r) ∙ ap (after h call) says_r in
        let more : Going (next k call s) (after h call (says k call s)) = record {
          answered = (G.answered, says_is k c start s h G.standing G.answered P.span_least call);
          standing = stands_next k c start K.algebra K.conjugation P.span_least s h G.standing G.answered call;
        } in
        subst (Going t) (sym grown) (subst (λ u. Going u (after h call (says k call s))) (sym is) more)

    -- the end of the run
    pub ends : (s : State S) (es : List Event) (i : ℕ) → length es ≤ i → Going s (run_of (take i es)) → Stands k c start s (run_of es) × RunLaws k c (run_of es)
    ends s es i l G =
        let all : Going s (run_of es) = subst (λ xs. Going s (run_of xs)) (take_all i es l) G in
        (all.standing, run_laws k K c start P (run_of es) all.answered)
