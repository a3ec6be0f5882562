-- The calls of lines that are read one by one.
use Rattle.std.proofs.Common.{◌≡◌, ℕ, ◌+◌, ◌++◌, List, [], ◌∷◌, length, Some, None, Option, Bor, refl, ap, ◌∙◌, sym, subst, arith}
use Rattle.std.specs.Option.{option_map}
use Rattle.std.specs.Iterator.Adapters.{enumerate_steps}
use Rattle.std.specs.declared.iter.Enumerate.{Enumerate}
use Rattle.std.proofs.lemmas.List.{map-append, append_assoc, append-nil, length-append}
use Rattle.std.proofs.lemmas.Option.{none-some}
use Rattle.keytext.specs.Steps.{and_then}
use Rattle.calls.specs.declared.call.Call.{Call}
use Rattle.calls.specs.declared.call.Event.{Event}
use Rattle.calls.specs.Runs.{calls_of}
use Rattle.replay.specs.declared.stop.Stop.{Stop}
use Rattle.replay.specs.declared.stop.Stop.TheVariants.{NoKey, NoCall, Failed}
use Rattle.replay.specs.Scripts.{call_in, calls_in, unless_call, wrong_line, StopsAt}
use Rattle.replay.proofs.Reading.{Left, Came, came, none_left}

-- the calls that were read stand in front of those that are still to come
abbrev pub before : List Event → List (List ℕ) → Option (List Call)
before es left = option_map (λ (more : List Call). calls_of es ++ more) (calls_in left)

same_calls : (o : Option (List Call)) → option_map (λ (more : List Call). more) o ≡ o
same_calls None = refl
same_calls (Some calls) = refl

one_more : (es : List Event) (e : Event) (o : Option (List Call)) → option_map (λ (more : List Call). calls_of (es ++ e ∷ []) ++ more) o ≡ option_map (λ (more : List Call). calls_of es ++ more) (option_map (λ (more : List Call). e.call ∷ more) o)
one_more es e None = refl
one_more es e (Some calls) = ap Some (ap (λ cs. cs ++ calls) (map-append (λ (e : Event). e.call) es (e ∷ [])) ∙ append_assoc (calls_of es) (e.call ∷ []) calls)

moved : (es : List Event) (e : Event) (line : List ℕ) (more : List (List ℕ)) → call_in line ≡ Some e.call → before (es ++ e ∷ []) more ≡ before es (line ∷ more)
moved es e line more is = one_more es e (calls_in more) ∙ ap (λ o. option_map (λ (more : List Call). calls_of es ++ more) (and_then o (λ c. option_map (λ (rest : List Call). c ∷ rest) (calls_in more)))) (sym is)

-- what stops at a line stops there whatever comes later
stops_here : (e : Stop) (n : ℕ) (c : Option Call) (later : Option ℕ) → StopsAt e (unless_call n c None) → StopsAt e (unless_call n c later)
stops_here e n None later h = h
stops_here NoKey n (Some c) later h = h
stops_here (NoCall m) n (Some c) later h = absurd (none-some m h)
stops_here (Failed f) n (Some c) later h = tt

module _ {S : Type 0} (steps : S → Option (Bor (List ℕ)) → S → Type 0) (all : List (List ℕ)) where
  -- these calls were read of all lines
  pub record CallsRead (it : Enumerate S) (es : List Event) : Type 0 where
    pub left : List (List ℕ)
    pub to_come : Left steps it (length es) left
    pub calls : before es left ≡ calls_in all
    pub count : length es + length left ≡ length all
    pub wrong : wrong_line (length es + 2) left ≡ wrong_line 2 all

  pub none_read : (it : Enumerate S) (es : List Event) → es ≡ [] → Left steps it 0 all → CallsRead it es
  none_read it es none l =
      subst (CallsRead it) (sym none) (record { left = all; to_come = l; calls = same_calls (calls_in all); count = omega arith; wrong = refl })

  module _ (it next : Enumerate S) (es : List Event) (r : CallsRead it es) where
    one_read : (e : Event) (i : ℕ) (line : Bor (List ℕ)) → Came steps r.left (length es) i line next → call_in line.now ≡ Some e.call → CallsRead next (es ++ e ∷ [])
    one_read e i line c is =
        let n : length (es ++ e ∷ []) ≡ length es + 1 = length-append es (e ∷ []) in
        record {
          left = c.more;
          to_come = subst (λ k. Left steps next k c.more) (sym n) c.rest;
          calls = moved es e line.now c.more is ∙ ap (before es) (sym c.first) ∙ r.calls;
          count = ap (λ k. k + length c.more) n ∙ omega (arith, ap length c.first, r.count);
          wrong = ap (λ k. wrong_line k c.more) (omega (arith, n))
              ∙ ap (λ o. unless_call (length es + 2) o (wrong_line (length es + 2 + 1) c.more)) (sym is)
              ∙ ap (wrong_line (length es + 2)) (sym c.first) ∙ r.wrong;
        }

    pub call_read : (e : Event) (i : ℕ) (line : Bor (List ℕ)) → enumerate_steps steps it (Some (i, line)) next → call_in line.now ≡ Some e.call → CallsRead next (es ++ e ∷ [])
    call_read e i line s is = one_read e i line (came steps it next (length es) r.left i line r.to_come s) is

    pub stops_at : (e : Stop) (i : ℕ) (line : Bor (List ℕ)) → enumerate_steps steps it (Some (i, line)) next → StopsAt e (unless_call (i + 2) (call_in line.now) None) → StopsAt e (wrong_line 2 all)
    stops_at e i line s h =
        let c = came steps it next (length es) r.left i line r.to_come s in
        subst (StopsAt e) (ap (wrong_line (length es + 2)) (sym c.first) ∙ r.wrong)
        (stops_here e (length es + 2) (call_in line.now) _ (subst (λ k. StopsAt e (unless_call (k + 2) (call_in line.now) None)) c.place h))

    empty : enumerate_steps steps it None next → r.left ≡ []
    empty s = none_left steps it next (length es) r.left r.to_come s

    pub all_calls : enumerate_steps steps it None next → calls_in all ≡ Some (calls_of es)
    all_calls s = sym r.calls ∙ ap (before es) (empty s) ∙ ap Some (append-nil (calls_of es))

    pub all_counted : enumerate_steps steps it None next → length es ≡ length all
    all_counted s = omega (arith, ap length (empty s), r.count)
