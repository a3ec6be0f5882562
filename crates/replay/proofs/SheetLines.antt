-- Lines that are printed with their answers, read one by one.
use Rattle.std.proofs.Common.{◌≡◌, ℕ, ◌+◌, ◌<◌, ◌++◌, List, ◌∷◌, length, get_or, drop, codes, Some, None, Option, Bor, ap, ◌∙◌, sym, arith}
use Rattle.std.specs.Iterator.Adapters.{enumerate_steps}
use Rattle.std.specs.declared.iter.Enumerate.{Enumerate}
use Rattle.std.proofs.lemmas.List.{append_assoc, append-nil, drop_more}
use Rattle.calls.specs.declared.call.Event.{Event}
use Rattle.calls.specs.Runs.{answers_of}
use Rattle.calls.specs.Texts.{answer_text}
use Rattle.scripts.specs.Texts.{answered}
use Rattle.replay.specs.Sheets.{again, answered_lines, sheet_of}
use Rattle.replay.proofs.Reading.{Left, Came, came, none_left}

module _ {S : Type 0} (steps : S → Option (Bor (List ℕ)) → S → Type 0) (first : List ℕ) (all : List (List ℕ)) (events : List Event) where
  -- this much of the sheet is written
  pub record Written (it : Enumerate S) (text : List ℕ) : Type 0 where
    pub n : ℕ
    pub left : List (List ℕ)
    pub to_come : Left steps it n left
    pub is : text ++ answered_lines left (answers_of (drop n events)) ≡ sheet_of first all (answers_of events)
    pub enough : n + length left ≡ length events

  pub none_written : (it : Enumerate S) (text : List ℕ) → text ≡ again first ++ codes "\n" → length all ≡ length events → Left steps it 0 all → Written it text
  none_written it text e same l =
      record { n = 0; left = all; to_come = l; is = ap (λ t. t ++ answered_lines all (answers_of events)) e ∙ append_assoc (again first) (codes "\n") _; enough = omega (arith, same) }

  module _ (it next : Enumerate S) (text : List ℕ) (w : Written it text) (i : ℕ) (line : Bor (List ℕ)) (s : enumerate_steps steps it (Some (i, line)) next) where
    came_now : Came steps w.left w.n i line next
    came_now = came steps it next w.n w.left i line w.to_come s

    -- there is an answer to the line
    pub has_answer : i < length events
    has_answer = omega (arith, w.enough, came_now.place, ap length came_now.first)

    pub line_written : (after : List ℕ) (d : Event) → after ≡ text ++ answered (again line.now) (answer_text (get_or events i d).answer) → Written next after
    line_written after d e =
        let c = came_now in
        let here : answers_of (drop w.n events) ≡ (get_or events i d).answer ∷ answers_of (drop (w.n + 1) events) =
        ap answers_of (drop_more events w.n d (omega (arith, w.enough, ap length c.first)) ∙ ap (λ k. get_or events k d ∷ drop (w.n + 1) events) (sym c.place)) in
        record {
          n = w.n + 1;
          left = c.more;
          to_come = c.rest;
          is = ap (λ t. t ++ answered_lines c.more (answers_of (drop (w.n + 1) events))) e ∙ append_assoc text _ _
              ∙ ap (λ t. text ++ t) (sym (ap (λ ls. answered_lines ls (answers_of (drop w.n events))) c.first ∙ ap (answered_lines (line.now ∷ c.more)) here)) ∙ w.is;
          enough = omega (arith, w.enough, ap length c.first);
        }

  pub all_written : (it next : Enumerate S) (text : List ℕ) → Written it text → enumerate_steps steps it None next → text ≡ sheet_of first all (answers_of events)
  all_written it next text w s =
      sym (append-nil text) ∙ ap (λ ls. text ++ answered_lines ls (answers_of (drop w.n events))) (sym (none_left steps it next w.n w.left w.to_come s)) ∙ w.is
