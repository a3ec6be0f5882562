-- Lines that are read one by one, with their places.
use Rattle.std.proofs.Common.{◌≡◌, ℕ, ◌+◌, List, [], ◌∷◌, drop, Some, None, Option, Bor, refl, ap, ◌∙◌, sym}
use Rattle.std.specs.Iterator.{AlwaysYields}
use Rattle.std.specs.Option.{unwrap_or}
use Rattle.std.specs.Iterator.Adapters.{enumerate_source, enumerate_count, enumerate_steps, skip_source, skip_count, skip_steps}
use Rattle.std.specs.Str.Iter.{lines_rest, lines_steps}
use Rattle.std.specs.Str.Lines.{lines}
use Rattle.std.specs.declared.iter.Enumerate.{Enumerate}
use Rattle.replay.specs.Scripts.{first_of}
use Rattle.std.proofs.lemmas.Iterator.Adapters.{YieldsList-from_skip}
use Rattle.std.proofs.lemmas.Iterator.Splits.{YieldsList-from_lines}

module _ {S : Type 0} (steps : S → Option (Bor (List ℕ)) → S → Type 0) where
  -- these lines are still to come, and n came before
  pub record Left (it : Enumerate S) (n : ℕ) (left : List (List ℕ)) : Type 0 where
    pub yields : AlwaysYields steps (λ x. x.now) (enumerate_source it) left
    pub counted : enumerate_count it ≡ n

  -- what a line that came leaves
  pub record Came (left : List (List ℕ)) (n : ℕ) (i : ℕ) (line : Bor (List ℕ)) (next : Enumerate S) : Type 0 where
    pub more : List (List ℕ)
    pub first : left ≡ line.now ∷ more
    pub place : i ≡ n
    pub rest : Left next (n + 1) more

  pub came : (it next : Enumerate S) (n : ℕ) (left : List (List ℕ)) (i : ℕ) (line : Bor (List ℕ)) → Left it n left → enumerate_steps steps it (Some (i, line)) next → Came left n i line next
  came it next n [] i line l s = absurd (l.yields line _ s.0)
  came it next n (y ∷ ys) i line l s =
      let h = l.yields.1 line _ s.0 in
      record {
        more = ys;
        first = ap (λ x. x ∷ ys) (sym h.0);
        place = s.1 ∙ l.counted;
        rest = record { yields = h.1; counted = s.2 ∙ ap (λ k. k + 1) l.counted };
      }

  -- where none comes, none is left
  pub none_left : (it next : Enumerate S) (n : ℕ) (left : List (List ℕ)) → Left it n left → enumerate_steps steps it None next → left ≡ []
  none_left it next n [] l s = refl
  none_left it next n (y ∷ ys) l s = absurd (l.yields.0 _ s.0)

  first_came : (s t : S) (all : List (List ℕ)) (r : Option (Bor (List ℕ))) (none : Bor (List ℕ)) → none.now ≡ [] → AlwaysYields steps (λ x. x.now) s all → steps s r t → (unwrap_or r none).now ≡ first_of all
  first_came s t [] None none empty yields step = empty
  first_came s t [] (Some x) none empty yields step = absurd (yields x t step)
  first_came s t (y ∷ ys) None none empty yields step = absurd (yields.0 t step)
  first_came s t (y ∷ ys) (Some x) none empty yields step = (yields.1 x t step).0

-- the first line of a text
pub first_is : (s : _) (t : _) (text : List ℕ) (r : Option (Bor (List ℕ))) (none : Bor (List ℕ)) → none.now ≡ [] → lines_rest s ≡ text → lines_steps s r t → (unwrap_or r none).now ≡ first_of (lines text)
first_is s t text r none empty e step = first_came lines_steps s t (lines text) r none empty (YieldsList-from_lines text e).runs step

-- the lines of a text behind the first
pub all_left : {s : _} (text : List ℕ) → lines_rest (skip_source (enumerate_source s)) ≡ text → skip_count (enumerate_source s) ≡ 1 → enumerate_count s ≡ 0 → Left (skip_steps lines_steps) s 0 (drop 1 (lines text))
all_left {s} text e one zero = record { yields = (YieldsList-from_skip 1 (YieldsList-from_lines text e) one).runs; counted = zero }
