-- The call of the words of a line.
use Rattle.std.specs.Prelude.{ℕ, cond, List, [], ◌∷◌, Some, None, codes, Option}
use Rattle.std.specs.Str.{bytes_eq}
use Rattle.keytext.specs.Numbers.{number_of}
use Rattle.keytext.specs.Steps.{and_then}
use Rattle.calls.specs.declared.call.Call.{Call}
use Rattle.calls.specs.declared.call.Call.TheVariants.{Open, Sample, Turn, Close, Abandon, Code, Sum, Tap}
use Rattle.scripts.specs.Numbers.{index_of, word_of}

abbrev pub call_alone : List ℕ → Option Call
call_alone name =
    cond (bytes_eq name (codes "turn")) (Some Turn)
    (cond (bytes_eq name (codes "close")) (Some Close)
    (cond (bytes_eq name (codes "abandon")) (Some Abandon) None))

abbrev pub call_with_one : List ℕ → ℕ → Option Call
call_with_one name n =
    cond (bytes_eq name (codes "open")) (Some (Open n))
    (cond (bytes_eq name (codes "sum")) (Some (Sum n))
    (cond (bytes_eq name (codes "tap")) (Some (Tap n)) None))

abbrev pub call_with_word : List ℕ → List ℕ → Option Call
call_with_word name n = and_then (index_of n) (call_with_one name)

abbrev pub sample_with : List ℕ → List ℕ → Option Call
sample_with first second = and_then (word_of first) (λ x. and_then (word_of second) (λ y. Some (Sample x y)))

abbrev pub code_with : List ℕ → List ℕ → Option Call
code_with side place = and_then (number_of side) (λ s. and_then (index_of place) (λ k. Some (Code s k)))

abbrev pub call_with_two : List ℕ → List ℕ → List ℕ → Option Call
call_with_two name first second =
    cond (bytes_eq name (codes "sample")) (sample_with first second)
    (cond (bytes_eq name (codes "code")) (code_with first second) None)

-- a line has a name and at most two numbers
abbrev pub call_of : List (List ℕ) → Option Call
call_of [] = None
call_of (name ∷ []) = call_alone name
call_of (name ∷ (n ∷ [])) = call_with_word name n
call_of (name ∷ (first ∷ (second ∷ []))) = call_with_two name first second
call_of (name ∷ (first ∷ (second ∷ (third ∷ more)))) = None
