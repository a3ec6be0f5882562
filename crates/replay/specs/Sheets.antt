-- What is printed: the lines of a script with their answers.
use Rattle.std.specs.Prelude.{ℕ, List, [], ◌∷◌, ◌++◌, Option, codes}
use Rattle.std.specs.Option.{option_map}
use Rattle.kinds.specs.Kinds.{KindModel}
use Rattle.keys.specs.Plans.{Plan}
use Rattle.calls.specs.declared.call.Call.{Call}
use Rattle.calls.specs.declared.call.Answer.{Answer}
use Rattle.calls.specs.Texts.{answer_text}
use Rattle.scripts.specs.Texts.{line_of, answered}
use Rattle.replay.specs.KeyRuns.{key_answers}
use Rattle.replay.specs.Scripts.{words_of, calls_in}

-- a line again, with one blank between its words
abbrev pub again : List ℕ → List ℕ
again line = line_of (words_of line)

-- lines with their answers
abbrev pub answered_lines : List (List ℕ) → List Answer → List ℕ
answered_lines [] answers = []
answered_lines (line ∷ lines) [] = []
answered_lines (line ∷ lines) (answer ∷ answers) = answered (again line) (answer_text answer) ++ answered_lines lines answers

-- the key line, and each call with its answer
abbrev pub sheet_of : List ℕ → List (List ℕ) → List Answer → List ℕ
sheet_of first lines answers = again first ++ (codes "\n" ++ answered_lines lines answers)

-- what is printed for a key, if all lines behind the first are calls
abbrev pub transcript_of : {S : Type 0} → KindModel S → Plan → List ℕ → List (List ℕ) → Option (List ℕ)
transcript_of k p first lines = option_map (λ (calls : List Call). sheet_of first lines (key_answers k p calls)) (calls_in lines)
