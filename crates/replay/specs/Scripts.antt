-- A script: a key line, and then one call a line.
use Rattle.std.specs.Prelude.{◌≡◌, ℕ, ◌+◌, cond, Bool, true, false, List, [], ◌∷◌, Some, None, Option, length, drop, nat_lt, codes}
use Rattle.std.specs.List.{filter, slice_split}
use Rattle.std.specs.Char.{is_ascii_whitespace}
use Rattle.std.specs.Option.{option_map}
use Rattle.std.specs.Str.{bytes_eq}
use Rattle.keytext.specs.Steps.{and_then}
use Rattle.calls.specs.declared.call.Call.{Call}
use Rattle.scripts.specs.Calls.{call_of}
use Rattle.scripts.specs.Keys.{Asked, key_words_of}
use Rattle.replay.specs.declared.stop.Stop.{Stop}
use Rattle.replay.specs.declared.stop.Stop.TheVariants.{NoKey, NoCall, Failed}

abbrev pub has_bytes : List ℕ → Bool
has_bytes word = nat_lt 0 (length word)

-- what stands between ASCII blanks
abbrev pub words_of : List ℕ → List (List ℕ)
words_of line = filter has_bytes (slice_split is_ascii_whitespace line)

-- the words behind the word key
abbrev pub asked_by : List (List ℕ) → Option Asked
asked_by [] = None
asked_by (word ∷ words) = cond (bytes_eq word (codes "key")) (key_words_of words) None

-- the first line of a script, empty if there is none
abbrev pub first_of : List (List ℕ) → List ℕ
first_of [] = []
first_of (line ∷ lines) = line

-- the lines behind the first
abbrev pub behind_first : List (List ℕ) → List (List ℕ)
behind_first lines = drop 1 lines

-- what a key line asks for
abbrev pub asked_in : List ℕ → Option Asked
asked_in line = asked_by (words_of line)

-- the call of a line
abbrev pub call_in : List ℕ → Option Call
call_in line = call_of (words_of line)

-- the calls of some lines, absent if one of them is none
abbrev pub calls_in : List (List ℕ) → Option (List Call)
calls_in [] = Some []
calls_in (line ∷ lines) = and_then (call_in line) (λ c. option_map (λ (more : List Call). c ∷ more) (calls_in lines))

-- n if there is no call, and else what comes later
abbrev pub unless_call : ℕ → Option Call → Option ℕ → Option ℕ
unless_call n None later = Some n
unless_call n (Some c) later = later

-- the number of the first line that is no call, where n is the number of the first of all
abbrev pub wrong_line : ℕ → List (List ℕ) → Option ℕ
wrong_line n [] = None
wrong_line n (line ∷ lines) = unless_call n (call_in line) (wrong_line (n + 1) lines)

-- a run that ends early names this line, or something failed
abbrev pub StopsAt : Stop → Option ℕ → Type 0
StopsAt NoKey line = true ≡ false
StopsAt (NoCall n) line = line ≡ Some n
StopsAt (Failed e) line = Unit {0}

-- something failed
abbrev pub IsFailure : Stop → Type 0
IsFailure stop = StopsAt stop None
