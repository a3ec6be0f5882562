-- A stage of a key: two numbers with a colon between them.
use Rattle.std.specs.Prelude.{ℕ, cond, List, [], ◌∷◌, Some, None, Option, ◌==◌}
use Rattle.std.specs.Borrow.{Bor}
use Rattle.std.specs.Option.{option_map}
use Rattle.keys.specs.declared.stage.KeyStage.{KeyStage}
use Rattle.keytext.specs.Numbers.{number_of}
use Rattle.keytext.specs.Steps.{and_then}

-- what stands before a colon, and behind it
abbrev pub Parts : Type 0
Parts = List ℕ × List ℕ

-- what two references point to
abbrev pub parts : Bor (List ℕ) × Bor (List ℕ) → Parts
parts p = (p.0.now, p.1.now)

-- a word cut at its first colon, which is the byte 58
abbrev pub cut : List ℕ → Option Parts
cut [] = None
cut (byte ∷ bytes) = cond (byte == 58) (Some ([], bytes)) (option_map (λ (p : Parts). (byte ∷ p.0, p.1)) (cut bytes))

-- a number holds no colon, so a word with a second one is no stage
abbrev pub stage_from : Parts → Option KeyStage
stage_from p = and_then (number_of p.0) (λ delay. and_then (number_of p.1) (λ code. Some (record { delay = delay; code = code })))

abbrev pub stage_of : List ℕ → Option KeyStage
stage_of word = and_then (cut word) stage_from
