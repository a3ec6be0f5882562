-- A list of up to seven stages in an array of seven, of which those past the list rest.
use Rattle.std.specs.Prelude.{◌≡◌, ℕ, ◌-◌, ◌≤◌, List, ◌++◌, length, take, drop, replicate}
use Rattle.std.proofs.Common.{sym, ap, ◌∙◌, arith, take-append-drop, length-take-le}
use Rattle.keys.specs.declared.stage.KeyStage.{KeyStage}

-- a stage of delay 0 rests
abbrev pub at_rest : KeyStage
at_rest = record { delay = 0; code = 0 }

-- the seven places, of which the first `count` hold the list
pub record RestsPast (count : ℕ) (held : List KeyStage) : Type 0 where
  pub few : count ≤ 7
  pub seven : length held ≡ 7
  pub rest : drop count held ≡ replicate (7 - count) at_rest

-- the seven places of a list
abbrev pub padded : List KeyStage → List KeyStage
padded stages = stages ++ replicate (7 - length stages) at_rest

pub count_is : {count : ℕ} {held : List KeyStage} → RestsPast count held → length (take count held) ≡ count
count_is {count} {held} p = length-take-le count held (omega (arith, p.few, p.seven))

pub padded-take : {count : ℕ} {held : List KeyStage} → RestsPast count held → padded (take count held) ≡ held
padded-take {count} {held} p =
    ap (λ n. take count held ++ replicate (7 - n) at_rest) (count_is p) ∙ ap (λ l. take count held ++ l) (sym p.rest) ∙ take-append-drop count held
