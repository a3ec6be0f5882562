-- The number, the layer and the place of each refusal of a key.
use Rattle.std.specs.Prelude.{ℕ, List}
use Rattle.refusals.specs.Texts.{refusal_with}
use Rattle.keys.specs.declared.refusal.KeyRefusal.{KeyRefusal}
use Rattle.keys.specs.declared.refusal.KeyRefusal.TheVariants.{Kernel, StageCount, Delays, WeightCode}

abbrev pub number : KeyRefusal → ℕ
number Kernel = 1
number StageCount = 2
number Delays = 3
number (WeightCode stage) = 4

-- a key is layer 2
abbrev pub layer : KeyRefusal → ℕ
layer r = 2

-- the first stage with a wrong code, counted from 0
abbrev pub place : KeyRefusal → ℕ
place Kernel = 0
place StageCount = 0
place Delays = 0
place (WeightCode stage) = stage

abbrev pub refusal_text : KeyRefusal → List ℕ
refusal_text r = refusal_with (number r) (layer r) (place r)
