-- What the words of a key ask for.
use Rattle.std.specs.Prelude.{ℕ, List, [], ◌∷◌, Some, None, Option}
use Rattle.std.specs.Option.{option_map}
use Rattle.kinds.specs.declared.kind_name.KindName.{KindName}
use Rattle.kinds.specs.KindNames.{kind_of}
use Rattle.keys.specs.declared.stage.KeyStage.{KeyStage}
use Rattle.keytext.specs.Numbers.{number_of}
use Rattle.keytext.specs.Stages.{stage_of}
use Rattle.keytext.specs.Steps.{and_then}
use Rattle.scripts.specs.declared.key.KeyWords.{KeyWords}

-- the kind, the kernel and the stages
abbrev pub Asked : Type 0
Asked = KindName × ℕ × List KeyStage

abbrev pub asked : KeyWords → Asked
asked w = (w.kind, w.kernel, w.stages.items)

-- the stages of some words, absent if one of them is none
abbrev pub stages_of : List (List ℕ) → Option (List KeyStage)
stages_of [] = Some []
stages_of (word ∷ words) = and_then (stage_of word) (λ s. option_map (λ (more : List KeyStage). s ∷ more) (stages_of words))

-- at least a kind and a kernel
abbrev pub key_words_of : List (List ℕ) → Option Asked
key_words_of [] = None
key_words_of (kind ∷ []) = None
key_words_of (kind ∷ (kernel ∷ stages)) =
    and_then (kind_of kind) (λ k. and_then (number_of kernel) (λ n. option_map (λ (s : List KeyStage). (k, n, s)) (stages_of stages)))
