use Rattle.std.proofs.Common.{◌≡◌, ◌++◌, List, map, drop}
use Rattle.std.specs.Option.{option_map}
use Rattle.keys.specs.declared.stage.KeyStage.{KeyStage}
use Rattle.scripts.specs.Keys.{stages_of}
use Rattle.scripts.proofs.key.stages_of.Given as goal

abbrev pub invariant-loop-word : goal.invariant-loop-word
invariant-loop-word g l =
    option_map (λ (more : List KeyStage). l.stages.items ++ more) (stages_of (map g.W.AsStr.text (drop l.word-index l.words))) ≡ stages_of (map g.W.AsStr.text l.words)
