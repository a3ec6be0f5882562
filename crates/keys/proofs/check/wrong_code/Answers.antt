use Rattle.std.proofs.Common.{leb, ◌∙◌, rules}
use Rattle.std.proofs.lemmas.Iterator.{YieldsList-from_slice}
use Rattle.std.proofs.lemmas.Iterator.Search.{position_from_yields_List}
use Rattle.keys.specs.declared.stage.KeyStage.{KeyStage}
use Rattle.keys.proofs.Loops.{first_is}
use Rattle.keys.proofs.check.wrong_code.Goals as goal

pub returns : goal.returns
returns c =
    position_from_yields_List (λ (s : KeyStage). leb c.args.roots s.code) _ _ _ c.position.ensures.ran (YieldsList-from_slice c.args.stages.now cc) (λ x b q k. search rules) ∙ first_is c.args.roots c.args.stages.now
