use Rattle.std.proofs.Common.{eqb, ◌∙◌, rules}
use Rattle.std.proofs.lemmas.Iterator.{YieldsList-from_slice}
use Rattle.std.proofs.lemmas.Iterator.Search.{any_from_yields_List}
use Rattle.keys.specs.declared.stage.KeyStage.{KeyStage}
use Rattle.keys.proofs.Loops.{contains_is}
use Rattle.keys.proofs.check.has_delay.Goals as goal

pub returns-clause-value : goal.returns-clause-value
returns-clause-value c =
    any_from_yields_List (λ (s : KeyStage). eqb s.delay c.args.wanted) _ _ _ c.any.ensures.ran (YieldsList-from_slice c.args.stages.now cc) (λ x b q k. search rules) ∙ contains_is c.args.wanted c.args.stages.now
