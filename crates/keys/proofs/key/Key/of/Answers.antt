use Rattle.std.proofs.Common.{◌≡◌, List, is_ok, ap, ◌∙◌}
use Rattle.std.proofs.lemmas.List.{take_all}
use Rattle.keys.specs.declared.stage.KeyStage.{KeyStage}
use Rattle.keys.specs.KernelNames.{number_of}
use Rattle.keys.specs.Judged.{judged}
use Rattle.keys.specs.Plans.{plan}
use Rattle.keys.proofs.Accepted.{few_stages}
use Rattle.keys.proofs.key.Key.of.Goals as goal

-- the seven stages that are kept are all
whole : (c : goal.After-from_slice) → c.from_slice.result ≡ c.args.stages.now
whole c = c.from_slice.ensures ∙ take_all 7 c.args.stages.now (few_stages c.args.roots (number_of c.args.kernel) c.args.stages.now (ap is_ok c.requires))

pub invariant_of-result : goal.invariant_of-result
invariant_of-result c = ap (λ (s : List KeyStage). is_ok (judged c.args.roots (number_of c.args.kernel) s)) (whole c) ∙ ap is_ok c.requires

pub returns : goal.returns
returns c = ap (plan (number_of c.args.kernel) c.args.roots) (whole c)
