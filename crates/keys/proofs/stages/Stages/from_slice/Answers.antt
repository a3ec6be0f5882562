use Rattle.std.proofs.Common.{length, ap, ◌∙◌, arith}
use Rattle.std.proofs.lemmas.List.{length-take-le}
use Rattle.keys.proofs.Padding.{front_laid}
use Rattle.keys.proofs.stages.Stages.from_slice.Goals as goal

pub invariant_of-result : goal.invariant_of-result
invariant_of-result c =
    let n = c.min-count.result in
    front_laid n c.copy_from_slice.new.self (ap length c.copy_from_slice.ensures.after ∙ length-take-le n c.args.stages.now (omega (arith, c.min-count.ensures))) (omega (arith, c.min-count.ensures))
