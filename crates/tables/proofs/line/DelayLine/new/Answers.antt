use Rattle.std.proofs.Common.{sym, subst}
use Rattle.tables.specs.Tables.{AreSamples}
use Rattle.tables.proofs.Lines.{zeros_samples}
use Rattle.tables.proofs.line.DelayLine.new.Goals as goal

pub invariant_of-result : goal.invariant_of-result
invariant_of-result g c =
    let k = g.K.Kind in
    let laws = g.met.K.Kind in
    record { held = subst (AreSamples k.encoding) (sym c.new.ensures) (zeros_samples k.ring laws.encodes laws.wordwise 128) }
