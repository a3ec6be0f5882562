use Rattle.std.proofs.Common.{sym, subst}
use Rattle.tables.specs.Tables.{AreSamples}
use Rattle.tables.proofs.Lines.{zeros_samples}
use Rattle.tables.proofs.line.DelayLine.clear.Goals as goal

pub invariant_of-self : goal.invariant_of-self
invariant_of-self g c =
    let k = g.K.Kind in
    let laws = g.met.K.Kind in
    record { held = subst (AreSamples k.encoding) (sym c.clear.ensures) (zeros_samples k.ring laws.encodes laws.wordwise 128) }
