use Rattle.std.proofs.Common.{sym, subst, ap, ◌∙◌}
use Rattle.tables.specs.Tables.{words, written, AreSamples}
use Rattle.tables.proofs.Lines.{written_samples}
use Rattle.tables.proofs.line.DelayLine.exchange.Goals as goal

pub invariant_of-self : goal.invariant_of-self
invariant_of-self g c =
    let k = g.K.Kind in
    let f = words c.args.self.now.table in
    let x = c.args.latest in
    record { held = subst (AreSamples k.encoding) (sym (c.put.ensures ∙ ap (written 128 f c.from-place.result) c.words.ensures)) (written_samples k.ring g.met.K.Kind.encodes 128 f c.from-place.result x c.args.self.now.held) }
