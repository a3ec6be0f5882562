use Rattle.std.proofs.Common.{sym, ap, ◌∙◌, ap₂}
use Rattle.golay.specs.Kernels.{signed}
use Rattle.golay.proofs.Tens.{ten_arrives}
use Rattle.pairs.specs.Kernels.{nine}
use Rattle.tables.specs.Tables.{words}
use Rattle.pairs.proofs.Tens.{nine_read}
use Rattle.pairs.proofs.ten.arriving.Goals as goal

pub returns : goal.returns
returns g c =
    let k = g.K.Kind.ring in
    let kind = g.met.K.Kind in
    let x = c.args.x in
    c.sum.ensures
    ∙ ap₂ k.add (c.sample-waiting.ensures ∙ nine_read g.K.Kind kind.wordwise kind.encodes c.args.table.now c.args.j) (c.with_sign.ensures ∙ ap (λ b. signed k b x) c.is_minus.ensures)
    ∙ sym (ten_arrives kind.algebra kind.conjugation c.args.side (nine g.K.Kind (words c.args.table.now)) x c.args.j c.requires)
