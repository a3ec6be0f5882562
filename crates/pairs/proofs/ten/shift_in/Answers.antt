use Rattle.std.proofs.Common.{◌≡◌, ◌+◌, ◌<◌, sym, subst, arith}
use Rattle.tables.specs.Tables.{words}
use Rattle.pairs.proofs.Tens.{Shifted, shifted_more, shifted_all}
use Rattle.pairs.proofs.ten.shift_in.Goals as goal

pub loop-j-preserved : goal.loop-j-preserved
loop-j-preserved g c =
    let j = c.loop-j.j in
    let less : j < 9 = omega arith in
    let start = words c.args.table.now in
    subst (λ t. Shifted g.K.Kind c.args.side c.args.x start t (j + 1)) (sym c.put.ensures)
    (shifted_more g.K.Kind c.args.side c.args.x start g.met.K.Kind.encodes (words c.loop-j.table) j c.arriving-next.result c.words.result less c.loop-j.invariant c.arriving-next.ensures c.words.ensures)

pub returns-clause-rest : goal.returns-clause-rest
returns-clause-rest g c =
    let kind = g.met.K.Kind in
    let start = words c.args.table.now in
    let end : c.loop-j.j ≡ 9 = omega arith in
    shifted_all g.K.Kind c.args.side c.args.x start kind.algebra kind.conjugation (words c.loop-j.table) (subst (Shifted g.K.Kind c.args.side c.args.x start (words c.loop-j.table)) end c.loop-j.invariant)
