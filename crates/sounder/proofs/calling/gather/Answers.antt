use Rattle.std.proofs.Common.{◌+◌, ◌-◌, ◌<◌, ◌≤◌, ltb, ap, ◌∙◌, arith}
use Rattle.std.proofs.lemmas.Bool.Decides.{nat_tests}
use Rattle.tables.specs.Tables.{words, sample_of, written}
use Rattle.sounder.proofs.Holding.{index_is, gathers}
use Rattle.sounder.proofs.calling.gather.Goals as goal

pub returns : goal.returns
returns g c =
    let k = g.K.Kind in
    let table = words c.args.table.now in
    let which = index_is (ltb (c.args.count + 1) c.args.span) c.in-Some.i (c.args.count + 1 - c.args.span) c.in-Some.ensures in
    let test = which.0 in
    let late : c.args.span ≤ c.args.count + 1 = grind (arith, nat_tests, test) in
    let one : 1 ≤ c.args.span = omega arith in
    let early : c.args.count < c.args.span + 255 = omega arith in
    gathers k g.met.K.Kind.encodes table (words c.put.new.self) c.words.result c.args.span c.args.count c.sample-old.result c.sum.result c.args.y
    one late early (c.sample-old.ensures ∙ ap (λ i. sample_of k.ring k.encoding (table i)) which.1) c.sum.ensures c.words.ensures (c.put.ensures ∙ ap (λ i. written 256 table i c.words.result) which.1)
