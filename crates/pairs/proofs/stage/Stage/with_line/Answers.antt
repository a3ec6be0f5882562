use Rattle.std.proofs.Common.{ap}
use mathlib.Core.Path.{fun_ext}
use Rattle.golay.specs.Stages.{weight_of, stage_pending}
use Rattle.pairs.specs.Pairs.{codes_of}
use Rattle.tables.proofs.Lines.{line_zero}
use Rattle.pairs.proofs.stage.Stage.with_line.Goals as goal

pub returns-clause-lists : goal.returns-clause-lists
returns-clause-lists g c =
    let kind = g.P.Sample.Kind in
    let laws = g.met.P.Sample.Kind in
    let a = c.args in
    ap (λ kept. stage_pending kind.ring (weight_of kind.polar a.delay a.code (codes_of g.P.Pair a.below)) a.delay kept (g.P.Pair.pending a.below)) (fun_ext (line_zero kind laws.encodes laws.wordwise a.line c.requires a.delay))
