use Rattle.std.proofs.Common.{ap, ◌∙◌}
use Rattle.golay.specs.Stages.{weight_of, stage_pending}
use Rattle.golay.proofs.Pushes.{stage_silent}
use Rattle.tables.specs.Lines.{delayed}
use Rattle.pairs.specs.Pairs.{codes_of}
use Rattle.tables.proofs.Lines.{line_zero}
use Rattle.pairs.proofs.stage.StagePair.clear.Goals as goal

pub returns-clause-lists : goal.returns-clause-lists
returns-clause-lists g c =
    let kind = g.P.Sample.Kind in
    let laws = g.met.P.Sample.Kind in
    let s = c.args.self.now in
    let d = s.delay in
    let line = c.clear-2.new.self in
    let kept = delayed kind line d in
    ap (stage_pending kind.ring (weight_of kind.polar d s.code (codes_of g.P.Pair c.clear.new.self)) d kept) c.clear.ensures.lists
    ∙ stage_silent laws.algebra laws.conjugation _ d kept (line_zero kind laws.encodes laws.wordwise line c.clear-2.ensures.table d)
