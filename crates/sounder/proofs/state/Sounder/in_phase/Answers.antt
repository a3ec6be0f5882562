use Rattle.std.proofs.Common.{ap}
use Rattle.pairs.specs.Pairs.{codes_of}
use Rattle.tables.specs.Tables.{words}
use Rattle.sounder.specs.States.{state}
use Rattle.sounder.proofs.Holding.{all_zero}
use Rattle.sounder.proofs.state.Sounder.in_phase.Goals as goal

pub returns : goal.returns
returns g c =
    let laws = g.met.P.Sample.Kind in
    record {
      value = ap (state (codes_of g.P.Pair c.args.pair) (g.P.Pair.pending c.args.pair) c.args.phase 0 0) (all_zero g.P.Sample.Kind laws.encodes laws.wordwise (words c.new.result) c.new.ensures);
      laws = g.met.P.Pair.laws c.args.pair;
    }
