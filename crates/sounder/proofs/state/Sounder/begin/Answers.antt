use Rattle.tables.specs.Tables.{words}
use Rattle.sounder.specs.States.{state}
use Rattle.calls.specs.declared.phase.Phase.TheVariants.{FirstRecord}
use Rattle.sounder.proofs.Holding.{all_zero}
use Rattle.sounder.proofs.state.Sounder.begin.Goals as goal

pub returns : goal.returns
returns g c =
    let laws = g.met.P.Sample.Kind in
    let cleared = c.clear.ensures in
    let none = all_zero g.P.Sample.Kind laws.encodes laws.wordwise (words c.clear-2.new.self) c.clear-2.ensures in
    λ i. state (cleared.same i) (cleared.lists i) FirstRecord c.args.room 0 (none i)
