use Rattle.golay.proofs.Units.{unit_answer, unit_pushed}
use Rattle.pairs.proofs.unit.UnitKernelPair.push.Goals as goal

pub returns-clause-sums : goal.returns-clause-sums
returns-clause-sums g c = unit_answer g.met.K.Kind.algebra g.met.K.Kind.conjugation c.args.x

pub returns-clause-lists : goal.returns-clause-lists
returns-clause-lists g c = unit_pushed g.met.K.Kind.algebra g.met.K.Kind.conjugation c.args.x
