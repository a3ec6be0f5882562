use Rattle.std.proofs.Common.{arith}
use Rattle.std.proofs.lemmas.Int.{ints}
use Rattle.sounder.proofs.Division.{down_rounded, up_rounded_fits, up_rounded}
use Rattle.sounder.proofs.reading.divided.Goals as goal

pub overflow_cast-result-else-z-lt0 : goal.overflow_cast-result-else-z-lt0
overflow_cast-result-else-z-lt0 c = up_rounded_fits c.args.z c.args.e c.nearest_magnitude-q.result c.requires c.ranges.z c.nearest_magnitude-q.ensures (omega (arith, ints))

pub returns-then-z-lt0 : goal.returns-then-z-lt0
returns-then-z-lt0 c = down_rounded c.args.z c.args.e c.nearest_magnitude-q.result c.requires c.ranges.z c.nearest_magnitude-q.ensures (omega (arith, ints))

pub returns-else-z-lt0 : goal.returns-else-z-lt0
returns-else-z-lt0 c = up_rounded c.args.z c.args.e c.nearest_magnitude-q.result c.requires c.ranges.z c.nearest_magnitude-q.ensures (omega (arith, ints))
