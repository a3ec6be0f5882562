use Rattle.std.proofs.Common.{◌≡◌, ◌-◌, ◌<◌, length}
use Rattle.delays.specs.Sets.{doublings, all_in, is_set}
use Rattle.keys.specs.Judged.{delays_of}
use Rattle.keys.proofs.check.are_doublings.Given as goal

abbrev pub invariant-loop-stage : goal.invariant-loop-stage
invariant-loop-stage l = (all_in (doublings l.wanted (length l.stages - l._stage-index)) (delays_of l.stages) ≡ is_set l.least (delays_of l.stages)) × (l.wanted < 512)
