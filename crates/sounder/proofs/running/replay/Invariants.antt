use Rattle.std.proofs.Common.{◌≡◌, take}
use Rattle.pairs.specs.Pairs.{codes_of}
use Rattle.calls.specs.Runs.{run_of, calls_of}
use Rattle.sounder.specs.States.{state_of}
use Rattle.sounder.proofs.Replaying.{Going}
use Rattle.sounder.proofs.running.replay.Given as goal

abbrev pub invariant-loop-event : goal.invariant-loop-event
invariant-loop-event g l =
    let k = g.P.Sample.Kind in
    let first = l.initial.sounder.pair in
    (calls_of l.run ≡ calls_of l.initial.run) × Going k (codes_of g.P.Pair first) (g.P.Pair.pending first) (state_of k g.P.Pair l.sounder) (run_of (take l.event-index l.run))
