use Rattle.std.proofs.Common.{◌≡◌, take, drop}
use Rattle.sounder.specs.States.{state_of}
use Rattle.layout.specs.Tests.{first_refusal, each}
use Rattle.files.specs.Samples.{samples_in}
use Rattle.files.specs.Soundings.{sample_calls}
use Rattle.files.specs.Order.{sample_test, sample_tests}
use Rattle.files.specs.States.{led, Took}
use Rattle.files.proofs.sounding.feed.Given as goal

abbrev pub invariant-loop-t : goal.invariant-loop-t
invariant-loop-t g l =
    let k = g.P.Sample.Kind in
    let was = state_of k g.P.Pair l.initial.sounder in
    let xs = samples_in l.samples.kind l.samples.bytes.now l.samples.count in
    (first_refusal (each (sample_test k was.codes l.samples.kind l.samples.from) l.t (drop l.t xs)) ≡ first_refusal (sample_tests k was.codes l.samples.kind l.samples.from xs))
    × (state_of k g.P.Pair l.sounder ≡ led k (sample_calls (take l.t xs)) was)
    × Took l.t was (state_of k g.P.Pair l.sounder)
