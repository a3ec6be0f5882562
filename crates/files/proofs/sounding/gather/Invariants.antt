use Rattle.std.proofs.Common.{◌≡◌, map}
use Rattle.std.specs.List.{range_with_len}
use Rattle.calls.specs.declared.call.Call.TheVariants.{Tap}
use Rattle.sounder.specs.States.{state_of, says}
use Rattle.files.specs.Soundings.{words_in}
use Rattle.files.proofs.sounding.gather.Given as goal

abbrev pub invariant-loop-index : goal.invariant-loop-index
invariant-loop-index g l = l.taps.items ≡ map (λ i. words_in (says g.P.Sample.Kind (Tap i) (state_of g.P.Sample.Kind g.P.Pair l.sounder))) (range_with_len 0 l.index)
