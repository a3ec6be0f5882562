use Rattle.std.specs.Iterator.Adapters.{skip_steps}
use Rattle.std.specs.Str.Iter.{lines_steps}
use Rattle.std.specs.Str.Lines.{lines}
use Rattle.replay.specs.Scripts.{behind_first}
use Rattle.replay.proofs.CallLines.{CallsRead}
use Rattle.replay.proofs.script.calls_of.Given as goal

abbrev pub invariant-loop-i : goal.invariant-loop-i
invariant-loop-i l = CallsRead (skip_steps lines_steps) (behind_first (lines l.script)) l.i-iterator l.events.items
