use Rattle.std.proofs.Common.{string_bytes}
use Rattle.std.specs.Iterator.Adapters.{skip_steps}
use Rattle.std.specs.Str.Iter.{lines_steps}
use Rattle.std.specs.Str.Lines.{lines}
use Rattle.replay.specs.Scripts.{first_of, behind_first}
use Rattle.replay.proofs.SheetLines.{Written}
use Rattle.replay.proofs.sheet.sheet.Given as goal

abbrev pub invariant-loop-i : goal.invariant-loop-i
invariant-loop-i l = Written (skip_steps lines_steps) (first_of (lines l.script)) (behind_first (lines l.script)) l.events l.i-iterator (string_bytes l.text)
