use Rattle.std.proofs.Common.{◌≡◌, ◌*◌, ◌≤◌, length, drop}
use Rattle.layout.specs.Fields.{stages_in}
use Rattle.layout.proofs.parsing.take_fields.Given as goal

abbrev pub invariant-loop-i : goal.invariant-loop-i
invariant-loop-i l = (l.rest ≡ drop (2 * l.i) l.bytes) × (2 * l.i ≤ length l.bytes) × (l.stages.items ≡ stages_in l.bytes l.i)
