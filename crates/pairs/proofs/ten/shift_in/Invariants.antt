use Rattle.tables.specs.Tables.{words}
use Rattle.pairs.proofs.Tens.{Shifted}
use Rattle.pairs.proofs.ten.shift_in.Given as goal

abbrev pub invariant-loop-j : goal.invariant-loop-j
invariant-loop-j g l = Shifted g.K.Kind l.side l.x (words l.initial.table) (words l.table) l.j
