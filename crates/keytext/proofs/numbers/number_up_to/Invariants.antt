use Rattle.std.proofs.Common.{◌≡◌, ◌≤◌, drop}
use Rattle.keytext.specs.Numbers.{digits_after, number_up_to}
use Rattle.keytext.proofs.numbers.number_up_to.Given as goal

abbrev pub invariant-loop-byte : goal.invariant-loop-byte
invariant-loop-byte l = record {
  rest : digits_after l.most l.n (drop l.byte-index l.digits) ≡ number_up_to l.most l.digits;
  bound : l.n ≤ l.most;
}
