use Rattle.std.proofs.Common.{◌≡◌, string_bytes}
use Rattle.codes.specs.Lines.{line_of}
use Rattle.codes.proofs.line.code_line.Given as goal

abbrev pub invariant-loop-k : goal.invariant-loop-k
invariant-loop-k g l = string_bytes l.line ≡ line_of l.kind g.P.Sample.Kind.encoding l.side (g.P.Pair.code l.pair l.side) l.k
