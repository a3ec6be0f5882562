use Rattle.std.proofs.Common.{◌≡◌, ◌++◌, drop, string_bytes}
use Rattle.scripts.specs.Texts.{all_now, behind}
use Rattle.scripts.proofs.text.joined.Given as goal

abbrev pub invariant-loop-word : goal.invariant-loop-word
invariant-loop-word l = string_bytes l.text ++ behind (all_now (drop l.word-index l.rest)) ≡ l.first ++ behind (all_now l.rest)
