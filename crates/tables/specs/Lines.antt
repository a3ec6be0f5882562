-- The values that a delay line keeps.
use Rattle.std.specs.Prelude.{ℕ, ◌+◌, ◌-◌, ◌%◌, ℤ}
use Rattle.kinds.specs.Samples.{RingOps, WordOps}
use Rattle.kinds.specs.Kinds.{KindModel}
use Rattle.tables.specs.Tables.{words, sample_of}
use Rattle.tables.specs.declared.line.DelayLine.{DelayLine}

-- the d latest values, oldest first, of a table of 128 places where the next value goes to place `next` modulo 128
abbrev pub latest : {S : Type 0} → RingOps S → WordOps S → (ℕ → ℤ × ℤ) → ℕ → ℕ → ℕ → S
latest k e table next d j = sample_of k e (table ((next + (256 - d) + j) % 128))

abbrev pub delayed : {S : Type 0} (k : KindModel S) → DelayLine S k → ℕ → ℕ → S
delayed k s d = latest k.ring k.encoding (words s.table) s.next d
