-- What a table of words holds: two words at each place, zeros past the last place.
use Rattle.std.specs.Prelude.{◌≡◌, ℕ, true, cond, ◌&&◌, List, replicate, ℤ, pos, Some, None, Option, ◌==◌, nat_lt, slice_index_or}
use Rattle.std.specs.Option.{is_some}
use Rattle.kinds.specs.Samples.{RingOps, WordOps}
use Rattle.tables.specs.declared.table.WordTable.{WordTable}

-- two columns of n words, zeros past the last
abbrev pub columns : ℕ → List ℤ → List ℤ → ℕ → ℤ × ℤ
columns n first second i = cond (nat_lt i n) (slice_index_or first i (pos 0), slice_index_or second i (pos 0)) (pos 0, pos 0)

abbrev pub words : {n : ℕ} → WordTable n → ℕ → ℤ × ℤ
words {n} t = columns n t.first t.second

-- a table of zeros
abbrev pub zeros : ℕ → ℕ → ℤ × ℤ
zeros n = columns n (replicate n (pos 0)) (replicate n (pos 0))

-- a table of n places after two words were written to place i
abbrev pub written : ℕ → (ℕ → ℤ × ℤ) → ℕ → ℤ × ℤ → ℕ → ℤ × ℤ
written n f i v j = cond (j == i && nat_lt i n) v (f j)

abbrev pub or_zero : {S : Type 0} → RingOps S → Option S → S
or_zero k (Some x) = x
or_zero k None = k.zero

-- the words at each place are a sample's
abbrev pub AreSamples : {S : Type 0} → WordOps S → (ℕ → ℤ × ℤ) → Type 0
AreSamples e f = (i : ℕ) → is_some (e.sample (f i).0 (f i).1) ≡ true

-- the sample of two words, zero where they are no sample's
abbrev pub sample_of : {S : Type 0} → RingOps S → WordOps S → ℤ × ℤ → S
sample_of k e w = or_zero k (e.sample w.0 w.1)
