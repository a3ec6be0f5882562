-- What a room answers to a code, what records add up to, and the rounding of a tap.
use Rattle.std.specs.Prelude.{ℕ, suc, ◌+◌, ◌-◌, ◌*◌, ◌/◌, ◌≤◌, List, ℤ, pos, negsuc, ◌-ℤ◌, neg_ℤ, slice_index_or, unsigned_abs}
use Rattle.kinds.specs.Samples.{RingOps, PolarOps}
use Rattle.sums.specs.declared.Side.{Side}
use Rattle.sums.specs.declared.Side.TheVariants.{A, B}
use Rattle.sums.specs.Sums.{total, late}
use Rattle.sums.specs.Codes.{Codes, reversed}

-- a list as a function of the place, zero outside the list
abbrev pub at : {S : Type 0} → RingOps S → List S → ℕ → S
at k xs t = slice_index_or xs t k.zero

-- a room's answer at time t to a code of n entries: the sum over j of code[j] · taps[t - j]
abbrev pub room_answer : {S : Type 0} → RingOps S → ℕ → (ℕ → S) → (ℕ → S) → ℕ → S
room_answer k n code taps t = total k (λ j. k.mul (code j) (late k.zero j taps t)) n

-- a record correlated with a code of n entries, from place t on: the sum over j of conj(code[j]) · record[t + j]
abbrev pub correlation : {S : Type 0} → RingOps S → ℕ → (ℕ → S) → (ℕ → S) → ℕ → S
correlation k n code samples t = total k (λ j. k.mul (k.conj (code j)) (samples (j + t))) n

-- sum t of two records: the first correlated with A and the second with B, added
abbrev pub sum_at : {S : Type 0} → RingOps S → Codes S → (Side → ℕ → S) → ℕ → S
sum_at k c records t = k.add (correlation k c.span (c.entry A) (records A) t) (correlation k c.span (c.entry B) (records B) t)

-- what is pending at place j once the first `count` samples of the list were pushed, after a clear
abbrev pub left_by : {S : Type 0} → RingOps S → ℕ → (ℕ → S) → (ℕ → S) → ℕ → ℕ → S
left_by k n code xs count j = total k (λ i. k.mul (k.conj (reversed k n code (j + (count - i)))) (xs i)) count

-- z divided by e, rounded to the nearest, halves away from zero
unfoldable pub rounded : ℤ → ℕ → ℤ
rounded (pos m) e = pos ((2 * m + e) / (2 * e))
rounded (negsuc m) e = neg_ℤ (pos ((2 * suc m + e) / (2 * e)))

-- a and b differ by at most E
abbrev pub Near : ℕ → ℤ → ℤ → Type 0
Near E a b = unsigned_abs (a -ℤ b) ≤ E

-- the sample x lies within E of y
abbrev pub Within : {S : Type 0} → RingOps S → PolarOps S → ℕ → S → S → Type 0
Within k r E x y = r.magnitude (k.sub x y) ≤ E
