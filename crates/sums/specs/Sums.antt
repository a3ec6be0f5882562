-- Lists of samples as functions of the place, and their sums.
use Rattle.std.specs.Prelude.{ℕ, zero, suc, ◌+◌, ◌-◌, cond, nat_lt}
use Rattle.kinds.specs.Samples.{RingOps}

-- f 0 + .. + f (n - 1)
abbrev pub sum_of : {S : Type 0} → S → (S → S → S) → (ℕ → S) → ℕ → S
sum_of none add f zero = none
sum_of none add f (suc n) = add (sum_of none add f n) (f n)

-- the sum of the first n samples
abbrev pub total : {S : Type 0} → RingOps S → (ℕ → S) → ℕ → S
total k = sum_of k.zero k.add

-- x + .. + x, n times
abbrev pub times : {S : Type 0} → RingOps S → ℕ → S → S
times k n x = total k (λ j. x) n

-- the sum of the first n numbers
abbrev pub total_count : (ℕ → ℕ) → ℕ → ℕ
total_count = sum_of 0 ◌+◌

-- d values of the first list, then the second list
abbrev pub joined : {S : Type 0} → ℕ → (ℕ → S) → (ℕ → S) → ℕ → S
joined d f g j = cond (nat_lt j d) (f j) (g (j - d))

-- d times `none`, then the list
abbrev pub late : {S : Type 0} → S → ℕ → (ℕ → S) → ℕ → S
late none d g = joined d (λ i. none) g

-- the first n values of the list, then `none`
abbrev pub below : {S : Type 0} → ℕ → (ℕ → S) → S → ℕ → S
below n f none j = cond (nat_lt j n) (f j) none

-- one at each of the first n places, nothing after them
abbrev pub ones : ℕ → ℕ → ℕ
ones n = below n (λ j. 1) 0
