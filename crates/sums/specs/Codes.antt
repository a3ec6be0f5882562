-- What a pair means: two codes of one span and the sums still to come out, and the laws that hold of them.
-- A code and a list of pending sums are functions of the place, zero outside.
use Rattle.std.specs.Prelude.{◌≡◌, ℕ, zero, suc, ◌+◌, ◌-◌, ◌^◌, ◌<◌, ◌≤◌, cond, nat_lt}
use Rattle.kinds.specs.Samples.{RingOps, PolarOps}
use Rattle.sums.specs.declared.Side.{Side}
use Rattle.sums.specs.declared.Side.TheVariants.{A, B}
use Rattle.sums.specs.Sums.{total, times, total_count}

-- two codes: their span, their energy, their entries, and of how many roots each entry is the sum
pub record Codes (S : Type 0) : Type 0 where
  pub span : ℕ
  pub energy : ℕ
  pub entry : Side → ℕ → S
  pub counts : Side → ℕ → ℕ

abbrev pub codes : {S : Type 0} → ℕ → ℕ → (Side → ℕ → S) → (Side → ℕ → ℕ) → Codes S
codes span energy entry counts = record { span = span; energy = energy; entry = entry; counts = counts }

-- the codes of something that has these four meanings
abbrev pub codes_at : {P S : Type 0} → (P → ℕ) → (P → ℕ) → (P → Side → ℕ → S) → (P → Side → ℕ → ℕ) → P → Codes S
codes_at span energy entry counts s = codes (span s) (energy s) (entry s) (counts s)

-- the sums still to come out: for code A the list P, for code B the list Q
abbrev pub Pending : Type 0 → Type 0
Pending S = Side → ℕ → S

-- nothing is pending
abbrev pub silent : {S : Type 0} → RingOps S → Pending S
silent k side j = k.zero

-- a code of n entries from its last entry to its first, zero from there on
abbrev pub reversed : {S : Type 0} → RingOps S → ℕ → (ℕ → S) → ℕ → S
reversed k n f j = cond (nat_lt j n) (f (n - 1 - j)) k.zero

-- what stands at place j as the sample x comes in: what was pending there, and conj(code[n - 1 - j]) times x
abbrev pub matching : {S : Type 0} → RingOps S → ℕ → (ℕ → S) → (ℕ → S) → S → ℕ → S
matching k n code pending x j = k.add (pending j) (k.mul (k.conj (reversed k n code j)) x)

abbrev pub arriving : {S : Type 0} → RingOps S → Codes S → Pending S → S → Side → ℕ → S
arriving k c pending x side = matching k c.span (c.entry side) (pending side) x

-- a push answers what arrives at place 0 on both sides
abbrev pub answer : {S : Type 0} → RingOps S → Codes S → Pending S → S → S × S
answer k c pending x = (arriving k c pending x A 0, arriving k c pending x B 0)

-- and leaves the rest, one place down
abbrev pub pushed : {S : Type 0} → RingOps S → Codes S → Pending S → S → Pending S
pushed k c pending x side j = arriving k c pending x side (j + 1)

-- the sum over i of code[i + s] · conj(code[i])
abbrev pub autocorrelation : {S : Type 0} → RingOps S → ℕ → (ℕ → S) → ℕ → S
autocorrelation k n code s = total k (λ i. k.mul (code (i + s)) (k.conj (code i))) n

-- the autocorrelations of both codes at shift s, added
abbrev pub correlations : {S : Type 0} → RingOps S → Codes S → ℕ → S
correlations k c s = k.add (autocorrelation k c.span (c.entry A) s) (autocorrelation k c.span (c.entry B) s)

-- x is a sum of n roots; none is zero
abbrev pub RootSum : {S : Type 0} → RingOps S → PolarOps S → ℕ → S → Type 0
RootSum k r zero x = x ≡ k.zero
RootSum {S} k r (suc n) x = (c : ℕ) × (c < r.count) × ((y : S) × (x ≡ k.add (r.root c) y) × RootSum k r n y)

-- what holds of every pair
pub record PairLaws {S : Type 0} (k : RingOps S) (r : PolarOps S) (c : Codes S) (pending : Pending S) : Type 0 where
  -- the span is from 1 to 4096, the energy from 1 to 2 ^ 20
  pub span_least : 1 ≤ c.span
  pub span_most : c.span ≤ 4096
  pub energy_least : 1 ≤ c.energy
  pub energy_most : c.energy ≤ 2 ^ 20
  -- the codes have `span` entries, and the lists of pending sums one less
  pub entry_outside : (side : Side) (j : ℕ) → c.span ≤ j → c.entry side j ≡ k.zero
  pub count_outside : (side : Side) (j : ℕ) → c.span ≤ j → c.counts side j ≡ 0
  pub pending_outside : (side : Side) (j : ℕ) → c.span ≤ j + 1 → pending side j ≡ k.zero
  -- the codes are complementary: their correlations cancel at every shift but 0, where they are the energy
  pub complementary : (s : ℕ) → 1 ≤ s → correlations k c s ≡ k.zero
  pub whole : correlations k c 0 ≡ times k c.energy k.one
  -- each entry is a sum of the stated count of roots, and the counts add up to the energy
  pub rooted : (side : Side) (j : ℕ) → RootSum k r (c.counts side j) (c.entry side j)
  pub counted : total_count (c.counts A) c.span + total_count (c.counts B) c.span ≡ c.energy
