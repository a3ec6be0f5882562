-- A stage over a pair: its codes, and the sums that are pending in it, from those of the pair below.
use Rattle.std.specs.Prelude.{ℕ, ◌+◌, ◌*◌, ◌^◌, Bool, cond, ◌&&◌, Some, None, Option, nat_le, nat_lt}
use Rattle.kinds.specs.Samples.{RingOps, PolarOps}
use Rattle.sums.specs.declared.Side.{Side}
use Rattle.sums.specs.declared.Side.TheVariants.{A, B}
use Rattle.sums.specs.Sums.{joined, late}
use Rattle.sums.specs.Codes.{Codes, Pending}

-- whether a stage of delay d fits over these codes
abbrev pub fits_over : {S : Type 0} → ℕ → Codes S → Bool
fits_over d c = nat_le 1 d && nat_le d 128 && nat_le c.energy (2 ^ 19) && nat_le c.span 3968

-- the weight of a stage of delay d and this weight code: the root of the code, none where the stage rests
abbrev pub weight_of : {S : Type 0} → PolarOps S → ℕ → ℕ → Codes S → Option S
weight_of r d code c = cond (fits_over d c) (cond (nat_lt code r.count) (Some (r.root code)) None) None

-- a sum on side A, a difference on side B
abbrev pub blend : {S : Type 0} → RingOps S → Side → S → S → S
blend k A x y = k.add x y
blend k B x y = k.sub x y

-- A'[j] = w · A[j] + B[j - d] and B'[j] = w · A[j] - B[j - d]
abbrev pub doubled : {S : Type 0} → RingOps S → S → ℕ → Codes S → Codes S
doubled k w d c = record {
  span = c.span + d;
  energy = 2 * c.energy;
  entry = λ side j. blend k side (k.mul w (c.entry A j)) (late k.zero d (c.entry B) j);
  counts = λ side j. c.counts A j + late 0 d (c.counts B) j;
}

-- conj(w) times the d kept values and then P, plus Q on side A, minus Q on side B
abbrev pub doubled_pending : {S : Type 0} → RingOps S → S → ℕ → (ℕ → S) → Pending S → Pending S
doubled_pending k w d kept pending side j = blend k side (k.mul (k.conj w) (joined d kept (pending A) j)) (pending B j)

-- a stage with a weight; one that rests means what the pair below means
abbrev pub stage_codes : {S : Type 0} → RingOps S → Option S → ℕ → Codes S → Codes S
stage_codes k None d c = c
stage_codes k (Some w) d c = doubled k w d c

abbrev pub stage_pending : {S : Type 0} → RingOps S → Option S → ℕ → (ℕ → S) → Pending S → Pending S
stage_pending k None d kept pending = pending
stage_pending k (Some w) d kept pending = doubled_pending k w d kept pending
