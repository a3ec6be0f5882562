-- The kernels: the short pairs at the foot of a cascade.
use Rattle.std.specs.Prelude.{ℕ, Bool, cond, ◌||◌, ◌==◌}
use Rattle.kinds.specs.Samples.{RingOps}
use Rattle.sums.specs.declared.Side.{Side}
use Rattle.sums.specs.declared.Side.TheVariants.{A, B}
use Rattle.sums.specs.Sums.{below, ones}
use Rattle.sums.specs.Codes.{Codes}

-- the unit kernel: A = 1 and B = 1
abbrev pub unit_codes : {S : Type 0} → RingOps S → Codes S
unit_codes k = record {
  span = 1;
  energy = 2;
  entry = λ side. below 1 (λ j. k.one) k.zero;
  counts = λ side. ones 1;
}

-- which entries of the ten-entry kernel are -1:
-- A: + + − + − + − − + +   B: + + − + + + + + − −
abbrev pub is_minus : Side → ℕ → Bool
is_minus A j = j == 2 || j == 4 || j == 6 || j == 7
is_minus B j = j == 2 || j == 8 || j == 9

-- -x or x
abbrev pub signed : {S : Type 0} → RingOps S → Bool → S → S
signed k minus x = cond minus (k.sub k.zero x) x

abbrev pub ten_entry : {S : Type 0} → RingOps S → Side → ℕ → S
ten_entry k side = below 10 (λ j. signed k (is_minus side j) k.one) k.zero

-- the ten-entry kernel
abbrev pub ten_codes : {S : Type 0} → RingOps S → Codes S
ten_codes k = record {
  span = 10;
  energy = 20;
  entry = ten_entry k;
  counts = λ side. ones 10;
}
