-- What a kernel means, by what it holds.
use Rattle.std.specs.Prelude.{ℕ, ℤ}
use Rattle.kinds.specs.Kinds.{KindModel}
use Rattle.sums.specs.declared.Side.TheVariants.{A, B}
use Rattle.sums.specs.Sums.{below}
use Rattle.sums.specs.Codes.{Codes, Pending, silent}
use Rattle.golay.specs.Kernels.{unit_codes, ten_codes}
use Rattle.tables.specs.Tables.{words, sample_of}
use Rattle.pairs.specs.declared.kernel.Kernel.{Kernel}
use Rattle.pairs.specs.declared.kernel.Kernel.TheVariants.{Unit, Ten}
use Rattle.pairs.specs.declared.ten.TenKernel.{TenKernel}

-- the nine samples of a table
abbrev pub nine : {S : Type 0} → KindModel S → (ℕ → ℤ × ℤ) → ℕ → S
nine k table = below 9 (λ j. sample_of k.ring k.encoding (table j)) k.ring.zero

-- the pending sums of two such tables
abbrev pub nine_each : {S : Type 0} → KindModel S → (ℕ → ℤ × ℤ) → (ℕ → ℤ × ℤ) → Pending S
nine_each k p q A = nine k p
nine_each k p q B = nine k q

abbrev pub ten_pending : {K S : Type 0} → KindModel S → TenKernel K → Pending S
ten_pending k s = nine_each k (words s.p) (words s.q)

abbrev pub kernel_codes : {K S : Type 0} → KindModel S → Kernel K → Codes S
kernel_codes k (Unit s) = unit_codes k.ring
kernel_codes k (Ten s) = ten_codes k.ring

abbrev pub kernel_pending : {K S : Type 0} → KindModel S → Kernel K → Pending S
kernel_pending k (Unit s) = silent k.ring
kernel_pending k (Ten s) = ten_pending k s
