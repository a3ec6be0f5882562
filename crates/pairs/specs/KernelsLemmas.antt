-- The laws of a pair hold of a kernel.
use Rattle.std.specs.Prelude.{◌≡◌, ◌≤◌, ℕ, ℤ}
use Rattle.kinds.specs.Kinds.{KindModel}
use Rattle.kinds.specs.Samples.{RingLaws, ConjugationLaws, RootLaws}
use Rattle.sums.specs.declared.Side.{Side}
use Rattle.sums.specs.declared.Side.TheVariants.{A, B}
use Rattle.sums.specs.Codes.{PairLaws}
use Rattle.sums.proofs.Places.{below_outside}
use Rattle.golay.specs.Kernels.{ten_codes}
use Rattle.golay.proofs.Units.{unit_laws}
use Rattle.golay.proofs.Tens.{ten_laws}
use Rattle.pairs.specs.Kernels.{nine, nine_each, kernel_codes, kernel_pending}
use Rattle.pairs.specs.declared.kernel.Kernel.{Kernel}
use Rattle.pairs.specs.declared.kernel.Kernel.TheVariants.{Unit, Ten}
use Rattle.tables.specs.Tables.{words}

module _ {S : Type 0} (k : KindModel S) where
  pub nine_outside : (t : ℕ → ℤ × ℤ) (j : ℕ) → 9 ≤ j → nine k t j ≡ k.ring.zero
  nine_outside t = below_outside 9 _ _

  each_outside : (p q : ℕ → ℤ × ℤ) (side : Side) (j : ℕ) → 9 ≤ j → nine_each k p q side j ≡ k.ring.zero
  each_outside p q A = nine_outside p
  each_outside p q B = nine_outside q

  module _ (ring : RingLaws k.ring) (bar : ConjugationLaws k.ring) (roots : RootLaws k.ring k.polar) where
    pub tables_laws : (p q : ℕ → ℤ × ℤ) → PairLaws k.ring k.polar (ten_codes k.ring) (nine_each k p q)
    tables_laws p q = ten_laws ring bar roots (nine_each k p q) (each_outside p q)

    pub kernel_laws : {K : Type 0} (s : Kernel K) → PairLaws k.ring k.polar (kernel_codes k s) (kernel_pending k s)
    kernel_laws (Unit s) = unit_laws ring bar roots
    kernel_laws (Ten s) = tables_laws (words s.p) (words s.q)
