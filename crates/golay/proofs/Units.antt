-- The unit kernel is a pair, and what a push through it does.
use Rattle.std.proofs.Common.{◌≡◌, ℕ, ◌+◌, ◌≤◌, false, ltb, sym, refl, ap, ◌∙◌, ap₂, arith}
use mathlib.Core.Path.{fun_ext}
use Rattle.kinds.specs.Samples.{RingOps, PolarOps, RingLaws, ConjugationLaws, RootLaws}
use Rattle.kinds.specs.Rings.{zero_mul, conj_zero, conj_one}
use Rattle.sums.specs.Sums.{below}
use Rattle.sums.specs.Codes.{PairLaws, silent, answer, pushed, autocorrelation}
use Rattle.sums.proofs.Places.{below_outside, reversed_outside}
use Rattle.golay.specs.Kernels.{unit_codes}
use Rattle.golay.proofs.Roots.{sign_root}

module _ {S : Type 0} {k : RingOps S} (ring : RingLaws k) (bar : ConjugationLaws k) where
  abbrev unit : ℕ → S
  unit = below 1 (λ j. k.one) k.zero

  -- a sample comes out at once
  pub unit_answer : (x : S) → (x, x) ≡ answer k (unit_codes k) (silent k) x
  unit_answer x = let e = sym (ring.zero_add _ ∙ ap (λ t. k.mul t x) (conj_one ring bar) ∙ ring.one_mul x) in λ i. (e i, e i)

  -- and nothing stays
  pub unit_pushed : (x : S) → silent k ≡ pushed k (unit_codes k) (silent k) x
  unit_pushed x =
      fun_ext (λ side. fun_ext (λ j. sym (ring.zero_add _ ∙ ap (λ t. k.mul (k.conj t) x) (reversed_outside k 1 unit (j + 1) (omega arith)) ∙ ap (λ t. k.mul t x) (conj_zero ring bar) ∙ zero_mul ring x)))

  unit_apart : (s : ℕ) → 1 ≤ s → autocorrelation k 1 unit s ≡ k.zero
  unit_apart s h = ring.zero_add _ ∙ ap (λ t. k.mul t (k.conj k.one)) (below_outside 1 (λ j. k.one) k.zero (0 + s) (omega arith)) ∙ zero_mul ring _

  unit_whole : autocorrelation k 1 unit 0 ≡ k.one
  unit_whole = ring.zero_add _ ∙ ring.one_mul _ ∙ conj_one ring bar

  pub unit_laws : {r : PolarOps S} → RootLaws k r → PairLaws k r (unit_codes k) (silent k)
  unit_laws roots = record {
    span_least = omega arith;
    span_most = omega arith;
    energy_least = omega arith;
    energy_most = omega arith;
    entry_outside = λ side. below_outside 1 _ _;
    count_outside = λ side. below_outside 1 _ _;
    pending_outside = λ side j h. refl;
    complementary = λ s h. ap₂ k.add (unit_apart s h) (unit_apart s h) ∙ ring.zero_add _;
    whole = ap₂ k.add (unit_whole ∙ sym (ring.zero_add _)) unit_whole;
    rooted = λ side j. sign_root ring roots (ltb j 1) false;
    counted = refl;
  }
