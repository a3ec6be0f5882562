-- Rows of signs: the autocorrelations of a code of signs of one, counted.
use Rattle.std.proofs.Common.{◌≡◌, ℕ, zero, suc, ◌+◌, Bool, true, false, cond, sym, refl, ap, ◌∙◌, ap₂}
use Rattle.kinds.specs.Samples.{RingOps, RingLaws, ConjugationLaws}
use Rattle.kinds.specs.Rings.{mul_zero, zero_mul, mul_one, conj_zero, conj_one, conj_sub}
use Rattle.kinds.specs.Rings as rings
use Rattle.sums.specs.Sums.{sum_of, total, times}
use Rattle.sums.specs.Codes.{autocorrelation}
use Rattle.sums.proofs.Rings.{sub_mul, sub_zero, middle_sub}
use Rattle.sums.proofs.Sums.{ring_sums, sum_same, sum_twice}
use Rattle.golay.specs.Kernels.{signed}

pub data Sign : Type 0 where
  plus minus none : Sign

abbrev pub product : Sign → Sign → Sign
product plus t = t
product minus plus = minus
product minus minus = plus
product minus none = none
product none t = none

abbrev pub pluses : Sign → ℕ
pluses plus = 1
pluses minus = 0
pluses none = 0

abbrev pub minuses : Sign → ℕ
minuses plus = 0
minuses minus = 1
minuses none = 0

-- the products of the signs s apart
abbrev pub apart : (ℕ → Sign) → ℕ → ℕ → Sign
apart f s i = product (f (i + s)) (f i)

module _ {S : Type 0} {k : RingOps S} (ring : RingLaws k) (bar : ConjugationLaws k) where
  abbrev pub value : Sign → S
  value plus = k.one
  value minus = k.sub k.zero k.one
  value none = k.zero

  pub value_of_cond : (b c : Bool) → cond b (signed k c k.one) k.zero ≡ value (cond b (cond c minus plus) none)
  value_of_cond true true = refl
  value_of_cond true false = refl
  value_of_cond false c = refl

  pub sub_same : (x : S) → k.sub x x ≡ k.zero
  sub_same x = simp (rings.ring, ring)

  conj_minus : k.conj (k.sub k.zero k.one) ≡ k.sub k.zero k.one
  conj_minus = conj_sub ring bar _ _ ∙ ap₂ k.sub (conj_zero ring bar) (conj_one ring bar)

  -- the conjugate of a sign of one, times x
  pub signed_mul : (b : Bool) (x : S) → k.mul (k.conj (signed k b k.one)) x ≡ signed k b x
  signed_mul true x = ap (λ t. k.mul t x) conj_minus ∙ sub_mul ring _ _ x ∙ ap₂ k.sub (zero_mul ring x) (ring.one_mul x)
  signed_mul false x = ap (λ t. k.mul t x) (conj_one ring bar) ∙ ring.one_mul x

  value_product : (s t : Sign) → k.mul (value s) (k.conj (value t)) ≡ value (product s t)
  value_product plus plus = ring.one_mul _ ∙ conj_one ring bar
  value_product plus minus = ring.one_mul _ ∙ conj_minus
  value_product plus none = ring.one_mul _ ∙ conj_zero ring bar
  value_product minus plus = ap (k.mul _) (conj_one ring bar) ∙ mul_one ring _
  value_product minus minus = ap (k.mul _) conj_minus ∙ simp (rings.ring, ring)
  value_product minus none = ap (k.mul _) (conj_zero ring bar) ∙ mul_zero ring _
  value_product none t = zero_mul ring _

  -- p times one, less q times one
  abbrev pub balance : ℕ → ℕ → S
  balance p q = k.sub (times k p k.one) (times k q k.one)

  pub balance_add : (p q u v : ℕ) → k.add (balance p q) (balance u v) ≡ balance (p + u) (q + v)
  balance_add p q u v = sym (middle_sub ring _ _ _ _) ∙ sym (ap₂ k.sub (sum_twice (ring_sums ring) k.one p u) (sum_twice (ring_sums ring) k.one q v))

  value_balance : (s : Sign) → value s ≡ balance (pluses s) (minuses s)
  value_balance plus = sym (sub_zero ring _ ∙ ring.zero_add _)
  value_balance minus = ap (k.sub k.zero) (sym (ring.zero_add _))
  value_balance none = sym (sub_zero ring _)

  sum_balance : (f : ℕ → Sign) (n : ℕ) → total k (λ i. value (f i)) n ≡ balance (sum_of 0 ◌+◌ (λ i. pluses (f i)) n) (sum_of 0 ◌+◌ (λ i. minuses (f i)) n)
  sum_balance f zero = sym (sub_zero ring _)
  sum_balance f (suc n) = ap₂ k.add (sum_balance f n) (value_balance (f n)) ∙ balance_add _ _ _ _

  -- the autocorrelation of a code of signs is the pluses less the minuses of its products
  pub signs_correlate : (f : ℕ → Sign) (code : ℕ → S) → ((j : ℕ) → code j ≡ value (f j)) → (n s : ℕ) → autocorrelation k n code s ≡ balance (sum_of 0 ◌+◌ (λ i. pluses (apart f s i)) n) (sum_of 0 ◌+◌ (λ i. minuses (apart f s i)) n)
  signs_correlate f code is n s =
      sum_same (ring_sums ring) (λ i. k.mul (code (i + s)) (k.conj (code i))) (λ i. value (apart f s i)) (λ i. ap₂ (λ x y. k.mul x (k.conj y)) (is (i + s)) (is i) ∙ value_product (f (i + s)) (f i)) n ∙ sum_balance (apart f s) n
