-- Whole numbers modulo 2 ^ 64: sums, products and negations of words, and their absolute values.
use Rattle.std.specs.Prelude.{◌≡◌, ◌+◌, ◌^◌, ◌≤◌, ℤ, pos, negsuc, ◌+ℤ◌, ◌-ℤ◌, ◌*ℤ◌, neg_ℤ, FitsSigned, unsigned_abs}
use Rattle.std.proofs.Common.{sym, ap, ◌∙◌, arith, to_z, of_z}
use Rattle.std.proofs.Math.Decide.{dec_lt}
use Rattle.std.proofs.Math.IntN.{+ℤ_idl, neg_ℤ-neg_ℤ}
use Rattle.std.specs.Int.Signed.{mag, nat_abs-le}
use Rattle.std.specs.Int.{int_wrap, w64}
use Rattle.std.proofs.lemmas.Int.{ints, int_wrap_fits, SFits-int_wrap, int_wrap-add_left, int_wrap-add_right, int_wrap-sub_right, int_wrap-mul_left, int_wrap-mul_right, to_z-of_z}
use Rattle.kinds.specs.Exact.{Alike}

-- a word is its own word
pub again : (z : ℤ) → int_wrap w64 (int_wrap w64 z) ≡ int_wrap w64 z
again z = int_wrap_fits w64 (int_wrap w64 z) (SFits-int_wrap w64 z)

add_both : (a b : ℤ) → int_wrap w64 (int_wrap w64 a +ℤ int_wrap w64 b) ≡ int_wrap w64 (a +ℤ b)
add_both a b = int_wrap-add_left w64 a (int_wrap w64 b) ∙ int_wrap-add_right w64 a b

mul_both : (a b : ℤ) → int_wrap w64 (int_wrap w64 a *ℤ int_wrap w64 b) ≡ int_wrap w64 (a *ℤ b)
mul_both a b = int_wrap-mul_left w64 a (int_wrap w64 b) ∙ int_wrap-mul_right w64 a b

pub neg_wrapped : (a : ℤ) → int_wrap w64 (neg_ℤ (int_wrap w64 a)) ≡ int_wrap w64 (neg_ℤ a)
neg_wrapped a = ap (int_wrap w64) (sym (+ℤ_idl _)) ∙ int_wrap-sub_right w64 (pos 0) a ∙ ap (int_wrap w64) (+ℤ_idl _)

-- operands with the same words give answers with the same word
pub add_same : (a b c d : ℤ) → Alike a c → Alike b d → Alike (a +ℤ b) (c +ℤ d)
add_same a b c d p q = sym (add_both a b) ∙ (λ i. int_wrap w64 (p i +ℤ q i)) ∙ add_both c d

pub neg_same : (a b : ℤ) → Alike a b → Alike (neg_ℤ a) (neg_ℤ b)
neg_same a b p = sym (neg_wrapped a) ∙ ap (λ z. int_wrap w64 (neg_ℤ z)) p ∙ neg_wrapped b

pub sub_same : (a b c d : ℤ) → Alike a c → Alike b d → Alike (a -ℤ b) (c -ℤ d)
sub_same a b c d p q = add_same a (neg_ℤ b) c (neg_ℤ d) p (neg_same b d q)

pub mul_same : (a b c d : ℤ) → Alike a c → Alike b d → Alike (a *ℤ b) (c *ℤ d)
mul_same a b c d p q = sym (mul_both a b) ∙ (λ i. int_wrap w64 (p i *ℤ q i)) ∙ mul_both c d

mag_abs : (z : ℤ) → mag z ≤ unsigned_abs z
mag_abs (pos n) = omega arith
mag_abs (negsuc n) = omega arith

-- the word of z is no larger than z
pub abs_wrapped : (z : ℤ) → unsigned_abs (int_wrap w64 z) ≤ unsigned_abs z
abs_wrapped z = elim (dec_lt (mag z) (2 ^ 63)) [
  | yes h ↦ let e = int_wrap_fits w64 z (record { sfits = h }) in omega (arith, ap unsigned_abs e)
  | no h ↦ let small = nat_abs-le (int_wrap w64 z) (SFits-int_wrap w64 z).sfits in omega (arith, mag_abs z)
]

pub abs_neg : (z : ℤ) → unsigned_abs (neg_ℤ z) ≡ unsigned_abs z
abs_neg z = omega (arith, ints)

pub abs_sum : (a b : ℤ) → unsigned_abs (a +ℤ b) ≤ unsigned_abs a + unsigned_abs b
abs_sum a b = omega (arith, ints)

-- a word and its negation are equally large, -2 ^ 63 too
pub abs_neg_word : (z : ℤ) → FitsSigned w64 z → unsigned_abs (int_wrap w64 (neg_ℤ z)) ≡ unsigned_abs z
abs_neg_word z f =
    let there = abs_wrapped (neg_ℤ z) in
    let back = abs_wrapped (neg_ℤ (int_wrap w64 (neg_ℤ z))) in
    let same : int_wrap w64 (neg_ℤ (int_wrap w64 (neg_ℤ z))) ≡ z = neg_wrapped (neg_ℤ z) ∙ ap (int_wrap w64) (neg_ℤ-neg_ℤ z) ∙ int_wrap_fits w64 z f in
    omega (arith, abs_neg z, abs_neg (int_wrap w64 (neg_ℤ z)), ap unsigned_abs same)

-- a word that was taken to bits and back
pub word_back : (z : ℤ) → FitsSigned w64 z → to_z w64 (of_z w64 z) ≡ int_wrap w64 z
word_back z f = to_z-of_z w64 z f ∙ sym (int_wrap_fits w64 z f)
