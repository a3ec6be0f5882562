-- The laws of the hall kind.
use Rattle.std.specs.Prelude.{◌≡◌, ◌^◌, ◌<◌, Bool, true, false, cond, ℤ, pos, negsuc, ◌+ℤ◌, Some, None, FitsSigned, unsigned_abs, refl}
use Rattle.std.proofs.Common.{sym, ap, ◌∙◌, le_refl, arith, lit≤}
use mathlib.Core.HLevel.{is_prop→PathP}
use Rattle.std.proofs.Math.Bridge.{le_prop}
use Rattle.std.specs.Int.Signed.{mag, nat_abs-le}
use Rattle.std.specs.Int.{int_wrap, w64}
use Rattle.std.proofs.lemmas.Int.{int_wrap_fits, int_wrap-add_left, int_wrap-mul_left}
use Rattle.kinds.specs.declared.hall.Hall.{Hall}
use Rattle.kinds.specs.Samples.{RingLaws, ConjugationLaws, WordLaws, SampleLaws, RootLaws, MagnitudeLaws}
use Rattle.kinds.specs.Exact.{integers, power, is_zero}
use Rattle.kinds.specs.Halls.{hall, hall_ring, hall_words, hall_polar}
use Rattle.kinds.specs.Integers.{integers_ring, integers_conjugation, minus_one_mul}
use Rattle.kinds.specs.Words.{again, abs_wrapped, abs_sum, abs_neg_word}
use Rattle.kinds.specs.Through.{Wraps, ring_through, conjugation_through}
use Rattle.kinds.specs.Roots.{roots_mul, roots_conj, powers_turn}
use Rattle.kinds.specs.Encodings.{not_both, same_some, samples_by}

-- two samples with the same word are the same
pub hall_path : {a b : Hall} → a.word ≡ b.word → a ≡ b
hall_path {a} {b} p = λ i. record { word = p i; fits = is_prop→PathP (λ j. mag (p j) < 2 ^ 63) (λ j. le_prop) a.fits b.fits i }

-- the word of a sample is a signed 64-bit number
pub word_of : (x : Hall) → FitsSigned w64 x.word
word_of x = record { sfits = x.fits }

-- a sum, product or conjugate may be taken modulo 2 ^ 64 before or after
hall_wraps : Wraps integers hall (λ x. x.word)
hall_wraps = record {
  back = λ x. hall_path (int_wrap_fits w64 x.word (word_of x));
  add_wrap = λ a b. hall_path (int_wrap-add_left w64 a b);
  mul_wrap = λ a b. hall_path (int_wrap-mul_left w64 a b);
  conj_wrap = λ a. hall_path (again a);
}

pub hall_ring_laws : RingLaws hall_ring
hall_ring_laws = ring_through _ _ _ integers_ring integers_conjugation hall_wraps

pub hall_conjugation_laws : ConjugationLaws hall_ring
hall_conjugation_laws = conjugation_through _ _ _ integers_ring integers_conjugation hall_wraps

pub hall_word_laws : WordLaws hall_ring hall_words
unfolding int_wrap
hall_word_laws = record {
  first_fits = word_of;
  second_fits = λ x. record { sfits = lit≤ tt };
  first_add = λ x y. refl;
  second_add = λ x y. refl;
  first_sub = λ x y. refl;
  second_sub = λ x y. refl;
  first_zero = refl;
  second_zero = refl;
  first_one = refl;
  second_one = refl;
}

-- a number that the test calls zero is 0
zero_yes : (b : ℤ) → is_zero b ≡ true → pos 0 ≡ b
zero_yes (pos n) e = ap pos (grind arith)
zero_yes (negsuc n) e = grind arith

pub hall_sample_laws : SampleLaws hall_words
hall_sample_laws = samples_by hall_words (λ x. ap Some (hall_wraps.back x)) (λ a b x f g. only a b x f (is_zero b) refl)
  where
    only : (a b : ℤ) (x : Hall) → FitsSigned w64 a → (t : Bool) → is_zero b ≡ t → cond t (Some (hall a)) None ≡ Some x → (x.word ≡ a) × (pos 0 ≡ b)
    only a b x f true z e = (sym (ap (λ (h : Hall). h.word) (same_some (hall a) x e)) ∙ int_wrap_fits w64 a f, zero_yes b z)
    only a b x f false z e = absurd (not_both x (sym e))

-- the generator of the roots
abbrev minus_one : Hall
minus_one = hall (negsuc 0)

-- minus one times a sample has the sample's magnitude
turn : (x : Hall) → unsigned_abs (hall_ring.mul minus_one x).word ≡ unsigned_abs x.word
turn x = ap unsigned_abs (int_wrap-mul_left w64 (negsuc 0) x.word ∙ ap (int_wrap w64) (minus_one_mul x.word)) ∙ abs_neg_word x.word (word_of x)

-- root 1 is zero minus one
half : power hall_ring minus_one 1 ≡ hall_ring.sub hall_ring.zero hall_ring.one
unfolding int_wrap
half = hall_path refl

-- the conjugate of the generator times the generator is one
unit : hall_ring.mul (hall_ring.conj minus_one) minus_one ≡ hall_ring.one
unfolding int_wrap
unit = hall_path refl

pub hall_root_laws : RootLaws hall_ring hall_polar
hall_root_laws = record {
  even = refl;
  least = lit≤ tt;
  most = lit≤ tt;
  root_zero = refl;
  root_half = half;
  root_mul = roots_mul hall_ring_laws hall_conjugation_laws minus_one 1 half unit;
  root_conj = roots_conj hall_ring_laws hall_conjugation_laws minus_one 1 half unit;
}

pub hall_magnitude_laws : MagnitudeLaws hall_ring hall_words hall_polar
hall_magnitude_laws = record {
  magnitude_most = λ x. nat_abs-le x.word x.fits;
  first_least = λ x. le_refl _;
  second_least = λ x. omega arith;
  words_most = λ x. omega arith;
  triangle = λ x y. omega (arith, abs_wrapped (x.word +ℤ y.word), abs_sum x.word y.word);
  root_magnitude = λ a x h. powers_turn hall_ring_laws hall_conjugation_laws minus_one (λ y. unsigned_abs y.word) turn a x;
}
