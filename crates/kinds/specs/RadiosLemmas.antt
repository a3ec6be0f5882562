-- The laws of the radio kind.
use Rattle.std.specs.Prelude.{◌≡◌, ◌^◌, ◌<◌, max, ℤ, pos, ◌+ℤ◌, ◌-ℤ◌, ◌*ℤ◌, neg_ℤ, Some, FitsSigned, unsigned_abs, refl}
use Rattle.std.proofs.Common.{sym, ap, ◌∙◌, arith, lit≤}
use mathlib.Core.HLevel.{is_prop→PathP}
use Rattle.std.proofs.Math.Bridge.{le_prop}
use Rattle.std.specs.Int.Signed.{mag, nat_abs-le}
use Rattle.std.specs.Int.{int_wrap, w64}
use Rattle.std.proofs.lemmas.Int.{ints, int_wrap_fits, int_wrap-add_left, int_wrap-mul_left}
use Rattle.kinds.specs.declared.radio.Radio.{Radio}
use Rattle.kinds.specs.Samples.{RingLaws, ConjugationLaws, WordLaws, SampleLaws, RootLaws, MagnitudeLaws}
use Rattle.kinds.specs.Exact.{gaussian, power}
use Rattle.kinds.specs.Radios.{radio, radio_ring, radio_words, radio_polar}
use Rattle.kinds.specs.Integers.{gaussian_ring, gaussian_conjugation}
use Rattle.kinds.specs.Words.{again, add_same, neg_same, neg_wrapped, abs_wrapped, abs_sum, abs_neg_word}
use Rattle.kinds.specs.Through.{Wraps, ring_through, conjugation_through}
use Rattle.kinds.specs.Roots.{roots_mul, roots_conj, powers_turn}
use Rattle.kinds.specs.Encodings.{same_some, samples_by}

-- two samples with the same words are the same
pub radio_path : {a b : Radio} → a.x ≡ b.x → a.y ≡ b.y → a ≡ b
radio_path {a} {b} p q = λ i. record {
  x = p i;
  y = q i;
  fits = (is_prop→PathP (λ j. mag (p j) < 2 ^ 63) (λ j. le_prop) a.fits.0 b.fits.0 i, is_prop→PathP (λ j. mag (q j) < 2 ^ 63) (λ j. le_prop) a.fits.1 b.fits.1 i);
}

-- the words of a sample are signed 64-bit numbers
pub x_of : (r : Radio) → FitsSigned w64 r.x
x_of r = record { sfits = r.fits.0 }

pub y_of : (r : Radio) → FitsSigned w64 r.y
y_of r = record { sfits = r.fits.1 }

-- a sum, product or conjugate may be taken modulo 2 ^ 64 before or after
radio_wraps : Wraps gaussian radio (λ r. (r.x, r.y))
radio_wraps = record {
  back = λ r. radio_path (int_wrap_fits w64 r.x (x_of r)) (int_wrap_fits w64 r.y (y_of r));
  add_wrap = λ a b. radio_path (int_wrap-add_left w64 a.0 b.0) (int_wrap-add_left w64 a.1 b.1);
  mul_wrap = λ a b. radio_path
      (add_same _ _ _ _ (int_wrap-mul_left w64 a.0 b.0) (neg_same _ _ (int_wrap-mul_left w64 a.1 b.1)))
      (add_same _ _ _ _ (int_wrap-mul_left w64 a.0 b.1) (int_wrap-mul_left w64 a.1 b.0));
  conj_wrap = λ a. radio_path (again a.0) (neg_wrapped a.1);
}

pub radio_ring_laws : RingLaws radio_ring
radio_ring_laws = ring_through _ _ _ gaussian_ring gaussian_conjugation radio_wraps

pub radio_conjugation_laws : ConjugationLaws radio_ring
radio_conjugation_laws = conjugation_through _ _ _ gaussian_ring gaussian_conjugation radio_wraps

pub radio_word_laws : WordLaws radio_ring radio_words
unfolding int_wrap
radio_word_laws = record {
  first_fits = x_of;
  second_fits = y_of;
  first_add = λ x y. refl;
  second_add = λ x y. refl;
  first_sub = λ x y. refl;
  second_sub = λ x y. refl;
  first_zero = refl;
  second_zero = refl;
  first_one = refl;
  second_one = refl;
}

pub radio_sample_laws : SampleLaws radio_words
radio_sample_laws = samples_by radio_words (λ r. ap Some (radio_wraps.back r)) (λ a b r f g e.
    let same = same_some (radio (a, b)) r e in
    (sym (ap (λ (s : Radio). s.x) same) ∙ int_wrap_fits w64 a f, sym (ap (λ (s : Radio). s.y) same) ∙ int_wrap_fits w64 b g))

-- i, the generator of the roots
abbrev imaginary : Radio
imaginary = radio (pos 0, pos 1)

-- root 2 is zero minus one
half : power radio_ring imaginary 2 ≡ radio_ring.sub radio_ring.zero radio_ring.one
unfolding int_wrap
half = radio_path refl refl

-- the conjugate of the generator times the generator is one
unit : radio_ring.mul (radio_ring.conj imaginary) imaginary ≡ radio_ring.one
unfolding int_wrap
unit = radio_path refl refl

pub radio_root_laws : RootLaws radio_ring radio_polar
radio_root_laws = record {
  even = refl;
  least = lit≤ tt;
  most = lit≤ tt;
  root_zero = refl;
  root_half = half;
  root_mul = roots_mul radio_ring_laws radio_conjugation_laws imaginary 2 half unit;
  root_conj = roots_conj radio_ring_laws radio_conjugation_laws imaginary 2 half unit;
}

-- i(x + iy) = -y + ix
plain_x : (x y : ℤ) → pos 0 *ℤ x -ℤ pos 1 *ℤ y ≡ neg_ℤ y
plain_x x y = omega (arith, ints)

plain_y : (x y : ℤ) → pos 0 *ℤ y +ℤ pos 1 *ℤ x ≡ x
plain_y x y = omega (arith, ints)

-- i times a sample has the sample's magnitude
turn : (r : Radio) → radio_polar.magnitude (radio_ring.mul imaginary r) ≡ radio_polar.magnitude r
turn r =
    let e = radio_wraps.mul_wrap (pos 0, pos 1) (r.x, r.y) in
    let across : (radio_ring.mul imaginary r).x ≡ int_wrap w64 (neg_ℤ r.y) = ap (λ (s : Radio). s.x) e ∙ ap (int_wrap w64) (plain_x r.x r.y) in
    let along : (radio_ring.mul imaginary r).y ≡ r.x = ap (λ (s : Radio). s.y) e ∙ ap (int_wrap w64) (plain_y r.x r.y) ∙ int_wrap_fits w64 r.x (x_of r) in
    (λ i. max (unsigned_abs (across i)) (unsigned_abs (along i))) ∙ omega (arith, abs_neg_word r.y (y_of r))

pub radio_magnitude_laws : MagnitudeLaws radio_ring radio_words radio_polar
radio_magnitude_laws = record {
  magnitude_most = λ r. omega (arith, nat_abs-le r.x r.fits.0, nat_abs-le r.y r.fits.1);
  first_least = λ r. omega arith;
  second_least = λ r. omega arith;
  words_most = λ r. omega arith;
  triangle = λ r s. omega (arith, abs_wrapped (r.x +ℤ s.x), abs_sum r.x s.x, abs_wrapped (r.y +ℤ s.y), abs_sum r.y s.y);
  root_magnitude = λ a r h. powers_turn radio_ring_laws radio_conjugation_laws imaginary radio_polar.magnitude turn a r;
}
