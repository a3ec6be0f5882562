-- The radio kind: Gaussian integers x + iy with the words x and y.
use Rattle.std.specs.Prelude.{max, ℤ, pos, Some, unsigned_abs}
use Rattle.std.specs.Int.{int_wrap, w64}
use Rattle.kinds.specs.declared.radio.Radio.{Radio}
use Rattle.kinds.specs.Samples.{RingOps, WordOps, PolarOps}
use Rattle.kinds.specs.Exact.{gaussian, through, power, word_fits}

-- the sample of a Gaussian integer: both words modulo 2 ^ 64, taken back into the signed range
abbrev pub radio : ℤ × ℤ → Radio
radio z = record { x = int_wrap w64 z.0; y = int_wrap w64 z.1; fits = (word_fits z.0, word_fits z.1) }

-- the arithmetic of the Gaussian integers, modulo 2 ^ 64
abbrev pub radio_ring : RingOps Radio
radio_ring = through gaussian radio (λ r. (r.x, r.y))

-- the words x and y; any two words give a sample
abbrev pub radio_words : WordOps Radio
radio_words = record {
  first = λ r. r.x;
  second = λ r. r.y;
  sample = λ a b. Some (radio (a, b));
}

-- four roots, 1, i, -1 and -i: the powers of i; the magnitude is the larger of |x| and |y|
abbrev pub radio_polar : PolarOps Radio
radio_polar = record {
  count = 4;
  root = λ a. power radio_ring (radio (pos 0, pos 1)) a;
  magnitude = λ r. max (unsigned_abs r.x) (unsigned_abs r.y);
}
