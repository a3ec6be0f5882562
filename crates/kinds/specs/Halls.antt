-- The hall kind: whole numbers, the second word 0.
use Rattle.std.specs.Prelude.{cond, ℤ, pos, negsuc, Some, None, unsigned_abs}
use Rattle.std.specs.Int.{int_wrap, w64}
use Rattle.kinds.specs.declared.hall.Hall.{Hall}
use Rattle.kinds.specs.Samples.{RingOps, WordOps, PolarOps}
use Rattle.kinds.specs.Exact.{integers, through, power, word_fits, is_zero}

-- the sample of a whole number: its word is the number modulo 2 ^ 64, taken back into the signed range
abbrev pub hall : ℤ → Hall
hall z = record { word = int_wrap w64 z; fits = word_fits z }

-- the arithmetic of the whole numbers, modulo 2 ^ 64
abbrev pub hall_ring : RingOps Hall
hall_ring = through integers hall (λ x. x.word)

-- the first word is the sample's word and the second is 0; words with another second one give no sample
abbrev pub hall_words : WordOps Hall
hall_words = record {
  first = λ x. x.word;
  second = λ x. pos 0;
  sample = λ a b. cond (is_zero b) (Some (hall a)) None;
}

-- two roots, 1 and -1: the powers of -1; the magnitude is the absolute value
abbrev pub hall_polar : PolarOps Hall
hall_polar = record {
  count = 2;
  root = λ a. power hall_ring (hall (negsuc 0)) a;
  magnitude = λ x. unsigned_abs x.word;
}
