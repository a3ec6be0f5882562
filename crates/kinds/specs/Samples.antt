-- What a kind of samples means, in three parts, and the laws that every kind shows.
use Rattle.std.specs.Prelude.{◌≡◌, ℕ, ◌+◌, ◌-◌, ◌/◌, ◌%◌, ◌^◌, ◌<◌, ◌≤◌, ℤ, pos, ◌+ℤ◌, ◌-ℤ◌, Some, None, Option, FitsSigned, ◌≢◌, unsigned_abs}
use Rattle.std.specs.Int.{int_wrap, w64}

-- the arithmetic of samples: zero, one, sum, difference, product and conjugate
pub record RingOps (S : Type 0) : Type 0 where
  pub zero : S
  pub one : S
  pub add : S → S → S
  pub sub : S → S → S
  pub mul : S → S → S
  pub conj : S → S

-- the two words of a sample, and the sample of two words, if there is one
pub record WordOps (S : Type 0) : Type 0 where
  pub first : S → ℤ
  pub second : S → ℤ
  pub sample : ℤ → ℤ → Option S

-- the number of roots of one, the root of a code, and the magnitude of a sample
pub record PolarOps (S : Type 0) : Type 0 where
  pub count : ℕ
  pub root : ℕ → S
  pub magnitude : S → ℕ

-- the samples are a commutative ring
pub record RingLaws {S : Type 0} (r : RingOps S) : Type 0 where
  -- the sum is associative and commutative, and zero is neutral
  pub add_assoc : (x y z : S) → r.add (r.add x y) z ≡ r.add x (r.add y z)
  pub add_comm : (x y : S) → r.add x y ≡ r.add y x
  pub zero_add : (x : S) → r.add r.zero x ≡ x
  -- a difference plus what was subtracted gives back the first sample
  pub sub_add : (x y : S) → r.add (r.sub x y) y ≡ x
  -- the product is associative and commutative, and one is neutral
  pub mul_assoc : (x y z : S) → r.mul (r.mul x y) z ≡ r.mul x (r.mul y z)
  pub mul_comm : (x y : S) → r.mul x y ≡ r.mul y x
  pub one_mul : (x : S) → r.mul r.one x ≡ x
  -- the product distributes over the sum
  pub mul_add : (x y z : S) → r.mul x (r.add y z) ≡ r.add (r.mul x y) (r.mul x z)

-- the conjugate of a sum is the sum of the conjugates, and so for a product; twice conjugated is the sample itself
pub record ConjugationLaws {S : Type 0} (r : RingOps S) : Type 0 where
  pub conj_add : (x y : S) → r.conj (r.add x y) ≡ r.add (r.conj x) (r.conj y)
  pub conj_mul : (x y : S) → r.conj (r.mul x y) ≡ r.mul (r.conj x) (r.conj y)
  pub conj_conj : (x : S) → r.conj (r.conj x) ≡ x

-- samples are added and subtracted word by word
pub record WordLaws {S : Type 0} (r : RingOps S) (w : WordOps S) : Type 0 where
  -- both words of a sample are signed 64-bit numbers
  pub first_fits : (x : S) → FitsSigned w64 (w.first x)
  pub second_fits : (x : S) → FitsSigned w64 (w.second x)
  -- the words of a sum are the sums of the words, modulo 2 ^ 64
  pub first_add : (x y : S) → w.first (r.add x y) ≡ int_wrap w64 (w.first x +ℤ w.first y)
  pub second_add : (x y : S) → w.second (r.add x y) ≡ int_wrap w64 (w.second x +ℤ w.second y)
  -- the words of a difference are the differences of the words, modulo 2 ^ 64
  pub first_sub : (x y : S) → w.first (r.sub x y) ≡ int_wrap w64 (w.first x -ℤ w.first y)
  pub second_sub : (x y : S) → w.second (r.sub x y) ≡ int_wrap w64 (w.second x -ℤ w.second y)
  -- zero has the words 0 and 0, one has 1 and 0
  pub first_zero : w.first r.zero ≡ pos 0
  pub second_zero : w.second r.zero ≡ pos 0
  pub first_one : w.first r.one ≡ pos 1
  pub second_one : w.second r.one ≡ pos 0

-- a sample and its two words determine each other
pub record SampleLaws {S : Type 0} (w : WordOps S) : Type 0 where
  -- the words of a sample give that sample back
  pub back : (x : S) → w.sample (w.first x) (w.second x) ≡ Some x
  -- a sample that two words give has these words
  pub only : (a b : ℤ) (x : S) → FitsSigned w64 a → FitsSigned w64 b → w.sample a b ≡ Some x → (w.first x ≡ a) × (w.second x ≡ b)
  -- two words give no sample exactly if they are no sample's words: if they are none's, and only if
  pub none : (a b : ℤ) → FitsSigned w64 a → FitsSigned w64 b → ((x : S) → w.first x ≡ a → w.second x ≢ b) → w.sample a b ≡ None
  pub no_words : (a b : ℤ) → w.sample a b ≡ None → (x : S) → w.first x ≡ a → w.second x ≢ b

-- the roots of one: R of them, with the codes from 0 to R - 1
pub record RootLaws {S : Type 0} (r : RingOps S) (t : PolarOps S) : Type 0 where
  -- R is even, from 2 to 64
  pub even : t.count % 2 ≡ 0
  pub least : 2 ≤ t.count
  pub most : t.count ≤ 64
  -- root 0 is one, and root R/2 is zero minus one
  pub root_zero : t.root 0 ≡ r.one
  pub root_half : t.root (t.count / 2) ≡ r.sub r.zero r.one
  -- to multiply two roots, add their codes modulo R
  pub root_mul : (a b : ℕ) → a < t.count → b < t.count → r.mul (t.root a) (t.root b) ≡ t.root ((a + b) % t.count)
  -- to conjugate a root, negate its code modulo R
  pub root_conj : (a : ℕ) → a < t.count → r.conj (t.root a) ≡ t.root ((t.count - a) % t.count)

-- the magnitude of a sample
pub record MagnitudeLaws {S : Type 0} (r : RingOps S) (w : WordOps S) (t : PolarOps S) : Type 0 where
  pub magnitude_most : (x : S) → t.magnitude x ≤ 2 ^ 63
  -- it is at least the absolute value of each word, and at most the two absolute values added
  pub first_least : (x : S) → unsigned_abs (w.first x) ≤ t.magnitude x
  pub second_least : (x : S) → unsigned_abs (w.second x) ≤ t.magnitude x
  pub words_most : (x : S) → t.magnitude x ≤ unsigned_abs (w.first x) + unsigned_abs (w.second x)
  -- the magnitude of a sum is at most the sum of the magnitudes
  pub triangle : (x y : S) → t.magnitude (r.add x y) ≤ t.magnitude x + t.magnitude y
  -- a root times a sample has the sample's magnitude
  pub root_magnitude : (a : ℕ) (x : S) → a < t.count → t.magnitude (r.mul (t.root a) x) ≡ t.magnitude x
