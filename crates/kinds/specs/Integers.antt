-- The whole numbers as a commutative ring: its laws, and `ring`, by which `simp` proves an equation of two polynomials.
use Rattle.std.specs.Prelude.{◌≡◌, ◌+◌, ◌*◌, ℤ, pos, negsuc, ◌+ℤ◌, ◌-ℤ◌, ◌*ℤ◌, neg_ℤ, refl}
use Rattle.std.proofs.Common.{sym, ap, ◌∙◌, arith}
use Rattle.std.proofs.Math.IntN.{+ℤ_assoc, +ℤ_comm, +ℤ_idl, +ℤ_idr, *ℤ_comm, *ℤ-zero, zero-*ℤ, neg_ℤ-+ℤ, neg_ℤ-neg_ℤ, -ℤ-+ℤ_cancel}
use borrow.Author.Differences.{up, down, sum_is_lem, neg_is, product_is, same_in}
use Rattle.std.proofs.lemmas.Int.{ints}
use Rattle.kinds.specs.Samples.{RingLaws, ConjugationLaws}
use Rattle.kinds.specs.Exact.{integers, gaussian}

-- a whole number a is `up a` minus `down a`, two natural numbers: those of a product and of a negation
up_mul : (a b : ℤ) → up (a *ℤ b) ≡ up a * up b + down a * down b
up_mul a b = (product_is a b).0

down_mul : (a b : ℤ) → down (a *ℤ b) ≡ up a * down b + down a * up b
down_mul a b = (product_is a b).1

up_neg : (a : ℤ) → up (neg_ℤ a) ≡ down a
up_neg a = (neg_is a).0

down_neg : (a : ℤ) → down (neg_ℤ a) ≡ up a
down_neg a = (neg_is a).1

ruleset parts = (up_mul, down_mul, up_neg, down_neg)

pub mul_assoc : (a b c : ℤ) → (a *ℤ b) *ℤ c ≡ a *ℤ (b *ℤ c)
mul_assoc a b c = same_in _ _ (simp parts (omega arith))

pub mul_add : (a b c : ℤ) → a *ℤ (b +ℤ c) ≡ a *ℤ b +ℤ a *ℤ c
mul_add a b c = let s = sum_is_lem b c in omega (arith, ints, ap (λ n. up a * n) s, ap (λ n. down a * n) s)

pub mul_neg : (a b : ℤ) → a *ℤ neg_ℤ b ≡ neg_ℤ (a *ℤ b)
mul_neg a b = same_in _ _ (simp parts (omega arith))

pub add_mul : (a b c : ℤ) → (a +ℤ b) *ℤ c ≡ a *ℤ c +ℤ b *ℤ c
add_mul a b c = *ℤ_comm (a +ℤ b) c ∙ mul_add c a b ∙ (λ i. *ℤ_comm c a i +ℤ *ℤ_comm c b i)

pub neg_mul : (a b : ℤ) → neg_ℤ a *ℤ b ≡ neg_ℤ (a *ℤ b)
neg_mul a b = *ℤ_comm (neg_ℤ a) b ∙ mul_neg b a ∙ ap neg_ℤ (*ℤ_comm b a)

pub one_mul : (a : ℤ) → pos 1 *ℤ a ≡ a
one_mul a = omega (arith, ints)

pub minus_one_mul : (a : ℤ) → negsuc 0 *ℤ a ≡ neg_ℤ a
minus_one_mul a = omega (arith, ints)

pub add_left_comm : (a b c : ℤ) → a +ℤ (b +ℤ c) ≡ b +ℤ (a +ℤ c)
add_left_comm a b c = omega (arith, ints)

pub mul_left_comm : (a b c : ℤ) → a *ℤ (b *ℤ c) ≡ b *ℤ (a *ℤ c)
mul_left_comm a b c = sym (mul_assoc a b c) ∙ ap (λ z. z *ℤ c) (*ℤ_comm a b) ∙ mul_assoc b a c

-- products of sums are multiplied out, and products and sums sorted
pub ruleset ring = (one_mul, zero-*ℤ, *ℤ-zero, +ℤ_idl, +ℤ_idr, mul_assoc, mul_add, add_mul, mul_neg, neg_mul, neg_ℤ-+ℤ, neg_ℤ-neg_ℤ, +ℤ_assoc, *ℤ_comm, mul_left_comm, +ℤ_comm, add_left_comm)

pub integers_ring : RingLaws integers
integers_ring = record {
  add_assoc = +ℤ_assoc;
  add_comm = +ℤ_comm;
  zero_add = +ℤ_idl;
  sub_add = -ℤ-+ℤ_cancel;
  mul_assoc = mul_assoc;
  mul_comm = *ℤ_comm;
  one_mul = one_mul;
  mul_add = mul_add;
}

pub integers_conjugation : ConjugationLaws integers
integers_conjugation = record { conj_add = λ a b. refl; conj_mul = λ a b. refl; conj_conj = λ a. refl }

-- two pairs with equal parts are equal
both : {a b c d : ℤ} → a ≡ c → b ≡ d → ◌≡◌ {A = ℤ × ℤ} (a, b) (c, d)
both p q = λ i. (p i, q i)

pub gaussian_ring : RingLaws gaussian
gaussian_ring = record {
  add_assoc = λ a b c. both (simp ring) (simp ring);
  add_comm = λ a b. both (simp ring) (simp ring);
  zero_add = λ a. both (simp ring) (simp ring);
  sub_add = λ a b. both (-ℤ-+ℤ_cancel a.0 b.0) (-ℤ-+ℤ_cancel a.1 b.1);
  mul_assoc = λ a b c. both (simp ring) (simp ring);
  mul_comm = λ a b. both (simp ring) (simp ring);
  one_mul = λ a. both (omega (arith, ints)) (omega (arith, ints));
  mul_add = λ a b c. both (simp ring) (simp ring);
}

-- the two parts of the conjugate of a product
conj_re : (x y u v : ℤ) → x *ℤ u -ℤ y *ℤ v ≡ x *ℤ u -ℤ neg_ℤ y *ℤ neg_ℤ v
conj_re x y u v = simp ring

conj_im : (x y u v : ℤ) → neg_ℤ (x *ℤ v +ℤ y *ℤ u) ≡ x *ℤ neg_ℤ v +ℤ neg_ℤ y *ℤ u
conj_im x y u v = simp ring

pub gaussian_conjugation : ConjugationLaws gaussian
gaussian_conjugation = record {
  conj_add = λ a b. both refl (neg_ℤ-+ℤ a.1 b.1);
  conj_mul = λ a b. both (conj_re a.0 a.1 b.0 b.1) (conj_im a.0 a.1 b.0 b.1);
  conj_conj = λ a. both refl (neg_ℤ-neg_ℤ a.1);
}
