-- The ten-entry kernel is a pair, and what a push through it does.
use Rattle.std.proofs.Common.{◌≡◌, ℕ, zero, suc, ◌+◌, ◌-◌, ◌<◌, ◌≤◌, Bool, true, cond, ◌&&◌, eqb, ltb, refl, ap, ◌∙◌, subst, ap₂, ⊎_elim, arith}
use Rattle.std.proofs.lemmas.Bool.{cases_lt, and_parts, eqb-true, lt-ltb, cond-true}
use Rattle.kinds.specs.Samples.{RingOps, PolarOps, RingLaws, ConjugationLaws, RootLaws}
use Rattle.kinds.specs.Rings.{zero_mul, conj_zero}
use Rattle.sums.specs.declared.Side.{Side}
use Rattle.sums.specs.declared.Side.TheVariants.{A, B}
use Rattle.sums.specs.Sums.{sum_of}
use Rattle.sums.specs.Codes.{PairLaws, Pending, reversed, matching, autocorrelation, correlations}
use Rattle.sums.proofs.Rings.{sub_zero}
use Rattle.sums.proofs.Sums.{ring_sums, sum_none}
use Rattle.sums.proofs.Places.{below_outside, reversed_inside, reversed_outside}
use Rattle.golay.specs.Kernels.{is_minus, signed, ten_entry, ten_codes}
use Rattle.golay.proofs.Roots.{sign_root}
use Rattle.golay.proofs.Signs.{Sign, plus, minus, none, pluses, minuses, apart, value_of_cond, sub_same, signed_mul, balance, balance_add, signs_correlate}

abbrev ten_sign : Side → ℕ → Sign
ten_sign side j = cond (ltb j 10) (cond (is_minus side j) minus plus) none

abbrev count : (Sign → ℕ) → ℕ → ℕ
count f s = sum_of 0 ◌+◌ (λ i. f (apart (ten_sign A) s i)) 10 + sum_of 0 ◌+◌ (λ i. f (apart (ten_sign B) s i)) 10

-- as many pluses as minuses at the shifts 1 to n, by computing
abbrev balanced : ℕ → Bool
balanced zero = true
balanced (suc n) = eqb (count pluses (suc n)) (count minuses (suc n)) && balanced n

balanced_at : (n : ℕ) → balanced n ≡ true → (s : ℕ) → 1 ≤ s → s ≤ n → count pluses s ≡ count minuses s
balanced_at zero e s h l = absurd (omega arith)
balanced_at (suc n) e s h l =
    let both = and_parts (eqb (count pluses (suc n)) (count minuses (suc n))) (balanced n) e in
    ⊎_elim
    (λ lt. balanced_at n both.1 s h (omega arith))
    (λ le. let same : suc n ≡ s = omega arith in subst (λ t. count pluses t ≡ count minuses t) same (eqb-true (count pluses (suc n)) (count minuses (suc n)) both.0))
    (cases_lt s (suc n))

module _ {S : Type 0} {k : RingOps S} (ring : RingLaws k) (bar : ConjugationLaws k) where
  ten_outside : (side : Side) (j : ℕ) → 10 ≤ j → ten_entry k side j ≡ k.zero
  ten_outside side = below_outside 10 _ _

  ten_correlations : (s : ℕ) → correlations k (ten_codes k) s ≡ balance ring bar (count pluses s) (count minuses s)
  ten_correlations s =
      let each : (side : Side) → autocorrelation k 10 (ten_entry k side) s ≡ balance ring bar (sum_of 0 ◌+◌ (λ i. pluses (apart (ten_sign side) s i)) 10) (sum_of 0 ◌+◌ (λ i. minuses (apart (ten_sign side) s i)) 10) =
      λ side. signs_correlate ring bar (ten_sign side) (ten_entry k side) (λ j. value_of_cond ring bar (ltb j 10) (is_minus side j)) 10 s in
      ap₂ k.add (each A) (each B) ∙ balance_add ring bar _ _ _ _

  far : (side : Side) (s : ℕ) → 10 ≤ s → autocorrelation k 10 (ten_entry k side) s ≡ k.zero
  far side s h =
      sum_none (ring_sums ring) (λ i. k.mul (ten_entry k side (i + s)) (k.conj (ten_entry k side i))) 10 (λ i lt. ap (λ t. k.mul t (k.conj (ten_entry k side i))) (ten_outside side (i + s) (omega arith)) ∙ zero_mul ring _)

  ten_complementary : (s : ℕ) → 1 ≤ s → correlations k (ten_codes k) s ≡ k.zero
  ten_complementary s h =
      ⊎_elim
      (λ lt. ten_correlations s ∙ ap (λ t. balance ring bar t (count minuses s)) (balanced_at 9 refl s h (omega arith)) ∙ sub_same ring bar _)
      (λ le. ap₂ k.add (far A s le) (far B s le) ∙ ring.zero_add _)
      (cases_lt s 10)

  pub ten_laws : {r : PolarOps S} → RootLaws k r → (pending : Pending S) → ((side : Side) (j : ℕ) → 9 ≤ j → pending side j ≡ k.zero) → PairLaws k r (ten_codes k) pending
  ten_laws roots pending out = record {
    span_least = omega arith;
    span_most = omega arith;
    energy_least = omega arith;
    energy_most = omega arith;
    entry_outside = ten_outside;
    count_outside = λ side. below_outside 10 _ _;
    pending_outside = λ side j h. out side j (omega arith);
    complementary = ten_complementary;
    whole = ten_correlations 0 ∙ sub_zero ring _;
    rooted = λ side j. sign_root ring roots (ltb j 10) (is_minus side j);
    counted = refl;
  }

  -- what arrives at a place of the ten-entry kernel
  pub ten_arrives : (side : Side) (pending : ℕ → S) (x : S) (j : ℕ) → j < 10 → matching k 10 (ten_entry k side) pending x j ≡ k.add (pending j) (signed k (is_minus side (9 - j)) x)
  ten_arrives side pending x j h =
      let at : reversed k 10 (ten_entry k side) j ≡ signed k (is_minus side (9 - j)) k.one = reversed_inside k 10 (ten_entry k side) (9 - j) j (omega arith) ∙ cond-true _ _ _ (lt-ltb (9 - j) 10 (omega arith)) in
      ap (λ t. k.add (pending j) (k.mul (k.conj t) x)) at ∙ ap (k.add (pending j)) (signed_mul ring bar (is_minus side (9 - j)) x)

  pub ten_past : (side : Side) (pending : ℕ → S) (x : S) (j : ℕ) → 10 ≤ j → pending j ≡ k.zero → matching k 10 (ten_entry k side) pending x j ≡ k.zero
  ten_past side pending x j h e =
      ap₂ (λ u v. k.add u (k.mul (k.conj v) x)) e (reversed_outside k 10 (ten_entry k side) j h) ∙ ring.zero_add _ ∙ ap (λ t. k.mul t x) (conj_zero ring bar) ∙ zero_mul ring x
