-- What is pending and what comes out after a list of pushes.
use Rattle.std.proofs.Common.{◌≡◌, ℕ, suc, ◌+◌, ◌-◌, ◌<◌, ◌≤◌, ap, ◌∙◌, ap₂, arith}
use Rattle.kinds.specs.Samples.{RingOps, RingLaws, ConjugationLaws}
use Rattle.kinds.specs.Rings.{zero_mul, conj_zero}
use Rattle.sums.specs.declared.Side.{Side}
use Rattle.sums.specs.declared.Side.TheVariants.{A, B}
use Rattle.sums.specs.Sums.{total}
use Rattle.sums.specs.Codes.{Codes, reversed, matching}
use Rattle.sums.specs.Rooms.{correlation, sum_at, left_by}
use Rattle.sums.proofs.Rings.{middle}
use Rattle.sums.proofs.Places.{reversed_inside, reversed_outside}
use Rattle.sums.proofs.Sums.{ring_sums, sum_below, sum_same, sum_add, sum_late}

-- what sample i leaves at place j
abbrev term : {S : Type 0} → RingOps S → ℕ → (ℕ → S) → (ℕ → S) → ℕ → ℕ → S
term k n code xs j i = k.mul (k.conj (reversed k n code j)) (xs i)

module _ {S : Type 0} {k : RingOps S} (ring : RingLaws k) where
  -- only the samples that were pushed count
  pub left_same : (n : ℕ) (code xs ys : ℕ → S) (count j : ℕ) → ((i : ℕ) → i < count → xs i ≡ ys i) → left_by k n code xs count j ≡ left_by k n code ys count j
  left_same n code xs ys count j h = sum_below (ring_sums ring) (λ i. term k n code xs (j + (count - i)) i) (λ i. term k n code ys (j + (count - i)) i) count (λ i l. ap (k.mul _) (h i l))

  -- what one more push leaves
  pub left_more : (n : ℕ) (code xs pending : ℕ → S) (count : ℕ) → ((j : ℕ) → pending j ≡ left_by k n code xs count j) → (j : ℕ) → matching k n code pending (xs count) (j + 1) ≡ left_by k n code xs (suc count) j
  left_more n code xs pending count h j =
      ap₂ k.add (h (j + 1) ∙ sum_below (ring_sums ring) (λ i. term k n code xs (j + 1 + (count - i)) i) (λ i. term k n code xs (j + (suc count - i)) i) count (λ i l. ap (λ t. term k n code xs t i) (omega arith))) (ap (λ t. term k n code xs t count) (omega arith))

  -- only the samples of one span count
  pub correlation_same : (n : ℕ) (code xs ys : ℕ → S) (t : ℕ) → ((j : ℕ) → j < n → xs (j + t) ≡ ys (j + t)) → correlation k n code xs t ≡ correlation k n code ys t
  correlation_same n code xs ys t h = sum_below (ring_sums ring) (λ j. k.mul (k.conj (code j)) (xs (j + t))) (λ j. k.mul (k.conj (code j)) (ys (j + t))) n (λ j l. ap (k.mul (k.conj (code j))) (h j l))

  pub correlation_add : (n : ℕ) (code xs ys : ℕ → S) (t : ℕ) → correlation k n code (λ i. k.add (xs i) (ys i)) t ≡ k.add (correlation k n code xs t) (correlation k n code ys t)
  correlation_add n code xs ys t =
      sum_same (ring_sums ring) (λ j. k.mul (k.conj (code j)) (k.add (xs (j + t)) (ys (j + t)))) (λ j. k.add (k.mul (k.conj (code j)) (xs (j + t))) (k.mul (k.conj (code j)) (ys (j + t)))) (λ j. ring.mul_add _ _ _) n
      ∙ sum_add (ring_sums ring) (λ j. k.mul (k.conj (code j)) (xs (j + t))) (λ j. k.mul (k.conj (code j)) (ys (j + t))) n

  -- records that are sums of records have sums of sums
  pub sum_at_add : (c : Codes S) (x y : Side → ℕ → S) (t : ℕ) → sum_at k c (λ side i. k.add (x side i) (y side i)) t ≡ k.add (sum_at k c x t) (sum_at k c y t)
  sum_at_add c x y t = ap₂ k.add (correlation_add c.span (c.entry A) (x A) (y A) t) (correlation_add c.span (c.entry B) (x B) (y B) t) ∙ middle ring _ _ _ _

  pub sum_at_same : (c : Codes S) (x y : Side → ℕ → S) (t : ℕ) → ((side : Side) (j : ℕ) → j < c.span → x side (j + t) ≡ y side (j + t)) → sum_at k c x t ≡ sum_at k c y t
  sum_at_same c x y t h = ap₂ k.add (correlation_same c.span (c.entry A) (x A) (y A) t (h A)) (correlation_same c.span (c.entry B) (x B) (y B) t (h B))

  module _ (bar : ConjugationLaws k) where
    -- at push t + span - 1 the correlation from sample t on comes out
    pub correlation_out : (n : ℕ) (code xs pending : ℕ → S) (t count : ℕ) → count + 1 ≡ n + t → ((j : ℕ) → pending j ≡ left_by k n code xs count j) → matching k n code pending (xs count) 0 ≡ correlation k n code xs t
    correlation_out n code xs pending t count h was =
        let flat : (j i : ℕ) → n ≤ j → term k n code xs j i ≡ k.zero = λ j i le. ap (λ y. k.mul (k.conj y) (xs i)) (reversed_outside k n code j le) ∙ ap (λ y. k.mul y (xs i)) (conj_zero ring bar) ∙ zero_mul ring _ in
        let row : ℕ → S = λ i. term k n code xs (count - i) i in
        let now : 0 ≡ count - count = omega arith in
        let all : suc count ≡ n + t = omega arith in
        ap₂ k.add (was 0 ∙ sum_below (ring_sums ring) (λ i. term k n code xs (0 + (count - i)) i) row count (λ i lt. ap (λ y. term k n code xs y i) (omega arith))) (ap (λ y. term k n code xs y count) now)
        ∙ ap (total k row) all
        ∙ sum_late (ring_sums ring) row t n (λ i lt. flat (count - i) i (omega arith))
        ∙ sum_below (ring_sums ring) (λ j. row (j + t)) (λ j. k.mul (k.conj (code j)) (xs (j + t))) n (λ j lt. ap (λ y. k.mul (k.conj y) (xs (j + t))) (reversed_inside k n code j (count - (j + t)) (omega arith)))
