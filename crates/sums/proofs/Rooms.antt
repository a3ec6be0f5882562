-- What a pair makes of a room's answers: the taps, times the energy.
use Rattle.std.proofs.Common.{◌≡◌, ℕ, zero, suc, ◌+◌, ◌-◌, ◌<◌, ◌≤◌, sym, ap, ◌∙◌, ap₂, ⊎_elim, arith}
use Rattle.std.proofs.lemmas.Bool.{cases_lt}
use Rattle.kinds.specs.Samples.{RingOps, RingLaws, ConjugationLaws, PolarOps}
use Rattle.sums.specs.declared.Side.TheVariants.{A, B}
use Rattle.sums.specs.Codes.{Codes, Pending, PairLaws, autocorrelation, correlations}
use Rattle.sums.specs.Sums.{total, times, late}
use Rattle.sums.specs.Rooms.{room_answer, correlation, sum_at}
use Rattle.kinds.specs.Rings.{mul_left_comm, mul_one, mul_zero, zero_mul, conj_zero}
use Rattle.sums.proofs.Places.{late_before, late_after}
use Rattle.sums.proofs.Sums.{ring_sums, sum_same, sum_below, sum_add, sum_past, sum_late, sum_swap, sum_one, sum_back}

module _ {S : Type 0} {k : RingOps S} (ring : RingLaws k) (bar : ConjugationLaws k) where
  sum_scale : (x : S) (f : ℕ → S) (n : ℕ) → k.mul x (total k f n) ≡ total k (λ i. k.mul x (f i)) n
  sum_scale x f zero = mul_zero ring x
  sum_scale x f (suc n) = ring.mul_add _ _ _ ∙ ap (λ t. k.add t (k.mul x (f n))) (sum_scale x f n)

  sum_conj : (f : ℕ → S) (n : ℕ) → k.conj (total k f n) ≡ total k (λ i. k.conj (f i)) n
  sum_conj f zero = conj_zero ring bar
  sum_conj f (suc n) = bar.conj_add _ _ ∙ ap (λ t. k.add t (k.conj (f n))) (sum_conj f n)

  -- n times one, times x
  times_one : (x : S) (n : ℕ) → k.mul x (times k n k.one) ≡ times k n x
  times_one x n = sum_scale x (λ i. k.one) n ∙ sum_same (ring_sums ring) (λ i. k.mul x k.one) (λ i. x) (λ i. mul_one ring x) n

  module _ (n : ℕ) (f : ℕ → S) (out : (j : ℕ) → n ≤ j → f j ≡ k.zero) where
    -- the answer as a sum over the taps
    room_taps : (h : ℕ → S) (m t : ℕ) → t < m → room_answer k n f h t ≡ total k (λ i. k.mul (h i) (late k.zero i f t)) m
    room_taps h m t lt =
        let sums = ring_sums ring in
        let F : ℕ → S = λ j. k.mul (f j) (late k.zero j h t) in
        let G : ℕ → S = λ i. k.mul (h i) (late k.zero i f t) in
        let F-past : (i : ℕ) → n ≤ i → F i ≡ k.zero = λ i le. ap (λ y. k.mul y (late k.zero i h t)) (out i le) ∙ zero_mul ring _ in
        let F-late : (i : ℕ) → suc t ≤ i → F i ≡ k.zero = λ i le. ap (k.mul (f i)) (late_before k.zero i h t le) ∙ mul_zero ring _ in
        let G-late : (i : ℕ) → suc t ≤ i → G i ≡ k.zero = λ i le. ap (k.mul (h i)) (late_before k.zero i f t le) ∙ mul_zero ring _ in
        let order : n + suc t ≡ suc t + n = omega arith in
        let rest : suc t + (m - suc t) ≡ m = omega arith in
        sym (sum_past sums F n (suc t) F-past) ∙ ap (total k F) order ∙ sum_past sums F (suc t) n F-late
        ∙ sum_back sums F (suc t)
        ∙ sum_below sums (λ i. F (suc t - 1 - i)) G (suc t) (λ i le. ap₂ (λ x y. k.mul (f x) y) (omega arith) (late_after k.zero (suc t - 1 - i) h i t (omega arith)) ∙ ring.mul_comm _ _ ∙ ap (k.mul (h i)) (sym (late_after k.zero i f (t - i) t (omega arith))))
        ∙ sym (sum_past sums G (suc t) (m - suc t) G-late) ∙ ap (total k G) rest

    abbrev inner : ℕ → ℕ → S
    inner t m = total k (λ j. k.mul (k.conj (f j)) (late k.zero m f (j + t))) n

    inner_low : (t m s : ℕ) → t ≡ m + s → inner t m ≡ autocorrelation k n f s
    inner_low t m s e =
        sum_same (ring_sums ring) (λ j. k.mul (k.conj (f j)) (late k.zero m f (j + t))) (λ j. k.mul (f (j + s)) (k.conj (f j))) (λ j. ap (k.mul (k.conj (f j))) (late_after k.zero m f (j + s) (j + t) (omega arith)) ∙ ring.mul_comm _ _) n

    inner_high : (t m s : ℕ) → m ≡ t + s → inner t m ≡ k.conj (autocorrelation k n f s)
    inner_high t m s e =
        let sums = ring_sums ring in
        let F : ℕ → S = λ j. k.mul (k.conj (f j)) (late k.zero m f (j + t)) in
        sym (sum_past sums F n s (λ i le. ap (λ y. k.mul (k.conj y) (late k.zero m f (i + t))) (out i le) ∙ ap (λ y. k.mul y (late k.zero m f (i + t))) (conj_zero ring bar) ∙ zero_mul ring _))
        ∙ sum_late sums F s n (λ i lt. ap (k.mul (k.conj (f i))) (late_before k.zero m f (i + t) (omega arith)) ∙ mul_zero ring _)
        ∙ sum_same sums (λ i. F (i + s)) (λ i. k.conj (k.mul (f (i + s)) (k.conj (f i)))) (λ i. ap (k.mul (k.conj (f (i + s)))) (late_after k.zero m f i (i + s + t) (omega arith) ∙ sym (bar.conj_conj (f i))) ∙ sym (bar.conj_mul _ _)) n
        ∙ sym (sum_conj (λ i. k.mul (f (i + s)) (k.conj (f i))) n)

    correlation_taps : (h : ℕ → S) (t : ℕ) → correlation k n f (room_answer k n f h) t ≡ total k (λ m. k.mul (h m) (inner t m)) (n + t)
    correlation_taps h t =
        let sums = ring_sums ring in
        sum_below sums (λ j. k.mul (k.conj (f j)) (room_answer k n f h (j + t))) (λ j. total k (λ m. k.mul (h m) (k.mul (k.conj (f j)) (late k.zero m f (j + t)))) (n + t)) n
        (λ j lt. ap (k.mul (k.conj (f j))) (room_taps h (n + t) (j + t) (omega arith)) ∙ sum_scale _ _ (n + t) ∙ sum_same sums (λ m. k.mul (k.conj (f j)) (k.mul (h m) (late k.zero m f (j + t)))) (λ m. k.mul (h m) (k.mul (k.conj (f j)) (late k.zero m f (j + t)))) (λ m. mul_left_comm ring _ _ _) (n + t))
        ∙ sum_swap sums (λ j m. k.mul (h m) (k.mul (k.conj (f j)) (late k.zero m f (j + t)))) n (n + t)
        ∙ sum_same sums (λ m. total k (λ j. k.mul (h m) (k.mul (k.conj (f j)) (late k.zero m f (j + t)))) n) (λ m. k.mul (h m) (inner t m)) (λ m. sym (sum_scale (h m) (λ j. k.mul (k.conj (f j)) (late k.zero m f (j + t))) n)) (n + t)

  -- both records of a room without noise give tap t, times the energy
  pub recovered : {r : PolarOps S} (c : Codes S) (pending : Pending S) → PairLaws k r c pending → (h : ℕ → S) (t : ℕ) → sum_at k c (λ side. room_answer k c.span (c.entry side) h) t ≡ times k c.energy (h t)
  recovered c pending laws h t =
      let sums = ring_sums ring in
      let n = c.span in
      let out = laws.entry_outside in
      let α = inner n (c.entry A) (out A) t in
      let β = inner n (c.entry B) (out B) t in
      let low : (i : ℕ) (s : ℕ) → t ≡ i + s → k.add (α i) (β i) ≡ correlations k c s = λ i s e. ap₂ k.add (inner_low n (c.entry A) (out A) t i s e) (inner_low n (c.entry B) (out B) t i s e) in
      let flat : (i : ℕ) → (i ≡ t → ⊥) → k.mul (h i) (k.add (α i) (β i)) ≡ k.zero = λ i ne. ap (k.mul (h i)) (⊎_elim
      (λ lt. low i (t - i) (omega arith) ∙ laws.complementary (t - i) (omega arith))
      (λ le. ap₂ k.add (inner_high n (c.entry A) (out A) t i (i - t) (omega arith)) (inner_high n (c.entry B) (out B) t i (i - t) (omega arith)) ∙ sym (bar.conj_add _ _) ∙ ap k.conj (laws.complementary (i - t) (omega (arith, ne))) ∙ conj_zero ring bar)
      (cases_lt i t)) ∙ mul_zero ring _ in
      ap₂ k.add (correlation_taps n (c.entry A) (out A) h t) (correlation_taps n (c.entry B) (out B) h t)
      ∙ sym (sum_add sums (λ i. k.mul (h i) (α i)) (λ i. k.mul (h i) (β i)) (n + t))
      ∙ sum_same sums (λ i. k.add (k.mul (h i) (α i)) (k.mul (h i) (β i))) (λ i. k.mul (h i) (k.add (α i) (β i))) (λ i. sym (ring.mul_add _ _ _)) (n + t)
      ∙ sum_one sums (λ i. k.mul (h i) (k.add (α i) (β i))) (n + t) t (omega (arith, laws.span_least)) flat
      ∙ ap (k.mul (h t)) (low t 0 (omega arith) ∙ laws.whole)
      ∙ times_one (h t) c.energy
