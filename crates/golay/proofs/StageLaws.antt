-- A stage over a pair is a pair: complementary again, and made of roots.
use Rattle.std.proofs.Common.{◌≡◌, ℕ, ◌+◌, ◌-◌, ◌*◌, ◌<◌, ◌≤◌, Some, None, Option, sym, ap, ◌∙◌, subst, ap₂, arith}
use Rattle.kinds.specs.Samples.{RingOps, PolarOps, RingLaws, ConjugationLaws, RootLaws}
use Rattle.kinds.specs.Rings.{mul_zero, conj_zero, conj_sub}
use Rattle.sums.specs.declared.Side.TheVariants.{A, B}
use Rattle.sums.specs.Sums.{sum_of, total, total_count, times, late}
use Rattle.sums.specs.Codes.{Codes, Pending, PairLaws, RootSum, correlations}
use Rattle.sums.proofs.Rings.{mul_middle, golay}
use Rattle.sums.proofs.Places.{joined_second, late_before, late_after, late_outside}
use Rattle.sums.proofs.Sums.{SumLaws, ring_sums, count_sums, sum_same, sum_add, sum_past, sum_late, sum_twice}
use Rattle.golay.specs.Stages.{blend, doubled, doubled_pending, weight_of, stage_codes, stage_pending}
use Rattle.golay.proofs.Blends.{blends}
use Rattle.golay.proofs.Roots.{root_unit, roots_turn, roots_blend, roots_late}
use Rattle.golay.proofs.Weights.{Works, works_from_weight}

-- a list, and another d places late, add up to what the two do
sum_both : {S : Type 0} {none : S} {add : S → S → S} (laws : SumLaws none add) (f g g' : ℕ → S) (n d : ℕ) → ((i : ℕ) → n ≤ i → f i ≡ none) → ((i : ℕ) → i < d → g' i ≡ none) → ((i : ℕ) → g' (i + d) ≡ g i) → sum_of none add (λ i. add (f i) (g' i)) (n + d) ≡ add (sum_of none add f n) (sum_of none add g n)
sum_both {none = none} {add = add} laws f g g' n d past before after =
    sum_add laws f g' (n + d) ∙ ap₂ add (sum_past laws f n d past) (sum_late laws g' d n before ∙ sum_same laws (λ i. g' (i + d)) g after n)

module _ {S : Type 0} {k : RingOps S} (ring : RingLaws k) (bar : ConjugationLaws k) where
  -- a weight of magnitude one falls out of a product with a conjugate
  weight_out : (w x y : S) → k.mul w (k.conj w) ≡ k.one → k.mul (k.mul w x) (k.conj (k.mul w y)) ≡ k.mul x (k.conj y)
  weight_out w x y unit =
      ap (k.mul (k.mul w x)) (bar.conj_mul w y) ∙ mul_middle ring w x (k.conj w) (k.conj y) ∙ ap (λ t. k.mul t (k.mul x (k.conj y))) unit ∙ ring.one_mul _

  -- the correlations of a stage are twice those of the pair below
  correlations_doubled : (w : S) → k.mul w (k.conj w) ≡ k.one → (d : ℕ) (c : Codes S) → ((j : ℕ) → c.span ≤ j → c.entry A j ≡ k.zero) → (s : ℕ)
      → correlations k (doubled k w d c) s ≡ k.add (correlations k c s) (correlations k c s)
  correlations_doubled w unit d c out s =
      let n = c.span in
      let f = c.entry A in
      let g = c.entry B in
      let sums = ring_sums ring in
      let u : ℕ → S = λ i. k.mul w (f i) in
      let v : ℕ → S = late k.zero d g in
      let α : ℕ → S = λ i. k.mul (f (i + s)) (k.conj (f i)) in
      let β : ℕ → S = λ i. k.mul (v (i + s)) (k.conj (v i)) in
      let γ : ℕ → S = λ i. k.mul (g (i + s)) (k.conj (g i)) in
      let each : (i : ℕ) → k.add (k.mul (k.add (u (i + s)) (v (i + s))) (k.conj (k.add (u i) (v i)))) (k.mul (k.sub (u (i + s)) (v (i + s))) (k.conj (k.sub (u i) (v i)))) ≡ k.add (k.add (α i) (β i)) (k.add (α i) (β i)) =
      λ i. ap₂ (λ x y. k.add (k.mul (k.add (u (i + s)) (v (i + s))) x) (k.mul (k.sub (u (i + s)) (v (i + s))) y)) (bar.conj_add _ _) (conj_sub ring bar _ _)
      ∙ golay ring (u (i + s)) (v (i + s)) (k.conj (u i)) (k.conj (v i))
      ∙ ap (λ t. k.add (k.add t (β i)) (k.add t (β i))) (weight_out w (f (i + s)) (f i) unit) in
      let flat : (x y : S) → y ≡ k.zero → k.mul x (k.conj y) ≡ k.zero = λ x y e. ap (λ t. k.mul x (k.conj t)) e ∙ ap (k.mul x) (conj_zero ring bar) ∙ mul_zero ring x in
      let half : total k (λ i. k.add (α i) (β i)) (n + d) ≡ k.add (total k α n) (total k γ n) =
      sum_both sums α γ β n d (λ i h. flat (f (i + s)) (f i) (out i h)) (λ i h. flat (v (i + s)) (v i) (late_before k.zero d g i h)) (λ i. ap₂ (λ x y. k.mul x (k.conj y)) (late_after k.zero d g (i + s) (i + d + s) (omega arith)) (late_after k.zero d g i (i + d) (omega arith))) in
      sym (sum_add sums (λ i. k.mul (k.add (u (i + s)) (v (i + s))) (k.conj (k.add (u i) (v i)))) (λ i. k.mul (k.sub (u (i + s)) (v (i + s))) (k.conj (k.sub (u i) (v i)))) (n + d))
      ∙ sum_same sums _ (λ i. k.add (k.add (α i) (β i)) (k.add (α i) (β i))) each (n + d)
      ∙ sum_add sums (λ i. k.add (α i) (β i)) (λ i. k.add (α i) (β i)) (n + d)
      ∙ ap₂ k.add half half

  times_twice : (n : ℕ) (x : S) → k.add (times k n x) (times k n x) ≡ times k (2 * n) x
  times_twice n x = sym (ap (λ t. times k t x) (omega arith) ∙ sum_twice (ring_sums ring) x n n)

  module _ {r : PolarOps S} (roots : RootLaws k r) (d code : ℕ) where
    doubled_laws : (kept : ℕ → S) (c : Codes S) (pending : Pending S) (w : S) → Works r d code c w → PairLaws k r c pending → PairLaws k r (doubled k w d c) (doubled_pending k w d kept pending)
    doubled_laws kept c pending w works laws =
        let n = c.span in
        let unit : k.mul w (k.conj w) ≡ k.one = subst (λ t. k.mul t (k.conj t) ≡ k.one) (sym works.weight_is) (root_unit ring roots code works.code_most) in
        let weighted : (j : ℕ) → RootSum k r (c.counts A j) (k.mul w (c.entry A j)) = λ j. subst (λ t. RootSum k r (c.counts A j) (k.mul t (c.entry A j))) (sym works.weight_is) (roots_turn ring roots code works.code_most (c.counts A j) (c.entry A j) (laws.rooted A j)) in
        let later = roots_late ring roots d (c.counts B) (c.entry B) (laws.rooted B) in
        let counts_all : total_count (λ j. c.counts A j + late 0 d (c.counts B) j) (n + d) ≡ c.energy =
        sum_both count_sums (c.counts A) (c.counts B) (late 0 d (c.counts B)) n d (laws.count_outside A) (late_before 0 d (c.counts B)) (λ i. late_after 0 d (c.counts B) i (i + d) (omega arith)) ∙ laws.counted in
        let twice = correlations_doubled w unit d c (laws.entry_outside A) in
        record {
          span_least = omega (arith, laws.span_least);
          span_most = omega (arith, works.span_most, works.delay_most);
          energy_least = omega (arith, laws.energy_least);
          energy_most = omega (arith, works.energy_most);
          entry_outside = λ side j h. ap₂ (blend k side) (ap (k.mul w) (laws.entry_outside A j (omega arith)) ∙ mul_zero ring w) (late_outside k.zero d n (c.entry B) (laws.entry_outside B) j h) ∙ (blends ring bar side).of_zeros;
          count_outside = λ side j h. ap₂ ◌+◌ (laws.count_outside A j (omega arith)) (late_outside 0 d n (c.counts B) (laws.count_outside B) j h);
          pending_outside = λ side j h. let one : 1 ≤ n = laws.span_least in ap₂ (blend k side) (ap (k.mul (k.conj w)) (joined_second d kept (pending A) (j - d) j (omega arith) ∙ laws.pending_outside A (j - d) (omega arith)) ∙ mul_zero ring _) (laws.pending_outside B j (omega arith)) ∙ (blends ring bar side).of_zeros;
          complementary = λ s h. twice s ∙ ap₂ k.add (laws.complementary s h) (laws.complementary s h) ∙ ring.zero_add _;
          whole = twice 0 ∙ ap₂ k.add laws.whole laws.whole ∙ times_twice c.energy k.one;
          rooted = λ side j. roots_blend ring roots side (c.counts A j) (late 0 d (c.counts B) j) _ _ (weighted j) (later j);
          counted = omega (arith, counts_all);
        }

    -- whether it works or rests, a stage over a pair has the laws of a pair
    pub stage_laws : (kept : ℕ → S) (c : Codes S) (pending : Pending S) → PairLaws k r c pending → (o : Option S) → o ≡ weight_of r d code c → PairLaws k r (stage_codes k o d c) (stage_pending k o d kept pending)
    stage_laws kept c pending laws None e = laws
    stage_laws kept c pending laws (Some w) e = doubled_laws kept c pending w (works_from_weight r d code c w e) laws
