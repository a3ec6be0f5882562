-- A push through a stage: what comes out, and what is pending then.
use Rattle.std.proofs.Common.{◌≡◌, ℕ, ◌+◌, ◌-◌, ◌<◌, ◌≤◌, true, false, cond, ltb, Some, None, Option, sym, refl, ap, ◌∙◌, subst, ap₂, ⊎_elim, arith}
use mathlib.Core.Path.{fun_ext}
use Rattle.std.proofs.lemmas.Bool.{cases_lt, cond_both}
use Rattle.kinds.specs.Samples.{RingOps, PolarOps, RingLaws, ConjugationLaws}
use Rattle.kinds.specs.Rings.{add_zero, mul_zero, zero_mul, conj_zero}
use Rattle.sums.specs.declared.Side.{Side}
use Rattle.sums.specs.declared.Side.TheVariants.{A, B}
use Rattle.sums.specs.Sums.{joined, late}
use Rattle.sums.specs.Codes.{Codes, Pending, silent, reversed, matching, arriving, answer, pushed}
use Rattle.sums.proofs.Places.{joined_first, joined_second, reversed_inside, reversed_outside, late_before, late_after, late_outside}
use Rattle.golay.specs.Stages.{blend, doubled, doubled_pending, weight_of, stage_codes, stage_pending}
use Rattle.golay.proofs.Blends.{blends}
use Rattle.golay.proofs.Weights.{works_from_weight}

module _ {S : Type 0} (k : RingOps S) (d n : ℕ) (f : ℕ → S) where
  -- a code that begins at once ends d places before the end
  reversed_first : ((j : ℕ) → n ≤ j → f j ≡ k.zero) → (i j : ℕ) → i + j + 1 ≡ n + d → f i ≡ late k.zero d (reversed k n f) j
  reversed_first out i j h =
      ⊎_elim
      (λ lt. out i (omega arith) ∙ sym (late_before k.zero d (reversed k n f) j lt))
      (λ le. sym (late_after k.zero d (reversed k n f) (j - d) j (omega arith) ∙ reversed_inside k n f i (j - d) (omega arith)))
      (cases_lt j d)

  -- a code that begins d places later ends at the end
  reversed_second : (i j : ℕ) → i + j + 1 ≡ n + d → late k.zero d f i ≡ reversed k n f j
  reversed_second i j h =
      ⊎_elim
      (λ lt. late_before k.zero d f i lt ∙ sym (reversed_outside k n f j (omega arith)))
      (λ le. late_after k.zero d f (i - d) i (omega arith) ∙ sym (reversed_inside k n f (i - d) j (omega arith)))
      (cases_lt i d)

-- the kept values move on by one place, and the sum that came out follows them
pub joined_moved : {S : Type 0} (d : ℕ) (old new t : ℕ → S) → ((j : ℕ) → j + 1 < d → new j ≡ old (j + 1)) → ((j : ℕ) → j + 1 ≡ d → new j ≡ t 0) → (j : ℕ) → joined d new (λ i. t (i + 1)) j ≡ joined d old t (j + 1)
joined_moved d old new t moved last j =
    ⊎_elim
    (λ lt. joined_first d new (λ i. t (i + 1)) j (omega arith) ∙ moved j lt ∙ sym (joined_first d old t (j + 1) lt))
    (λ le. ⊎_elim
    (λ lt. joined_first d new (λ i. t (i + 1)) j lt ∙ last j (omega arith) ∙ sym (joined_second d old t 0 (j + 1) (omega arith)))
    (λ le₂. joined_second d new (λ i. t (i + 1)) (j - d) j (omega arith) ∙ sym (joined_second d old t (j - d + 1) (j + 1) (omega arith)))
    (cases_lt j d))
    (cases_lt (j + 1) d)

module _ {S : Type 0} {k : RingOps S} (ring : RingLaws k) (bar : ConjugationLaws k) where
  -- the kept values are not touched by what comes in
  joined_matching : (d n : ℕ) (kept f pending : ℕ → S) (x : S) (j : ℕ) → joined d kept (matching k n f pending x) j ≡ k.add (joined d kept pending j) (k.mul (k.conj (late k.zero d (reversed k n f) j)) x)
  joined_matching d n kept f pending x j =
      elim (ltb j d) as (λ t. cond t (kept j) (matching k n f pending x (j - d)) ≡ k.add (cond t (kept j) (pending (j - d))) (k.mul (k.conj (cond t k.zero (reversed k n f (j - d)))) x)) [
        | true ↦ sym (ap (λ t. k.add (kept j) (k.mul t x)) (conj_zero ring bar) ∙ ap (k.add (kept j)) (zero_mul ring x) ∙ add_zero ring _)
        | false ↦ refl
      ]

  module _ (w : S) (d : ℕ) (c : Codes S) (out : (j : ℕ) → c.span ≤ j → c.entry A j ≡ k.zero) where
    -- the reversed code of a stage, from the reversed codes below
    reversed_doubled : (side : Side) (j : ℕ) → reversed k (c.span + d) ((doubled k w d c).entry side) j ≡ blend k side (k.mul w (late k.zero d (reversed k c.span (c.entry A)) j)) (reversed k c.span (c.entry B) j)
    reversed_doubled side j =
        let n = c.span in
        let f = c.entry A in
        let g = c.entry B in
        let code = (doubled k w d c).entry side in
        let i : ℕ = n + d - 1 - j in
        ⊎_elim
        (λ lt. reversed_inside k (n + d) code i j (omega arith) ∙ ap₂ (λ x y. blend k side (k.mul w x) y) (reversed_first k d n f out i j (omega arith)) (reversed_second k d n g i j (omega arith)))
        (λ le. reversed_outside k (n + d) code j le ∙ sym (ap₂ (λ x y. blend k side (k.mul w x) y) (late_outside k.zero d n (reversed k n f) (reversed_outside k n f) j le) (reversed_outside k n g j (omega arith)) ∙ ap (λ t. blend k side t k.zero) (mul_zero ring w) ∙ (blends ring bar side).of_zeros))
        (cases_lt j (n + d))

    -- what arrives in a stage, from what arrives below
    arriving_doubled : (kept : ℕ → S) (pending : Pending S) (x : S) (side : Side) (j : ℕ) → arriving k (doubled k w d c) (doubled_pending k w d kept pending) x side j ≡ blend k side (k.mul (k.conj w) (joined d kept (arriving k c pending x A) j)) (arriving k c pending x B j)
    arriving_doubled kept pending x side j =
        let op = blend k side in
        let laws = blends ring bar side in
        let v = k.conj w in
        let f = late k.zero d (reversed k c.span (c.entry A)) j in
        let g = reversed k c.span (c.entry B) j in
        let p = joined d kept (pending A) j in
        let turn : k.conj (op (k.mul w f) g) ≡ op (k.mul v (k.conj f)) (k.conj g) = laws.conj_op _ _ ∙ ap (λ t. op t (k.conj g)) (bar.conj_mul w f) in
        let spread : k.mul (op (k.mul v (k.conj f)) (k.conj g)) x ≡ op (k.mul v (k.mul (k.conj f) x)) (k.mul (k.conj g) x) = laws.op_mul _ _ x ∙ ap (λ t. op t (k.mul (k.conj g) x)) (ring.mul_assoc v (k.conj f) x) in
        ap (λ t. k.add (op (k.mul v p) (pending B j)) t) (ap (λ t. k.mul (k.conj t) x) (reversed_doubled side j) ∙ ap (λ t. k.mul t x) turn ∙ spread)
        ∙ sym (laws.op_add (k.mul v p) (k.mul v (k.mul (k.conj f) x)) (pending B j) (k.mul (k.conj g) x))
        ∙ ap (λ t. op t (arriving k c pending x B j)) (sym (ring.mul_add v _ _) ∙ ap (k.mul v) (sym (joined_matching d c.span kept (c.entry A) (pending A) x j)))

    -- what is pending after a push: the kept values have moved on, and P's place 0 is the latest of them
    pub doubled_pushed : (old new : ℕ → S) (pending : Pending S) (x : S) → ((j : ℕ) → j + 1 < d → new j ≡ old (j + 1)) → ((j : ℕ) → j + 1 ≡ d → new j ≡ (answer k c pending x).0)
        → doubled_pending k w d new (pushed k c pending x) ≡ pushed k (doubled k w d c) (doubled_pending k w d old pending) x
    doubled_pushed old new pending x moved last =
        fun_ext (λ side. fun_ext (λ j. ap (λ s. blend k side (k.mul (k.conj w) s) (arriving k c pending x B (j + 1))) (joined_moved d old new (arriving k c pending x A) moved last j) ∙ sym (arriving_doubled old pending x side (j + 1))))

    -- what comes out: u + q and u - q, where u is conj(w) times the oldest kept value
    pub doubled_answer : (kept : ℕ → S) (pending : Pending S) (x : S) → 1 ≤ d → (k.add (k.mul (k.conj w) (kept 0)) (answer k c pending x).1, k.sub (k.mul (k.conj w) (kept 0)) (answer k c pending x).1) ≡ answer k (doubled k w d c) (doubled_pending k w d kept pending) x
    doubled_answer kept pending x h =
        let out_at : (side : Side) → blend k side (k.mul (k.conj w) (kept 0)) (answer k c pending x).1 ≡ arriving k (doubled k w d c) (doubled_pending k w d kept pending) x side 0 =
        λ side. ap (λ s. blend k side (k.mul (k.conj w) s) (answer k c pending x).1) (sym (joined_first d kept (arriving k c pending x A) 0 h)) ∙ sym (arriving_doubled kept pending x side 0) in
        λ i. (out_at A i, out_at B i)

  -- nothing is pending in a stage that keeps zeros over a pair in which nothing is pending
  pub stage_silent : (o : Option S) (d : ℕ) (kept : ℕ → S) → ((j : ℕ) → kept j ≡ k.zero) → stage_pending k o d kept (silent k) ≡ silent k
  stage_silent None d kept none = refl
  stage_silent (Some w) d kept none =
      let flat : (j : ℕ) → joined d kept (λ i. k.zero) j ≡ k.zero = λ j. cond_both (ltb j d) (kept j) k.zero (λ t. t ≡ k.zero) (λ e. none j) (λ e. refl) in
      fun_ext (λ side. fun_ext (λ j. ap (λ t. blend k side (k.mul (k.conj w) t) k.zero) (flat j) ∙ ap (λ t. blend k side t k.zero) (mul_zero ring _) ∙ (blends ring bar side).of_zeros))

  -- the same of a stage that works
  module _ (r : PolarOps S) (d code : ℕ) (c : Codes S) {w : S} (is : Some w ≡ weight_of r d code c) (out : (j : ℕ) → c.span ≤ j → c.entry A j ≡ k.zero) (pending : Pending S) (x : S) where
    pub stage_pushed : (old new : ℕ → S) → ((j : ℕ) → j + 1 < d → new j ≡ old (j + 1)) → ((j : ℕ) → j + 1 ≡ d → new j ≡ (answer k c pending x).0)
        → stage_pending k (weight_of r d code c) d new (pushed k c pending x) ≡ pushed k (stage_codes k (weight_of r d code c) d c) (stage_pending k (weight_of r d code c) d old pending) x
    stage_pushed old new moved last =
        subst (λ o. stage_pending k o d new (pushed k c pending x) ≡ pushed k (stage_codes k o d c) (stage_pending k o d old pending) x) is (doubled_pushed w d c out old new pending x moved last)

    pub stage_answer : (kept : ℕ → S) → (k.add (k.mul (k.conj w) (kept 0)) (answer k c pending x).1, k.sub (k.mul (k.conj w) (kept 0)) (answer k c pending x).1) ≡ answer k (stage_codes k (weight_of r d code c) d c) (stage_pending k (weight_of r d code c) d kept pending) x
    stage_answer kept =
        subst (λ o. (k.add (k.mul (k.conj w) (kept 0)) (answer k c pending x).1, k.sub (k.mul (k.conj w) (kept 0)) (answer k c pending x).1) ≡ answer k (stage_codes k o d c) (stage_pending k o d kept pending) x) is
        (doubled_answer w d c out kept pending x (works_from_weight r d code c w is).delay_least)
