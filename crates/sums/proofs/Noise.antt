-- How far noise in the records moves a sum: at most the energy times the largest magnitude.
use Rattle.std.proofs.Common.{◌≡◌, ℕ, zero, suc, ◌+◌, ◌-◌, ◌*◌, ◌%◌, ◌<◌, ◌≤◌, nat_abs, ap, ◌∙◌, mod-lt, mul-le-mul_left, arith}
use Rattle.kinds.specs.Samples.{RingOps, RingLaws, ConjugationLaws, WordLaws, RootLaws, MagnitudeLaws, PolarOps, WordOps}
use Rattle.sums.specs.declared.Side.{Side}
use Rattle.sums.specs.declared.Side.TheVariants.{A, B}
use Rattle.sums.specs.Codes.{Codes, Pending, PairLaws, RootSum}
use Rattle.sums.specs.Sums.{total_count}
use Rattle.sums.specs.Rooms.{correlation, sum_at}
use Rattle.kinds.specs.Rings.{add_mul, zero_mul, conj_zero}

module _ {S : Type 0} {k : RingOps S} {sp : WordOps S} {q : PolarOps S} (ring : RingLaws k) (bar : ConjugationLaws k) (word : WordLaws k sp) (roots : RootLaws k q) (size : MagnitudeLaws k sp q) where
  pub magnitude_zero : q.magnitude k.zero ≡ 0
  magnitude_zero =
      let w = size.words_most k.zero in
      let a : nat_abs (sp.first k.zero) ≡ 0 = ap nat_abs word.first_zero in
      let b : nat_abs (sp.second k.zero) ≡ 0 = ap nat_abs word.second_zero in
      omega (arith, w, a, b)

  -- an entry of n roots
  roots_bound : (n : ℕ) (x y : S) → RootSum k q n x → q.magnitude (k.mul (k.conj x) y) ≤ n * q.magnitude y
  roots_bound zero x y e =
      let z : q.magnitude (k.mul (k.conj x) y) ≡ 0 = ap (λ t. q.magnitude (k.mul (k.conj t) y)) e ∙ ap (λ t. q.magnitude (k.mul t y)) (conj_zero ring bar) ∙ ap q.magnitude (zero_mul ring y) ∙ magnitude_zero in
      omega arith
  roots_bound (suc n) x y r =
      let c : ℕ = (q.count - r.0) % q.count in
      let below : c < q.count = mod-lt (q.count - r.0) (omega (arith, roots.least)) in
      let z = r.2.0 in
      let parts : k.mul (k.conj x) y ≡ k.add (k.mul (q.root c) y) (k.mul (k.conj z) y) =
      ap (λ t. k.mul (k.conj t) y) r.2.1 ∙ ap (λ t. k.mul t y) (bar.conj_add _ _ ∙ ap (λ t. k.add t (k.conj z)) (roots.root_conj r.0 r.1)) ∙ add_mul ring _ _ y in
      let whole : q.magnitude (k.mul (k.conj x) y) ≡ q.magnitude (k.add (k.mul (q.root c) y) (k.mul (k.conj z) y)) = ap q.magnitude parts in
      let both = size.triangle (k.mul (q.root c) y) (k.mul (k.conj z) y) in
      let turn = size.root_magnitude c y below in
      let rest = roots_bound n z y r.2.2 in
      omega (arith, whole, both, turn, rest)

  correlation_bound : (count : ℕ → ℕ) (f xs : ℕ → S) (t most : ℕ) → ((j : ℕ) → RootSum k q (count j) (f j)) → (n : ℕ) → ((j : ℕ) → j < n → q.magnitude (xs (j + t)) ≤ most) → q.magnitude (correlation k n f xs t) ≤ total_count count n * most
  correlation_bound count f xs t most made zero h = let z = magnitude_zero in omega (arith, z)
  correlation_bound count f xs t most made (suc n) h =
      let sofar = correlation_bound count f xs t most made n (λ j lt. h j (omega arith)) in
      let both = size.triangle (correlation k n f xs t) (k.mul (k.conj (f n)) (xs (n + t))) in
      let one = roots_bound (count n) (f n) (xs (n + t)) (made n) in
      let grow = mul-le-mul_left (count n) (h n (omega arith)) in
      omega (arith, sofar, both, one, grow)

  -- samples of magnitude at most `most` give sums of magnitude at most the energy times that
  pub sum_bound : (c : Codes S) (pending : Pending S) → PairLaws k q c pending → (records : Side → ℕ → S) (t most : ℕ) → ((side : Side) (j : ℕ) → j < c.span → q.magnitude (records side (j + t)) ≤ most) → q.magnitude (sum_at k c records t) ≤ c.energy * most
  sum_bound c pending laws records t most h =
      let one : (side : Side) → q.magnitude (correlation k c.span (c.entry side) (records side) t) ≤ total_count (c.counts side) c.span * most = λ side. correlation_bound (c.counts side) (c.entry side) (records side) t most (laws.rooted side) c.span (h side) in
      let a = one A in
      let b = one B in
      let both = size.triangle (correlation k c.span (c.entry A) (records A) t) (correlation k c.span (c.entry B) (records B) t) in
      let all : (total_count (c.counts A) c.span + total_count (c.counts B) c.span) * most ≡ c.energy * most = ap (λ e. e * most) laws.counted in
      omega (arith, a, b, both, all)
