-- A sum divided by the energy.
use Rattle.std.proofs.Common.{◌≡◌, ℕ, zero, suc, ◌+◌, ◌*◌, ◌/◌, ◌^◌, ◌<◌, ◌≤◌, ℤ, pos, negsuc, ◌+ℤ◌, ◌*ℤ◌, nat_abs, ap, ◌∙◌, ⊎_elim, le_trans, mul-le-mul, mul-le-mul_left, arith, w64, SFits}
use borrow.Author.Differences.{up, down}
use Rattle.std.proofs.lemmas.Bool.{cases_lt}
use Rattle.std.proofs.lemmas.Int.{ints, int_wrap_fits, unsigned_abs-mul}
use Rattle.std.specs.Int.{int_wrap}
use Rattle.kinds.specs.Samples.{RingOps, PolarOps}
use Rattle.sums.specs.Sums.{times}
use Rattle.sums.specs.Rooms.{rounded, Near}

-- m = e (u − d) + n, where n lies between − e E and e E, and q is m divided by e, rounded
near_up : (e E m q u d p n : ℕ) → 1 ≤ e → 2 * e * q ≤ 2 * m + e → m + e * d + n ≡ e * u + p → p ≤ n + e * E → q + d ≤ u + E
near_up e E m q u d p n one low same small =
    ⊎_elim (λ l. let h : e * suc (u + E) ≤ e * (q + d) = mul-le-mul_left e l in absurd (omega arith)) (λ l. l) (cases_lt (u + E) (q + d))

near_down : (e E m q u d p n : ℕ) → 1 ≤ e → 2 * m < 2 * e * q + e → m + e * d + n ≡ e * u + p → n ≤ p + e * E → u ≤ q + d + E
near_down e E m q u d p n one high same small =
    ⊎_elim (λ l. let h : e * suc (q + d + E) ≤ e * u = mul-le-mul_left e l in absurd (omega arith)) (λ l. l) (cases_lt (q + d + E) u)

-- the quotient, rounded
quotient : (m e : ℕ) → 1 ≤ e → (2 * e * ((2 * m + e) / (2 * e)) ≤ 2 * m + e) × (2 * m < 2 * e * ((2 * m + e) / (2 * e)) + e)
quotient m e one = omega arith

-- e times w, and n, which lies within e times E of 0: divided by e and rounded it lies within E of w
rounded_near : (e E : ℕ) (w n z : ℤ) → 1 ≤ e → nat_abs n ≤ e * E → z ≡ (pos e *ℤ w) +ℤ n → Near E (rounded z e) w
unfolding rounded
rounded_near e E w n (pos m) one small same =
    let q = quotient m e one in
    let s : m + e * down w + down n ≡ e * up w + up n = omega (arith, ints) in
    let a : (2 * m + e) / (2 * e) + down w ≤ up w + E = near_up e E m _ (up w) (down w) (up n) (down n) one q.0 s (omega (arith, ints)) in
    let b : up w ≤ (2 * m + e) / (2 * e) + down w + E = near_down e E m _ (up w) (down w) (up n) (down n) one q.1 s (omega (arith, ints)) in
    omega (arith, ints)
rounded_near e E w n (negsuc m) one small same =
    let q = quotient (suc m) e one in
    let s : suc m + e * up w + up n ≡ e * down w + down n = omega (arith, ints) in
    let a : (2 * suc m + e) / (2 * e) + up w ≤ down w + E = near_up e E (suc m) _ (down w) (up w) (down n) (up n) one q.0 s (omega (arith, ints)) in
    let b : down w ≤ (2 * suc m + e) / (2 * e) + up w + E = near_down e E (suc m) _ (down w) (up w) (down n) (up n) one q.1 s (omega (arith, ints)) in
    omega (arith, ints)

-- a word of a sample
pub record Word {S : Type 0} (k : RingOps S) (tu : PolarOps S) (word : S → ℤ) : Type 0 where
  pub add_word : (x y : S) → word (k.add x y) ≡ int_wrap w64 (word x +ℤ word y)
  pub zero_word : word k.zero ≡ pos 0
  pub least_word : (x : S) → nat_abs (word x) ≤ tu.magnitude x

module _ {S : Type 0} {k : RingOps S} {tu : PolarOps S} {word : S → ℤ} (W : Word k tu word) where
  small_fits : (z : ℤ) → nat_abs z < 2 ^ 63 → SFits w64 z
  small_fits z h = omega (arith, ints)

  -- n times x does not wrap where the word is small
  times_word : (n : ℕ) (x : S) → n * nat_abs (word x) < 2 ^ 63 → word (times k n x) ≡ pos n *ℤ word x
  times_word zero x h = W.zero_word ∙ omega (arith, ints)
  times_word (suc n) x h =
      let below = times_word n x (omega arith) in
      let here : nat_abs (pos n *ℤ word x +ℤ word x) < 2 ^ 63 = omega (arith, ints, unsigned_abs-mul (pos n) (word x)) in
      W.add_word _ _ ∙ ap (λ z. int_wrap w64 (z +ℤ word x)) below ∙ int_wrap_fits w64 _ (small_fits _ here) ∙ omega (arith, ints)

  pub word_near : (e E : ℕ) (x n y : S) → 1 ≤ e → e ≤ 2 ^ 20 → E ≤ 2 ^ 40 → tu.magnitude x ≤ 2 ^ 40 → tu.magnitude n ≤ e * E → y ≡ k.add (times k e x) n → Near E (rounded (word y) e) (word x)
  word_near e E x n y one most far tall small same =
      let lx = W.least_word x in
      let ln = W.least_word n in
      let ex : e * nat_abs (word x) ≤ 2 ^ 20 * 2 ^ 40 = mul-le-mul most (le_trans lx tall) in
      let eE : e * E ≤ 2 ^ 20 * 2 ^ 40 = mul-le-mul most far in
      let product = times_word e x (omega arith) in
      let fits : nat_abs ((pos e *ℤ word x) +ℤ word n) < 2 ^ 63 = omega (arith, ints, unsigned_abs-mul (pos e) (word x)) in
      rounded_near e E (word x) (word n) (word y) one (le_trans ln small)
      (ap word same ∙ W.add_word _ _ ∙ ap (λ z. int_wrap w64 (z +ℤ word n)) product ∙ int_wrap_fits w64 _ (small_fits _ fits))
