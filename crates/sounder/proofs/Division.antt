-- A quotient that is rounded, in words.
use Rattle.std.proofs.Common.{◌≡◌, ℕ, suc, ◌+◌, ◌*◌, ◌/◌, ◌^◌, ◌<◌, ◌≤◌, ℤ, pos, negsuc, ◌-ℤ◌, neg_ℤ, nat_abs, ◌≤ℤ◌, ◌<ℤ◌, sym, refl, ap, ◌∙◌, ⊎_elim, mul-le-mul_left, arith, w64, SFits, to_z, of_z}
use mir.Syntax.{w128}
use Rattle.std.proofs.lemmas.Bool.{cases_lt}
use Rattle.std.proofs.lemmas.Int.{ints, to_z-of_z}
use Rattle.sums.specs.Rooms.{rounded}

quotient_most : (m e : ℕ) → 1 ≤ e → (2 * m + e) / (2 * e) ≤ m
quotient_most m e one =
    ⊎_elim (λ l. let h : e * suc m ≤ e * ((2 * m + e) / (2 * e)) = mul-le-mul_left e l in let t : m * 1 ≤ m * e = mul-le-mul_left m one in absurd (omega arith)) (λ l. l) (cases_lt m ((2 * m + e) / (2 * e)))

rounded_below : (z : ℤ) (e : ℕ) → z <ℤ pos 0 → rounded z e ≡ neg_ℤ (pos ((2 * nat_abs z + e) / (2 * e)))
unfolding rounded
rounded_below (pos m) e l = absurd (omega (arith, ints))
rounded_below (negsuc m) e l = refl

rounded_above : (z : ℤ) (e : ℕ) → pos 0 ≤ℤ z → rounded z e ≡ pos ((2 * nat_abs z + e) / (2 * e))
unfolding rounded
rounded_above (pos m) e l = refl
rounded_above (negsuc m) e l = absurd (omega (arith, ints))

down_is : (q : ℕ) → q ≤ 2 ^ 63 → to_z w64 (of_z w64 (to_z w128 (of_z w128 (pos 0 -ℤ to_z w128 q)))) ≡ neg_ℤ (pos q)
down_is q h = omega (arith, ints)

up_fits : (q : ℕ) → q < 2 ^ 63 → SFits w64 (to_z w128 q)
up_fits q h = omega (arith, ints)

up_is : (q : ℕ) → q < 2 ^ 63 → to_z w64 (of_z w64 (to_z w128 q)) ≡ pos q
up_is q h = omega (arith, ints)

-- the quotient of a word that was handed on, and its bounds
found : (z : ℤ) (e q : ℕ) → SFits w64 z → q ≡ (2 * nat_abs (to_z w64 (of_z w64 z)) + e) / (2 * e) → q ≡ (2 * nat_abs z + e) / (2 * e)
found z e q f is = is ∙ ap (λ w. (2 * nat_abs w + e) / (2 * e)) (to_z-of_z w64 z f)

found_most : (z : ℤ) (e q : ℕ) → 1 ≤ e → SFits w64 z → q ≡ (2 * nat_abs z + e) / (2 * e) → q ≤ 2 ^ 63
found_most z e q one f is = let most = quotient_most (nat_abs z) e one in omega (arith, ints)

found_below : (z : ℤ) (e q : ℕ) → 1 ≤ e → SFits w64 z → pos 0 ≤ℤ z → q ≡ (2 * nat_abs z + e) / (2 * e) → q < 2 ^ 63
found_below z e q one f h is = let most = quotient_most (nat_abs z) e one in omega (arith, ints)

-- the quotient of the word that was handed on, with the sign of the word
module _ (z : ℤ) (e q : ℕ) (one : 1 ≤ e) (f : SFits w64 z) (handed : q ≡ (2 * nat_abs (to_z w64 (of_z w64 z)) + e) / (2 * e)) where
  is : q ≡ (2 * nat_abs z + e) / (2 * e)
  is = found z e q f handed

  pub down_rounded : z <ℤ pos 0 → to_z w64 (of_z w64 (to_z w128 (of_z w128 (pos 0 -ℤ to_z w128 q)))) ≡ rounded z e
  down_rounded l = down_is q (found_most z e q one f is) ∙ ap (λ n. neg_ℤ (pos n)) is ∙ sym (rounded_below z e l)

  pub up_rounded_fits : pos 0 ≤ℤ z → SFits w64 (to_z w128 q)
  up_rounded_fits l = up_fits q (found_below z e q one f l is)

  pub up_rounded : pos 0 ≤ℤ z → to_z w64 (of_z w64 (to_z w128 q)) ≡ rounded z e
  up_rounded l = up_is q (found_below z e q one f l is) ∙ ap pos is ∙ sym (rounded_above z e l)
