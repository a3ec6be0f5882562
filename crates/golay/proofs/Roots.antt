-- Sums of roots of one: turned by a root, added and subtracted they are sums of roots again.
use Rattle.std.proofs.Common.{◌≡◌, ℕ, zero, suc, ◌+◌, ◌-◌, ◌/◌, ◌%◌, ◌<◌, Bool, true, false, cond, ltb, sym, refl, ap, ◌∙◌, subst, ap₂, subst₂, mod-lt, suc-add, zero-add, arith}
use Rattle.std.proofs.Math.Nat.{add-mod-mod, mod_self}
use Rattle.kinds.specs.Samples.{RingOps, PolarOps, RingLaws, RootLaws}
use Rattle.kinds.specs.Rings.{neg, sub_is, add_zero, mul_zero, zero_mul}
use Rattle.sums.specs.declared.Side.{Side}
use Rattle.sums.specs.declared.Side.TheVariants.{A, B}
use Rattle.sums.specs.Codes.{RootSum}
use Rattle.sums.specs.Sums.{late}
use Rattle.sums.proofs.Rings.{sub_mul}
use Rattle.golay.specs.Stages.{blend}
use Rattle.golay.specs.Kernels.{signed}

-- c and what it lacks to n
round : (c n : ℕ) → c < n → (c + (n - c) % n) % n ≡ 0
round c n h = let whole : c + (n - c) ≡ n = omega arith in add-mod-mod c (n - c) n ∙ ap (λ t. t % n) whole ∙ mod_self n

module _ {S : Type 0} {k : RingOps S} {r : PolarOps S} (ring : RingLaws k) (roots : RootLaws k r) where
  -- a root times its conjugate
  pub root_unit : (c : ℕ) → c < r.count → k.mul (r.root c) (k.conj (r.root c)) ≡ k.one
  root_unit c h =
      ap (k.mul (r.root c)) (roots.root_conj c h) ∙ roots.root_mul c _ h (mod-lt (r.count - c) (omega (arith, roots.least))) ∙ ap r.root (round c r.count h) ∙ roots.root_zero

  pub roots_turn : (c : ℕ) → c < r.count → (n : ℕ) (x : S) → RootSum k r n x → RootSum k r n (k.mul (r.root c) x)
  roots_turn c h zero x e = ap (k.mul (r.root c)) e ∙ mul_zero ring _
  roots_turn c h (suc n) x s =
      let y = s.2.0 in
      ((c + s.0) % r.count, mod-lt _ (omega (arith, roots.least)), (k.mul (r.root c) y, ap (k.mul (r.root c)) s.2.1 ∙ ring.mul_add _ _ _ ∙ ap (λ t. k.add t (k.mul (r.root c) y)) (roots.root_mul c s.0 h s.1), roots_turn c h n y s.2.2))

  roots_add : (m n : ℕ) (x y : S) → RootSum k r m x → RootSum k r n y → RootSum k r (m + n) (k.add x y)
  roots_add zero n x y e s = subst₂ (RootSum k r) (sym (zero-add n)) (sym (ap (λ t. k.add t y) e ∙ ring.zero_add y)) s
  roots_add (suc m) n x y t s =
      let z = t.2.0 in
      subst (λ i. RootSum k r i (k.add x y)) (sym (suc-add m n)) (t.0, t.1, (k.add z y, ap (λ i. k.add i y) t.2.1 ∙ ring.add_assoc _ _ _, roots_add m n z y t.2.2 s))

  -- minus one is a root
  roots_sub : (m n : ℕ) (x y : S) → RootSum k r m x → RootSum k r n y → RootSum k r (m + n) (k.sub x y)
  unfolding neg
  roots_sub m n x y t s =
      let minus : k.mul (r.root (r.count / 2)) y ≡ neg k y = ap (λ i. k.mul i y) roots.root_half ∙ sub_mul ring _ _ y ∙ ap₂ k.sub (zero_mul ring y) (ring.one_mul y) in
      subst (RootSum k r (m + n)) (sym (sub_is ring x y ∙ ap (k.add x) (sym minus))) (roots_add m n x _ t (roots_turn (r.count / 2) (omega (arith, roots.least)) n y s))

  pub roots_blend : (side : Side) (m n : ℕ) (x y : S) → RootSum k r m x → RootSum k r n y → RootSum k r (m + n) (blend k side x y)
  roots_blend A = roots_add
  roots_blend B = roots_sub

  pub roots_late : (d : ℕ) (count : ℕ → ℕ) (f : ℕ → S) → ((j : ℕ) → RootSum k r (count j) (f j)) → (j : ℕ) → RootSum k r (late 0 d count j) (late k.zero d f j)
  roots_late d count f h j =
      elim (ltb j d) as (λ t. RootSum k r (cond t 0 (count (j - d))) (cond t k.zero (f (j - d)))) [ true ↦ refl | false ↦ h (j - d) ]

  -- one or minus one below a place, zero from there on
  pub sign_root : (b minus : Bool) → RootSum k r (cond b 1 0) (cond b (signed k minus k.one) k.zero)
  sign_root true true = (r.count / 2, omega (arith, roots.least), (k.zero, sym (add_zero ring _ ∙ roots.root_half), refl))
  sign_root true false = (0, omega (arith, roots.least), (k.zero, sym (add_zero ring _ ∙ roots.root_zero), refl))
  sign_root false minus = refl
