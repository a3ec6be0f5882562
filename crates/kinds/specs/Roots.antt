-- The powers of one element g, the generator, as the roots of a kind: the laws of roots from two facts about g.
use Rattle.std.specs.Prelude.{◌≡◌, ℕ, zero, suc, ◌+◌, ◌-◌, ◌%◌, ◌<◌, ◌≤◌}
use Rattle.std.proofs.Common.{sym, ap, ◌∙◌, arith, zero-add, mod-eq_of_lt}
use Rattle.std.proofs.Math.Nat.{mod-eq-sub-mod}
use Rattle.std.proofs.Math.Decide.{dec_lt}
use Rattle.kinds.specs.Samples.{RingOps, RingLaws, ConjugationLaws}
use Rattle.kinds.specs.Exact.{power}
use Rattle.kinds.specs.Rings.{ring, conj_one}

module _ {S : Type 0} {r : RingOps S} (l : RingLaws r) (c : ConjugationLaws r) (g : S) where
  power_add : (a b : ℕ) → r.mul (power r g a) (power r g b) ≡ power r g (a + b)
  power_add zero b = l.one_mul _ ∙ ap (power r g) (sym (zero-add b))
  power_add (suc a) b = l.mul_assoc _ _ _ ∙ ap (r.mul g) (power_add a b) ∙ ap (power r g) more
    where
      more : suc (a + b) ≡ suc a + b
      more = omega arith

  -- if g times a sample has the sample's magnitude, so has each power of g
  pub powers_turn : (m : S → ℕ) → ((x : S) → m (r.mul g x) ≡ m x) → (a : ℕ) (x : S) → m (r.mul (power r g a) x) ≡ m x
  powers_turn m turn zero x = ap m (l.one_mul x)
  powers_turn m turn (suc a) x = ap m (l.mul_assoc g (power r g a) x) ∙ turn _ ∙ powers_turn m turn a x

  -- g to the power h is minus one, and the conjugate of g times g is one: then there are n = 2h roots
  module _ (h : ℕ) (half : power r g h ≡ r.sub r.zero r.one) (unit : r.mul (r.conj g) g ≡ r.one) where
    abbrev n : ℕ
    n = h + h

    full : power r g n ≡ r.one
    full = sym (power_add h h) ∙ ap (λ x. r.mul x x) half ∙ simp (ring, l)

    around : (a : ℕ) → power r g (n + a) ≡ power r g a
    around a = sym (power_add n a) ∙ ap (λ x. r.mul x (power r g a)) full ∙ l.one_mul _

    power_mod : (a : ℕ) → a < n + n → power r g (a % n) ≡ power r g a
    power_mod a m = elim (dec_lt a n) [
      | yes k ↦ ap (power r g) (mod-eq_of_lt k)
      | no k ↦ let over : n ≤ a = omega arith in ap (power r g) (mod-eq-sub-mod over ∙ mod-eq_of_lt (omega arith)) ∙ sym (around (a - n)) ∙ ap (power r g) (omega arith)
    ]

    pub roots_mul : (a b : ℕ) → a < n → b < n → r.mul (power r g a) (power r g b) ≡ power r g ((a + b) % n)
    roots_mul a b p q = power_add a b ∙ sym (power_mod (a + b) (omega arith))

    -- the conjugate of a power times the power is one
    units : (a : ℕ) → r.mul (r.conj (power r g a)) (power r g a) ≡ r.one
    units zero = ap (λ x. r.mul x r.one) (conj_one l c) ∙ l.one_mul _
    units (suc a) =
        let p = power r g a in
        let q = r.conj p in
        let d = r.conj g in
        ap (λ x. r.mul x (r.mul g p)) (c.conj_mul g p)
        ∙ l.mul_assoc d q (r.mul g p)
        ∙ ap (r.mul d) (sym (l.mul_assoc q g p) ∙ ap (λ x. r.mul x p) (l.mul_comm q g) ∙ l.mul_assoc g q p ∙ ap (r.mul g) (units a))
        ∙ ap (r.mul d) (l.mul_comm g r.one ∙ l.one_mul g)
        ∙ unit

    pub roots_conj : (a : ℕ) → a < n → r.conj (power r g a) ≡ power r g ((n - a) % n)
    roots_conj a m =
        let p = power r g a in
        let q = r.conj p in
        let left = power r g (n - a) in
        let whole : r.mul p left ≡ r.one = power_add a (n - a) ∙ ap (power r g) (omega arith) ∙ full in
        sym (l.one_mul q) ∙ l.mul_comm _ q ∙ ap (r.mul q) (sym whole) ∙ sym (l.mul_assoc q p left) ∙ ap (λ x. r.mul x left) (units a) ∙ l.one_mul left ∙ sym (power_mod (n - a) (omega arith))
