-- What follows from the ring's laws, for code that is generic over a kind.
-- `simp (ring, l)`, with l the ring's laws, proves an equation of two polynomials; `simp (products, l)` only multiplies out.
use Rattle.std.specs.Prelude.{◌≡◌}
use Rattle.std.proofs.Common.{sym, ap, ◌∙◌}
use Rattle.kinds.specs.Samples.{RingOps, RingLaws, ConjugationLaws}

-- zero minus x; not an `abbrev`, so that `sub_is` does not apply to it again
unfoldable pub neg : {S : Type 0} → RingOps S → S → S
neg r x = r.sub r.zero x

module _ {S : Type 0} {r : RingOps S} (l : RingLaws r) where
  pub add_assoc : (x y z : S) → r.add (r.add x y) z ≡ r.add x (r.add y z)
  add_assoc = l.add_assoc

  pub add_comm : (x y : S) → r.add x y ≡ r.add y x
  add_comm = l.add_comm

  pub add_left_comm : (x y z : S) → r.add x (r.add y z) ≡ r.add y (r.add x z)
  add_left_comm x y z = sym (add_assoc x y z) ∙ ap (λ s. r.add s z) (add_comm x y) ∙ add_assoc y x z

  pub zero_add : (x : S) → r.add r.zero x ≡ x
  zero_add = l.zero_add

  pub add_zero : (x : S) → r.add x r.zero ≡ x
  add_zero x = add_comm x r.zero ∙ zero_add x

  pub neg_add_self : (x : S) → r.add (neg r x) x ≡ r.zero
  unfolding neg
  neg_add_self x = l.sub_add r.zero x

  pub add_neg_self : (x : S) → r.add x (neg r x) ≡ r.zero
  add_neg_self x = add_comm x (neg r x) ∙ neg_add_self x

  pub add_cancel : (x y z : S) → r.add x z ≡ r.add y z → x ≡ y
  add_cancel x y z e = sym (away x) ∙ ap (λ s. r.add s (neg r z)) e ∙ away y
    where
      away : (s : S) → r.add (r.add s z) (neg r z) ≡ s
      away s = add_assoc s z (neg r z) ∙ ap (r.add s) (add_neg_self z) ∙ add_zero s

  -- a difference is a sum
  pub sub_is : (x y : S) → r.sub x y ≡ r.add x (neg r y)
  sub_is x y = add_cancel _ _ y (l.sub_add x y ∙ sym (add_assoc x (neg r y) y ∙ ap (r.add x) (neg_add_self y) ∙ add_zero x))

  pub mul_assoc : (x y z : S) → r.mul (r.mul x y) z ≡ r.mul x (r.mul y z)
  mul_assoc = l.mul_assoc

  pub mul_comm : (x y : S) → r.mul x y ≡ r.mul y x
  mul_comm = l.mul_comm

  pub mul_left_comm : (x y z : S) → r.mul x (r.mul y z) ≡ r.mul y (r.mul x z)
  mul_left_comm x y z = sym (mul_assoc x y z) ∙ ap (λ s. r.mul s z) (mul_comm x y) ∙ mul_assoc y x z

  pub one_mul : (x : S) → r.mul r.one x ≡ x
  one_mul = l.one_mul

  pub mul_one : (x : S) → r.mul x r.one ≡ x
  mul_one x = mul_comm x r.one ∙ one_mul x

  pub mul_add : (x y z : S) → r.mul x (r.add y z) ≡ r.add (r.mul x y) (r.mul x z)
  mul_add = l.mul_add

  pub add_mul : (x y z : S) → r.mul (r.add x y) z ≡ r.add (r.mul x z) (r.mul y z)
  add_mul x y z = mul_comm (r.add x y) z ∙ mul_add z x y ∙ (λ i. r.add (mul_comm z x i) (mul_comm z y i))

  pub mul_zero : (x : S) → r.mul x r.zero ≡ r.zero
  mul_zero x = add_cancel _ _ (r.mul x r.zero) (sym (mul_add x r.zero r.zero) ∙ ap (r.mul x) (zero_add r.zero) ∙ sym (zero_add _))

  pub zero_mul : (x : S) → r.mul r.zero x ≡ r.zero
  zero_mul x = mul_comm r.zero x ∙ mul_zero x

  pub mul_neg : (x y : S) → r.mul x (neg r y) ≡ neg r (r.mul x y)
  mul_neg x y = add_cancel _ _ (r.mul x y) (sym (mul_add x (neg r y) y) ∙ ap (r.mul x) (neg_add_self y) ∙ mul_zero x ∙ sym (neg_add_self _))

  pub neg_mul : (x y : S) → r.mul (neg r x) y ≡ neg r (r.mul x y)
  neg_mul x y = mul_comm (neg r x) y ∙ mul_neg y x ∙ ap (neg r) (mul_comm y x)

  pub neg_neg : (x : S) → neg r (neg r x) ≡ x
  neg_neg x = add_cancel _ _ (neg r x) (neg_add_self (neg r x) ∙ sym (add_neg_self x))

  pub neg_zero : neg r r.zero ≡ r.zero
  neg_zero = sym (add_zero _) ∙ neg_add_self r.zero

  pub neg_add : (x y : S) → neg r (r.add x y) ≡ r.add (neg r x) (neg r y)
  neg_add x y = add_cancel _ _ (r.add x y) (neg_add_self _ ∙ sym (both (neg r x) (neg r y) ∙ (λ i. r.add (neg_add_self x i) (neg_add_self y i)) ∙ zero_add _))
    where
      both : (a b : S) → r.add (r.add a b) (r.add x y) ≡ r.add (r.add a x) (r.add b y)
      both a b = add_assoc a b (r.add x y) ∙ ap (r.add a) (add_left_comm b x y) ∙ sym (add_assoc a x (r.add b y))

  pub neg_sub : (x y : S) → neg r (r.sub x y) ≡ r.sub y x
  neg_sub x y = ap (neg r) (sub_is x y) ∙ neg_add x (neg r y) ∙ ap (r.add (neg r x)) (neg_neg y) ∙ add_comm _ y ∙ sym (sub_is y x)

  -- what is left of a sum in which s and its negation stand side by side
  pub add_neg_cancel : (s x : S) → r.add s (r.add (neg r s) x) ≡ x
  add_neg_cancel s x = sym (add_assoc s (neg r s) x) ∙ ap (λ y. r.add y x) (add_neg_self s) ∙ zero_add x

  pub neg_add_cancel : (s x : S) → r.add (neg r s) (r.add s x) ≡ x
  neg_add_cancel s x = sym (add_assoc (neg r s) s x) ∙ ap (λ y. r.add y x) (neg_add_self s) ∙ zero_add x

  -- `simp` sorts the summands of a sum, so s and its negation may come to stand apart. `past` and a number n takes both
  -- away where n summands stand between them and more follow; `last` and n does so where the negation is the last
  -- summand. So `simp (ring, l)` cancels across at most six summands; for longer sums split the equation, or add to these
  pub past1 : (s a x : S) → r.add s (r.add a (r.add (neg r s) x)) ≡ r.add a x
  past1 s a x = add_left_comm s a _ ∙ ap (r.add a) (add_neg_cancel s x)

  pub last1 : (s a : S) → r.add s (r.add a (neg r s)) ≡ a
  last1 s a = add_left_comm s a _ ∙ ap (r.add a) (add_neg_self s) ∙ add_zero a

  pub past2 : (s a b x : S) → r.add s (r.add a (r.add b (r.add (neg r s) x))) ≡ r.add a (r.add b x)
  past2 s a b x = add_left_comm s a _ ∙ ap (r.add a) (past1 s b x)

  pub last2 : (s a b : S) → r.add s (r.add a (r.add b (neg r s))) ≡ r.add a b
  last2 s a b = add_left_comm s a _ ∙ ap (r.add a) (last1 s b)

  pub past3 : (s a b c x : S) → r.add s (r.add a (r.add b (r.add c (r.add (neg r s) x)))) ≡ r.add a (r.add b (r.add c x))
  past3 s a b c x = add_left_comm s a _ ∙ ap (r.add a) (past2 s b c x)

  pub last3 : (s a b c : S) → r.add s (r.add a (r.add b (r.add c (neg r s)))) ≡ r.add a (r.add b c)
  last3 s a b c = add_left_comm s a _ ∙ ap (r.add a) (last2 s b c)

  pub past4 : (s a b c d x : S) → r.add s (r.add a (r.add b (r.add c (r.add d (r.add (neg r s) x))))) ≡ r.add a (r.add b (r.add c (r.add d x)))
  past4 s a b c d x = add_left_comm s a _ ∙ ap (r.add a) (past3 s b c d x)

  pub last4 : (s a b c d : S) → r.add s (r.add a (r.add b (r.add c (r.add d (neg r s))))) ≡ r.add a (r.add b (r.add c d))
  last4 s a b c d = add_left_comm s a _ ∙ ap (r.add a) (last3 s b c d)

  pub past5 : (s a b c d e x : S) → r.add s (r.add a (r.add b (r.add c (r.add d (r.add e (r.add (neg r s) x)))))) ≡ r.add a (r.add b (r.add c (r.add d (r.add e x))))
  past5 s a b c d e x = add_left_comm s a _ ∙ ap (r.add a) (past4 s b c d e x)

  pub last5 : (s a b c d e : S) → r.add s (r.add a (r.add b (r.add c (r.add d (r.add e (neg r s)))))) ≡ r.add a (r.add b (r.add c (r.add d e)))
  last5 s a b c d e = add_left_comm s a _ ∙ ap (r.add a) (last4 s b c d e)

  pub past6 : (s a b c d e f x : S) → r.add s (r.add a (r.add b (r.add c (r.add d (r.add e (r.add f (r.add (neg r s) x))))))) ≡ r.add a (r.add b (r.add c (r.add d (r.add e (r.add f x)))))
  past6 s a b c d e f x = add_left_comm s a _ ∙ ap (r.add a) (past5 s b c d e f x)

  pub last6 : (s a b c d e f : S) → r.add s (r.add a (r.add b (r.add c (r.add d (r.add e (r.add f (neg r s))))))) ≡ r.add a (r.add b (r.add c (r.add d (r.add e f))))
  last6 s a b c d e f = add_left_comm s a _ ∙ ap (r.add a) (last5 s b c d e f)

  module _ (c : ConjugationLaws r) where
    pub conj_zero : r.conj r.zero ≡ r.zero
    conj_zero = add_cancel _ _ (r.conj r.zero) (sym (c.conj_add r.zero r.zero) ∙ ap r.conj (zero_add r.zero) ∙ sym (zero_add _))

    pub conj_one : r.conj r.one ≡ r.one
    conj_one = sym (one_mul _) ∙ ap (λ s. r.mul s (r.conj r.one)) (sym (c.conj_conj r.one)) ∙ sym (c.conj_mul (r.conj r.one) r.one) ∙ ap r.conj (mul_one _) ∙ c.conj_conj r.one

    pub conj_sub : (x y : S) → r.conj (r.sub x y) ≡ r.sub (r.conj x) (r.conj y)
    conj_sub x y = add_cancel _ _ (r.conj y) (sym (c.conj_add (r.sub x y) y) ∙ ap r.conj (l.sub_add x y) ∙ sym (l.sub_add (r.conj x) (r.conj y)))

-- multiplies out, and sorts the factors of each product
pub ruleset products = (mul_assoc, mul_add, add_mul, mul_neg, neg_mul, mul_comm, mul_left_comm)

-- multiplies out, sorts factors and summands, and cancels
pub ruleset ring = (sub_is, one_mul, mul_one, zero_mul, mul_zero, zero_add, add_zero, mul_assoc, mul_add, add_mul, mul_neg, neg_mul, neg_add, neg_neg, neg_zero, add_neg_self, neg_add_self, add_neg_cancel, neg_add_cancel, past1, last1, past2, last2, past3, last3, past4, last4, past5, last5, past6, last6, add_assoc, mul_comm, mul_left_comm, add_comm, add_left_comm)
