-- The laws of a ring's arithmetic and conjugate hold of the samples that its elements are wrapped into.
use Rattle.std.specs.Prelude.{◌≡◌}
use Rattle.std.proofs.Common.{sym, ap, ◌∙◌}
use Rattle.kinds.specs.Samples.{RingOps, RingLaws, ConjugationLaws}
use Rattle.kinds.specs.Exact.{through}

-- an operand may be wrapped before the operation or not, and a sample's element gives that sample back
pub record Wraps {E S : Type 0} (e : RingOps E) (wrap : E → S) (plain : S → E) : Type 0 where
  pub back : (x : S) → wrap (plain x) ≡ x
  pub add_wrap : (a b : E) → wrap (e.add (plain (wrap a)) b) ≡ wrap (e.add a b)
  pub mul_wrap : (a b : E) → wrap (e.mul (plain (wrap a)) b) ≡ wrap (e.mul a b)
  pub conj_wrap : (a : E) → wrap (e.conj (plain (wrap a))) ≡ wrap (e.conj a)

module _ {E S : Type 0} (e : RingOps E) (wrap : E → S) (plain : S → E) (l : RingLaws e) (c : ConjugationLaws e) (w : Wraps e wrap plain) where
  add_right : (a b : E) → wrap (e.add a (plain (wrap b))) ≡ wrap (e.add a b)
  add_right a b = ap wrap (l.add_comm a _) ∙ w.add_wrap b a ∙ ap wrap (l.add_comm b a)

  mul_right : (a b : E) → wrap (e.mul a (plain (wrap b))) ≡ wrap (e.mul a b)
  mul_right a b = ap wrap (l.mul_comm a _) ∙ w.mul_wrap b a ∙ ap wrap (l.mul_comm b a)

  add_two : (a b : E) → wrap (e.add (plain (wrap a)) (plain (wrap b))) ≡ wrap (e.add a b)
  add_two a b = w.add_wrap a (plain (wrap b)) ∙ add_right a b

  mul_two : (a b : E) → wrap (e.mul (plain (wrap a)) (plain (wrap b))) ≡ wrap (e.mul a b)
  mul_two a b = w.mul_wrap a (plain (wrap b)) ∙ mul_right a b

  pub ring_through : RingLaws (through e wrap plain)
  ring_through = record {
    add_assoc = λ x y z. w.add_wrap _ _ ∙ ap wrap (l.add_assoc (plain x) (plain y) (plain z)) ∙ sym (add_right _ _);
    add_comm = λ x y. ap wrap (l.add_comm (plain x) (plain y));
    zero_add = λ x. w.add_wrap _ _ ∙ ap wrap (l.zero_add (plain x)) ∙ w.back x;
    sub_add = λ x y. w.add_wrap _ _ ∙ ap wrap (l.sub_add (plain x) (plain y)) ∙ w.back x;
    mul_assoc = λ x y z. w.mul_wrap _ _ ∙ ap wrap (l.mul_assoc (plain x) (plain y) (plain z)) ∙ sym (mul_right _ _);
    mul_comm = λ x y. ap wrap (l.mul_comm (plain x) (plain y));
    one_mul = λ x. w.mul_wrap _ _ ∙ ap wrap (l.one_mul (plain x)) ∙ w.back x;
    mul_add = λ x y z. mul_right _ _ ∙ ap wrap (l.mul_add (plain x) (plain y) (plain z)) ∙ sym (add_two _ _);
  }

  pub conjugation_through : ConjugationLaws (through e wrap plain)
  conjugation_through = record {
    conj_add = λ x y. w.conj_wrap _ ∙ ap wrap (c.conj_add (plain x) (plain y)) ∙ sym (add_two _ _);
    conj_mul = λ x y. w.conj_wrap _ ∙ ap wrap (c.conj_mul (plain x) (plain y)) ∙ sym (mul_two _ _);
    conj_conj = λ x. w.conj_wrap _ ∙ ap wrap (c.conj_conj (plain x)) ∙ w.back x;
  }
