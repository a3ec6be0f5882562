-- What sums and differences share, so that both sides of a stage are one lemma.
use Rattle.std.proofs.Common.{◌≡◌}
use Rattle.kinds.specs.Samples.{RingOps, RingLaws, ConjugationLaws}
use Rattle.kinds.specs.Rings.{add_mul, conj_sub}
use Rattle.sums.specs.declared.Side.{Side}
use Rattle.sums.specs.declared.Side.TheVariants.{A, B}
use Rattle.sums.proofs.Rings.{sub_mul, middle, middle_sub, sub_zero}
use Rattle.golay.specs.Stages.{blend}

pub record Blend {S : Type 0} (k : RingOps S) (op : S → S → S) : Type 0 where
  pub of_zeros : op k.zero k.zero ≡ k.zero
  pub conj_op : (x y : S) → k.conj (op x y) ≡ op (k.conj x) (k.conj y)
  pub op_mul : (x y z : S) → k.mul (op x y) z ≡ op (k.mul x z) (k.mul y z)
  pub op_add : (x y z t : S) → op (k.add x y) (k.add z t) ≡ k.add (op x z) (op y t)

pub blends : {S : Type 0} {k : RingOps S} → RingLaws k → ConjugationLaws k → (side : Side) → Blend k (blend k side)
blends ring bar A = record { of_zeros = ring.zero_add _; conj_op = bar.conj_add; op_mul = add_mul ring; op_add = middle ring }
blends ring bar B = record { of_zeros = sub_zero ring _; conj_op = conj_sub ring bar; op_mul = sub_mul ring; op_add = middle_sub ring }
