-- The product of two words.
use Rattle.std.proofs.Common.{ap, ◌∙◌, w64}
use Rattle.std.specs.Int.{int_wrap}
use Rattle.std.proofs.lemmas.Int.{wrapping_mul_is}
use Rattle.kinds.specs.Words.{again, mul_same}
use Rattle.kinds.proofs.word.wrapping_mul.Goals as goal

pub returns : goal.returns
returns c = λ y z p q. ap (int_wrap w64) (wrapping_mul_is w64 c.args.a c.args.b c.ranges.a c.ranges.b) ∙ again _ ∙ mul_same _ _ y z p q
