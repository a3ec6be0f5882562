-- The negation of a word.
use Rattle.std.proofs.Common.{◌≡◌, neg_ℤ, ap, ◌∙◌, w64, to_z, of_z, rules}
use Rattle.std.specs.Int.{int_wrap}
use Rattle.std.proofs.lemmas.Int.{wraps}
use Rattle.kinds.specs.Words.{again, neg_same}
use Rattle.kinds.proofs.word.wrapping_neg.Goals as goal

pub returns : goal.returns
returns c = λ z p.
    let f = c.ranges.a in
    let e : to_z w64 (of_z w64 c.wrapping_neg.result) ≡ int_wrap w64 (neg_ℤ c.args.a) = search (rules, wraps) in
    ap (int_wrap w64) e ∙ again _ ∙ neg_same _ z p
