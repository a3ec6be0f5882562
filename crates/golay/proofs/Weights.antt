-- When a stage rests and when it works.
use Rattle.std.proofs.Common.{◌≡◌, ℕ, ◌^◌, ◌<◌, ◌≤◌, Bool, true, false, cond, ◌&&◌, ltb, leb, Some, None, Option, refl, ◌∙◌, arith}
use Rattle.std.proofs.lemmas.Bool.{and_parts, and_from, leb-true, ltb-true, le-leb, lt-ltb, cond-true}
use Rattle.kinds.specs.Encodings.{same_some}
use Rattle.kinds.specs.Samples.{PolarOps}
use Rattle.sums.specs.Codes.{Codes}
use Rattle.golay.specs.Stages.{fits_over, weight_of}

-- a stage that works, and its weight
pub record Works {S : Type 0} (r : PolarOps S) (d code : ℕ) (c : Codes S) (w : S) : Type 0 where
  pub delay_least : 1 ≤ d
  pub delay_most : d ≤ 128
  pub energy_most : c.energy ≤ 2 ^ 19
  pub span_most : c.span ≤ 3968
  pub code_most : code < r.count
  pub weight_is : w ≡ r.root code

some_cond : {S : Type 0} (b : Bool) (o : Option S) (w : S) → Some w ≡ cond b o None → (b ≡ true) × (Some w ≡ o)
some_cond true o w e = (refl, e)
some_cond false o w e = let z : ◌≡◌ {A = ℕ} 0 1 = cc in absurd (omega arith)

pub works_from_weight : {S : Type 0} (r : PolarOps S) (d code : ℕ) (c : Codes S) (w : S) → Some w ≡ weight_of r d code c → Works r d code c w
works_from_weight r d code c w e =
    let outer = some_cond (fits_over d c) _ w e in
    let inner = some_cond (ltb code r.count) _ w outer.1 in
    let three = and_parts (leb 1 d && leb d 128 && leb c.energy (2 ^ 19)) (leb c.span 3968) outer.0 in
    let two = and_parts (leb 1 d && leb d 128) (leb c.energy (2 ^ 19)) three.0 in
    let one = and_parts (leb 1 d) (leb d 128) two.0 in
    record {
      delay_least = leb-true 1 d one.0;
      delay_most = leb-true d 128 one.1;
      energy_most = leb-true c.energy (2 ^ 19) two.1;
      span_most = leb-true c.span 3968 three.1;
      code_most = ltb-true code r.count inner.0;
      weight_is = same_some w (r.root code) inner.1;
    }

pub weight_from_works : {S : Type 0} (r : PolarOps S) (d code : ℕ) (c : Codes S) → Works r d code c (r.root code) → weight_of r d code c ≡ Some (r.root code)
weight_from_works r d code c h =
    cond-true _ _ _ (and_from _ _ (and_from _ _ (and_from _ _ (le-leb 1 d h.delay_least) (le-leb d 128 h.delay_most)) (le-leb c.energy (2 ^ 19) h.energy_most)) (le-leb c.span 3968 h.span_most))
    ∙ cond-true _ _ _ (lt-ltb code r.count h.code_most)
