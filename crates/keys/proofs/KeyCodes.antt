-- The codes of the cascade of a key are the codes of the key.
use Rattle.std.proofs.Common.{◌≡◌, ℕ, ◌*◌, ap, ◌∙◌}
use Rattle.kinds.specs.Kinds.{KindModel}
use Rattle.sums.specs.declared.Side.{Side}
use Rattle.sums.specs.Codes.{Codes, Pending, codes}
use Rattle.sums.specs.Sums.{ones}
use Rattle.keys.specs.Plans.{Plan}
use Rattle.keys.specs.Recursion.{CascadeOfKey}
use Rattle.keys.specs.KeyCodes.{key_span, key_codes}

pub codes_of_key : {S : Type 0} (k : KindModel S) (p : Plan) (c : Codes S) (pending : Pending S) → CascadeOfKey k p c pending → c ≡ key_codes k p
codes_of_key k p c pending l =
    ap (λ (f : Side → ℕ → ℕ). codes c.span c.energy c.entry f) l.counts
    ∙ ap (λ n. codes c.span n c.entry (λ side. ones c.span)) l.energy
    ∙ ap (λ n. codes n (2 * n) c.entry (λ side. ones n)) l.span
    ∙ ap (λ f. codes (key_span k.polar.count p) (2 * key_span k.polar.count p) f (λ side. ones (key_span k.polar.count p))) l.code
