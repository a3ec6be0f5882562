-- The codes of a key as one record.
use Rattle.std.specs.Prelude.{ℕ, ◌*◌, ◌^◌, length}
use Rattle.kinds.specs.Kinds.{KindModel}
use Rattle.sums.specs.Codes.{Codes, codes}
use Rattle.sums.specs.Sums.{ones}
use Rattle.keys.specs.Plans.{Plan, stages_for}
use Rattle.keys.specs.Recursion.{key_code}

-- the span of the codes of a key, for a kind with this number of roots: the kernel times two for each stage that works
abbrev pub key_span : ℕ → Plan → ℕ
key_span roots p = p.kernel * 2 ^ length (stages_for roots p)

-- the codes of the recursion, with an energy of twice the span, and each entry one root
abbrev pub key_codes : {S : Type 0} → KindModel S → Plan → Codes S
key_codes k p = codes (key_span k.polar.count p) (2 * key_span k.polar.count p) (key_code k p) (λ side. ones (key_span k.polar.count p))
