-- The sheet of a pair that has the codes of a key.
use Rattle.std.proofs.Common.{◌≡◌, ℕ, ◌*◌, ap, ◌∙◌}
use Rattle.kinds.specs.Kinds.{KindModel}
use Rattle.sums.specs.declared.Side.{Side}
use Rattle.keys.specs.Plans.{Plan}
use Rattle.keys.specs.Recursion.{key_code}
use Rattle.kinds.specs.declared.kind_name.KindName.{KindName}
use Rattle.keys.specs.KeyCodes.{key_span}
use Rattle.codes.specs.Sheets.{sheet_of, key_sheet}

pub sheet_of_key : {S : Type 0} (kind : KindName) (k : KindModel S) (p : Plan) (span energy : ℕ) (code : Side → ℕ → S) → code ≡ key_code k p → span ≡ key_span k.polar.count p → energy ≡ 2 * span → sheet_of kind k.encoding span energy code ≡ key_sheet kind k p
sheet_of_key kind k p span energy code is_code is-span is-energy =
    ap (sheet_of kind k.encoding span energy) is_code
    ∙ ap (λ n. sheet_of kind k.encoding span n (key_code k p)) is-energy
    ∙ ap (λ n. sheet_of kind k.encoding n (2 * n) (key_code k p)) is-span
