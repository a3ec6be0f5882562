-- The bytes of a sheet: four lines.
use Rattle.std.specs.Prelude.{ℕ, ◌*◌, List, ◌++◌, codes, decimal}
use Rattle.kinds.specs.Kinds.{KindModel}
use Rattle.kinds.specs.Samples.{WordOps}
use Rattle.sums.specs.declared.Side.{Side}
use Rattle.sums.specs.declared.Side.TheVariants.{A, B}
use Rattle.keys.specs.Plans.{Plan}
use Rattle.keys.specs.KeyCodes.{key_span}
use Rattle.keys.specs.Recursion.{key_code}
use Rattle.kinds.specs.declared.kind_name.KindName.{KindName}
use Rattle.codes.specs.Lines.{line_of}

abbrev pub sheet_with : ℕ → ℕ → List ℕ → List ℕ → List ℕ
sheet_with span energy a b =
    codes "span " ++ (decimal span
    ++ (codes "\nenergy " ++ (decimal energy
    ++ (codes "\n" ++ (a
    ++ (codes "\n" ++ (b
    ++ codes "\n")))))))

-- a pair by its span, its energy and its codes
abbrev pub sheet_of : {S : Type 0} → KindName → WordOps S → ℕ → ℕ → (Side → ℕ → S) → List ℕ
sheet_of kind w span energy code = sheet_with span energy (line_of kind w A (code A) span) (line_of kind w B (code B) span)

-- the sheet of a key: the codes of the recursion, and an energy of twice the span
abbrev pub key_sheet : {S : Type 0} → KindName → KindModel S → Plan → List ℕ
key_sheet kind k p = sheet_of kind k.encoding (key_span k.polar.count p) (2 * key_span k.polar.count p) (key_code k p)
