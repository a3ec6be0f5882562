-- The bytes of the line of a code.
use Rattle.std.specs.Prelude.{ℕ, zero, suc, List, [], ◌++◌}
use Rattle.kinds.specs.Samples.{WordOps}
use Rattle.sums.specs.declared.Side.{Side}
use Rattle.sums.specs.Sides.{name_of}
use Rattle.kinds.specs.declared.kind_name.KindName.{KindName}
use Rattle.codes.specs.Texts.{entry_of}

-- a sample by its words
abbrev pub entry_in : {S : Type 0} → KindName → WordOps S → S → List ℕ
entry_in kind w x = entry_of kind (w.first x) (w.second x)

-- the entries at the places below n
abbrev pub entries_below : {S : Type 0} → KindName → WordOps S → (ℕ → S) → ℕ → List ℕ
entries_below kind w code zero = []
entries_below kind w code (suc k) = entries_below kind w code k ++ entry_in kind w (code k)

-- the name of a code, and its entries
abbrev pub line_of : {S : Type 0} → KindName → WordOps S → Side → (ℕ → S) → ℕ → List ℕ
line_of kind w side code span = name_of side ++ entries_below kind w code span
