-- The bytes of the line that says why a sounding file is refused.
use Rattle.std.specs.Prelude.{ℕ, List, ◌++◌, codes}
use Rattle.layout.specs.declared.refusal.FileRefusal.{FileRefusal}
use Rattle.layout.specs.Refusals.{refusal_text}

-- number, layer, place and byte, in decimal
abbrev pub line_of : FileRefusal → List ℕ
line_of e = refusal_text e ++ codes "\n"
