-- An answer as one number.
use Rattle.std.specs.Prelude.{ℕ, ℤ, pos, neg_ℤ, Ok, Err, Result}
use Rattle.layout.specs.declared.refusal.FileRefusal.{FileRefusal}
use Rattle.layout.specs.Refusals.{number}

-- the length of a report, or minus the number of a refusal
abbrev pub as_number : Result ℕ FileRefusal → ℤ
as_number (Ok n) = pos n
as_number (Err e) = neg_ℤ (pos (number e))
