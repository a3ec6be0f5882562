-- The bytes of an answer.
use Rattle.std.specs.Prelude.{ℕ, List, ◌++◌, ℤ, codes}
use Rattle.std.specs.Fmt.{signed_decimal}
use Rattle.calls.specs.declared.call.Answer.{Answer}
use Rattle.calls.specs.declared.call.Answer.TheVariants.{Done, Words, Refused}
use Rattle.calls.specs.Refusals.{refusal_text}

-- two words with a blank between them
abbrev pub two_words : ℤ → ℤ → List ℕ
two_words x y = signed_decimal x ++ (codes " " ++ signed_decimal y)

abbrev pub answer_text : Answer → List ℕ
answer_text Done = codes "ok"
answer_text (Words x y) = two_words x y
answer_text (Refused r) = refusal_text r
