-- The answers of a sounder over the pair of a key.
use Rattle.std.specs.Prelude.{List}
use Rattle.kinds.specs.Kinds.{KindModel}
use Rattle.keys.specs.Plans.{Plan}
use Rattle.keys.specs.KeyCodes.{key_codes}
use Rattle.calls.specs.declared.call.Call.{Call}
use Rattle.calls.specs.declared.call.Answer.{Answer}
use Rattle.calls.specs.Runs.{new, answers}

-- what a new sounder over the pair of the key answers to these calls
abbrev pub key_answers : {S : Type 0} → KindModel S → Plan → List Call → List Answer
key_answers k p calls = answers k (key_codes k p) new calls
