-- When a key is refused: the tests from top to bottom.
use Rattle.std.specs.Prelude.{ℕ, ◌+◌, Bool, cond, ◌||◌, List, [], ◌∷◌, map, length, Some, None, Ok, Err, Option, Result, ◌==◌, nat_le, nat_lt}
use Rattle.delays.specs.Sets.{is_set}
use Rattle.keys.specs.declared.stage.KeyStage.{KeyStage}
use Rattle.keys.specs.declared.refusal.KeyRefusal.{KeyRefusal}
use Rattle.keys.specs.declared.refusal.KeyRefusal.TheVariants.{Kernel, StageCount, Delays, WeightCode}

-- accepted, or refused with a reason
abbrev pub Verdict : Type 0
Verdict = Result (Unit {0}) KeyRefusal

-- go on if the test holds, else refuse
abbrev pub require : Bool → KeyRefusal → Verdict → Verdict
require test e rest = cond test rest (Err e)

abbrev pub is_kernel : ℕ → Bool
is_kernel kernel = kernel == 1 || kernel == 10

-- how many stages a kernel allows
abbrev pub most_stages : ℕ → ℕ
most_stages kernel = cond (kernel == 1) 7 4

abbrev pub delays_of : List KeyStage → List ℕ
delays_of stages = map (λ (s : KeyStage). s.delay) stages

-- the place of the first code that is not below the number of roots, where the list begins at place i
abbrev pub first_wrong : ℕ → ℕ → List KeyStage → Option ℕ
first_wrong roots i [] = None
first_wrong roots i (s ∷ ss) = cond (nat_lt s.code roots) (first_wrong roots (i + 1) ss) (Some i)

abbrev pub codes_judged : Option ℕ → Verdict
codes_judged (Some stage) = Err (WeightCode stage)
codes_judged None = Ok tt

-- a key with these numbers, for a kind with this number of roots
abbrev pub judged : ℕ → ℕ → List KeyStage → Verdict
judged roots kernel stages =
    require (is_kernel kernel) Kernel
    (require (nat_le (length stages) (most_stages kernel)) StageCount
    (require (is_set kernel (delays_of stages)) Delays
    (codes_judged (first_wrong roots 0 stages))))

-- the first test alone, and the first two
abbrev pub kernel_judged : ℕ → Verdict
kernel_judged kernel = require (is_kernel kernel) Kernel (Ok tt)

abbrev pub count_judged : ℕ → ℕ → Verdict
count_judged kernel stages =
    require (is_kernel kernel) Kernel
    (require (nat_le stages (most_stages kernel)) StageCount
    (Ok tt))
