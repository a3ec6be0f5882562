-- Tests in their order, and the refusal that they come to.
use Rattle.std.specs.Prelude.{◌≡◌, ℕ, ◌+◌, Bool, true, false, cond, List, [], ◌∷◌, ◌++◌, Some, None, Ok, Err, Option, Result, MatchResult}
use Rattle.std.specs.List.{AllByRecursion}
use Rattle.layout.specs.declared.refusal.FileRefusal.{FileRefusal}

-- a test: the condition under which the refusal comes
abbrev pub Test : Type 0
Test = Bool × FileRefusal

-- the tests of each element of a list whose first has place i
abbrev pub each : {X : Type 0} → (ℕ → X → List Test) → ℕ → List X → List Test
each f i [] = []
each f i (x ∷ xs) = f i x ++ each f (i + 1) xs

-- the first refusal whose condition holds
abbrev pub first_refusal : List Test → Option FileRefusal
first_refusal [] = None
first_refusal (t ∷ ts) = cond t.0 (Some t.1) (first_refusal ts)

-- the refusal, or else the value
abbrev pub unless : {X : Type 0} → Option FileRefusal → X → Result X FileRefusal
unless (Some e) x = Err e
unless None x = Ok x

-- an answer that the tests decide: refused with the first refusal that comes, or else accepted with a value of which P holds
abbrev pub Decided : {X : Type 0} → List Test → Result X FileRefusal → (X → Type 0) → Type 0
Decided ts r P = MatchResult r (λ x. (first_refusal ts ≡ None) × P x) (λ e. first_refusal ts ≡ Some e)

abbrev pub Passes : Test → Type 0
Passes t = t.0 ≡ false

-- e is the refusal of a test whose condition holds, and every test before that one is passed
pub record Comes (ts : List Test) (e : FileRefusal) : Type 0 where
  pub before : List Test
  pub after : List Test
  pub split : ts ≡ before ++ (true, e) ∷ after
  pub passed : AllByRecursion Passes before

-- accepted, and every test is passed; or refused, and the refusal is the first that comes
abbrev pub Ordered : {X : Type 0} → List Test → Result X FileRefusal → Type 0
Ordered ts (Ok x) = AllByRecursion Passes ts
Ordered ts (Err e) = Comes ts e
