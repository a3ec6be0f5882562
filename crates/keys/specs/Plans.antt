-- What a key holds, and which of its stages work for a kind.
use Rattle.std.specs.Prelude.{◌≡◌, ℕ, true, cond, is_ok, List, [], length, Some, None, Option, ◌==◌, nat_lt, slice_index_or}
use Rattle.keys.specs.declared.stage.KeyStage.{KeyStage}
pub use Rattle.keys.specs.StageLists.{at_rest}
use Rattle.keys.specs.Judged.{judged}

pub record Plan : Type 0 where
  pub kernel : ℕ
  pub roots : ℕ
  pub stages : List KeyStage

abbrev pub plan : ℕ → ℕ → List KeyStage → Plan
plan kernel roots stages = record { kernel = kernel; roots = roots; stages = stages }

-- a key is one that would be accepted
abbrev pub IsSound : Plan → Type 0
IsSound p = is_ok (judged p.roots p.kernel p.stages) ≡ true

-- for a kind with another number of roots than the key was filled for, all stages rest
abbrev pub stages_for : ℕ → Plan → List KeyStage
stages_for roots p = cond (p.roots == roots) p.stages []

-- the stage at a place, absent past the last
abbrev pub stage_at : List KeyStage → ℕ → Option KeyStage
stage_at stages i = cond (nat_lt i (length stages)) (Some (slice_index_or stages i at_rest)) None
