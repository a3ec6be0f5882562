-- The places of a list of stages after a change.
use Rattle.std.proofs.Common.{◌≡◌, ℕ, ◌≤◌, List, ◌++◌, length, drop, replicate, ◌∙◌, arith, length-append, length-drop}
use Rattle.std.proofs.lemmas.List.{drop_at, drop-replicate}
use Rattle.keys.specs.declared.stage.KeyStage.{KeyStage}
use Rattle.keys.specs.StageLists.{RestsPast, at_rest}

-- a list is laid over the front of seven places that rest
pub front_laid : (n : ℕ) (stages : List KeyStage) → length stages ≡ n → n ≤ 7 → RestsPast n (stages ++ drop n (replicate 7 at_rest))
front_laid n stages e few = record {
  few = few;
  seven = length-append stages (drop n (replicate 7 at_rest)) ∙ omega (arith, length-drop n (replicate 7 at_rest));
  rest = drop_at stages (drop n (replicate 7 at_rest)) n e ∙ drop-replicate n 7 at_rest;
}
