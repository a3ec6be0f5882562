-- The loop that takes the stages.
use Rattle.std.proofs.Common.{◌≡◌, ℕ, ◌+◌, ◌-◌, ◌*◌, List, [], ◌∷◌, ◌++◌, length, get_or, take, drop, sym, ap, ◌∙◌, ap₂, add-zero, arith}
use Rattle.std.proofs.lemmas.List.{take_rest, length-drop, get_or-drop}
use Rattle.std.proofs.lemmas.List.FromFn.{map-range_with_len_more}
use Rattle.keys.specs.declared.stage.KeyStage.{KeyStage}
use Rattle.layout.specs.Fields.{byte_at, two_bytes, stage_in, stages_in}
use Rattle.layout.proofs.Rests.{rests, rests_are}

abbrev stage : ℕ → ℕ → KeyStage
stage d c = record { delay = d; code = c }

pub past_length : (rest : List ℕ) (m : ℕ) → length (take (length rest - m) (drop m rest)) ≡ length rest - m
past_length rest m = ap length (take_rest rest m) ∙ length-drop m rest

-- rest begins at byte n of bytes
module _ (bytes rest : List ℕ) (n : ℕ) (is : rest ≡ drop n bytes) where
  pub left_length : length rest ≡ length bytes - n
  left_length = ap length is ∙ length-drop n bytes

  pub byte_in : (k : ℕ) → get_or rest k 0 ≡ byte_at bytes (n + k)
  byte_in k = ap (λ (l : List ℕ). get_or l k 0) is ∙ get_or-drop n bytes k 0

  pub byte_past : (m k : ℕ) → get_or (take (length rest - m) (drop m rest)) k 0 ≡ byte_at bytes (n + (m + k))
  byte_past m k = ap (λ (l : List ℕ). get_or l k 0) (take_rest rest m) ∙ get_or-drop m rest k 0 ∙ byte_in (m + k)

  pub room_in : get_or rest 0 0 * 256 + get_or rest 1 0 ≡ two_bytes bytes n
  room_in = ap₂ (λ a b. a * 256 + b) (byte_in 0 ∙ ap (byte_at bytes) (add-zero n)) (byte_in 1)

module _ (bytes rest : List ℕ) (i : ℕ) (is : rest ≡ drop (2 * i) bytes) where
  pub next_stage : rests (1 ∷ 1 ∷ []) rest ≡ drop (2 * (i + 1)) bytes
  next_stage = rests_are (1 ∷ 1 ∷ []) bytes rest (2 * i) is ∙ ap (λ n. drop n bytes) (omega arith)

  pub stage_is : stage (get_or rest 0 0) (get_or (take (length rest - 1) (drop 1 rest)) 0 0) ≡ stage_in bytes i
  stage_is = ap₂ stage (byte_in bytes rest (2 * i) is 0 ∙ ap (byte_at bytes) (add-zero (2 * i))) (byte_past bytes rest (2 * i) is 1 0)

  pub stages_more : (stages : List KeyStage) → stages ≡ stages_in bytes i → stages ++ stage (get_or rest 0 0) (get_or (take (length rest - 1) (drop 1 rest)) 0 0) ∷ [] ≡ stages_in bytes (i + 1)
  stages_more stages e = ap₂ (λ (ss : List KeyStage) (s : KeyStage). ss ++ s ∷ []) e stage_is ∙ sym (map-range_with_len_more (stage_in bytes) 0 i i (omega arith))
