-- The two codes of a key, by Budišin's recursion.
use Rattle.std.specs.Prelude.{◌≡◌, ℕ, ◌*◌, ◌^◌, ◌<◌, cond, List, [], ◌∷◌, length, ◌==◌}
use Rattle.kinds.specs.Samples.{RingOps, PolarOps}
use Rattle.kinds.specs.Kinds.{KindModel}
use Rattle.sums.specs.declared.Side.{Side}
use Rattle.sums.specs.declared.Side.TheVariants.{A, B}
use Rattle.sums.specs.Sums.{late, ones}
use Rattle.sums.specs.Codes.{Codes, Pending, silent}
use Rattle.golay.specs.Kernels.{unit_codes, ten_codes}
use Rattle.keys.specs.declared.stage.KeyStage.{KeyStage}
use Rattle.keys.specs.Plans.{Plan, stages_for}

-- the codes of the kernel: the ten-entry kernel for 10, else the unit kernel
abbrev pub kernel_of : {S : Type 0} → RingOps S → ℕ → Codes S
kernel_of k kernel = cond (kernel == 10) (ten_codes k) (unit_codes k)

-- one stage, with w the root of its code and d its delay: A'[j] = w · A[j] + B[j - d] and B'[j] = w · A[j] - B[j - d]
abbrev pub next_code : {S : Type 0} → KindModel S → KeyStage → (Side → ℕ → S) → Side → ℕ → S
next_code k s code A j = k.ring.add (k.ring.mul (k.polar.root s.code) (code A j)) (late k.ring.zero s.delay (code B) j)
next_code k s code B j = k.ring.sub (k.ring.mul (k.polar.root s.code) (code A j)) (late k.ring.zero s.delay (code B) j)

-- stage upon stage, the first lowest
abbrev pub recursion : {S : Type 0} → KindModel S → List KeyStage → (Side → ℕ → S) → Side → ℕ → S
recursion k [] code = code
recursion k (s ∷ ss) code = recursion k ss (next_code k s code)

-- the codes of a key for a kind
abbrev pub key_code : {S : Type 0} → KindModel S → Plan → Side → ℕ → S
key_code k p = recursion k (stages_for k.polar.count p) (kernel_of k.ring p.kernel).entry

-- x is one of the roots
abbrev pub IsRoot : {S : Type 0} → PolarOps S → S → Type 0
IsRoot r x = (c : ℕ) × (c < r.count) × (x ≡ r.root c)

-- the cascade of a key for a kind: its codes c, and what is pending in it
pub record CascadeOfKey {S : Type 0} (k : KindModel S) (p : Plan) (c : Codes S) (pending : Pending S) : Type 0 where
  -- the codes are those of the recursion
  pub code : c.entry ≡ key_code k p
  -- the span is the kernel times 2 ^ n, n the number of stages that work, and the energy is twice the span
  pub span : c.span ≡ p.kernel * 2 ^ length (stages_for k.polar.count p)
  pub energy : c.energy ≡ 2 * c.span
  -- each entry is one root
  pub counts : c.counts ≡ (λ side. ones c.span)
  pub roots : (side : Side) (j : ℕ) → j < c.span → IsRoot k.polar (c.entry side j)
  -- nothing is pending
  pub lists : pending ≡ silent k.ring
