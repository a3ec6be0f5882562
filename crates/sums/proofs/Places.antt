-- Lists at a place of which it is known where it lies.
use Rattle.std.proofs.Common.{◌≡◌, ℕ, ◌+◌, ◌-◌, ◌<◌, ◌≤◌, ap, ◌∙◌, arith}
use Rattle.std.proofs.lemmas.Bool.{lt-ltb, le-ltb, cond-true, cond-false}
use Rattle.kinds.specs.Samples.{RingOps}
use Rattle.sums.specs.Sums.{below, joined, late}
use Rattle.sums.specs.Codes.{reversed}

pub below_outside : {S : Type 0} (n : ℕ) (f : ℕ → S) (none : S) (j : ℕ) → n ≤ j → below n f none j ≡ none
below_outside n f none j h = cond-false _ _ _ (le-ltb j n h)

pub joined_first : {S : Type 0} (d : ℕ) (f g : ℕ → S) (j : ℕ) → j < d → joined d f g j ≡ f j
joined_first d f g j h = cond-true _ _ _ (lt-ltb j d h)

pub joined_second : {S : Type 0} (d : ℕ) (f g : ℕ → S) (i j : ℕ) → j ≡ d + i → joined d f g j ≡ g i
joined_second d f g i j h = cond-false _ _ _ (le-ltb j d (omega arith)) ∙ ap g (omega arith)

pub late_before : {S : Type 0} (z : S) (d : ℕ) (g : ℕ → S) (j : ℕ) → j < d → late z d g j ≡ z
late_before z d g j h = joined_first d (λ i. z) g j h

pub late_after : {S : Type 0} (z : S) (d : ℕ) (g : ℕ → S) (i j : ℕ) → j ≡ d + i → late z d g j ≡ g i
late_after z d g i j h = joined_second d (λ i. z) g i j h

pub late_outside : {S : Type 0} (z : S) (d n : ℕ) (f : ℕ → S) → ((j : ℕ) → n ≤ j → f j ≡ z) → (j : ℕ) → n + d ≤ j → late z d f j ≡ z
late_outside z d n f out j h = late_after z d f (j - d) j (omega arith) ∙ out (j - d) (omega arith)

pub reversed_inside : {S : Type 0} (k : RingOps S) (n : ℕ) (f : ℕ → S) (i j : ℕ) → i + j + 1 ≡ n → reversed k n f j ≡ f i
reversed_inside k n f i j h = cond-true _ _ _ (lt-ltb j n (omega arith)) ∙ ap f (omega arith)

pub reversed_outside : {S : Type 0} (k : RingOps S) (n : ℕ) (f : ℕ → S) (j : ℕ) → n ≤ j → reversed k n f j ≡ k.zero
reversed_outside k n f j h = cond-false _ _ _ (le-ltb j n h)
