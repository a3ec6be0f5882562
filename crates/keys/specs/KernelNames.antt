-- The numbers of the two kernels.
use Rattle.std.specs.Prelude.{◌≡◌, ℕ, true, false, cond, ◌==◌, Result, MatchResult, refl}
use Rattle.keys.specs.declared.kernel.KernelName.{KernelName}
use Rattle.keys.specs.declared.kernel.KernelName.TheVariants.{Unit, Ten}
use Rattle.keys.specs.declared.refusal.KeyRefusal.{KeyRefusal}
use Rattle.keys.specs.declared.refusal.KeyRefusal.TheVariants.{Kernel}
use Rattle.keys.specs.Judged.{is_kernel}

abbrev pub number_of : KernelName → ℕ
number_of Unit = 1
number_of Ten = 10

-- the kernel with this number
abbrev pub named : ℕ → KernelName
named number = cond (number == 10) Ten Unit

pub named-number_of : (k : KernelName) → named (number_of k) ≡ k
named-number_of Unit = refl
named-number_of Ten = refl

-- the kernel with this number, or the refusal of a number that no kernel has
abbrev pub Decodes : ℕ → Result KernelName KeyRefusal → Type 0
Decodes number r = MatchResult r (λ k. (number_of k ≡ number) × (is_kernel number ≡ true)) (λ e. (e ≡ Kernel) × (is_kernel number ≡ false))
