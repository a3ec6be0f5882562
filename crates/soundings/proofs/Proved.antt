-- Every case of the list holds: both sides of each claim compute to one value.
use Rattle.std.specs.Prelude.{◌≡◌, ℕ, ◌≤◌, Bool, false, cond, Some, None, nat_lt, refl}
use Rattle.std.specs.Int.{int_wrap}
use Rattle.std.specs.List.{AllByRecursion}
use Rattle.std.proofs.Common.{arith, ap}
use Rattle.sums.specs.Rooms.{rounded}
use Rattle.calls.specs.declared.refusal.Refusal.TheVariants.{Magnitude}
use Rattle.layout.specs.declared.refusal.FileRefusal.TheVariants.{Sounder, Buffer}
use Rattle.soundings.specs.Cases.{Claims}
use Rattle.soundings.specs.Worked.{cases}

-- a buffer that has place for n bytes
placed : (n space : ℕ) → n ≤ space → nat_lt space n ≡ false
placed n space h = grind arith

-- the claim of a case, and the claims of the cases behind it
infixr 5 ◌&◌
abbrev ◌&◌ : {P Q : Type 0} → P → Q → P × Q
p & q = (p, q)

pub all_hold : AllByRecursion Claims cases
unfolding int_wrap rounded
all_hold =
    (refl, record { energy_is = refl; code_a = refl; code_b = refl })
    & (refl, record { energy_is = refl; code_a = refl; code_b = refl })
    & (refl, record { energy_is = refl; code_a = refl; code_b = refl })
    & (refl, record { energy_is = refl; code_a = refl; code_b = refl })
    & (refl, record { first_is = refl; second_is = refl; all_done = refl; sums_are = refl; taps_are = refl })
    & (refl, record { energy_is = refl; code_a = refl; code_b = refl })
    & (refl, record { energy_is = refl; code_a = refl; code_b = refl })
    & (refl, record { first_is = refl; second_is = refl; all_done = refl; sums_are = refl; taps_are = refl })
    & (record { kind_is = refl; plan_is = refl; room_length_is = refl; first_is = refl; second_is = refl; taps_are = refl }, record { passed = λ space h. ap (λ (b : Bool). cond b (Some (Buffer 22)) None) (placed 10 space h); bytes_are = refl })
    & (refl, record { first_is = refl; second_is = refl; all_done = refl; sums_are = refl; taps_are = refl })
    & refl
    & (λ space h. refl)
    & (λ space h. ap (λ (b : Bool). cond b (Some (Buffer 22)) (Some (Sounder (Magnitude 1) 12))) (placed 10 space (omega (arith, h))))
    & tt
