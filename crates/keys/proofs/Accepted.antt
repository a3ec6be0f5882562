-- What an accepted key has.
use Rattle.std.proofs.Common.{◌≡◌, ℕ, ◌*◌, ◌^◌, ◌≤◌, Bool, true, false, cond, eqb, leb, List, length, is_ok, Some, None, Option, refl, ap, ⊎_elim, arith, pow_mono}
use Rattle.std.proofs.lemmas.Bool.{leb-true, eqb-true, or_cases}
use Rattle.delays.specs.Sets.{is_set}
use Rattle.keys.specs.declared.stage.KeyStage.{KeyStage}
use Rattle.keys.specs.declared.refusal.KeyRefusal.{KeyRefusal}
use Rattle.keys.specs.Judged.{Verdict, require, is_kernel, most_stages, delays_of, first_wrong, codes_judged, judged}

pub record Accepted (roots kernel : ℕ) (stages : List KeyStage) : Type 0 where
  pub kernel_is : is_kernel kernel ≡ true
  pub few : length stages ≤ most_stages kernel
  pub set_is : is_set kernel (delays_of stages) ≡ true
  pub codes_are : first_wrong roots 0 stages ≡ None

-- a test was passed on the way to an acceptance
passed : (b : Bool) (e : KeyRefusal) (r : Verdict) → is_ok (require b e r) ≡ true → (b ≡ true) × (is_ok r ≡ true)
passed true e r h = (refl, h)
passed false e r h = let z : ◌≡◌ {A = ℕ} 0 1 = cc in absurd (omega arith)

no_wrong_code : (o : Option ℕ) → is_ok (codes_judged o) ≡ true → o ≡ None
no_wrong_code None h = refl
no_wrong_code (Some x) h = let z : ◌≡◌ {A = ℕ} 0 1 = cc in absurd (omega arith)

pub accepted : (roots kernel : ℕ) (stages : List KeyStage) → is_ok (judged roots kernel stages) ≡ true → Accepted roots kernel stages
accepted roots kernel stages h =
    let a = passed (is_kernel kernel) _ _ h in
    let b = passed (leb (length stages) (most_stages kernel)) _ _ a.1 in
    let c = passed (is_set kernel (delays_of stages)) _ _ b.1 in
    record {
      kernel_is = a.0;
      few = leb-true _ _ b.0;
      set_is = c.0;
      codes_are = no_wrong_code _ c.1;
    }

most_seven : (b : Bool) → cond b 7 4 ≤ 7
most_seven true = omega arith
most_seven false = omega arith

pub few_stages : (roots kernel : ℕ) (stages : List KeyStage) → is_ok (judged roots kernel stages) ≡ true → length stages ≤ 7
few_stages roots kernel stages h = omega (arith, (accepted roots kernel stages h).few, most_seven (eqb kernel 1))

-- the kernel times a power of two
pub small_span : {roots kernel : ℕ} {stages : List KeyStage} → Accepted roots kernel stages → kernel * 2 ^ length stages ≤ 160
small_span {roots} {kernel} {stages} a =
    let few = a.few in
    ⊎_elim
    (λ e. let is : kernel ≡ 1 = eqb-true kernel 1 e in
    let most : most_stages kernel ≡ 7 = ap most_stages is in
    let fewer : length stages ≤ 7 = omega arith in
    let power : 2 ^ length stages ≤ 2 ^ 7 = pow_mono fewer in
    rw is (omega arith))
    (λ e. let is : kernel ≡ 10 = eqb-true kernel 10 e in
    let most : most_stages kernel ≡ 4 = ap most_stages is in
    let fewer : length stages ≤ 4 = omega arith in
    let power : 2 ^ length stages ≤ 2 ^ 4 = pow_mono fewer in
    rw is (omega arith))
    (or_cases (eqb kernel 1) (eqb kernel 10) a.kernel_is)
