-- How many ones come to each place after delays that pass the test.
use Rattle.std.proofs.Common.{◌≡◌, ℕ, zero, suc, ◌+◌, ◌-◌, ◌*◌, ◌^◌, ◌≤◌, true, false, cond, ltb, List, length, sym, refl, ap, ◌∙◌, ap₂, ⊎_elim, arith}
use mathlib.Core.Path.{fun_ext}
use Rattle.std.proofs.lemmas.Bool.{cases_lt, lt-ltb, le-ltb, cond-true, cond-false}
use Rattle.sums.specs.Sums.{late, ones}
use Rattle.sums.proofs.Places.{late_before, late_after}
use Rattle.delays.specs.Sets.{doublings, is_set, spread, folded}
use Rattle.delays.proofs.Orders.{any_order}
use Rattle.delays.proofs.Sums.{product_step}

-- a sum delayed is the sum of both delayed
late_add : (d : ℕ) (f g : ℕ → ℕ) (j : ℕ) → late 0 d (λ i. f i + g i) j ≡ late 0 d f j + late 0 d g j
late_add d f g j =
    elim (ltb j d) as (λ t. cond t 0 (f (j - d) + g (j - d)) ≡ cond t 0 (f (j - d)) + cond t 0 (g (j - d))) [ true ↦ refl | false ↦ refl ]

-- two delays are one delay by their sum
late_late : (d e : ℕ) (c : ℕ → ℕ) (j : ℕ) → late 0 d (late 0 e c) j ≡ late 0 (d + e) c j
late_late d e c j =
    ⊎_elim
    (λ lt. late_before 0 d (late 0 e c) j lt ∙ sym (late_before 0 (d + e) c j (omega arith)))
    (λ le. late_after 0 d (late 0 e c) (j - d) j (omega arith) ∙ ⊎_elim
    (λ lt. late_before 0 e c (j - d) lt ∙ sym (late_before 0 (d + e) c j (omega arith)))
    (λ le₂. late_after 0 e c (j - d - e) (j - d) (omega arith) ∙ sym (late_after 0 (d + e) c (j - d - e) j (omega arith)))
    (cases_lt (j - d) e))
    (cases_lt j d)

-- two spreads commute
spread_swap : (d e : ℕ) (c : ℕ → ℕ) → spread d (spread e c) ≡ spread e (spread d c)
spread_swap d e c =
    fun_ext (λ j. let both : late 0 d (late 0 e c) j ≡ late 0 e (late 0 d c) j = late_late d e c j ∙ ap (λ t. late 0 t c j) (omega arith) ∙ sym (late_late e d c j) in
    let x = late_add d c (late 0 e c) j in
    let y = late_add e c (late 0 d c) j in
    omega (arith, x, y, both))

-- n ones spread by n are twice as many ones
spread_ones : (n : ℕ) → spread n (ones n) ≡ ones (2 * n)
spread_ones n =
    fun_ext (λ j. ⊎_elim
    (λ lt. ap₂ ◌+◌ (cond-true _ _ _ (lt-ltb j n lt)) (late_before 0 n (ones n) j lt) ∙ sym (cond-true _ _ _ (lt-ltb j (2 * n) (omega arith))))
    (λ le. ap₂ ◌+◌ (cond-false _ _ _ (le-ltb j n le)) (late_after 0 n (ones n) (j - n) j (omega arith)) ∙ ⊎_elim
    (λ lt. ap (λ t. 0 + t) (cond-true _ _ _ (lt-ltb (j - n) n lt)) ∙ sym (cond-true _ _ _ (lt-ltb j (2 * n) (omega arith))))
    (λ le₂. ap (λ t. 0 + t) (cond-false _ _ _ (le-ltb (j - n) n le₂)) ∙ sym (cond-false _ _ _ (le-ltb j (2 * n) (omega arith))))
    (cases_lt (j - n) n))
    (cases_lt j n))

-- ones spread by each product in turn
spread_products : (n d : ℕ) → folded spread (doublings d n) (ones d) ≡ ones (d * 2 ^ n)
spread_products zero d = ap ones (omega arith)
spread_products (suc n) d = ap (folded spread (doublings (2 * d) n)) (spread_ones d) ∙ spread_products n (2 * d) ∙ ap ones (product_step d n)

-- as many ones as the kernel, spread by each delay, are one at each place of the span and nothing after it
pub set_counts : (kernel : ℕ) (ds : List ℕ) → 1 ≤ kernel → is_set kernel ds ≡ true → folded spread ds (ones kernel) ≡ ones (kernel * 2 ^ length ds)
set_counts kernel ds pos h = any_order spread spread_swap kernel ds (ones kernel) pos h ∙ spread_products (length ds) kernel
