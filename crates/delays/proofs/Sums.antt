-- The sum and the bounds of delays that pass the test.
use Rattle.std.proofs.Common.{◌≡◌, ℕ, zero, suc, ◌+◌, ◌*◌, ◌^◌, ◌≤◌, true, List, length, ap, ◌∙◌, arith}
use Rattle.std.specs.List.{AllByRecursion}
use Rattle.std.proofs.lemmas.Nat.{pow_pos, mul-le}
use Rattle.std.proofs.ByRecursion.{all_shuffled}
use Rattle.delays.specs.Sets.{doublings, is_set, folded}
use Rattle.delays.proofs.Orders.{any_order, set_shuffled}

-- twice the number times a power of two is the number times the next power
pub product_step : (d n : ℕ) → 2 * d * 2 ^ n ≡ d * 2 ^ suc n
product_step d n =
    let more : 2 * d * 2 ^ n ≡ d * (2 * 2 ^ n) = omega arith in
    let power : 2 * 2 ^ n ≡ 2 ^ suc n = omega arith in
    more ∙ ap (λ t. d * t) power

-- a number with its products added
sum_products : (n d : ℕ) → folded (λ d x. x + d) (doublings d n) d ≡ d * 2 ^ n
sum_products zero d = omega arith
sum_products (suc n) d =
    let twice : d + d ≡ 2 * d = omega arith in
    ap (folded (λ d x. x + d) (doublings (2 * d) n)) twice ∙ sum_products n (2 * d) ∙ product_step d n

-- the kernel with the delays added is the kernel times a power of two
pub set_sum : (kernel : ℕ) (ds : List ℕ) → 1 ≤ kernel → is_set kernel ds ≡ true → folded (λ d x. x + d) ds kernel ≡ kernel * 2 ^ length ds
set_sum kernel ds pos h = any_order (λ d x. x + d) (λ d e x. omega arith) kernel ds kernel pos h ∙ sum_products (length ds) kernel

-- if the last product doubled is at most 256, each product is between 1 and 128
products_bounds : (n d : ℕ) → 1 ≤ d → d * 2 ^ n ≤ 256 → AllByRecursion (λ d. (1 ≤ d) × (d ≤ 128)) (doublings d n)
products_bounds zero d pos most = tt
products_bounds (suc n) d pos most =
    let whole : 2 * d * 2 ^ n ≤ 256 = rw product_step most in
    let least : 2 * d * 1 ≤ 2 * d * 2 ^ n = mul-le (2 * d) 1 (2 * d) (2 ^ n) (omega arith) (pow_pos n) in
    ((pos, omega arith), products_bounds n (2 * d) (omega arith) whole)

-- each delay is between 1 and 128 if the span is at most 256
pub set_bounds : (kernel : ℕ) (ds : List ℕ) → 1 ≤ kernel → kernel * 2 ^ length ds ≤ 256 → is_set kernel ds ≡ true → AllByRecursion (λ d. (1 ≤ d) × (d ≤ 128)) ds
set_bounds kernel ds pos most h =
    all_shuffled (λ d. (1 ≤ d) × (d ≤ 128)) (doublings kernel (length ds)) ds (set_shuffled kernel ds pos h) (products_bounds (length ds) kernel pos most)
