-- Sums over the first places of a row.
use Rattle.std.proofs.Common.{◌≡◌, ℕ, zero, suc, ◌+◌, ◌-◌, ◌<◌, ◌≤◌, sym, refl, ap, ◌∙◌, ap₂, ⊎_elim, add-zero, add_assoc, add-suc, add_comm, suc-add, zero-add, arith}
use Rattle.std.proofs.lemmas.Bool.{cases_lt}
use Rattle.kinds.specs.Samples.{RingOps, RingLaws}
use Rattle.sums.specs.Sums.{sum_of}

pub record SumLaws {S : Type 0} (none : S) (add : S → S → S) : Type 0 where
  pub assoc : (x y z : S) → add (add x y) z ≡ add x (add y z)
  pub comm : (x y : S) → add x y ≡ add y x
  pub left : (x : S) → add none x ≡ x

pub ring_sums : {S : Type 0} {k : RingOps S} → RingLaws k → SumLaws k.zero k.add
ring_sums ring = record { assoc = ring.add_assoc; comm = ring.add_comm; left = ring.zero_add }

pub count_sums : SumLaws 0 ◌+◌
count_sums = record { assoc = add_assoc; comm = add_comm; left = zero-add }

module _ {S : Type 0} {none : S} {add : S → S → S} (laws : SumLaws none add) where
  abbrev sum : (ℕ → S) → ℕ → S
  sum = sum_of none add

  swap : (a b c d : S) → add (add a b) (add c d) ≡ add (add a c) (add b d)
  swap a b c d =
      laws.assoc a b _ ∙ ap (add a) (sym (laws.assoc b c d) ∙ ap (λ t. add t d) (laws.comm b c) ∙ laws.assoc c b d) ∙ sym (laws.assoc a c _)

  pub sum_below : (f g : ℕ → S) (n : ℕ) → ((i : ℕ) → i < n → f i ≡ g i) → sum f n ≡ sum g n
  sum_below f g zero e = refl
  sum_below f g (suc n) e = ap₂ add (sum_below f g n (λ i h. e i (omega arith))) (e n (omega arith))

  pub sum_same : (f g : ℕ → S) → ((i : ℕ) → f i ≡ g i) → (n : ℕ) → sum f n ≡ sum g n
  sum_same f g e n = sum_below f g n (λ i h. e i)

  pub sum_add : (f g : ℕ → S) (n : ℕ) → sum (λ i. add (f i) (g i)) n ≡ add (sum f n) (sum g n)
  sum_add f g zero = sym (laws.left none)
  sum_add f g (suc n) = ap (λ t. add t (add (f n) (g n))) (sum_add f g n) ∙ swap (sum f n) (sum g n) (f n) (g n)

  pub sum_none : (f : ℕ → S) (n : ℕ) → ((i : ℕ) → i < n → f i ≡ none) → sum f n ≡ none
  sum_none f zero h = refl
  sum_none f (suc n) h = ap₂ add (sum_none f n (λ i lt. h i (omega arith))) (h n (omega arith)) ∙ laws.left none

  -- nothing stands from n on
  pub sum_past : (f : ℕ → S) (n d : ℕ) → ((i : ℕ) → n ≤ i → f i ≡ none) → sum f (n + d) ≡ sum f n
  sum_past f n zero h = ap (sum f) (add-zero n)
  sum_past f n (suc d) h =
      ap (sum f) (add-suc n d) ∙ ap₂ add (sum_past f n d h) (h (n + d) (omega arith)) ∙ laws.comm _ _ ∙ laws.left _

  -- nothing stands before d
  pub sum_late : (f : ℕ → S) (d n : ℕ) → ((i : ℕ) → i < d → f i ≡ none) → sum f (n + d) ≡ sum (λ i. f (i + d)) n
  sum_late f d zero h = ap (sum f) (zero-add d) ∙ sum_none f d h
  sum_late f d (suc n) h = ap (sum f) (suc-add n d) ∙ ap (λ t. add t (f (n + d))) (sum_late f d n h)

  pub sum_twice : (x : S) (m n : ℕ) → sum (λ i. x) (m + n) ≡ add (sum (λ i. x) m) (sum (λ i. x) n)
  sum_twice x m zero = ap (sum (λ i. x)) (add-zero m) ∙ sym (laws.comm _ _ ∙ laws.left _)
  sum_twice x m (suc n) = ap (sum (λ i. x)) (add-suc m n) ∙ ap (λ t. add t x) (sum_twice x m n) ∙ laws.assoc _ _ _

  pub sum_swap : (f : ℕ → ℕ → S) (n m : ℕ) → sum (λ i. sum (λ j. f i j) m) n ≡ sum (λ j. sum (λ i. f i j) n) m
  sum_swap f zero m = sym (sum_none (λ j. none) m (λ i h. refl))
  sum_swap f (suc n) m = ap (λ t. add t (sum (λ j. f n j) m)) (sum_swap f n m) ∙ sym (sum_add (λ j. sum (λ i. f i j) n) (λ j. f n j) m)

  -- one place alone counts
  pub sum_one : (f : ℕ → S) (n k : ℕ) → k < n → ((i : ℕ) → (i ≡ k → ⊥) → f i ≡ none) → sum f n ≡ f k
  sum_one f zero k h e = absurd (omega arith)
  sum_one f (suc n) k h e =
      ⊎_elim
      (λ lt. ap₂ add (sum_one f n k lt e) (e n (omega arith)) ∙ laws.comm _ _ ∙ laws.left _)
      (λ le. let same : n ≡ k = omega arith in ap (λ t. add t (f n)) (sum_none f n (λ i lt. e i (omega arith))) ∙ laws.left _ ∙ ap f same)
      (cases_lt k n)

  pub sum_front : (f : ℕ → S) (n : ℕ) → sum f (suc n) ≡ add (f 0) (sum (λ i. f (i + 1)) n)
  sum_front f zero = laws.comm _ _
  sum_front f (suc n) = ap₂ add (sum_front f n) (ap f (omega arith)) ∙ laws.assoc _ _ _

  pub sum_back : (f : ℕ → S) (n : ℕ) → sum f n ≡ sum (λ i. f (n - 1 - i)) n
  sum_back f zero = refl
  sum_back f (suc n) =
      sum_front f n ∙ laws.comm _ _ ∙ ap₂ add (sum_back (λ i. f (i + 1)) n ∙ sum_below (λ i. f (n - 1 - i + 1)) (λ i. f (suc n - 1 - i)) n (λ i h. ap f (omega arith))) (ap f (omega arith))
