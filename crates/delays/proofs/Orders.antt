-- The test of a list of delays, and what does not depend on their order.
use Rattle.std.proofs.Common.{◌≡◌, ℕ, ◌≤◌, true, eqb, List, [], ◌∷◌, ◌++◌, length, Decides, refl, ap, ◌∙◌}
use Rattle.std.specs.List.Sorted.{IsPermutation}
use Rattle.std.specs.List.{ContainsAt as Has, AllByRecursion}
use Rattle.std.proofs.ByRecursion.{all_has_itself, all_shuffled, Decides-by_and}
use Rattle.std.proofs.lemmas.List.Sorted.{IsPermutation-refl, IsPermutation-sym, IsPermutation-trans, IsPermutation-cons, IsPermutation-middle}
use Rattle.std.proofs.lemmas.Bool.Decides.{Decides-eqb, Decides-by_or}
use Rattle.delays.specs.Sets.{doublings, contains, all_in, is_set, InSomeOrder, folded}
use Rattle.delays.proofs.Splits.{by_splits}

-- delays that pass the test are the products in some order
pub set_shuffled : (kernel : ℕ) (ds : List ℕ) → 1 ≤ kernel → is_set kernel ds ≡ true → InSomeOrder kernel ds
set_shuffled kernel ds pos h =
    by_splits IsPermutation (IsPermutation-refl []) (λ d ws xs ys s. IsPermutation-trans (d ∷ ws) (d ∷ (xs ++ ys)) (xs ++ d ∷ ys) (IsPermutation-cons d ws (xs ++ ys) s) (IsPermutation-sym (xs ++ d ∷ ys) (d ∷ (xs ++ ys)) (IsPermutation-middle xs d ys))) (length ds) kernel ds pos refl h

-- the test on one number says whether the list has it
decides_contains : (wanted : ℕ) (ds : List ℕ) → Decides (contains wanted ds) (Has ds wanted)
decides_contains wanted = Decides-by_or (λ d. eqb d wanted) (λ d. d ≡ wanted) (contains wanted) (λ d. Decides-eqb d wanted) refl (λ _ _. refl)

-- the test on all numbers of a list says whether the other list has each
decides_all_in : (ws ds : List ℕ) → Decides (all_in ws ds) (AllByRecursion (Has ds) ws)
decides_all_in ws ds = Decides-by_and (λ w. contains w ds) (Has ds) (λ l. all_in l ds) (λ w. decides_contains w ds) refl (λ _ _. refl) ws

-- the test is true exactly if the delays are the products in some order
pub set_decides : (kernel : ℕ) (ds : List ℕ) → 1 ≤ kernel → Decides (is_set kernel ds) (InSomeOrder kernel ds)
set_decides kernel ds pos =
    let ws = doublings kernel (length ds) in
    (set_shuffled kernel ds pos, λ s. (decides_all_in ws ds).1 (all_shuffled (Has ds) ds ws (IsPermutation-sym ws ds s) (all_has_itself ds)))

module _ {X : Type 0} (f : ℕ → X → X) (swaps : (d e : ℕ) (x : X) → f d (f e x) ≡ f e (f d x)) where
  -- a step that commutes with all others may be done first
  fold_first : (d : ℕ) (xs ys : List ℕ) (x : X) → folded f (xs ++ d ∷ ys) x ≡ folded f (xs ++ ys) (f d x)
  fold_first d [] ys x = refl
  fold_first d (e ∷ xs) ys x = fold_first d xs ys (f e x) ∙ ap (folded f (xs ++ ys)) (swaps d e x)

  -- steps that commute give over the delays what they give over the products
  pub any_order : (kernel : ℕ) (ds : List ℕ) (x : X) → 1 ≤ kernel → is_set kernel ds ≡ true → folded f ds x ≡ folded f (doublings kernel (length ds)) x
  any_order kernel ds x pos h =
      by_splits (λ ws l. (y : X) → folded f l y ≡ folded f ws y) (λ y. refl) (λ d ws xs ys same y. fold_first d xs ys y ∙ same (f d y)) (length ds) kernel ds pos refl h x
