-- Delays that contain all the products, taken apart one product after the other.
use Rattle.std.proofs.Common.{◌≡◌, ℕ, zero, suc, ◌+◌, ◌*◌, ◌<◌, ◌≤◌, true, ◌&&◌, ◌||◌, eqb, List, [], ◌∷◌, ◌++◌, length, sym, refl, ap, ◌∙◌, subst, ap₂, ⊎_elim, arith, length-append}
use Rattle.std.proofs.lemmas.List.{nil_from_length}
use Rattle.std.proofs.lemmas.Bool.{and_parts, or_cases, eqb-true, ne_eqb}
use Rattle.delays.specs.Sets.{doublings, contains, all_in}

-- a list that contains d is what stands before d, then d, then what stands after it
split : (d : ℕ) (ds : List ℕ) → contains d ds ≡ true → (xs : List ℕ) × (ys : List ℕ) × (ds ≡ xs ++ d ∷ ys)
split d [] h = let z : ◌≡◌ {A = ℕ} 0 1 = cc in absurd (omega arith)
split d (x ∷ ds) h =
    ⊎_elim
    (λ e. ([], ds, ap (λ t. t ∷ ds) (eqb-true x d e)))
    (λ e. let s = split d ds e in (x ∷ s.0, s.1, ap (λ l. x ∷ l) s.2))
    (or_cases (eqb x d) (contains d ds) h)

-- taking d out does not change whether another number is in the list
contains_without : (e d : ℕ) (xs ys : List ℕ) → (d ≡ e → ⊥) → contains e (xs ++ d ∷ ys) ≡ contains e (xs ++ ys)
contains_without e d [] ys ne = ap (λ t. t || contains e ys) (ne_eqb d e ne)
contains_without e d (x ∷ xs) ys ne = ap (λ t. eqb x e || t) (contains_without e d xs ys ne)

-- taking d out does not change whether all the products of a larger number are in the list
all_in_without : (n e d : ℕ) (xs ys : List ℕ) → d < e → all_in (doublings e n) (xs ++ d ∷ ys) ≡ all_in (doublings e n) (xs ++ ys)
all_in_without zero e d xs ys h = refl
all_in_without (suc n) e d xs ys h = ap₂ ◌&&◌ (contains_without e d xs ys (λ s. omega arith)) (all_in_without n (2 * e) d xs ys (omega arith))

-- what holds of two empty lists, and stays true if a number is put in front of the first list and anywhere into the second, holds of the products and any delays that contain them all
module _ (P : List ℕ → List ℕ → Type 0) (none : P [] []) (more : (d : ℕ) (ws xs ys : List ℕ) → P ws (xs ++ ys) → P (d ∷ ws) (xs ++ d ∷ ys)) where
  pub by_splits : (n d : ℕ) (ds : List ℕ) → 1 ≤ d → length ds ≡ n → all_in (doublings d n) ds ≡ true → P (doublings d n) ds
  by_splits zero d ds pos len h = subst (P []) (sym (nil_from_length ds len)) none
  by_splits (suc n) d ds pos len h =
      let parts = and_parts (contains d ds) (all_in (doublings (2 * d) n) ds) h in
      let s = split d ds parts.0 in
      let xs = s.0 in
      let ys = s.1 in
      let long : length xs + suc (length ys) ≡ suc n = sym (length-append xs (d ∷ ys)) ∙ ap length (sym s.2) ∙ len in
      let short : length (xs ++ ys) ≡ n = length-append xs ys ∙ omega arith in
      let rest : all_in (doublings (2 * d) n) (xs ++ ys) ≡ true = sym (all_in_without n (2 * d) d xs ys (omega arith)) ∙ ap (all_in (doublings (2 * d) n)) (sym s.2) ∙ parts.1 in
      subst (P (doublings d (suc n))) (sym s.2) (more d (doublings (2 * d) n) xs ys (by_splits n (2 * d) (xs ++ ys) (omega arith) short rest))
