-- How a word is cut at its first colon.
use Rattle.std.proofs.Common.{◌≡◌, ℕ, suc, ◌<◌, List, [], ◌∷◌, ◌++◌, length, get_or, Some, None, Option, sym, refl, ap, ◌∙◌, arith, Bor, MatchOption}
use Rattle.std.specs.Option.{option_map}
use Rattle.keytext.specs.Stages.{parts, cut}

abbrev NoColon : List ℕ → Type 0
NoColon bs = (i : ℕ) → i < length bs → get_or bs i 0 ≡ 58 → ⊥

-- a colon is at neither the first place nor a later one
first_differs : (b : ℕ) (bs : List ℕ) → NoColon (b ∷ bs) → b ≡ 58 → ⊥
first_differs b bs h = h 0 (omega arith)

rest : (b : ℕ) (bs : List ℕ) → NoColon (b ∷ bs) → NoColon bs
rest b bs h i l = h (suc i) (omega arith)

cut_nowhere : (bs : List ℕ) → NoColon bs → cut bs ≡ None
cut_nowhere [] h = refl
cut_nowhere (b ∷ bs) h = grind (arith, first_differs b bs h, cut_nowhere bs (rest b bs h))

cut_there : (xs ys : List ℕ) → NoColon xs → cut (xs ++ (58 ∷ ys)) ≡ Some (xs, ys)
cut_there [] ys h = refl
cut_there (x ∷ xs) ys h = grind (arith, first_differs x xs h, cut_there xs ys (rest x xs h))

pub cut_is : (bs : List ℕ) (r : Option (Bor (List ℕ) × Bor (List ℕ))) → MatchOption r (NoColon bs) (λ x. (bs ≡ x.0.now ++ (58 ∷ x.1.now)) × NoColon x.0.now) → option_map parts r ≡ cut bs
cut_is bs None h = sym (cut_nowhere bs h)
cut_is bs (Some x) h = sym (ap cut h.0 ∙ cut_there _ _ h.1)
