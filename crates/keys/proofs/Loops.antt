-- What is looked for among the stages is what is asked of them.
use Rattle.std.proofs.Common.{◌≡◌, ℕ, suc, ◌+◌, ◌-◌, ◌*◌, ◌<◌, true, cond, ◌&&◌, ◌||◌, eqb, leb, ltb, List, [], ◌∷◌, Some, Option, refl, ap, ◌∙◌, arith}
use Rattle.std.specs.List.{list_any, position, position_from}
use Rattle.std.proofs.lemmas.Iterator.Adapters.{position_from-zero}
use Rattle.std.proofs.lemmas.Bool.Decides.{nat_tests}
use Rattle.delays.specs.Sets.{doublings, contains, all_in}
use Rattle.keys.specs.declared.stage.KeyStage.{KeyStage}
use Rattle.keys.specs.Judged.{delays_of, first_wrong}

pub contains_is : (d : ℕ) (xs : List KeyStage) → list_any (λ (s : KeyStage). eqb s.delay d) xs ≡ contains d (delays_of xs)
contains_is d [] = refl
contains_is d (x ∷ xs) = ap (λ t. eqb x.delay d || t) (contains_is d xs)

turned : (code roots : ℕ) (a b : Option ℕ) → cond (leb roots code) a b ≡ cond (ltb code roots) b a
turned code roots a b = grind (arith, nat_tests)

wrong_is : (roots i : ℕ) (xs : List KeyStage) → position_from (λ (s : KeyStage). leb roots s.code) i xs ≡ first_wrong roots i xs
wrong_is roots i [] = refl
wrong_is roots i (x ∷ xs) = turned x.code roots _ _ ∙ ap (λ t. cond (ltb x.code roots) t (Some i)) (wrong_is roots (i + 1) xs)

pub first_is : (roots : ℕ) (xs : List KeyStage) → position (λ (s : KeyStage). leb roots s.code) xs ≡ first_wrong roots 0 xs
first_is roots xs = position_from-zero (λ (s : KeyStage). leb roots s.code) xs ∙ wrong_is roots 0 xs

-- the products from d on, of which n - i are left
module _ (n i d : ℕ) (ds : List ℕ) (h : i < n) where
  one_more : all_in (doublings d (n - i)) ds ≡ (contains d ds && all_in (doublings (2 * d) (n - (i + 1))) ds)
  one_more = let e : n - i ≡ suc (n - (i + 1)) = omega arith in ap (λ t. all_in (doublings d t) ds) e

  pub set_goes_on : contains d ds ≡ true → all_in (doublings d (n - i)) ds ≡ all_in (doublings (2 * d) (n - (i + 1))) ds
  set_goes_on e = one_more ∙ ap (λ t. t && all_in (doublings (2 * d) (n - (i + 1))) ds) e
