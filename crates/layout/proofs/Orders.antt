-- The first refusal of tests in a row.
use Rattle.std.proofs.Common.{◌≡◌, ℕ, ◌+◌, ◌<◌, ◌≤◌, Bool, true, false, cond, List, [], ◌∷◌, ◌++◌, length, get_or, drop, Some, None, Ok, Err, Option, refl, ap, ◌∙◌, arith}
use Rattle.std.proofs.lemmas.List.{at_drop_more, at_drop_all}
use Rattle.std.specs.Option.{option_or}
use Rattle.layout.specs.declared.refusal.FileRefusal.{FileRefusal}
use Rattle.layout.specs.Tests.{Test, each, first_refusal, unless}

either : (b : Bool) (e : FileRefusal) (o p : Option FileRefusal) → cond b (Some e) (option_or o p) ≡ option_or (cond b (Some e) o) p
either true e o p = refl
either false e o p = refl

first_append : (xs ys : List Test) → first_refusal (xs ++ ys) ≡ option_or (first_refusal xs) (first_refusal ys)
first_append [] ys = refl
first_append (t ∷ xs) ys = ap (cond t.0 (Some t.1)) (first_append xs ys) ∙ either t.0 t.1 (first_refusal xs) (first_refusal ys)

-- where the first tests are passed, the others decide
pub passed : (xs ys : List Test) → first_refusal xs ≡ None → first_refusal (xs ++ ys) ≡ first_refusal ys
passed xs ys h = first_append xs ys ∙ ap (λ o. option_or o (first_refusal ys)) h

-- where one of them refuses, the others are not asked
pub stopped : (xs ys : List Test) (e : FileRefusal) → first_refusal xs ≡ Some e → first_refusal (xs ++ ys) ≡ Some e
stopped xs ys e h = first_append xs ys ∙ ap (λ o. option_or o (first_refusal ys)) h

-- an answer says what the tests come to
pub answers_none : {X : Type 0} (o : Option FileRefusal) (x y : X) → Ok y ≡ unless o x → o ≡ None
answers_none None x y h = refl
answers_none (Some e) x y h = let z : ◌≡◌ {A = ℕ} 0 1 = cc in absurd (omega arith)

pub answers_some : {X : Type 0} (o : Option FileRefusal) (x : X) (e : FileRefusal) → Err e ≡ unless o x → o ≡ Some e
answers_some None x e h = let z : ◌≡◌ {A = ℕ} 0 1 = cc in absurd (omega arith)
answers_some (Some y) x e h = cc

-- a loop that tests each element of a list
module _ {X : Type 0} (f : ℕ → X → List Test) (xs : List X) (i : ℕ) (d : X) where
  pub each_here : (e : FileRefusal) → i < length xs → first_refusal (f i (get_or xs i d)) ≡ Some e → first_refusal (each f i (drop i xs)) ≡ Some e
  each_here e h t = at_drop_more (λ l. first_refusal (each f i l)) xs i d h ∙ stopped (f i (get_or xs i d)) _ e t

  pub each_later : i < length xs → first_refusal (f i (get_or xs i d)) ≡ None → first_refusal (each f i (drop i xs)) ≡ first_refusal (each f (i + 1) (drop (i + 1) xs))
  each_later h t = at_drop_more (λ l. first_refusal (each f i l)) xs i d h ∙ passed (f i (get_or xs i d)) _ t

pub each_all : {X : Type 0} (f : ℕ → X → List Test) (xs : List X) (i : ℕ) → length xs ≤ i → first_refusal (each f i (drop i xs)) ≡ None
each_all f xs i h = at_drop_all (λ l. first_refusal (each f i l)) xs i h
