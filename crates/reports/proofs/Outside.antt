-- The first tap outside the bounds decides the tests on the taps.
use Rattle.std.proofs.Common.{◌≡◌, ℕ, ◌+◌, Bool, true, false, cond, List, [], ◌∷◌, ℤ, Some, Option, sym, refl, ap, ◌∙◌}
use Rattle.std.specs.List.{position, position_from}
use Rattle.std.specs.Option.{option_map}
use Rattle.std.proofs.lemmas.Iterator.Adapters.{position_from-zero}
use Rattle.layout.specs.declared.refusal.FileRefusal.TheVariants.{Tap}
use Rattle.layout.specs.Tests.{each, first_refusal}
use Rattle.reports.specs.Reports.{tap_outside, tap_tests}

mapped : {X Y : Type 0} (f : X → Y) (b : Bool) (x : X) (o : Option X) → cond b (Some (f x)) (option_map f o) ≡ option_map f (cond b (Some x) o)
mapped f true x o = refl
mapped f false x o = refl

from : (size i : ℕ) (ts : List (ℤ × ℤ)) → first_refusal (each (λ i t. (tap_outside t, Tap i size) ∷ []) i ts) ≡ option_map (λ i. Tap i size) (position_from tap_outside i ts)
from size i [] = refl
from size i (t ∷ ts) = ap (cond (tap_outside t) (Some (Tap i size))) (from size (i + 1) ts) ∙ mapped (λ i. Tap i size) (tap_outside t) i (position_from tap_outside (i + 1) ts)

pub first_of_taps : (size : ℕ) (ts : List (ℤ × ℤ)) → first_refusal (tap_tests size ts) ≡ option_map (λ i. Tap i size) (position tap_outside ts)
first_of_taps size ts = from size 0 ts ∙ ap (option_map (λ i. Tap i size)) (sym (position_from-zero tap_outside ts))
