-- Bytes laid one after another over a buffer.
use Rattle.std.proofs.Common.{◌≡◌, ℕ, ◌+◌, ◌*◌, ◌<◌, ◌≤◌, List, [], ◌∷◌, ◌++◌, length, get_or, take, drop, ℤ, sym, refl, ap, ◌∙◌, ap₂, append_assoc, mul-le-mul_left, mul-zero, mul-suc, arith}
use Rattle.std.specs.List.{flat_map}
use Rattle.std.proofs.lemmas.List.{length-append, length-take-le, take_at, drop_at, drop-drop, take_more, flat_map_more}
use Rattle.kinds.specs.declared.kind_name.KindName.{KindName}
use Rattle.kinds.specs.declared.kind_name.KindName.TheVariants.{Hall, Radio}
use Rattle.kinds.specs.KindNames.{width}
use Rattle.reports.specs.Reports.{laid, tap_bytes}

pub laid_laid : (d : List ℕ) (n : ℕ) (bs cs : List ℕ) (m : ℕ) → n + length bs ≤ length d → m ≡ n + length bs → laid (laid d n bs) m cs ≡ laid d n (bs ++ cs)
laid_laid d n bs cs m h e =
    let p = take n d ++ bs in
    let rest = drop (n + length bs) d in
    let lt : n ≤ length d = omega arith in
    let lp : length p ≡ m = length-append (take n d) bs ∙ ap (λ k. k + length bs) (length-take-le n d lt) ∙ sym e in
    let is : laid d n bs ≡ p ++ rest = sym (append_assoc (take n d) bs rest) in
    let front : take m (laid d n bs) ≡ p = ap (take m) is ∙ take_at p rest m lp in
    let back : drop (m + length cs) (laid d n bs) ≡ drop (n + length (bs ++ cs)) d = sym (drop-drop (length cs) m (laid d n bs)) ∙ ap (drop (length cs)) (ap (drop m) is ∙ drop_at p rest m lp) ∙ drop-drop (length cs) (n + length bs) d ∙ ap (λ k. drop k d) (simp length-append (omega arith)) in
    ap₂ (λ (x y : List ℕ). x ++ (cs ++ y)) front back ∙ append_assoc (take n d) bs _ ∙ ap (λ (x : List ℕ). take n d ++ x) (sym (append_assoc bs cs _))

pub length_tap : (kind : KindName) (t : ℤ × ℤ) → length (tap_bytes kind t) ≡ width kind
length_tap Hall t = refl
length_tap Radio t = refl

pub length_taps : (kind : KindName) (ts : List (ℤ × ℤ)) → length (flat_map (tap_bytes kind) ts) ≡ width kind * length ts
length_taps kind [] = sym (mul-zero (width kind))
length_taps kind (t ∷ ts) = length-append (tap_bytes kind t) _ ∙ ap₂ (λ a b. a + b) (length_tap kind t) (length_taps kind ts) ∙ omega (arith, mul-suc (width kind) (length ts))

-- one more tap
pub laid_more : (d : List ℕ) (from : ℕ) (kind : KindName) (ts : List (ℤ × ℤ)) (i : ℕ) (z : ℤ × ℤ) → i < length ts → from + width kind * length ts ≤ length d → laid (laid d from (flat_map (tap_bytes kind) (take i ts))) (from + width kind * i) (tap_bytes kind (get_or ts i z)) ≡ laid d from (flat_map (tap_bytes kind) (take (i + 1) ts))
laid_more d from kind ts i z l h =
    let k : length (flat_map (tap_bytes kind) (take i ts)) ≡ width kind * i = length_taps kind (take i ts) ∙ ap (λ m. width kind * m) (length-take-le i ts (omega arith)) in
    let m : width kind * i ≤ width kind * length ts = mul-le-mul_left (width kind) (omega arith) in
    laid_laid d from (flat_map (tap_bytes kind) (take i ts)) (tap_bytes kind (get_or ts i z)) (from + width kind * i) (omega arith) (omega arith) ∙ ap (laid d from) (flat_map_more (tap_bytes kind) [] (take i ts) (get_or ts i z) ∙ ap (flat_map (tap_bytes kind)) (sym (take_more ts i z l)))
