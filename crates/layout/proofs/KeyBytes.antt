-- The byte of a key's refusal is a small number.
use Rattle.std.proofs.Common.{◌≡◌, ℕ, ◌+◌, ◌^◌, ◌<◌, ◌≤◌, Bool, true, false, cond, ltb, leb, List, [], ◌∷◌, length, IfErr, Some, Err, Option, sym, subst, arith, lit<}
use Rattle.delays.specs.Sets.{is_set}
use Rattle.keys.specs.declared.stage.KeyStage.{KeyStage}
use Rattle.keys.specs.declared.refusal.KeyRefusal.TheVariants.{Kernel, StageCount, Delays}
use Rattle.keys.specs.Judged.{Verdict, is_kernel, most_stages, delays_of, first_wrong, codes_judged, judged}
use Rattle.layout.specs.Order.{key_byte}

abbrev Small : Verdict → Type 0
Small r = IfErr r (λ e. key_byte e < 2 ^ 64)

by_cond : (a b c : Bool) (o : Option ℕ) → Small (codes_judged o) → Small (cond a (cond b (cond c (codes_judged o) (Err Delays)) (Err StageCount)) (Err Kernel))
by_cond true true true o s = s
by_cond true true false o s = lit< tt
by_cond true false c o s = lit< tt
by_cond false b c o s = lit< tt

code_small : (b : Bool) (o : Option ℕ) (i : ℕ) → i ≤ 7 → Small (codes_judged o) → Small (codes_judged (cond b o (Some i)))
code_small true o i h s = s
code_small false o i h s = omega arith

codes_small : (roots i : ℕ) (ss : List KeyStage) → i + length ss ≤ 7 → Small (codes_judged (first_wrong roots i ss))
codes_small roots i [] h = tt
codes_small roots i (s ∷ ss) h = code_small (ltb s.code roots) _ i (omega arith) (codes_small roots (i + 1) ss (omega arith))

pub key_small : (roots kernel : ℕ) (ss : List KeyStage) (r : Verdict) → length ss ≤ 7 → r ≡ judged roots kernel ss → Small r
key_small roots kernel ss r h e =
    subst Small (sym e) (by_cond (is_kernel kernel) (leb (length ss) (most_stages kernel)) (is_set kernel (delays_of ss)) (first_wrong roots 0 ss) (codes_small roots 0 ss (omega arith)))
