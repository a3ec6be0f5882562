-- The first refusal, as a place in the table.
use Rattle.std.proofs.Common.{◌≡◌, ℕ, Bool, true, false, cond, List, [], ◌∷◌, Some, None, Option, Result, sym, refl, ap, subst, arith}
use Rattle.std.specs.List.{AllByRecursion}
use Rattle.layout.specs.declared.refusal.FileRefusal.{FileRefusal}
use Rattle.layout.specs.Tests.{Test, first_refusal, unless, Passes, Comes, Ordered}

step : (b : Bool) (f : FileRefusal) (ts : List Test) (e : FileRefusal) → (first_refusal ts ≡ Some e → Comes ts e) → cond b (Some f) (first_refusal ts) ≡ Some e → Comes ((b, f) ∷ ts) e
step true f ts e later h = let s : f ≡ e = cc in record { before = []; after = ts; split = ap (λ (x : FileRefusal). (true, x) ∷ ts) s; passed = tt }
step false f ts e later h =
    let l = later h in
    record { before = (false, f) ∷ l.before; after = l.after; split = ap (λ (x : List Test). (false, f) ∷ x) l.split; passed = (refl, l.passed) }

pub comes : (ts : List Test) (e : FileRefusal) → first_refusal ts ≡ Some e → Comes ts e
comes [] e h = let z : ◌≡◌ {A = ℕ} 0 1 = cc in absurd (omega arith)
comes (t ∷ ts) e h = step t.0 t.1 ts e (comes ts e) h

none_step : (b : Bool) (f : FileRefusal) (ts : List Test) → (first_refusal ts ≡ None → AllByRecursion Passes ts) → cond b (Some f) (first_refusal ts) ≡ None → AllByRecursion Passes ((b, f) ∷ ts)
none_step true f ts later h = let z : ◌≡◌ {A = ℕ} 0 1 = cc in absurd (omega arith)
none_step false f ts later h = (refl, later h)

pub all_pass : (ts : List Test) → first_refusal ts ≡ None → AllByRecursion Passes ts
all_pass [] h = tt
all_pass (t ∷ ts) h = none_step t.0 t.1 ts (all_pass ts) h

-- an answer that the tests decide
decided : {X : Type 0} (ts : List Test) (x : X) (o : Option FileRefusal) → first_refusal ts ≡ o → Ordered ts (unless o x)
decided ts x None h = all_pass ts h
decided ts x (Some e) h = comes ts e h

pub in_order : {X : Type 0} (ts : List Test) (x : X) (r : Result X FileRefusal) → r ≡ unless (first_refusal ts) x → Ordered ts r
in_order ts x r h = subst (Ordered ts) (sym h) (decided ts x (first_refusal ts) refl)
