-- The first of n missing bytes.
use Rattle.std.proofs.Common.{◌≡◌, ℕ, zero, suc, ◌+◌, ◌*◌, ◌<◌, ◌≤◌, List, ◌++◌, Some, None, sym, refl, ap, ◌∙◌, ⊎_elim, arith}
use Rattle.std.proofs.lemmas.Bool.{cases_lt, lt-ltb, le-ltb, cond-true, cond-false}
use Rattle.layout.specs.declared.refusal.FileRefusal.TheVariants.{Length}
use Rattle.layout.specs.Tests.{Test, first_refusal}
use Rattle.layout.specs.Order.{missing_bytes, field_tests}

none_missing : (size byte n : ℕ) (ts : List Test) → byte + n ≤ size → first_refusal (missing_bytes size byte n ++ ts) ≡ first_refusal ts
none_missing size byte zero ts h = refl
none_missing size byte (suc n) ts h =
    cond-false _ _ _ (le-ltb size (byte + 1) (omega arith)) ∙ none_missing size (byte + 1) n ts (omega arith)

one_missing : (size byte n : ℕ) (ts : List Test) → byte ≤ size → size < byte + n → first_refusal (missing_bytes size byte n ++ ts) ≡ Some (Length size)
one_missing size byte zero ts g h = absurd (omega arith)
one_missing size byte (suc n) ts g h =
    ⊎_elim (λ (l : size < byte + 1). cond-true _ _ _ (lt-ltb size (byte + 1) l) ∙ ap (λ b. Some (Length b)) (omega arith)) (λ (l : byte + 1 ≤ size). cond-false _ _ _ (le-ltb size (byte + 1) l) ∙ one_missing size (byte + 1) n ts l (omega arith)) (cases_lt size (byte + 1))

-- the fields: one of the stages' is missing, or the room length is, or none
module _ (size count : ℕ) where
  pub stage_missing : (byte : ℕ) → byte ≡ size → 6 ≤ size → size < 6 + 2 * count → first_refusal (field_tests size count) ≡ Some (Length byte)
  stage_missing byte e g h = one_missing size 6 (2 * count) _ g h ∙ ap (λ b. Some (Length b)) (sym e)

  pub room_missing : 6 + 2 * count ≤ size → size < 6 + 2 * count + 2 → first_refusal (field_tests size count) ≡ Some (Length (6 + 2 * count))
  room_missing g h = none_missing size 6 (2 * count) _ g ∙ cond-true _ _ _ (lt-ltb _ _ h)

  pub fields_there : 6 + 2 * count + 2 ≤ size → first_refusal (field_tests size count) ≡ None
  fields_there h = none_missing size 6 (2 * count) _ (omega arith) ∙ cond-false _ _ _ (le-ltb _ _ h)
