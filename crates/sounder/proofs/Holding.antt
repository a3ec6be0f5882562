-- What the words in a sounder's table mean after a change.
use Rattle.std.proofs.Common.{◌≡◌, ℕ, ◌+◌, ◌-◌, ◌<◌, ◌≤◌, Bool, true, false, cond, ℤ, Some, None, sym, refl, ap, ◌∙◌, ⊎_elim, arith}
use mathlib.Core.Path.{fun_ext}
use Rattle.std.proofs.lemmas.Bool.{eq-eqb, ne_eqb, lt-ltb, and_left, and_from, cond-true, cond-false, cases_eq}
use Rattle.kinds.specs.Samples.{WordLaws, SampleLaws}
use Rattle.kinds.specs.Kinds.{KindModel}
use Rattle.tables.specs.Tables.{zeros, written, sample_of}
use Rattle.tables.proofs.Lines.{sample_back, sample_zero}
use Rattle.tables.proofs.Tables.{zeros_at}
use Rattle.sounder.specs.States.{gathered}

-- which sum comes out with sample `count`, where one does
pub index_is : (b : Bool) (i n : ℕ) → Some i ≡ cond b None (Some n) → (b ≡ false) × (i ≡ n)
index_is true i n e = let z : ◌≡◌ {A = ℕ} 0 1 = cc in absurd (omega arith)
index_is false i n e = (refl, (cc))

module _ {S : Type 0} (k : KindModel S) (encodes : SampleLaws k.encoding) where
  abbrev read : ℤ × ℤ → S
  read = sample_of k.ring k.encoding

  -- the sum of index count + 1 - span was written
  pub gathers : (f g : ℕ → ℤ × ℤ) (v : ℤ × ℤ) (span count : ℕ) (old sum y : S) → 1 ≤ span → span ≤ count + 1 → count < span + 255
      → old ≡ read (f (count + 1 - span)) → sum ≡ k.ring.add old y → v ≡ (k.encoding.first sum, k.encoding.second sum) → g ≡ written 256 f (count + 1 - span) v
      → ◌≡◌ {A = ℕ → S} (λ j. read (g j)) (gathered k span count y (λ j. read (f j)))
  gathers f g v span count old sum y one late early was adds words is = fun_ext (λ j. ap (λ h. read (h j)) is ∙ ⊎_elim (at j) (other j) (cases_eq j (count + 1 - span)))
    where
      at : (j : ℕ) → j ≡ count + 1 - span → read (written 256 f (count + 1 - span) v j) ≡ gathered k span count y (λ i. read (f i)) j
      at j e =
          ap read (cond-true _ _ _ (and_from _ _ (eq-eqb j (count + 1 - span) e) (lt-ltb (count + 1 - span) 256 (omega arith))) ∙ words) ∙ sample_back k.ring encodes sum ∙ adds
          ∙ ap (λ o. k.ring.add o y) (was ∙ ap (λ i. read (f i)) (sym e))
          ∙ sym (cond-true _ _ _ (eq-eqb (j + (span - 1)) count (omega arith)))

      other : (j : ℕ) → (j ≡ count + 1 - span → ⊥) → read (written 256 f (count + 1 - span) v j) ≡ gathered k span count y (λ i. read (f i)) j
      other j n =
          ap read (cond-false _ _ _ (and_left _ _ (ne_eqb j (count + 1 - span) n)))
          ∙ sym (cond-false _ _ _ (ne_eqb (j + (span - 1)) count (λ e. n (omega arith))))

  -- a table of zeros
  pub all_zero : WordLaws k.ring k.encoding → (f : ℕ → ℤ × ℤ) → f ≡ zeros 256 → ◌≡◌ {A = ℕ → S} (λ i. read (f i)) (λ i. k.ring.zero)
  all_zero word f e = fun_ext (λ i. ap (λ (h : ℕ → ℤ × ℤ). read (h i)) e ∙ ap read (zeros_at 256 i) ∙ sample_zero k.ring encodes word)
