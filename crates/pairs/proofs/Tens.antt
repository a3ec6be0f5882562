-- The tables of the ten-entry kernel, as a sample comes in.
use Rattle.std.proofs.Common.{◌≡◌, ℕ, ◌+◌, ◌<◌, ◌≤◌, true, false, cond, ltb, ◌≢◌, get_or, ℤ, pos, sym, refl, ap, ◌∙◌, ⊎_elim, arith}
use mathlib.Core.Path.{fun_ext}
use Rattle.std.proofs.lemmas.Bool.{cases_lt, cases_eq, lt-ltb, eq-eqb, ne_eqb, and_left, and_from, cond-true, cond-false, cond_both}
use Rattle.kinds.specs.Samples.{RingLaws, ConjugationLaws, WordLaws, SampleLaws}
use Rattle.kinds.specs.Kinds.{KindModel}
use Rattle.sums.specs.declared.Side.{Side}
use Rattle.sums.specs.declared.Side.TheVariants.{A, B}
use Rattle.sums.specs.Codes.{Pending, silent, reversed, matching}
use Rattle.golay.specs.Kernels.{ten_entry}
use Rattle.golay.proofs.Tens.{ten_past}
use Rattle.pairs.specs.Kernels.{nine, nine_each}
use Rattle.pairs.specs.KernelsLemmas.{nine_outside}
use Rattle.tables.specs.Tables.{words, zeros, written, sample_of}
use Rattle.tables.specs.declared.table.WordTable.{WordTable}
use Rattle.tables.proofs.Tables.{zeros_at}
use Rattle.tables.proofs.Lines.{sample_back, sample_zero}

-- the first j places are done, the others are as they were
pub record Shifted {S : Type 0} (k : KindModel S) (side : Side) (x : S) (start table : ℕ → ℤ × ℤ) (j : ℕ) : Type 0 where
  pub done : (i : ℕ) → i < j → nine k table i ≡ matching k.ring 10 (ten_entry k.ring side) (nine k start) x (i + 1)
  pub same : (i : ℕ) → j ≤ i → table i ≡ start i

module _ {S : Type 0} (k : KindModel S) where
  nine_same : (t u : ℕ → ℤ × ℤ) (i : ℕ) → t i ≡ u i → nine k t i ≡ nine k u i
  nine_same t u i e = ap (λ w. cond (ltb i 9) (sample_of k.ring k.encoding w) k.ring.zero) e

  -- past the nine places a table has zeros too
  pub nine_read : WordLaws k.ring k.encoding → SampleLaws k.encoding → (t : WordTable 9) (j : ℕ) → sample_of k.ring k.encoding (words t j) ≡ nine k (words t) j
  nine_read word encodes t j =
      let read = λ (w : ℤ × ℤ). sample_of k.ring k.encoding w in
      let w : ℤ × ℤ = (get_or t.first j (pos 0), get_or t.second j (pos 0)) in
      elim (ltb j 9) as (λ b. read (cond b w (pos 0, pos 0)) ≡ cond b (read (cond b w (pos 0, pos 0))) k.ring.zero) [
        | true ↦ refl
        | false ↦ sample_zero k.ring encodes word
      ]

  module _ (side : Side) (x : S) (start : ℕ → ℤ × ℤ) where
    pub shifted_more : SampleLaws k.encoding → (table : ℕ → ℤ × ℤ) (j : ℕ) (next : S) (v : ℤ × ℤ) → j < 9 → Shifted k side x start table j → next ≡ matching k.ring 10 (ten_entry k.ring side) (nine k table) x (j + 1) → v ≡ (k.encoding.first next, k.encoding.second next) → Shifted k side x start (written 9 table j v) (j + 1)
    shifted_more encodes table j next v h s e f =
        let r = k.ring in
        let other : (i : ℕ) → i ≢ j → written 9 table j v i ≡ table i = λ i ne. cond-false _ _ _ (and_left _ _ (ne_eqb i j ne)) in
        let here : written 9 table j v j ≡ v = cond-true _ _ _ (and_from _ _ (eq-eqb j j refl) (lt-ltb j 9 h)) in
        let stayed = nine_same table start (j + 1) (s.same (j + 1) (omega arith)) in
        let at : nine k (written 9 table j v) j ≡ matching r 10 (ten_entry r side) (nine k start) x (j + 1) =
        cond-true _ _ _ (lt-ltb j 9 h) ∙ ap (sample_of r k.encoding) (here ∙ f) ∙ sample_back r encodes next ∙ e ∙ ap (λ t. r.add t (r.mul (r.conj (reversed r 10 (ten_entry r side) (j + 1))) x)) stayed in
        record {
          done = λ i lt. ⊎_elim
              (λ eq. ap (nine k (written 9 table j v)) eq ∙ at ∙ ap (λ t. matching r 10 (ten_entry r side) (nine k start) x (t + 1)) (sym eq))
              (λ ne. nine_same (written 9 table j v) table i (other i ne) ∙ s.done i (omega (arith, ne)))
              (cases_eq i j);
          same = λ i le. other i (omega arith) ∙ s.same i (omega arith);
        }

    pub shifted_all : RingLaws k.ring → ConjugationLaws k.ring → (table : ℕ → ℤ × ℤ) → Shifted k side x start table 9 → nine k table ≡ (λ j. matching k.ring 10 (ten_entry k.ring side) (nine k start) x (j + 1))
    shifted_all ring bar table s =
        fun_ext (λ j. ⊎_elim (λ lt. s.done j lt) (λ le. nine_outside k table j le ∙ sym (ten_past ring bar side (nine k start) x (j + 1) (omega arith) (nine_outside k start (j + 1) (omega arith)))) (cases_lt j 9))

  -- two lists, side by side
  pub each_is : (p q : ℕ → ℤ × ℤ) (f : Pending S) → nine k p ≡ f A → nine k q ≡ f B → nine_each k p q ≡ f
  each_is p q f e h = fun_ext by
    where
      by : (side : Side) → nine_each k p q side ≡ f side
      by A = e
      by B = h

  -- tables of zeros: nothing is pending
  pub ten_silent : WordLaws k.ring k.encoding → SampleLaws k.encoding → (p q : ℕ → ℤ × ℤ) → p ≡ zeros 9 → q ≡ zeros 9 → nine_each k p q ≡ silent k.ring
  ten_silent word encodes p q e h =
      let none : nine k (zeros 9) ≡ (λ j. k.ring.zero) = fun_ext (λ j. cond_both (ltb j 9) _ _ (λ t. t ≡ k.ring.zero) (λ b. ap (sample_of k.ring k.encoding) (zeros_at 9 j) ∙ sample_zero k.ring encodes word) (λ b. refl)) in
      each_is p q (silent k.ring) (ap (nine k) e ∙ none) (ap (nine k) h ∙ none)
