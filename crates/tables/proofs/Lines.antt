-- The values that a delay line keeps, as one more comes in.
use Rattle.std.specs.Prelude.{◌==◌}
use Rattle.std.specs.Option.{is_some}
use Rattle.std.proofs.Common.{◌≡◌, ℕ, true, ◌&&◌, nat_lt, ◌+◌, ◌-◌, ◌%◌, ◌<◌, ◌≤◌, ◌≢◌, ℤ, pos, sym, ap, ◌∙◌, ap₂, arith}
use Rattle.std.proofs.lemmas.Bool.{eq-eqb, ne_eqb, lt-ltb, and_left, and_from, cond_both, cond-true, cond-false}
use Rattle.kinds.specs.Samples.{RingOps, WordOps, WordLaws, SampleLaws}
use Rattle.kinds.specs.Kinds.{KindModel}
use Rattle.tables.specs.Tables.{words, zeros, written, or_zero, sample_of, AreSamples}
use Rattle.tables.specs.Lines.{latest, delayed}
use Rattle.tables.proofs.Tables.{zeros_at}
use Rattle.tables.specs.declared.line.DelayLine.{DelayLine}

module _ {S : Type 0} (k : RingOps S) {e : WordOps S} (encodes : SampleLaws e) where
  -- a sample's words give it back
  pub sample_back : (x : S) → sample_of k e (e.first x, e.second x) ≡ x
  sample_back x = ap (or_zero k) (encodes.back x)

  pub sample_zero : WordLaws k e → sample_of k e (pos 0, pos 0) ≡ k.zero
  sample_zero word = ap₂ (λ x y. sample_of k e (x, y)) (sym word.first_zero) (sym word.second_zero) ∙ sample_back k.zero

  -- the words of a table of zeros are a sample's
  pub zeros_samples : WordLaws k e → (n : ℕ) → AreSamples e (zeros n)
  zeros_samples word n i = ap (λ (t : ℤ × ℤ). is_some (e.sample t.0 t.1)) (zeros_at n i) ∙ ap₂ (λ x y. is_some (e.sample x y)) (sym word.first_zero) (sym word.second_zero) ∙ ap is_some (encodes.back k.zero)

  -- and those of a table after the words of a sample were written
  pub written_samples : (n : ℕ) (f : ℕ → ℤ × ℤ) (j : ℕ) (x : S) → AreSamples e f → AreSamples e (written n f j (e.first x, e.second x))
  written_samples n f j x held i = cond_both (i == j && nat_lt j n) (e.first x, e.second x) (f i) (λ (t : ℤ × ℤ). is_some (e.sample t.0 t.1) ≡ true) (λ h. ap is_some (encodes.back x)) (λ h. held i)

module _ {S : Type 0} (k : KindModel S) where
  -- a line over a table of zeros keeps zeros
  pub line_zero : SampleLaws k.encoding → WordLaws k.ring k.encoding → (s : DelayLine S k) → words s.table ≡ zeros 128 → (d j : ℕ) → delayed k s d j ≡ k.ring.zero
  line_zero encodes word s none d j = ap (λ t. latest k.ring k.encoding t s.next d j) none ∙ ap (sample_of k.ring k.encoding) (zeros_at 128 ((s.next + (256 - d) + j) % 128)) ∙ sample_zero k.ring encodes word

module _ {S : Type 0} (k : KindModel S) (old new : DelayLine S k) (d : ℕ) (v : ℤ × ℤ) (h : d ≤ 128)
    (put : words new.table ≡ written 128 (words old.table) (old.next % 128) v) (moved : new.next ≡ (old.next + 1) % 256) where
  abbrev at : ℕ → ℕ
  at j = ((old.next + 1) % 256 + (256 - d) + j) % 128

  abbrev read_back : ℤ × ℤ → S
  read_back = sample_of k.ring k.encoding

  read : (j : ℕ) → delayed k new d j ≡ read_back (written 128 (words old.table) (old.next % 128) v (at j))
  read j = ap₂ (λ t n. latest k.ring k.encoding t n d j) put moved

  -- the values that were there move on by one place
  pub line_moved : (j : ℕ) → j + 1 < d → delayed k new d j ≡ delayed k old d (j + 1)
  line_moved j lt =
      let ne : at j ≢ old.next % 128 = omega arith in
      read j ∙ ap read_back (cond-false _ _ _ (and_left _ _ (ne_eqb (at j) (old.next % 128) ne)) ∙ ap (words old.table) (omega arith))

  -- and the newest is the last
  newest : (j : ℕ) → j + 1 ≡ d → delayed k new d j ≡ read_back v
  newest j eq =
      let same : at j ≡ old.next % 128 = omega arith in
      read j ∙ ap read_back (cond-true _ _ _ (and_from _ _ (eq-eqb (at j) (old.next % 128) same) (lt-ltb (old.next % 128) 128 (omega arith))))

pub line_last : {S : Type 0} (k : KindModel S) → SampleLaws k.encoding → (old new : DelayLine S k) (d : ℕ) (x : S) → d ≤ 128
    → words new.table ≡ written 128 (words old.table) (old.next % 128) (k.encoding.first x, k.encoding.second x) → new.next ≡ (old.next + 1) % 256 → (j : ℕ) → j + 1 ≡ d → delayed k new d j ≡ x
line_last k encodes old new d x h put moved j eq = newest k old new d (k.encoding.first x, k.encoding.second x) h put moved j eq ∙ sample_back k.ring encodes x
