-- The laws on the sample of two words, all four from two of them, for any kind.
use Rattle.std.specs.Prelude.{◌≡◌, ℕ, ℤ, Some, None, Option, FitsSigned, ◌≢◌, refl}
use Rattle.std.proofs.Common.{sym, ◌∙◌, arith}
use Rattle.std.specs.Int.{w64}
use Rattle.kinds.specs.Samples.{WordOps, SampleLaws}

-- some sample is not none
pub not_both : {S : Type 0} (x : S) → Some x ≢ None
not_both x e = let z : ◌≡◌ {A = ℕ} 0 1 = cc in omega arith

-- equal answers hold equal samples
pub same_some : {S : Type 0} (x y : S) → Some x ≡ Some y → x ≡ y
same_some x y e = cc

-- if the words of a sample give it back, and a sample that two words give has these words, then all the laws hold
pub samples_by : {S : Type 0} (w : WordOps S)
    → ((x : S) → w.sample (w.first x) (w.second x) ≡ Some x)
    → ((a b : ℤ) (x : S) → FitsSigned w64 a → FitsSigned w64 b → w.sample a b ≡ Some x → (w.first x ≡ a) × (w.second x ≡ b))
    → SampleLaws w
samples_by {S} w back only = record {
  back = back;
  only = only;
  none = λ a b f g h. by a b f g h (w.sample a b) refl;
  no_words = λ a b e x p q. not_both x (sym (back x) ∙ (λ i. w.sample (p i) (q i)) ∙ e);
}
  where
    by : (a b : ℤ) → FitsSigned w64 a → FitsSigned w64 b → ((x : S) → w.first x ≡ a → w.second x ≢ b) → (o : Option S) → w.sample a b ≡ o → o ≡ None
    by a b f g h None e = refl
    by a b f g h (Some x) e = absurd (h x (only a b x f g e).0 (only a b x f g e).1)
