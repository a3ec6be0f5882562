-- Seven stages, of which those past the key's rest, mean what the key's stages do.
use Rattle.std.proofs.Common.{◌≡◌, ℕ, ◌≤◌, eqb, List, [], ◌∷◌, length, get_or, Option, sym, refl, ap, ◌∙◌, subst, ⊎_elim, arith}
use Rattle.std.proofs.lemmas.Bool.{cond-true, cond-false, cond_both, cases_Bool, eqb-true}
use Rattle.kinds.specs.Samples.{RingLaws, ConjugationLaws}
use Rattle.kinds.specs.Kinds.{KindModel}
use Rattle.sums.specs.Codes.{Codes, Pending, silent}
use Rattle.golay.specs.Stages.{stage_pending}
use Rattle.golay.proofs.Pushes.{stage_silent}
use Rattle.keys.specs.declared.stage.KeyStage.{KeyStage}
use Rattle.keys.specs.StageLists.{padded}
use Rattle.keys.specs.Plans.{Plan, IsSound, stages_for, at_rest}
use Rattle.keys.specs.Recursion.{kernel_of}
use Rattle.keys.proofs.Accepted.{Accepted, accepted, few_stages}
use Rattle.keys.proofs.Built.{Built, over, built, built_is, kernel_alone}

pub few_for : (roots : ℕ) (k : Plan) (sound : IsSound k) → length (stages_for roots k) ≤ 7
few_for roots k sound =
    cond_both (eqb k.roots roots) k.stages [] (λ l. length l ≤ 7) (λ e. few_stages k.roots k.kernel k.stages sound) (λ e. omega arith)

module _ {S : Type 0} (k : KindModel S) where
  abbrev pub at : List KeyStage → ℕ → Codes S → Codes S
  at ss i m = over k (get_or ss i at_rest) m

  -- the stages at the seven places, one over the other
  abbrev pub cascaded : List KeyStage → Codes S → Codes S
  cascaded places m = at places 6 (at places 5 (at places 4 (at places 3 (at places 2 (at places 1 (at places 0 m))))))

  seven : (ss : List KeyStage) (m : Codes S) → length ss ≤ 7 → cascaded (padded ss) m ≡ built k ss m
  seven [] m h = refl
  seven (a ∷ []) m h = refl
  seven (a ∷ b ∷ []) m h = refl
  seven (a ∷ b ∷ c ∷ []) m h = refl
  seven (a ∷ b ∷ c ∷ d ∷ []) m h = refl
  seven (a ∷ b ∷ c ∷ d ∷ e ∷ []) m h = refl
  seven (a ∷ b ∷ c ∷ d ∷ e ∷ f ∷ []) m h = refl
  seven (a ∷ b ∷ c ∷ d ∷ e ∷ f ∷ g ∷ []) m h = refl
  seven (a ∷ b ∷ c ∷ d ∷ e ∷ f ∷ g ∷ x ∷ ss) m h = absurd (omega arith)

  pub cascade_built : (roots : ℕ) (key : Plan) (sound : IsSound key) (places : List KeyStage) (m : Codes S) → places ≡ padded (stages_for roots key) → cascaded places m ≡ built k (stages_for roots key) m
  cascade_built roots key sound places m e = ap (λ l. cascaded l m) e ∙ seven (stages_for roots key) m (few_for roots key sound)

  -- the codes of a key, for a kind of its number of roots or of another
  pub key_built : (key : Plan) (sound : IsSound key) → Built k key.kernel (stages_for k.polar.count key) (built k (stages_for k.polar.count key) (kernel_of k.ring key.kernel))
  key_built key sound =
      let stages = key.stages in
      let all = accepted key.roots key.kernel stages sound in
      let wanted : List KeyStage → Type 0 = λ ss. Built k key.kernel ss (built k ss (kernel_of k.ring key.kernel)) in
      ⊎_elim
      (λ e. subst wanted (sym (cond-true _ _ _ e)) (built_is k key.kernel stages (subst (λ n. Accepted n key.kernel stages) (eqb-true key.roots k.polar.count e) all)))
      (λ e. subst wanted (sym (cond-false (eqb key.roots k.polar.count) stages [] e)) (kernel_alone k key.kernel all.kernel_is))
      (cases_Bool (eqb key.roots k.polar.count))

  -- nothing is pending in a new stage over a pair in which nothing is pending
  pub new_silent : RingLaws k.ring → ConjugationLaws k.ring → (o : Option S) (d : ℕ) (pending : Pending S) → pending ≡ silent k.ring → stage_pending k.ring o d (λ j. k.ring.zero) pending ≡ silent k.ring
  new_silent ring bar o d pending e = ap (stage_pending k.ring o d (λ j. k.ring.zero)) e ∙ stage_silent ring bar o d (λ j. k.ring.zero) (λ j. refl)
