-- The codes of an accepted key.
use Rattle.std.proofs.Common.{◌≡◌, ℕ, suc, ◌+◌, ◌*◌, ◌^◌, ◌<◌, ◌≤◌, Bool, true, false, cond, eqb, ltb, List, [], ◌∷◌, length, Some, None, Option, sym, refl, ap, ◌∙◌, subst, ⊎_elim, arith}
use mathlib.Core.Path.{fun_ext}
use Rattle.std.specs.List.{AllByRecursion}
use Rattle.std.proofs.lemmas.Nat.{pow_pos, mul-le}
use Rattle.std.proofs.lemmas.List.{length-map}
use Rattle.std.proofs.lemmas.Bool.{eqb-true, lt-ltb, ltb-true, or_cases, cond-true}
use Rattle.kinds.specs.Samples.{RingLaws, ConjugationLaws, RootLaws}
use Rattle.kinds.specs.Kinds.{KindModel}
use Rattle.kinds.specs.Rings.{add_zero}
use Rattle.sums.specs.declared.Side.{Side}
use Rattle.sums.specs.declared.Side.TheVariants.{A, B}
use Rattle.sums.specs.Sums.{late, ones}
use Rattle.sums.specs.Codes.{Codes, PairLaws, RootSum, silent}
use Rattle.golay.specs.Stages.{doubled, weight_of, stage_codes}
use Rattle.golay.specs.Kernels.{unit_codes, ten_codes}
use Rattle.golay.proofs.Pushes.{stage_silent}
use Rattle.golay.proofs.StageLaws.{stage_laws}
use Rattle.golay.proofs.Tens.{ten_laws}
use Rattle.golay.proofs.Units.{unit_laws}
use Rattle.golay.proofs.Weights.{Works, weight_from_works}
use Rattle.delays.specs.Sets.{folded, spread}
use Rattle.delays.proofs.Counts.{set_counts}
use Rattle.delays.proofs.Sums.{set_sum, set_bounds}
use Rattle.keys.specs.declared.stage.KeyStage.{KeyStage}
use Rattle.keys.specs.Judged.{is_kernel, delays_of, first_wrong}
use Rattle.keys.specs.Recursion.{kernel_of, next_code, recursion, IsRoot}
use Rattle.keys.proofs.Accepted.{Accepted, small_span}

module _ {S : Type 0} (k : KindModel S) where
  -- the codes of one stage of a key over codes, whether it works or rests, and of one that works
  abbrev pub over : KeyStage → Codes S → Codes S
  over s c = stage_codes k.ring (weight_of k.polar s.delay s.code c) s.delay c

  abbrev pub built : List KeyStage → Codes S → Codes S
  built [] c = c
  built (s ∷ ss) c = built ss (over s c)

  abbrev working : KeyStage → Codes S → Codes S
  working s c = doubled k.ring (k.polar.root s.code) s.delay c

  abbrev all_working : List KeyStage → Codes S → Codes S
  all_working [] c = c
  all_working (s ∷ ss) c = all_working ss (working s c)

  -- the parts of stages that all work
  span_working : (ss : List KeyStage) (c : Codes S) → (all_working ss c).span ≡ folded (λ d x. x + d) (delays_of ss) c.span
  span_working [] c = refl
  span_working (s ∷ ss) c = span_working ss (working s c)

  power_more : (e n : ℕ) → e * 2 ^ suc n ≡ 2 * e * 2 ^ n
  power_more e n = let p : 2 ^ suc n ≡ 2 * 2 ^ n = omega arith in ap (λ t. e * t) p ∙ omega arith

  energy_working : (ss : List KeyStage) (c : Codes S) → (all_working ss c).energy ≡ c.energy * 2 ^ length ss
  energy_working [] c = omega arith
  energy_working (s ∷ ss) c = energy_working ss (working s c) ∙ sym (power_more c.energy (length ss))

  next_working : (s : KeyStage) (c : Codes S) → (working s c).entry ≡ next_code k s c.entry
  next_working s c = fun_ext by
    where
      by : (side : Side) → (working s c).entry side ≡ next_code k s c.entry side
      by A = refl
      by B = refl

  entry_working : (ss : List KeyStage) (c : Codes S) → (all_working ss c).entry ≡ recursion k ss c.entry
  entry_working [] c = refl
  entry_working (s ∷ ss) c = entry_working ss (working s c) ∙ ap (recursion k ss) (next_working s c)

  counts_working : (ss : List KeyStage) (c : Codes S) (count : ℕ → ℕ) → c.counts ≡ (λ side. count) → (all_working ss c).counts ≡ (λ side. folded spread (delays_of ss) count)
  counts_working [] c count e = e
  counts_working (s ∷ ss) c count e =
      counts_working ss (working s c) (spread s.delay count) (ap (λ (f : Side → ℕ → ℕ). λ (side : Side) (j : ℕ). f A j + late 0 s.delay (f B) j) e)

  -- no stage rests: the delays and codes allow it, and there is room for all of them
  abbrev Ready : List KeyStage → Type 0
  Ready [] = Unit {0}
  Ready (s ∷ ss) = (1 ≤ s.delay) × (s.delay ≤ 128) × (s.code < k.polar.count) × Ready ss

  record Room (ss : List KeyStage) (c : Codes S) : Type 0 where
    spans : folded (λ d x. x + d) (delays_of ss) c.span ≤ 3968
    energies : c.energy * 2 ^ length ss ≤ 2 ^ 19

  sum_grows : (ds : List ℕ) (x : ℕ) → x ≤ folded (λ d x. x + d) ds x
  sum_grows [] x = omega arith
  sum_grows (d ∷ ds) x = omega (arith, sum_grows ds (x + d))

  over_works : (s : KeyStage) (ss : List KeyStage) (c : Codes S) → Ready (s ∷ ss) → Room (s ∷ ss) c → over s c ≡ working s c
  over_works s ss c h r =
      let e : c.energy * 1 ≤ c.energy * 2 ^ suc (length ss) = mul-le c.energy 1 c.energy (2 ^ suc (length ss)) (omega arith) (pow_pos (suc (length ss))) in
      let works : Works k.polar s.delay s.code c (k.polar.root s.code) = record {
        delay_least = h.0;
        delay_most = h.1;
        energy_most = omega (arith, r.energies);
        span_most = omega (arith, sum_grows (delays_of (s ∷ ss)) c.span, r.spans);
        code_most = h.2;
        weight_is = refl;
      } in
      ap (λ o. stage_codes k.ring o s.delay c) (weight_from_works k.polar s.delay s.code c works)

  built_works : (ss : List KeyStage) (c : Codes S) → Ready ss → Room ss c → built ss c ≡ all_working ss c
  built_works [] c h r = refl
  built_works (s ∷ ss) c h r = ap (built ss) (over_works s ss c h r) ∙ built_works ss (working s c) h.3 (record { spans = r.spans; energies = rw (← power_more c.energy (length ss)) r.energies })

  right_code : (b : Bool) (o : Option ℕ) (x : ℕ) → cond b o (Some x) ≡ None → (b ≡ true) × (o ≡ None)
  right_code true o x h = (refl, h)
  right_code false o x h = let z : ◌≡◌ {A = ℕ} 0 1 = cc in absurd (omega arith)

  ready : (i : ℕ) (ss : List KeyStage) → AllByRecursion (λ d. (1 ≤ d) × (d ≤ 128)) (delays_of ss) → first_wrong k.polar.count i ss ≡ None → Ready ss
  ready i [] h e = tt
  ready i (s ∷ ss) h e =
      let q = right_code (ltb s.code k.polar.count) (first_wrong k.polar.count (i + 1) ss) i e in
      (h.0.0, h.0.1, ltb-true s.code k.polar.count q.0, ready (i + 1) ss h.1 q.1)

  -- a kernel: its span, its energy, one root at each entry
  record Base (kernel : ℕ) (c : Codes S) : Type 0 where
    least : 1 ≤ kernel
    base_span : c.span ≡ kernel
    base_energy : c.energy ≡ 2 * kernel
    base_counts : c.counts ≡ (λ side. ones kernel)

  unit_base : Base 1 (kernel_of k.ring 1)
  unit_base = record { least = omega arith; base_span = refl; base_energy = refl; base_counts = refl }

  ten_base : Base 10 (kernel_of k.ring 10)
  ten_base = record { least = omega arith; base_span = refl; base_energy = refl; base_counts = refl }

  kernel_base : (kernel : ℕ) → is_kernel kernel ≡ true → Base kernel (kernel_of k.ring kernel)
  kernel_base kernel h =
      ⊎_elim
      (λ e. subst (λ n. Base n (kernel_of k.ring n)) (sym (eqb-true kernel 1 e)) unit_base)
      (λ e. subst (λ n. Base n (kernel_of k.ring n)) (sym (eqb-true kernel 10 e)) ten_base)
      (or_cases (eqb kernel 1) (eqb kernel 10) h)

  -- what the codes of stages over a kernel are
  pub record Built (kernel : ℕ) (ss : List KeyStage) (c : Codes S) : Type 0 where
    pub entry_is : c.entry ≡ recursion k ss (kernel_of k.ring kernel).entry
    pub span_is : c.span ≡ kernel * 2 ^ length ss
    pub energy_is : c.energy ≡ 2 * c.span
    pub counts_are : c.counts ≡ (λ side. ones c.span)

  pub built_is : (kernel : ℕ) (ss : List KeyStage) → Accepted k.polar.count kernel ss → Built kernel ss (built ss (kernel_of k.ring kernel))
  built_is kernel ss a =
      let c = kernel_of k.ring kernel in
      let n = length ss in
      let ds = delays_of ss in
      let base = kernel_base kernel a.kernel_is in
      let len : length ds ≡ n = length-map ss (λ (s : KeyStage). s.delay) in
      let small : kernel * 2 ^ n ≤ 160 = small_span a in
      let few : kernel * 2 ^ length ds ≤ 256 = rw len (omega arith) in
      let sum : folded (λ d x. x + d) ds c.span ≡ kernel * 2 ^ n = ap (folded (λ d x. x + d) ds) base.base_span ∙ set_sum kernel ds base.least a.set_is ∙ ap (λ t. kernel * 2 ^ t) len in
      let whole : c.energy * 2 ^ n ≡ 2 * (kernel * 2 ^ n) = ap (λ u. u * 2 ^ n) base.base_energy ∙ omega arith in
      let works : built ss c ≡ all_working ss c = built_works ss c (ready 0 ss (set_bounds kernel ds base.least few a.set_is) a.codes_are) (record { spans = omega arith; energies = omega arith }) in
      let span : (all_working ss c).span ≡ kernel * 2 ^ n = span_working ss c ∙ sum in
      subst (Built kernel ss) (sym works) (record {
        entry_is = entry_working ss c;
        span_is = span;
        energy_is = energy_working ss c ∙ whole ∙ ap (λ t. 2 * t) (sym span);
        counts_are = counts_working ss c (ones kernel) base.base_counts ∙ ap (λ (f : ℕ → ℕ). λ (side : Side). f) (set_counts kernel ds base.least a.set_is ∙ ap (λ t. ones (kernel * 2 ^ t)) len ∙ ap ones (sym span));
      })

  -- no stage at all: the kernel alone
  pub kernel_alone : (kernel : ℕ) → is_kernel kernel ≡ true → Built kernel [] (kernel_of k.ring kernel)
  kernel_alone kernel h =
      let base = kernel_base kernel h in
      let span : (kernel_of k.ring kernel).span ≡ kernel = base.base_span in
      record {
        entry_is = refl;
        span_is = span ∙ omega arith;
        energy_is = base.base_energy ∙ ap (λ t. 2 * t) (sym span);
        counts_are = base.base_counts ∙ ap (λ n. λ (side : Side). ones n) (sym span);
      }

  module _ (ring : RingLaws k.ring) (bar : ConjugationLaws k.ring) (roots : RootLaws k.ring k.polar) where
    kernel_laws : (kernel : ℕ) → PairLaws k.ring k.polar (kernel_of k.ring kernel) (silent k.ring)
    kernel_laws kernel =
        elim (eqb kernel 10) as (λ b. PairLaws k.ring k.polar (cond b (ten_codes k.ring) (unit_codes k.ring)) (silent k.ring)) [
          | true ↦ ten_laws ring bar roots (silent k.ring) (λ side j h. refl)
          | false ↦ unit_laws ring bar roots
        ]

    built_laws : (ss : List KeyStage) (c : Codes S) → PairLaws k.ring k.polar c (silent k.ring) → PairLaws k.ring k.polar (built ss c) (silent k.ring)
    built_laws [] c laws = laws
    built_laws (s ∷ ss) c laws =
        let o = weight_of k.polar s.delay s.code c in
        built_laws ss (over s c) (subst (PairLaws k.ring k.polar (over s c)) (stage_silent ring bar o s.delay (λ j. k.ring.zero) (λ j. refl)) (stage_laws ring bar roots s.delay s.code (λ j. k.ring.zero) c (silent k.ring) laws o refl))

    one_root : (x : S) → RootSum k.ring k.polar 1 x → IsRoot k.polar x
    one_root x s = (s.0, s.1, s.2.1 ∙ ap (k.ring.add (k.polar.root s.0)) s.2.2 ∙ add_zero ring _)

    -- each entry below the span is a root
    pub built_roots : (kernel : ℕ) (ss : List KeyStage) → Built kernel ss (built ss (kernel_of k.ring kernel)) → (side : Side) (j : ℕ) → j < (built ss (kernel_of k.ring kernel)).span → IsRoot k.polar ((built ss (kernel_of k.ring kernel)).entry side j)
    built_roots kernel ss b side j h =
        let c = built ss (kernel_of k.ring kernel) in
        let count : c.counts side j ≡ 1 = ap (λ (f : Side → ℕ → ℕ). f side j) b.counts_are ∙ cond-true _ _ _ (lt-ltb j c.span h) in
        one_root _ (subst (λ n. RootSum k.ring k.polar n (c.entry side j)) count ((built_laws ss (kernel_of k.ring kernel) (kernel_laws kernel)).rooted side j))
