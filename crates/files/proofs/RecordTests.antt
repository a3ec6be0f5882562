-- How the tests on a sounding come one after another.
use Rattle.std.proofs.Common.{◌≡◌, ℕ, ◌+◌, ◌*◌, ◌≤◌, not, eqb, ltb, List, ◌∷◌, ◌++◌, length, drop, Some, None, sym, ap, ◌∙◌}
use Rattle.std.proofs.lemmas.Bool.{eq-eqb, le-ltb, cond-false}
use Rattle.kinds.specs.Kinds.{KindModel}
use Rattle.sums.specs.Codes.{Codes}
use Rattle.calls.specs.declared.call.Call.TheVariants.{Open}
use Rattle.calls.specs.Answers.{full}
use Rattle.calls.specs.Runs.{new, answer_after}
use Rattle.kinds.specs.declared.kind_name.KindName.{KindName}
use Rattle.layout.specs.declared.refusal.FileRefusal.{FileRefusal}
use Rattle.layout.specs.declared.refusal.FileRefusal.TheVariants.{Length, Buffer}
use Rattle.kinds.specs.KindNames.{width}
use Rattle.layout.specs.Tests.{Test, first_refusal}
use Rattle.layout.proofs.Orders.{passed, stopped}
use Rattle.reports.specs.Reports.{report_length}
use Rattle.files.specs.Samples.{samples_in}
use Rattle.files.specs.Soundings.{record_size}
use Rattle.files.specs.Order.{sounder_says, sample_tests, record_tests}

module _ {S : Type 0} (k : KindModel S) (c : Codes S) (kind : KindName) (room : ℕ) (records : List ℕ) (at size space : ℕ) where
  abbrev open_group : List Test
  open_group = sounder_says at (answer_after k c new (Open room))

  -- the tests on the samples of both records of n samples each, by a pair of codes d
  abbrev pub samples_by : Codes S → ℕ → List Test
  samples_by d n = sample_tests k d kind (at + 2) (samples_in kind records n) ++ sample_tests k d kind (at + 2 + width kind * n) (samples_in kind (drop (width kind * n) records) n)

  abbrev rest_group : List Test
  rest_group =
      (not (eqb (length records) (2 * record_size k c kind room records)), Length (at + 2))
      ∷ (ltb space (report_length kind room), Buffer size)
      ∷ samples_by c (full k c room)

  pub stops_at_open : (e : FileRefusal) → first_refusal open_group ≡ Some e → first_refusal (record_tests k c kind room records at size space) ≡ Some e
  stops_at_open e h = stopped open_group rest_group e h

  -- where all before them is passed, the samples decide
  pub samples_decide : first_refusal open_group ≡ None → (n : ℕ) → n ≡ full k c room → (d : Codes S) → d ≡ c → length records ≡ 2 * (width kind * n) → report_length kind room ≤ space
      → first_refusal (record_tests k c kind room records at size space) ≡ first_refusal (samples_by d n)
  samples_decide o n e d f l p =
      passed open_group rest_group o
      ∙ cond-false _ _ _ (ap not (eq-eqb (length records) (2 * record_size k c kind room records) (l ∙ ap (λ m. 2 * (width kind * m)) e)))
      ∙ cond-false _ _ _ (le-ltb space (report_length kind room) p)
      ∙ sym (λ j. first_refusal (samples_by (f j) (e j)))
