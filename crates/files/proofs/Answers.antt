-- What is answered, and what the buffer then holds, by what the tests come to.
use Rattle.std.proofs.Common.{◌≡◌, ℕ, ◌≤◌, not, leb, List, length, ℤ, Some, Err, Option, Result, sym, ap, ◌∙◌, subst, arith}
use Rattle.std.proofs.lemmas.List.FromFn.{length-map-range_with_len}
use Rattle.std.proofs.lemmas.Bool.{le-leb, le-ltb, and_from, cond-false}
use Rattle.kinds.specs.Kinds.{KindModel}
use Rattle.sums.specs.Codes.{Codes}
use Rattle.calls.specs.declared.call.Call.TheVariants.{Tap}
use Rattle.calls.specs.Runs.{answer_after}
use Rattle.kinds.specs.declared.kind_name.KindName.{KindName}
use Rattle.layout.specs.declared.refusal.FileRefusal.{FileRefusal}
use Rattle.layout.specs.Tests.{first_refusal, unless}
use Rattle.reports.specs.Reports.{report_length, buffer_after, tap_tests, report_tests}
use Rattle.files.specs.Soundings.{words_in, sounded, taps}

module _ (o : Option FileRefusal) where
  pub refuses : (n : ℕ) (e : FileRefusal) → o ≡ Some e → ◌≡◌ {A = Result ℕ FileRefusal} (Err e) (unless o n)
  refuses n e h = sym (ap (λ p. unless p n) h)

  module _ (report d : List ℕ) where
    pub keeps : (e : FileRefusal) → o ≡ Some e → d ≡ buffer_after o report d
    keeps e h = sym (ap (λ p. buffer_after p report d) h)

pub taps_count : {S : Type 0} (k : KindModel S) (c : Codes S) (kind : KindName) (room : ℕ) (records : List ℕ) → length (taps k c kind room records) ≡ room
taps_count k c kind room records = length-map-range_with_len (λ i. words_in (answer_after k c (sounded k c kind room records) (Tap i))) 0 room

-- of a room length that is allowed and a buffer that is long enough, the taps alone decide
pub taps_decide : (kind : KindName) (ts : List (ℤ × ℤ)) (room size space : ℕ) → length ts ≡ room → 1 ≤ room → room ≤ 256 → report_length kind room ≤ space
    → first_refusal (report_tests kind ts size space) ≡ first_refusal (tap_tests size ts)
taps_decide kind ts room size space e least most placed =
    cond-false _ _ _ (ap not (and_from (leb 1 (length ts)) (leb (length ts) 256) (le-leb 1 (length ts) (omega arith)) (le-leb (length ts) 256 (omega arith))))
    ∙ cond-false _ _ _ (le-ltb space (report_length kind (length ts)) (subst (λ n. report_length kind n ≤ space) (sym e) placed))
