-- How the tests of a file come one after another, where its fields are at hand.
use Rattle.std.proofs.Common.{◌≡◌, ℕ, ◌+◌, ◌*◌, ◌≤◌, List, ◌++◌, length, drop, Some, None, sym, ap, ◌∙◌, ap₂, arith}
use Rattle.std.proofs.lemmas.List.{length-drop, drop-drop, get_or-drop}
use Rattle.keys.specs.Judged.{count_judged, judged}
use Rattle.keys.specs.Plans.{plan}
use Rattle.keys.specs.declared.stage.KeyStage.{KeyStage}
use Rattle.layout.specs.declared.refusal.FileRefusal.{FileRefusal}
use Rattle.layout.specs.declared.head.Head.{Head}
use Rattle.kinds.specs.KindNames.{roots}
use Rattle.layout.specs.Tests.{Test, first_refusal}
use Rattle.layout.specs.Fields.{byte_at, two_bytes, kind_of, kernel_of, count_of, stages_in, stages_of, plan_in, room_of, record_byte, records_of}
use Rattle.layout.specs.Order.{head_tests, key_says, field_tests, layout_tests}
use Rattle.layout.specs.Read.{HeadRead}
use Rattle.layout.proofs.Orders.{passed, stopped}

two_bytes_past : (file : List ℕ) (n : ℕ) → two_bytes (drop 6 file) n ≡ two_bytes file (6 + n)
two_bytes_past file n = ap₂ (λ a b. a * 256 + b) (get_or-drop 6 file n 0) (get_or-drop 6 file (n + 1) 0 ∙ ap (byte_at file) (omega arith))

-- the tests of a file after its head, by their groups
abbrev count_group : List ℕ → List Test
count_group file = key_says (count_judged (kernel_of file) (count_of file))

abbrev field_group : List ℕ → List Test
field_group file = field_tests (length file) (count_of file)

abbrev key_group : List ℕ → List Test
key_group file = key_says (judged (roots (kind_of file)) (kernel_of file) (stages_of file))

module _ (file : List ℕ) (a : first_refusal (head_tests file) ≡ None) (h : Head) (H : HeadRead file h) where
  past_head : first_refusal (layout_tests file) ≡ first_refusal (count_group file ++ (field_group file ++ key_group file))
  past_head = passed (head_tests file) (count_group file ++ (field_group file ++ key_group file)) a

  count_same : first_refusal (key_says (count_judged h.kernel h.count)) ≡ first_refusal (count_group file)
  count_same = ap₂ (λ k n. first_refusal (key_says (count_judged k n))) H.kernel_is H.count_is

  stages_same : stages_in h.rest.now h.count ≡ stages_of file
  stages_same = ap₂ stages_in H.rest_is H.count_is

  pub room_same : (room : ℕ) → room ≡ two_bytes h.rest.now (2 * h.count) → room ≡ room_of file
  room_same room e = e ∙ ap₂ (λ r n. two_bytes r (2 * n)) H.rest_is H.count_is ∙ two_bytes_past file (2 * count_of file)

  pub records_same : (rest : List ℕ) → rest ≡ drop (2 * h.count + 2) h.rest.now → rest ≡ records_of file
  records_same rest e = e ∙ ap₂ (λ r n. drop (2 * n + 2) r) H.rest_is H.count_is ∙ drop-drop (2 * count_of file + 2) 6 file ∙ ap (λ n. drop n file) (omega arith)

  pub size_same : (rest : List ℕ) → rest ≡ drop (2 * h.count + 2) h.rest.now → 2 * h.count + 2 ≤ length h.rest.now → record_byte file + length rest ≡ length file
  size_same rest e l =
      let n = H.count_is in
      let s = H.size_is in
      let r = ap length e ∙ length-drop (2 * h.count + 2) h.rest.now in
      omega arith

  module _ (b : first_refusal (key_says (count_judged h.kernel h.count)) ≡ None) where
    fields_same : first_refusal (field_tests (6 + length h.rest.now) h.count) ≡ first_refusal (field_group file)
    fields_same = ap₂ (λ s n. first_refusal (field_tests s n)) H.size_is H.count_is

    past_count : first_refusal (layout_tests file) ≡ first_refusal (field_group file ++ key_group file)
    past_count = past_head ∙ passed (count_group file) (field_group file ++ key_group file) (sym count_same ∙ b)

    pub stops_at_fields : (e : FileRefusal) → first_refusal (field_tests (6 + length h.rest.now) h.count) ≡ Some e → first_refusal (layout_tests file) ≡ Some e
    stops_at_fields e f = past_count ∙ stopped (field_group file) (key_group file) e (sym fields_same ∙ f)

    module _ (f : first_refusal (field_tests (6 + length h.rest.now) h.count) ≡ None) (part : List KeyStage) (s : part ≡ stages_in h.rest.now h.count) where
      -- what the key says is the last of these tests
      pub key_decides : first_refusal (layout_tests file) ≡ first_refusal (key_says (judged (roots h.kind) h.kernel part))
      key_decides =
          past_count
          ∙ passed (field_group file) (key_group file) (sym fields_same ∙ f)
          ∙ sym (ap₂ (λ k n. first_refusal (key_says (judged (roots k) n part))) H.kind_is H.kernel_is ∙ ap (λ ss. first_refusal (key_says (judged (roots (kind_of file)) (kernel_of file) ss))) (s ∙ stages_same))

      pub plan_same : plan h.kernel (roots h.kind) part ≡ plan_in file
      plan_same = ap₂ (λ k n. plan n (roots k) part) H.kind_is H.kernel_is ∙ ap (plan (kernel_of file) (roots (kind_of file))) (s ∙ stages_same)
