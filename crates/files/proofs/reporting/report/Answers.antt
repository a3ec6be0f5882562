use Rattle.std.proofs.Common.{◌≡◌, length, IfOk, Some, Option, sym, ap, ◌∙◌, subst}
use Rattle.layout.specs.declared.refusal.FileRefusal.{FileRefusal}
use Rattle.layout.specs.Tests.{first_refusal, unless}
use Rattle.layout.specs.Fields.{kind_of, plan_in, room_byte_of, room_of, records_of}
use Rattle.layout.specs.Order.{layout_tests}
use Rattle.layout.proofs.Orders.{passed, stopped}
use Rattle.layout.proofs.Firsts.{comes, in_order}
use Rattle.reports.specs.Reports.{buffer_after}
use Rattle.files.specs.Files.{tests_for, report_for, LawsFor, file_tests, report_of}
use Rattle.files.proofs.Answers.{refuses, keeps}
use Rattle.files.proofs.reporting.report.Goals as goal

pub returns-in-Err : goal.returns-in-Err
returns-in-Err c =
    let file = c.args.file.now in
    let out = c.args.out.now in
    let all = file_tests file (length out) in
    let rest = tests_for (plan_in file) (room_of file) (records_of file) (kind_of file) (room_byte_of file) (length file) (length out) in
    let e : first_refusal all ≡ Some c.in-Err.refusal = stopped (layout_tests file) rest c.in-Err.refusal c.in-Err.ensures in
    record {
      order = comes all c.in-Err.refusal e;
      value = refuses (first_refusal all) (length (report_of file)) c.in-Err.refusal e;
      after = keeps (first_refusal all) (report_of file) out c.in-Err.refusal e;
      within = tt;
      laws = tt;
    }

pub returns-in-Ok : goal.returns-in-Ok
returns-in-Ok c =
    let file = c.args.file.now in
    let out = c.args.out.now in
    let parsed = c.in-Ok.ensures in
    let F = parsed.1 in
    let P : c.in-Ok.sounding.key ≡ plan_in file = F.key_is in
    let all = file_tests file (length out) in
    let rest = tests_for (plan_in file) (room_of file) (records_of file) (kind_of file) (room_byte_of file) (length file) (length out) in
    let past : first_refusal all ≡ first_refusal rest = passed (layout_tests file) rest parsed.0 in
    let v : c.report_by_kind.result ≡ unless (first_refusal all) (length (report_of file)) =
    c.report_by_kind.ensures.value
    ∙ (λ j. unless (first_refusal (tests_for (P j) (F.room_is j) (F.records_are j) (F.kind_is j) (F.byte_is j) (length file) (length out))) (length (report_for (P j) (F.room_is j) (F.records_are j) (F.kind_is j))))
    ∙ ap (λ (o : Option FileRefusal). unless o (length (report_of file))) (sym past) in
    record {
      order = in_order all (length (report_of file)) c.report_by_kind.result v;
      value = v;
      after = c.report_by_kind.ensures.after
          ∙ (λ j. buffer_after (first_refusal (tests_for (P j) (F.room_is j) (F.records_are j) (F.kind_is j) (F.byte_is j) (length file) (length out))) (report_for (P j) (F.room_is j) (F.records_are j) (F.kind_is j)) out)
          ∙ ap (λ (o : Option FileRefusal). buffer_after o (report_of file) out) (sym past);
      within = c.report_by_kind.ensures.within;
      laws = subst (λ (x : Type 0). x) (λ j. IfOk c.report_by_kind.result (λ _. LawsFor (P j) (F.room_is j) (F.records_are j) (F.kind_is j))) c.report_by_kind.ensures.laws;
    }
