use Rattle.std.proofs.Common.{◌≡◌, length, Some, Option, sym, ap, ◌∙◌}
use Rattle.std.proofs.lemmas.Bool.{cond-true, cond-false}
use Rattle.layout.specs.declared.refusal.FileRefusal.{FileRefusal}
use Rattle.layout.specs.declared.refusal.FileRefusal.TheVariants.{Length}
use Rattle.layout.specs.Tests.{first_refusal, unless}
use Rattle.layout.proofs.Firsts.{comes, in_order}
use Rattle.reports.specs.Reports.{buffer_after}
use Rattle.files.specs.Files.{file_tests, input_tests, report_of}
use Rattle.files.proofs.Answers.{refuses, keeps}
use Rattle.files.proofs.reporting.report_input.Goals as goal

pub returns-then-is_too_long : goal.returns-then-is_too_long
returns-then-is_too_long c =
    let input = c.args.input.now in
    let out = c.args.out.now in
    let all = input_tests input (length out) in
    let e : first_refusal all ≡ Some (Length 8192) = cond-true _ _ _ (sym c.if-is_too_long.ensures) in
    record {
      order = comes all (Length 8192) e;
      value = refuses (first_refusal all) (length (report_of input)) (Length 8192) e;
      after = keeps (first_refusal all) (report_of input) out (Length 8192) e;
      within = tt;
      laws = tt;
    }

pub returns : goal.returns
returns c =
    let input = c.args.input.now in
    let out = c.args.out.now in
    let all = input_tests input (length out) in
    let past : first_refusal all ≡ first_refusal (file_tests input (length out)) = cond-false _ _ _ (sym c.if-is_too_long.ensures) in
    let v : c.report.result ≡ unless (first_refusal all) (length (report_of input)) = c.report.ensures.value ∙ ap (λ (o : Option FileRefusal). unless o (length (report_of input))) (sym past) in
    record {
      order = in_order all (length (report_of input)) c.report.result v;
      value = v;
      after = c.report.ensures.after ∙ ap (λ (o : Option FileRefusal). buffer_after o (report_of input) out) (sym past);
      within = c.report.ensures.within;
      laws = c.report.ensures.laws;
    }
