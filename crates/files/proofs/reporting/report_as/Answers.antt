use Rattle.std.proofs.Common.{length, subst}
use Rattle.sums.specs.Codes.{Codes}
use Rattle.keys.proofs.KeyCodes.{codes_of_key}
use Rattle.files.specs.Files.{tests_over, report_over, LawsOver, Reports}
use Rattle.files.proofs.reporting.report_as.Goals as goal

pub returns : goal.returns
returns g c =
    let k = g.K.Kind in
    let s = c.args.file in
    let out = c.args.out.now in
    let same = codes_of_key k c.args.key.now _ _ c.cascade.ensures in
    subst (λ (d : Codes g.row.K.Denot). Reports (tests_over k d s (length out)) (report_over k d s) (LawsOver k d s) c.report_over.result out c.report_over.new.out) same c.report_over.ensures
