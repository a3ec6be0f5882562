use Rattle.std.proofs.Common.{◌≡◌, length, Some, sym, ◌∙◌}
use Rattle.std.proofs.lemmas.Result.{err_from_is_err_and}
use Rattle.pairs.specs.Pairs.{codes_of}
use Rattle.layout.specs.Tests.{first_refusal, unless}
use Rattle.layout.proofs.Orders.{passed, stopped}
use Rattle.reports.specs.Reports.{report_bytes, buffer_after, tap_tests, report_tests}
use Rattle.files.specs.Soundings.{taps}
use Rattle.files.specs.Order.{record_tests, sounding_tests}
use Rattle.files.proofs.Answers.{refuses, keeps, taps_count, taps_decide}
use Rattle.files.proofs.Steps.{made_any}
use Rattle.files.proofs.reporting.report_over.Goals as goal

pub returns-in_err-taps : goal.returns-in_err-taps
returns-in_err-taps g c =
    let k = g.P.Sample.Kind in
    let d = codes_of g.P.Pair c.args.pair in
    let kind = c.args.file.kind in
    let room = c.args.file.room in
    let records = c.args.file.records.now in
    let out = c.args.out.now in
    let p = err_from_is_err_and c.from_residual.result c.from_residual.ensures.1 in
    let ts = taps k d kind room records in
    let all = sounding_tests k d kind room records c.args.file.room_byte c.args.file.size (length out) in
    let e : first_refusal all ≡ Some c.in_err-taps.field-0.0 = stopped (record_tests k d kind room records c.args.file.room_byte c.args.file.size (length out)) (tap_tests c.args.file.size ts) c.in_err-taps.field-0.0 c.in_err-taps.ensures in
    let report = report_bytes kind room ts in
    rw (p.1, p.2) (record { value = refuses (first_refusal all) (length report) c.in_err-taps.field-0.0 e; after = keeps (first_refusal all) report out c.in_err-taps.field-0.0 e; within = tt; laws = tt })

pub returns : goal.returns
returns g c =
    let k = g.P.Sample.Kind in
    let d = codes_of g.P.Pair c.args.pair in
    let kind = c.args.file.kind in
    let room = c.args.file.room in
    let records = c.args.file.records.now in
    let at = c.args.file.room_byte in
    let size = c.args.file.size in
    let out = c.args.out.now in
    let ts = taps k d kind room records in
    let S = c.in_ok-taps.ensures in
    let same = c.as_slice.ensures.value ∙ S.1.taps_are in
    let count = taps_count k d kind room records in
    let past = passed (record_tests k d kind room records at size (length out)) (tap_tests size ts) S.0 in
    let tested : first_refusal (report_tests kind ts size (length out)) ≡ first_refusal (tap_tests size ts) = taps_decide kind ts room size (length out) count S.1.room_least S.1.room_most S.1.placed in
    let all = tested ∙ sym past in
    record {
      value = c.write_report.ensures.value
          ∙ (λ j. unless (first_refusal (report_tests kind (same j) size (length out))) (length (report_bytes kind (length (same j)) (same j))))
          ∙ (λ j. unless (all j) (length (report_bytes kind (count j) ts)));
      within = c.write_report.ensures.within;
      after = c.write_report.ensures.after
          ∙ (λ j. buffer_after (first_refusal (report_tests kind (same j) size (length out))) (report_bytes kind (length (same j)) (same j)) out)
          ∙ (λ j. buffer_after (all j) (report_bytes kind (count j) ts) out);
      laws = made_any c.write_report.result S.1.laws;
    }
