use Rattle.std.proofs.Common.{◌≡◌, ℕ, List, ◌++◌, length, drop, refl, ap, ◌∙◌, zero-add, arith}
use Rattle.std.specs.List.{flat_map}
use Rattle.reports.specs.Reports.{laid, report_head, tap_bytes}
use Rattle.reports.proofs.Laying.{laid_laid, length_taps}
use Rattle.reports.proofs.writing.write.Goals as goal

pub returns : goal.returns
returns c =
    let kind = c.args.kind in
    let taps = c.args.taps.now in
    let out = c.args.out.now in
    let all = flat_map (tap_bytes kind) taps in
    let front = report_head kind (length taps) in
    let first : c.lay.new.out ≡ laid out 0 front = c.lay.ensures ∙ ap (laid out 0) c.head_of.ensures in
    record {
      within = omega arith;
      size = omega (arith, length_taps kind taps);
      after = c.lay_taps.ensures ∙ ap (λ (o : List ℕ). laid o 6 all) first ∙ laid_laid out 0 front all 6 (omega arith) refl ∙ ap (λ n. (front ++ all) ++ drop n out) (zero-add (length (front ++ all)));
    }
