use Rattle.std.proofs.Common.{ℕ, ◌+◌, ◌*◌, List, get_or, pos, ap, ◌∙◌}
use Rattle.kinds.specs.KindNames.{width}
use Rattle.reports.specs.Reports.{laid, tap_bytes}
use Rattle.reports.proofs.Laying.{laid_more}
use Rattle.reports.proofs.writing.lay_taps.Goals as goal

pub loop-i-preserved : goal.loop-i-preserved
loop-i-preserved c =
    let i = c.loop-i.i in
    let at = c.args.from + width c.args.kind * i in
    c.lay_tap.ensures ∙ rw c.width.ensures (ap (λ (o : List ℕ). laid o at (tap_bytes c.args.kind (get_or c.args.taps.now i (pos 0, pos 0)))) c.loop-i.invariant ∙ laid_more c.args.out.now c.args.from c.args.kind c.args.taps.now i (pos 0, pos 0) c.loop-i-test.true c.requires)
