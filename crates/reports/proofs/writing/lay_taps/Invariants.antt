use Rattle.std.proofs.Common.{◌≡◌, take}
use Rattle.std.specs.List.{flat_map}
use Rattle.reports.specs.Reports.{laid, tap_bytes}
use Rattle.reports.proofs.writing.lay_taps.Given as goal

abbrev pub invariant-loop-i : goal.invariant-loop-i
invariant-loop-i l = l.out ≡ laid l.initial.out l.from (flat_map (tap_bytes l.kind) (take l.i l.taps))
