use Rattle.std.proofs.Common.{◌≡◌, ℕ, ◌+◌, List, sym, refl, ap, ◌∙◌, ap₂, arith, w64, SFits, rules}
use Rattle.std.proofs.lemmas.Int.{to_z-of_z}
use Rattle.kinds.specs.KindNames.{width}
use Rattle.reports.specs.Reports.{laid, number_bytes, tap_bytes}
use Rattle.reports.proofs.Laying.{laid_laid}
use Rattle.reports.proofs.writing.lay_tap.Goals as goal

pub returns-in-Radio : goal.returns-in-Radio
returns-in-Radio c =
    let out = c.args.out.now in
    let n = c.args.n in
    let x = c.args.tap.0 in
    let y = c.args.tap.1 in
    let fx : SFits w64 x = search rules in
    let fy : SFits w64 y = search rules in
    let a : c.lay.new.out ≡ laid out n (number_bytes x) = c.lay.ensures ∙ ap (laid out n) (c.two_bytes.ensures ∙ ap number_bytes (to_z-of_z w64 x fx)) in
    let b : c.two_bytes-in-Radio.result ≡ number_bytes y = c.two_bytes-in-Radio.ensures ∙ ap number_bytes (to_z-of_z w64 y fy) in
    let w = ap width c.in-Radio.is in
    c.lay-in-Radio.ensures ∙ ap₂ (λ (o bs : List ℕ). laid o (n + 2) bs) a b ∙ laid_laid out n (number_bytes x) (number_bytes y) (n + 2) (omega arith) refl ∙ ap (λ s. laid out n (tap_bytes s c.args.tap)) (sym c.in-Radio.is)
