use Rattle.std.proofs.Common.{◌≡◌, ℕ, List, IfOk, string_bytes, subst}
use Rattle.codes.proofs.KeySheets.{sheet_of_key}
use Rattle.codes.proofs.sheet.key_sheet.Goals as goal

pub returns : goal.returns
returns g c =
    let e = sheet_of_key c.args.kind g.K.Kind c.args.key.now _ _ _ c.cascade.ensures.code c.cascade.ensures.span c.cascade.ensures.energy in
    subst (λ (bs : List ℕ). IfOk c.pair_sheet.result (λ s. string_bytes s ≡ bs)) e c.pair_sheet.ensures
