-- A table of zeros, read back.
use Rattle.std.proofs.Common.{◌≡◌, ℕ, ltb, pos, refl}
use Rattle.std.proofs.lemmas.Bool.{cond_both, ltb-true}
use Rattle.std.proofs.lemmas.List.{get_or-replicate}
use Rattle.tables.specs.Tables.{zeros}

-- a table of zeros has zeros at every place
pub zeros_at : (n i : ℕ) → zeros n i ≡ (pos 0, pos 0)
zeros_at n i = cond_both (ltb i n) _ _ (λ t. t ≡ (pos 0, pos 0)) (λ e. let z = get_or-replicate n i (pos 0) (pos 0) (ltb-true i n e) in λ t. (z t, z t)) (λ e. refl)
