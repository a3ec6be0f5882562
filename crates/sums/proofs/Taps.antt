-- A tap lies as near to the room's as the samples to the room's answer.
use Rattle.std.proofs.Common.{◌≡◌, ℕ, ◌+◌, ◌^◌, ◌<◌, ◌≤◌, sym, ap, ◌∙◌}
use Rattle.kinds.specs.Samples.{RingOps}
use Rattle.kinds.specs.Kinds.{KindModel, KindLaws}
use Rattle.sums.specs.declared.Side.{Side}
use Rattle.sums.specs.Sums.{times}
use Rattle.sums.specs.Codes.{Codes, Pending, PairLaws}
use Rattle.sums.specs.Rooms.{room_answer, sum_at, rounded, Near, Within}
use Rattle.sums.proofs.Rooms.{recovered}
use Rattle.sums.proofs.Pushes.{sum_at_same, sum_at_add}
use Rattle.sums.proofs.Noise.{sum_bound}
use Rattle.sums.proofs.Rounding.{Word, word_near}

module _ {S : Type 0} {k : KindModel S} (K : KindLaws k) where
  abbrev r : RingOps S
  r = k.ring

  first_word : Word r k.polar k.encoding.first
  first_word = record { add_word = K.wordwise.first_add; zero_word = K.wordwise.first_zero; least_word = K.magnitudes.first_least }

  second_word : Word r k.polar k.encoding.second
  second_word = record { add_word = K.wordwise.second_add; zero_word = K.wordwise.second_zero; least_word = K.magnitudes.second_least }

  module _ (c : Codes S) (pending : Pending S) (laws : PairLaws r k.polar c pending) (h : ℕ → S) (records : Side → ℕ → S) where
    abbrev silence : Side → ℕ → S
    silence side = room_answer r c.span (c.entry side) h

    abbrev noise : Side → ℕ → S
    noise side t = r.sub (records side t) (silence side t)

    -- the sum of a room without noise, and what the noise adds
    parts : (t : ℕ) → sum_at r c records t ≡ r.add (times r c.energy (h t)) (sum_at r c noise t)
    parts t =
        sum_at_same K.algebra c records (λ side i. r.add (silence side i) (noise side i)) t (λ side j l. sym (K.algebra.add_comm _ _ ∙ K.algebra.sub_add _ _))
        ∙ sum_at_add K.algebra c silence noise t
        ∙ ap (λ s. r.add s (sum_at r c noise t)) (recovered K.algebra K.conjugation c pending laws h t)

    -- each word of a tap lies within E of the room's
    pub taps_near : (E t : ℕ) → E ≤ 2 ^ 40 → k.polar.magnitude (h t) ≤ 2 ^ 40 → ((side : Side) (j : ℕ) → j < c.span → Within r k.polar E (records side (j + t)) (silence side (j + t)))
        → Near E (rounded (k.encoding.first (sum_at r c records t)) c.energy) (k.encoding.first (h t)) × Near E (rounded (k.encoding.second (sum_at r c records t)) c.energy) (k.encoding.second (h t))
    taps_near E t far tall near =
        let small = sum_bound K.algebra K.conjugation K.wordwise K.unity K.magnitudes c pending laws noise t E near in (
          word_near first_word c.energy E _ _ _ laws.energy_least laws.energy_most far tall small (parts t),
          word_near second_word c.energy E _ _ _ laws.energy_least laws.energy_most far tall small (parts t),
        )
