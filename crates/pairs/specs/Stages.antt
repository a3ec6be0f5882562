-- What a stage means, by what it holds and what the pair below means.
use Rattle.std.specs.Prelude.{Option}
use Rattle.kinds.specs.Kinds.{KindModel}
use Rattle.sums.specs.Codes.{Codes, Pending}
use Rattle.golay.specs.Stages.{weight_of, stage_codes, stage_pending}
use Rattle.tables.specs.Lines.{delayed}
use Rattle.pairs.specs.Pairs.{PairModel, codes_of}
use Rattle.pairs.specs.declared.stage.Stage.{Stage}

-- m is what the pair below means
module _ {P S : Type 0} (k : KindModel S) (m : PairModel P S) where
  -- the weight, none where the stage rests
  abbrev pub weight_in : Stage P S m k → Option S
  weight_in s = weight_of k.polar s.delay s.code (codes_of m s.below)

  abbrev pub codes_in : Stage P S m k → Codes S
  codes_in s = stage_codes k.ring (weight_in s) s.delay (codes_of m s.below)

  abbrev pub pending_in : Stage P S m k → Pending S
  pending_in s = stage_pending k.ring (weight_in s) s.delay (delayed k s.line s.delay) (m.pending s.below)

  -- the same as the members of the trait
  abbrev pub stage_model : PairModel (Stage P S m k) S
  stage_model = record {
    span = λ s. (codes_in s).span;
    energy = λ s. (codes_in s).energy;
    code = λ s. (codes_in s).entry;
    counts = λ s. (codes_in s).counts;
    pending = pending_in;
  }
