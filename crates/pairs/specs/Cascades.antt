-- What seven stages over a kernel mean.
use Rattle.kinds.specs.Kinds.{KindModel}
use Rattle.sums.specs.Codes.{Codes, Pending}
use Rattle.pairs.specs.Pairs.{PairModel, codes_of}
use Rattle.pairs.specs.Kernels.{kernel_codes, kernel_pending}
use Rattle.pairs.specs.Stages.{stage_model}
use Rattle.pairs.specs.declared.kernel.Kernel.{Kernel}
use Rattle.pairs.specs.declared.stage.Stage.{Stage}

module _ {S : Type 0} (k : KindModel S) where
  abbrev pub kernel_model : PairModel (Kernel S) S
  kernel_model = record {
    span = λ s. (kernel_codes k s).span;
    energy = λ s. (kernel_codes k s).energy;
    code = λ s. (kernel_codes k s).entry;
    counts = λ s. (kernel_codes k s).counts;
    pending = kernel_pending k;
  }

  abbrev Over : (P : Type 0) → PairModel P S → Type 0
  Over P m = Stage P S m k

  abbrev Stages_1 : Type 0
  Stages_1 = Over (Kernel S) kernel_model

  abbrev model_1 : PairModel Stages_1 S
  model_1 = stage_model k kernel_model

  abbrev Stages_2 : Type 0
  Stages_2 = Over Stages_1 model_1

  abbrev model_2 : PairModel Stages_2 S
  model_2 = stage_model k model_1

  abbrev Stages_3 : Type 0
  Stages_3 = Over Stages_2 model_2

  abbrev model_3 : PairModel Stages_3 S
  model_3 = stage_model k model_2

  abbrev Stages_4 : Type 0
  Stages_4 = Over Stages_3 model_3

  abbrev model_4 : PairModel Stages_4 S
  model_4 = stage_model k model_3

  abbrev Stages_5 : Type 0
  Stages_5 = Over Stages_4 model_4

  abbrev model_5 : PairModel Stages_5 S
  model_5 = stage_model k model_4

  abbrev Stages_6 : Type 0
  Stages_6 = Over Stages_5 model_5

  abbrev model_6 : PairModel Stages_6 S
  model_6 = stage_model k model_5

  abbrev pub CascadeOf : Type 0
  CascadeOf = Over Stages_6 model_6

  abbrev cascade_model : PairModel CascadeOf S
  cascade_model = stage_model k model_6

  abbrev pub cascade_codes : CascadeOf → Codes S
  cascade_codes = codes_of cascade_model

  abbrev pub cascade_pending : CascadeOf → Pending S
  cascade_pending = cascade_model.pending
