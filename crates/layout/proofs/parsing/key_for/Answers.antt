use Rattle.kinds.specs.KindNames.{roots}
use Rattle.layout.proofs.KeyBytes.{key_small}
use Rattle.layout.proofs.parsing.key_for.Goals as goal

pub in_file-requires : goal.in_file-requires
in_file-requires c = key_small (roots c.args.kind) c.args.kernel c.args.stages.now _ c.requires c.fill_for.ensures.answer
