use Rattle.tables.specs.Tables.{words}
use Rattle.pairs.proofs.Tens.{ten_silent}
use Rattle.pairs.proofs.ten.TenKernel.new.Goals as goal

pub returns : goal.returns
returns g c = let kind = g.met.K.Kind in ten_silent g.K.Kind kind.wordwise kind.encodes (words c.new.result) (words c.new-2.result) c.new.ensures c.new-2.ensures
