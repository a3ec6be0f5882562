use Rattle.soundings.proofs.Proved.{all_hold}
use Rattle.soundings.proofs.list.cases.Goals as goal

pub returns-clause-claims : goal.returns-clause-claims
returns-clause-claims c = all_hold
