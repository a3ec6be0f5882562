use Rattle.pairs.proofs.kernel.KernelPair.push.Goals as goal

pub returns-in-Ten-clause-lists : goal.returns-in-Ten-clause-lists
returns-in-Ten-clause-lists g c = rw c.in-Ten.is c.push-in-Ten.ensures.lists
