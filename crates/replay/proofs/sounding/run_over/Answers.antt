use Rattle.std.proofs.Common.{ap, ◌∙◌}
use Rattle.calls.specs.Runs.{new, calls_of, answers}
use Rattle.keys.proofs.KeyCodes.{codes_of_key}
use Rattle.replay.proofs.sounding.run_over.Goals as goal

pub returns-clause-answers : goal.returns-clause-answers
returns-clause-answers g c =
    c.replay-sounder.ensures.answers
    ∙ ap (λ cs. answers g.K.Kind cs new (calls_of c.args.run.now)) (codes_of_key g.K.Kind c.args.key.now _ _ c.cascade.ensures)
