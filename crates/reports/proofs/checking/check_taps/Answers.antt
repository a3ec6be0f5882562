use Rattle.std.proofs.Common.{sym, ap, ◌∙◌}
use Rattle.std.specs.Option.{option_map}
use Rattle.layout.specs.declared.refusal.FileRefusal.TheVariants.{Tap}
use Rattle.layout.specs.Tests.{unless}
use Rattle.reports.proofs.Outside.{first_of_taps}
use Rattle.reports.proofs.checking.check_taps.Goals as goal

pub returns-in-Some : goal.returns-in-Some
returns-in-Some c = ap (λ o. unless (option_map (λ i. Tap i c.args.size) o) tt) c.in-Some.ensures ∙ ap (λ o. unless o tt) (sym (first_of_taps c.args.size c.args.taps.now))

pub returns-in-None : goal.returns-in-None
returns-in-None c = ap (λ o. unless (option_map (λ i. Tap i c.args.size) o) tt) c.in-None.ensures ∙ ap (λ o. unless o tt) (sym (first_of_taps c.args.size c.args.taps.now))
