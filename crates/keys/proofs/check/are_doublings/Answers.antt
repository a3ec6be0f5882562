use Rattle.std.proofs.Common.{true, false, rules, ◌≡◌, ℕ, ◌≤◌, Bool, List, Decides, sym, refl, ◌∙◌, arith}
use Rattle.std.proofs.lemmas.Bool.Decides.{Decides-at}
use Rattle.delays.specs.Sets.{is_set, InSomeOrder}
use Rattle.delays.proofs.Orders.{set_decides}
use Rattle.keys.specs.Judged.{delays_of}
use Rattle.keys.proofs.Loops.{set_goes_on}
use Rattle.keys.proofs.check.are_doublings.Goals as goal

ordered : (r : Bool) (kernel : ℕ) (ds : List ℕ) → r ≡ is_set kernel ds → 1 ≤ kernel → Decides r (InSomeOrder kernel ds)
ordered r kernel ds e one = Decides-at r (is_set kernel ds) e (set_decides kernel ds one)

pub loop-stage-preserved : goal.loop-stage-preserved
loop-stage-preserved c =
    let has = c.if-not-has_delay.ensures in
    (sym (set_goes_on _ _ _ _ c.loop-stage-test.true (sym has.value)) ∙ c.loop-stage.invariant.0, (let small = has.small refl in omega arith))

pub returns-then-not-has_delay-clause-order : goal.returns-then-not-has_delay-clause-order
returns-then-not-has_delay-clause-order c = ordered false c.args.least (delays_of c.args.stages.now) (search rules)

pub returns-clause-order : goal.returns-clause-order
returns-clause-order c = ordered true c.args.least (delays_of c.args.stages.now) (search rules)
