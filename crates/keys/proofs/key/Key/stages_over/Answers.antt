use Rattle.std.proofs.Common.{◌≡◌, ℕ, ◌<◌, sym, ap, ◌∙◌, subst}
use Rattle.sums.specs.declared.Side.{Side}
use Rattle.sums.specs.Codes.{Codes}
use Rattle.pairs.specs.Cascades.{cascade_codes}
use Rattle.keys.specs.StageLists.{padded}
use Rattle.keys.specs.Plans.{stages_for}
use Rattle.keys.specs.Recursion.{kernel_of, IsRoot}
use Rattle.keys.proofs.Built.{Built, built, built_roots}
use Rattle.keys.proofs.Cascades.{at, cascade_built, key_built, new_silent}
use Rattle.keys.proofs.key.Key.stages_over.Given as given
use Rattle.keys.proofs.key.Key.stages_over.Goals as goal

meaning : (g : given.Over) (c : goal.After-new g) → cascade_codes g.K.Kind c.new.result ≡ built g.K.Kind (stages_for g.K.Kind.polar.count c.args.self.now) (kernel_of g.K.Kind.ring c.args.self.now.kernel)
meaning g c =
    let k = g.K.Kind in
    let key = c.args.self.now in
    let places = c.places.result in
    c.new.ensures.codes
    ∙ ap (at k places 6) (c.new-six.ensures.codes
    ∙ ap (at k places 5) (c.new-five.ensures.codes
    ∙ ap (at k places 4) (c.new-four.ensures.codes
    ∙ ap (at k places 3) (c.new-three.ensures.codes
    ∙ ap (at k places 2) (c.new-two.ensures.codes
    ∙ ap (at k places 1) (c.new-one.ensures.codes
    ∙ ap (at k places 0) c.requires.0))))))
    ∙ cascade_built k k.polar.count key c.stages_for.ensures.sound places _ (c.places.ensures ∙ ap padded c.stages_for.ensures.stages)

pub returns : goal.returns
returns g c =
    let k = g.K.Kind in
    let laws = g.met.K.Kind in
    let key = c.args.self.now in
    let ss = stages_for k.polar.count key in
    let is = sym (meaning g c) in
    let whole = key_built k key c.stages_for.ensures.sound in
    let codes = subst (Built k key.kernel ss) is whole in
    let below = new_silent k laws.algebra laws.conjugation in
    record {
      code = codes.entry_is;
      span = codes.span_is;
      energy = codes.energy_is;
      counts = codes.counts_are;
      roots = subst (λ (m : Codes g.row.K.Denot). (side : Side) (j : ℕ) → j < m.span → IsRoot k.polar (m.entry side j)) is (built_roots k laws.algebra laws.conjugation laws.unity key.kernel ss whole);
      lists = c.new.ensures.lists
          ∙ below _ _ _ (c.new-six.ensures.lists
          ∙ below _ _ _ (c.new-five.ensures.lists
          ∙ below _ _ _ (c.new-four.ensures.lists
          ∙ below _ _ _ (c.new-three.ensures.lists
          ∙ below _ _ _ (c.new-two.ensures.lists
          ∙ below _ _ _ (c.new-one.ensures.lists
          ∙ below _ _ _ c.requires.1))))));
    }
