use Rattle.std.proofs.Common.{sym, ap, ◌∙◌, ap₂}
use Rattle.sums.specs.declared.Side.TheVariants.{A}
use Rattle.golay.specs.Stages.{weight_of, stage_pending}
use Rattle.golay.proofs.Pushes.{stage_answer, stage_pushed}
use Rattle.golay.proofs.Weights.{works_from_weight}
use Rattle.tables.specs.Lines.{delayed}
use Rattle.pairs.specs.Pairs.{codes_of}
use Rattle.tables.proofs.Lines.{line_moved, line_last}
use Rattle.pairs.proofs.stage.StagePair.push.Goals as goal

pub returns-clause-sums : goal.returns-clause-sums
returns-clause-sums g c =
    let kind = g.P.Sample.Kind in
    let laws = g.met.P.Sample.Kind in
    let s = c.args.self.now in
    let w = c.in-Some.w in
    let weighed = sym c.in-Some.is ∙ s.weighed in
    let k = kind.ring in
    c.combined.ensures ∙ ap₂ (λ o q. (k.add (k.mul (k.conj w) o) q, k.sub (k.mul (k.conj w) o) q)) c.exchange-oldest.ensures.oldest (ap (λ r. r.1) c.push-p.ensures.sums)
    ∙ stage_answer laws.algebra laws.conjugation kind.polar s.delay s.code (codes_of g.P.Pair s.below) weighed ((g.met.P.Pair.laws s.below).entry_outside A) (g.P.Pair.pending s.below) c.args.x (delayed kind s.line s.delay)

pub returns-clause-lists : goal.returns-clause-lists
returns-clause-lists g c =
    let kind = g.P.Sample.Kind in
    let laws = g.met.P.Sample.Kind in
    let s = c.args.self.now in
    let d = s.delay in
    let weighed = sym c.in-Some.is ∙ s.weighed in
    let k = kind.ring in
    let line = c.exchange-oldest.ensures in
    let after = c.exchange-oldest.new.self in
    let most = (works_from_weight kind.polar d s.code (codes_of g.P.Pair s.below) _ weighed).delay_most in
    ap₂ (λ m p. stage_pending k (weight_of kind.polar d s.code m) d (delayed kind after d) p) c.push-p.ensures.same c.push-p.ensures.lists
    ∙ stage_pushed laws.algebra laws.conjugation kind.polar d s.code (codes_of g.P.Pair s.below) weighed ((g.met.P.Pair.laws s.below).entry_outside A) (g.P.Pair.pending s.below) c.args.x (delayed kind s.line d) _
    (λ j h. line_moved kind s.line after d _ most line.table line.next j h)
    (λ j h. line_last kind laws.encodes s.line after d _ most line.table line.next j h ∙ ap (λ r. r.0) c.push-p.ensures.sums)
