use Rattle.std.proofs.Common.{◌≡◌, ◌+◌, take, set, sym, refl, ap, ◌∙◌, subst, subst₂, arith}
use Rattle.kinds.specs.Kinds.{KindLaws}
use Rattle.sums.specs.Codes.{Codes, Pending}
use Rattle.pairs.specs.Pairs.{codes_of}
use Rattle.calls.specs.declared.call.Event.{Event}
use Rattle.calls.specs.declared.call.Call.TheVariants.{Open}
use Rattle.calls.specs.declared.call.Answer.TheVariants.{Done}
use Rattle.calls.specs.Runs.{new, run_of, calls_of, answers, RunLaws}
use Rattle.sounder.specs.Standing.{Stands}
use Rattle.sounder.specs.States.{State, state_of}
use Rattle.sounder.proofs.Standing.{stands_new}
use Rattle.sounder.proofs.Replaying.{Going, answered_at, calls_set, again, answers_on, ends}
use Rattle.sounder.proofs.running.replay.Given as given
use Rattle.sounder.proofs.running.replay.Goals as goal

laws : (g : given.Over) → KindLaws g.P.Sample.Kind
laws g = let met = g.met.P.Sample.Kind in record { algebra = met.algebra; conjugation = met.conjugation; wordwise = met.wordwise; encodes = met.encodes; unity = met.unity; magnitudes = met.magnitudes }

pub loop-event-init : goal.loop-event-init
loop-event-init g c =
    let k = g.P.Sample.Kind in
    let S = g.row.P-Sample.Denot in
    let K = laws g in
    let first = c.new-sounder.result.pair in
    let value = c.new-sounder.ensures.value in
    let one = (g.met.P.Pair.laws first).span_least in
    (refl, record { answered = tt; standing = stands_new k (codes_of g.P.Pair first) (g.P.Pair.pending first) K.algebra K.conjugation one (state_of k g.P.Pair c.new-sounder.result) refl refl (ap (λ (t : State S). t.phase) value) (ap (λ (t : State S). t.room) value) (ap (λ (t : State S). t.count) value) (λ i. ap (λ (t : State S). t.sums i) value) })

pub loop-event-preserved : goal.loop-event-preserved
loop-event-preserved g c =
    let k = g.P.Sample.Kind in
    let first = c.new-sounder.result.pair in
    let P = g.met.P.Pair.laws first in
    let s = state_of k g.P.Pair c.loop-event.sounder in
    let es = c.loop-event.run in
    let i = c.loop-event.event-index in
    let inv = c.loop-event.invariant in
    let does = c.give.ensures.answer in
    let d : Event = record { call = Open 0; answer = Done } in
    let e : Event = c.give.new.event in
    let same : answered_at es i d e.answer ≡ e = λ t. record { call = sym c.give.ensures.call t; answer = e.answer } in (
      ap (λ (f : Event). calls_of (set es i f)) (sym same) ∙ calls_set es i d e.answer ∙ inv.0,
      subst (λ (f : Event). Going k (codes_of g.P.Pair first) (g.P.Pair.pending first) (state_of k g.P.Pair c.give.new.sounder) (run_of (take (i + 1) (set es i f)))) same
          (again k (codes_of g.P.Pair first) (g.P.Pair.pending first) (laws g) P s _ es i d e.answer (omega arith) inv.1 does.value does.after),
    )

pub returns : goal.returns
returns g c =
    let k = g.P.Sample.Kind in
    let S = g.row.P-Sample.Denot in
    let first = c.new-sounder.result.pair in
    let value = c.new-sounder.ensures.value in
    let codes = ap (λ (t : State S). t.codes) value in
    let pending = ap (λ (t : State S). t.pending) value in
    let P = g.met.P.Pair.laws first in
    let s = state_of k g.P.Pair c.loop-event.sounder in
    let run = c.loop-event.run in
    let inv = c.loop-event.invariant in
    let end = ends k (codes_of g.P.Pair first) (g.P.Pair.pending first) (laws g) P s run c.loop-event.event-index (omega arith) inv.1 in
    let all : RunLaws k (codes_of g.P.Pair c.args.pair) (run_of run) = subst (λ (m : Codes S). RunLaws k m (run_of run)) codes end.1 in
    record {
      calls = inv.0;
      answers = answers_on k (codes_of g.P.Pair c.args.pair) new run all.answered ∙ ap (answers k (codes_of g.P.Pair c.args.pair) new) inv.0;
      laws = all;
      state = subst₂ (λ (m : Codes S) (p : Pending S). Stands k m p s (run_of run)) codes pending end.0;
    }
