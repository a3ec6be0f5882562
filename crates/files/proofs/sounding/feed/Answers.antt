use Rattle.std.proofs.Common.{◌≡◌, ◌+◌, ◌<◌, ◌≤◌, length, get_or, ℤ, pos, sym, ap, ◌∙◌, subst, ap₂, arith}
use Rattle.std.proofs.lemmas.List.FromFn.{length-map-range_with_len, get_or-map-range_with_len}
use Rattle.std.proofs.lemmas.List.{take_all}
use Rattle.std.proofs.lemmas.Result.{err_from_is_err_and}
use Rattle.calls.specs.declared.call.Call.TheVariants.{Sample}
use Rattle.calls.specs.Answers.{done, accepted}
use Rattle.sounder.specs.States.{State, state_of, says, next}
use Rattle.layout.specs.Tests.{unless}
use Rattle.layout.proofs.Orders.{each_here, each_later, each_all, answers_some, answers_none}
use Rattle.files.specs.Samples.{sample_in, samples_in}
use Rattle.files.specs.Order.{sample_test}
use Rattle.files.specs.Soundings.{sample_calls}
use Rattle.files.specs.States.{led, Took}
use Rattle.files.proofs.Steps.{none_refused, led_more, took_next, test_is}
use Rattle.files.proofs.sounding.feed.Goals as goal

abbrev none : ℤ × ℤ
none = (pos 0, pos 0)

pub returns-in_err-at_byte : goal.returns-in_err-at_byte
returns-in_err-at_byte g c =
    let k = g.P.Sample.Kind in
    let was = state_of k g.P.Pair c.args.sounder.now in
    let f = sample_in c.args.samples.kind c.args.samples.bytes.now in
    let xs = samples_in c.args.samples.kind c.args.samples.bytes.now c.args.samples.count in
    let t = c.loop-t.t in
    let l : t < length xs = omega (arith, length-map-range_with_len f 0 c.args.samples.count) in
    let x : get_or xs t none ≡ c.sample.result = get_or-map-range_with_len f 0 c.args.samples.count t t none c.loop-t-test.true (omega arith) ∙ sym c.sample.ensures in
    let p = err_from_is_err_and c.from_residual.result c.from_residual.ensures.1 in
    let e = answers_some _ tt _ c.in_err-at_byte.ensures in
    let same = test_is k was (state_of k g.P.Pair c.loop-t.sounder) c.args.samples.count t c.requires c.loop-t.invariant.2 c.args.samples.kind c.args.samples.from _ (get_or xs t none) (done c.give-answer.result) c.sample.result.0 c.sample.result.1 c.loop-t-test.true x c.byte.ensures c.give-answer.ensures.value in
    let all = sym (each_here (sample_test k was.codes c.args.samples.kind c.args.samples.from) xs t none c.in_err-at_byte.field-0.0 l (sym same ∙ e)) ∙ c.loop-t.invariant.0 in
    rw (p.1, p.2) (record { value = ap (λ o. unless o tt) all; state = tt; taken = tt })

pub loop-t-preserved : goal.loop-t-preserved
loop-t-preserved g c =
    let k = g.P.Sample.Kind in
    let was = state_of k g.P.Pair c.args.sounder.now in
    let is = state_of k g.P.Pair c.loop-t.sounder in
    let f = sample_in c.args.samples.kind c.args.samples.bytes.now in
    let xs = samples_in c.args.samples.kind c.args.samples.bytes.now c.args.samples.count in
    let t = c.loop-t.t in
    let l : t < length xs = omega (arith, length-map-range_with_len f 0 c.args.samples.count) in
    let x : get_or xs t none ≡ c.sample.result = get_or-map-range_with_len f 0 c.args.samples.count t t none c.loop-t-test.true (omega arith) ∙ sym c.sample.ensures in
    let e = answers_none _ tt tt c.in_ok-at_byte.ensures in
    let said : done c.give-answer.result ≡ says k (Sample c.sample.result.0 c.sample.result.1) is = c.give-answer.ensures.value in
    let same = test_is k was is c.args.samples.count t c.requires c.loop-t.invariant.2 c.args.samples.kind c.args.samples.from _ (get_or xs t none) (done c.give-answer.result) _ _ c.loop-t-test.true x c.byte.ensures said in
    let ok = ap accepted (sym said) ∙ none_refused _ (done c.give-answer.result) e in (
      sym (each_later (sample_test k was.codes c.args.samples.kind c.args.samples.from) xs t none l (sym same ∙ e)) ∙ c.loop-t.invariant.0,
      c.give-answer.ensures.after ∙ ap₂ (λ (y : ℤ × ℤ) (s : State g.row.P-Sample.Denot). next k (Sample y.0 y.1) s) (sym x) c.loop-t.invariant.1 ∙ sym (led_more k xs t none was l),
      subst (Took (t + 1) was) (sym c.give-answer.ensures.after) (took_next k was is c.args.samples.count t c.requires c.loop-t.invariant.2 c.loop-t-test.true _ _ ok),
    )

pub returns : goal.returns
returns g c =
    let k = g.P.Sample.Kind in
    let was = state_of k g.P.Pair c.args.sounder.now in
    let f = sample_in c.args.samples.kind c.args.samples.bytes.now in
    let xs = samples_in c.args.samples.kind c.args.samples.bytes.now c.args.samples.count in
    let end : length xs ≤ c.loop-t.t = omega (arith, length-map-range_with_len f 0 c.args.samples.count) in
    record {
      value = ap (λ o. unless o tt) (sym (each_all (sample_test k was.codes c.args.samples.kind c.args.samples.from) xs c.loop-t.t end) ∙ c.loop-t.invariant.0);
      state = c.loop-t.invariant.1 ∙ ap (λ ys. led k (sample_calls ys) was) (take_all _ xs end);
      taken = subst (λ n. Took n was (state_of k g.P.Pair c.loop-t.sounder)) (omega arith) c.loop-t.invariant.2;
    }
