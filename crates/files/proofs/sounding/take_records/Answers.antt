use Rattle.std.proofs.Common.{◌≡◌, ℕ, ◌+◌, ◌*◌, List, drop, sym, ap, ◌∙◌, subst}
use Rattle.std.proofs.lemmas.Result.{err_from_is_err_and}
use Rattle.sums.specs.Codes.{Codes}
use Rattle.calls.specs.declared.call.Call.TheVariants.{Turn, Close}
use Rattle.calls.specs.declared.call.Answer.TheVariants.{Done}
use Rattle.calls.specs.Answers.{done}
use Rattle.sounder.specs.States.{State, state_of, next}
use Rattle.kinds.specs.declared.kind_name.KindName.{KindName}
use Rattle.kinds.specs.KindNames.{width}
use Rattle.layout.specs.Tests.{Test, first_refusal, unless}
use Rattle.layout.proofs.Orders.{passed, stopped, answers_some, answers_none}
use Rattle.files.specs.Samples.{samples_in}
use Rattle.files.specs.Order.{sounder_says, sample_tests}
use Rattle.files.specs.Soundings.{sample_calls}
use Rattle.files.specs.States.{led, Took}
use Rattle.files.proofs.Steps.{made_any, turned_codes, closes, closed_phase, closed_room, led_records}
use Rattle.files.proofs.sounding.take_records.Given as given
use Rattle.files.proofs.sounding.take_records.Goals as goal

-- the tests on both records
module _ (g : given.Over) (codes : Codes g.row.P-Sample.Denot) (kind : KindName) (records : List ℕ) (n from : ℕ) where
  abbrev first_tests : List Test
  first_tests = sample_tests g.P.Sample.Kind codes kind from (samples_in kind records n)

  abbrev second_tests : List Test
  second_tests = sample_tests g.P.Sample.Kind codes kind (from + width kind * n) (samples_in kind (drop (width kind * n) records) n)

  -- the second record as it is read: v is the width, and `rest` what stands behind the first
  rest_is : (v : ℕ) (rest : List ℕ) → v ≡ width kind → rest ≡ drop (v * n) records → rest ≡ drop (width kind * n) records
  rest_is v rest e r = r ∙ ap (λ w. drop (w * n) records) e

  second_same : (v : ℕ) (rest : List ℕ) (others : Codes g.row.P-Sample.Denot) → v ≡ width kind → rest ≡ drop (v * n) records → others ≡ codes
      → first_refusal (sample_tests g.P.Sample.Kind others kind (from + v * n) (samples_in kind rest n)) ≡ first_refusal second_tests
  second_same v rest others e r f = λ j. first_refusal (sample_tests g.P.Sample.Kind (f j) kind (from + e j * n) (samples_in kind (rest_is v rest e r j) n))

pub returns-in_err-feed : goal.returns-in_err-feed
returns-in_err-feed g c =
    let codes = (state_of g.P.Sample.Kind g.P.Pair c.args.sounder.now).codes in
    let p = err_from_is_err_and c.from_residual.result c.from_residual.ensures.1 in
    let one = first_tests g codes c.args.first.kind c.args.first.bytes.now c.args.first.count c.args.first.from in
    let two = second_tests g codes c.args.first.kind c.args.first.bytes.now c.args.first.count c.args.first.from in
    let e = answers_some (first_refusal one) tt c.in_err-feed.field-0.0 c.in_err-feed.ensures.value in
    rw (p.1, p.2) (record { value = sym (ap (λ o. unless o tt) (stopped one two c.in_err-feed.field-0.0 e)); state = tt; ended = tt })

pub returns-in_err-feed-2 : goal.returns-in_err-feed-2
returns-in_err-feed-2 g c =
    let k = g.P.Sample.Kind in
    let s = state_of k g.P.Pair c.args.sounder.now in
    let t = state_of k g.P.Pair c.feed.new.sounder in
    let p = err_from_is_err_and c.from_residual-in_err-feed-2.result c.from_residual-in_err-feed-2.ensures.1 in
    let one = first_tests g s.codes c.args.first.kind c.args.first.bytes.now c.args.first.count c.args.first.from in
    let two = second_tests g s.codes c.args.first.kind c.args.first.bytes.now c.args.first.count c.args.first.from in
    let same = second_same g s.codes c.args.first.kind c.args.first.bytes.now c.args.first.count c.args.first.from c.width.result _ _ c.width.ensures c.behind_first.ensures (ap (λ (u : State g.row.P-Sample.Denot). u.codes) c.turn.ensures.after ∙ turned_codes k c.args.first.count s t c.requires.0 c.in_ok-feed.ensures.taken) in
    let a = answers_none (first_refusal one) tt tt c.in_ok-feed.ensures.value in
    let e = answers_some _ tt c.in_err-feed-2.field-0.0 c.in_err-feed-2.ensures.value in
    rw (p.1, p.2) (record { value = sym (ap (λ o. unless o tt) (passed one two a ∙ sym same ∙ e)); state = tt; ended = tt })

pub returns : goal.returns
returns g c =
    let k = g.P.Sample.Kind in
    let s = state_of k g.P.Pair c.args.sounder.now in
    let t = state_of k g.P.Pair c.feed.new.sounder in
    let v = state_of k g.P.Pair c.turn.new.self in
    let u = state_of k g.P.Pair c.feed-2.new.sounder in
    let B = c.requires.0 in
    let T = c.in_ok-feed.ensures.taken in
    let one = first_tests g s.codes c.args.first.kind c.args.first.bytes.now c.args.first.count c.args.first.from in
    let two = second_tests g s.codes c.args.first.kind c.args.first.bytes.now c.args.first.count c.args.first.from in
    let same = second_same g s.codes c.args.first.kind c.args.first.bytes.now c.args.first.count c.args.first.from c.width.result _ _ c.width.ensures c.behind_first.ensures (ap (λ (u : State g.row.P-Sample.Denot). u.codes) c.turn.ensures.after ∙ turned_codes k c.args.first.count s t B T) in
    let a = answers_none (first_refusal one) tt tt c.in_ok-feed.ensures.value in
    let b = answers_none _ tt tt c.in_ok-feed-2.ensures.value in
    let U : Took c.args.first.count (next k Turn t) u = subst (λ (q : State g.row.P-Sample.Denot). Took c.args.first.count q u) c.turn.ensures.after c.in_ok-feed-2.ensures.taken in
    let d : done c.close.result ≡ Done = c.close.ensures.value ∙ closes k c.args.first.count s t B T u U in
    let ys = samples_in c.args.first.kind (drop (width c.args.first.kind * c.args.first.count) c.args.first.bytes.now) c.args.first.count in
    let xs = samples_in c.args.first.kind c.args.first.bytes.now c.args.first.count in
    let u-is : u ≡ led k (sample_calls ys) (next k Turn t) =
    c.in_ok-feed-2.ensures.state ∙ (λ j. led k (sample_calls (samples_in c.args.first.kind (rest_is g s.codes c.args.first.kind c.args.first.bytes.now c.args.first.count c.args.first.from c.width.result _ c.width.ensures c.behind_first.ensures j) c.args.first.count)) (c.turn.ensures.after j)) in
    let all = c.close.ensures.after ∙ ap (next k Close) (u-is ∙ ap (λ (q : State g.row.P-Sample.Denot). led k (sample_calls ys) (next k Turn q)) c.in_ok-feed.ensures.state) ∙ sym (led_records k xs ys s) in
    record {
      value = c.at_byte-2.ensures ∙ ap (λ r. unless (first_refusal (sounder_says (c.args.first.from + c.width.result * c.args.first.count + c.width.result * c.args.first.count) r)) tt) d ∙ sym (ap (λ o. unless o tt) (passed one two a ∙ sym same ∙ b));
      state = made_any c.at_byte-2.result all;
      ended = made_any c.at_byte-2.result (closed_phase k c.args.first.count s t B T u U _ c.close.ensures.after, closed_room k c.args.first.count s t B T u U _ c.close.ensures.after);
    }
