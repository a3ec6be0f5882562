use Rattle.std.proofs.Common.{◌≡◌, ℕ, ◌+◌, ◌-◌, ◌*◌, ◌≤◌, length, drop, None, sym, ap, ◌∙◌, subst₂, arith}
use Rattle.std.proofs.lemmas.Result.{err_from_is_err_and}
use Rattle.std.specs.List.{range_with_len}
use Rattle.kinds.specs.Kinds.{KindLaws}
use Rattle.sums.specs.Codes.{Codes}
use Rattle.pairs.specs.Pairs.{codes_of}
use Rattle.calls.specs.declared.phase.Phase.TheVariants.{Idle, Complete}
use Rattle.calls.specs.declared.call.Call.TheVariants.{Open}
use Rattle.calls.specs.declared.call.Answer.{Answer}
use Rattle.calls.specs.Answers.{done, full, accepted}
use Rattle.calls.specs.Runs.{new, answer_after}
use Rattle.sounder.specs.States.{State, state_of, says, next}
use Rattle.sounder.specs.Standing.{Stands}
use Rattle.sounder.proofs.Standing.{stands_new}
use Rattle.kinds.specs.KindNames.{width}
use Rattle.layout.specs.Tests.{first_refusal}
use Rattle.layout.proofs.Orders.{answers_some, answers_none}
use Rattle.files.specs.Samples.{samples_in}
use Rattle.files.specs.Soundings.{sounding_calls, record_calls, first_record, second_record}
use Rattle.files.specs.Order.{sounder_says}
use Rattle.files.specs.States.{led, Begun}
use Rattle.files.proofs.Steps.{none_refused, open_says, room_bounds, opened_begun, opened_codes, opened_room}
use Rattle.files.proofs.Runs.{taps_are, taps_answered, taps_near}
use Rattle.files.proofs.RecordTests.{samples_by, samples_decide}
use Rattle.files.proofs.sounding.sound.Given as given
use Rattle.files.proofs.sounding.sound.Goals as goal

laws : (g : given.Over) → KindLaws g.P.Sample.Kind
laws g = let met = g.met.P.Sample.Kind in record { algebra = met.algebra; conjugation = met.conjugation; wordwise = met.wordwise; encodes = met.encodes; unity = met.unity; magnitudes = met.magnitudes }

-- what holds once the sounder is opened: s is its state when it was new, v after the call
record Opened (g : given.Over) (d : Codes g.row.P-Sample.Denot) (span room at : ℕ) (s v : State g.row.P-Sample.Denot) : Type 0 where
  least : 1 ≤ room
  most : room ≤ 256
  codes_are : v.codes ≡ d
  room_is : v.room ≡ room
  count_is : span + room - 1 ≡ full g.P.Sample.Kind d room
  begun : Begun g.P.Sample.Kind (span + room - 1) v
  says_open : first_refusal (sounder_says at (answer_after g.P.Sample.Kind d new (Open room))) ≡ None

opened : (g : given.Over) (d : Codes g.row.P-Sample.Denot) (span room at : ℕ) (s v : State g.row.P-Sample.Denot) (r : Answer) → s.codes ≡ d → s.phase ≡ Idle → span ≡ d.span
    → r ≡ says g.P.Sample.Kind (Open room) s → v ≡ next g.P.Sample.Kind (Open room) s → first_refusal (sounder_says at r) ≡ None → Opened g d span room at s v
opened g d span room at s v r codes idle size said after none =
    let k = g.P.Sample.Kind in
    let ok = ap accepted (sym said) ∙ none_refused at r none in
    let n : span + room - 1 ≡ full k d room = ap (λ m. m + room - 1) size in
    record {
      least = (room_bounds k s room idle ok).0;
      most = (room_bounds k s room idle ok).1;
      codes_are = ap (λ (t : State g.row.P-Sample.Denot). t.codes) after ∙ opened_codes k s room idle ok ∙ codes;
      room_is = ap (λ (t : State g.row.P-Sample.Denot). t.room) after ∙ opened_room k s room idle ok;
      count_is = n;
      begun = subst₂ (Begun k) (ap (λ (e : Codes g.row.P-Sample.Denot). full k e room) codes ∙ sym n) (sym after) (opened_begun k s room idle ok);
      says_open = ap (λ (q : Answer). first_refusal (sounder_says at q)) (sym (said ∙ open_says k s d room idle)) ∙ none;
    }

pub returns-in_err-take_records : goal.returns-in_err-take_records
returns-in_err-take_records g c =
    let k = g.P.Sample.Kind in
    let d = codes_of g.P.Pair c.args.pair in
    let room = c.args.file.room in
    let kind = c.args.file.kind in
    let at = c.args.file.room_byte in
    let records = c.args.file.records.now in
    let n = c.span-span.result + c.args.file.room - 1 in
    let s = state_of k g.P.Pair c.new-sounder.result in
    let v = state_of k g.P.Pair c.open.new.self in
    let value = c.new-sounder.ensures.value in
    let O = opened g d c.span-span.result room at s v (done c.open.result) (ap (λ (t : State g.row.P-Sample.Denot). t.codes) value) (ap (λ (t : State g.row.P-Sample.Denot). t.phase) value) c.span-span.ensures.value c.open.ensures.value c.open.ensures.after (answers_none _ tt tt c.in_ok-at_byte.ensures) in
    let l : length records ≡ 2 * (width kind * n) = c.if-bytes-width.false ∙ ap (λ w. 2 * (w * n)) c.width.ensures in
    let p = err_from_is_err_and c.from_residual-in_err-take_records.result c.from_residual-in_err-take_records.ensures.1 in
    let e = answers_some (first_refusal (samples_by k d kind room records at c.args.file.size c.args.space v.codes n)) tt c.in_err-take_records.field-0.0 c.in_err-take_records.ensures.value in
    rw (p.1, p.2) (samples_decide k d kind room records at c.args.file.size c.args.space O.says_open n O.count_is v.codes O.codes_are l (omega arith) ∙ e)

pub returns : goal.returns
returns g c =
    let k = g.P.Sample.Kind in
    let d = codes_of g.P.Pair c.args.pair in
    let room = c.args.file.room in
    let kind = c.args.file.kind in
    let at = c.args.file.room_byte in
    let records = c.args.file.records.now in
    let n = c.span-span.result + c.args.file.room - 1 in
    let s = state_of k g.P.Pair c.new-sounder.result in
    let v = state_of k g.P.Pair c.open.new.self in
    let u = state_of k g.P.Pair c.take_records.new.sounder in
    let value = c.new-sounder.ensures.value in
    let codes = ap (λ (t : State g.row.P-Sample.Denot). t.codes) value in
    let idle = ap (λ (t : State g.row.P-Sample.Denot). t.phase) value in
    let O = opened g d c.span-span.result room at s v (done c.open.result) codes idle c.span-span.ensures.value c.open.ensures.value c.open.ensures.after (answers_none _ tt tt c.in_ok-at_byte.ensures) in
    let l : length records ≡ 2 * (width kind * n) = c.if-bytes-width.false ∙ ap (λ w. 2 * (w * n)) c.width.ensures in
    let e = answers_none (first_refusal (samples_by k d kind room records at c.args.file.size c.args.space v.codes n)) tt tt c.in_ok-take_records.ensures.value in
    let K = laws g in
    let P = c.new-sounder.ensures.laws in
    let start = g.P.Pair.pending c.args.pair in
    let T : Stands k d start s new = stands_new k d start K.algebra K.conjugation P.span_least s codes (ap (λ (t : State g.row.P-Sample.Denot). t.pending) value) idle (ap (λ (t : State g.row.P-Sample.Denot). t.room) value) (ap (λ (t : State g.row.P-Sample.Denot). t.count) value) (λ i. ap (λ (t : State g.row.P-Sample.Denot). t.sums i) value) in
    let xs = sounding_calls room (first_record k d kind room records) (second_record k d kind room records) in
    let u-is : u ≡ led k xs s =
    c.in_ok-take_records.ensures.state ∙ (λ j. led k (record_calls (samples_in kind records (O.count_is j)) (samples_in kind (drop (width kind * O.count_is j) records) (O.count_is j))) (c.open.ensures.after j)) in
    let phase : (led k xs s).phase ≡ Complete = ap (λ (t : State g.row.P-Sample.Denot). t.phase) (sym u-is) ∙ c.in_ok-take_records.ensures.ended.0 in
    let room_is : (led k xs s).room ≡ room = ap (λ (t : State g.row.P-Sample.Denot). t.room) (sym u-is) ∙ c.in_ok-take_records.ensures.ended.1 ∙ O.room_is in (
      samples_decide k d kind room records at c.args.file.size c.args.space O.says_open n O.count_is v.codes O.codes_are l (omega arith) ∙ e,
      record {
        taps_are = c.gather.ensures ∙ taps_are k K d start P xs s T u u-is (range_with_len 0 room);
        room_least = O.least;
        room_most = O.most;
        placed = omega arith;
        laws = record { answered = taps_answered k K d start P xs s T room phase room_is; near = taps_near k K d start P xs s T room phase room_is };
      },
    )
