use Rattle.std.proofs.Common.{rules, ap, ◌∙◌}
use Rattle.std.specs.Iterator.Adapters.{skip_steps, enumerate_source, enumerate_count, skip_source, skip_count}
use Rattle.std.specs.Str.Iter.{lines_rest, lines_steps}
use Rattle.replay.proofs.Reading.{all_left}
use Rattle.replay.proofs.CallLines.{none_read, stops_at, all_calls, all_counted}
use Rattle.replay.proofs.script.calls_of.Goals as goal

pub loop-i-init : goal.loop-i-init
loop-i-init c =
    let it = c.into_iter-i-iterator.ensures.into_iter_gives in
    let skipped = ap enumerate_source it ∙ c.enumerate-i-items.ensures.source in
    none_read (skip_steps lines_steps) _ _ _ c.new-events.ensures.items
    (all_left c.args.script.now
    (ap (λ s. lines_rest (skip_source s)) skipped ∙ ap lines_rest c.skip.ensures.source ∙ c.lines.ensures.rest)
    (ap skip_count skipped ∙ c.skip.ensures.count)
    (ap enumerate_count it ∙ c.enumerate-i-items.ensures.count))

pub returns-in_err-event-clause-stop : goal.returns-in_err-event-clause-stop
returns-in_err-event-clause-stop c =
    search (rules, stops_at (skip_steps lines_steps) _ c.loop-i.i-iterator c.next.new.self c.loop-i.events.items c.loop-i.invariant c.in_err-event.field-0.0 c.in-Some.i c.in-Some.line c.in-Some.ensures.steps c.in_err-event.ensures.stop)

pub returns-clause-calls : goal.returns-clause-calls
returns-clause-calls c = all_calls (skip_steps lines_steps) _ _ _ _ c.loop-i.invariant c.in-None.ensures.steps

pub returns-clause-count : goal.returns-clause-count
returns-clause-count c = all_counted (skip_steps lines_steps) _ _ _ _ c.loop-i.invariant c.in-None.ensures.steps
