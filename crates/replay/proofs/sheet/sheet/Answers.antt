use Rattle.std.proofs.Common.{arith, ap, ◌∙◌, ◌++◌, codes}
use Rattle.std.specs.Iterator.Adapters.{skip_steps, enumerate_source, enumerate_count, skip_source, skip_count}
use Rattle.std.specs.Str.Iter.{lines_rest, lines_steps}
use Rattle.replay.specs.Sheets.{again}
use Rattle.replay.proofs.Reading.{all_left}
use Rattle.replay.proofs.SheetLines.{none_written, has_answer, all_written}
use Rattle.replay.proofs.sheet.sheet.Goals as goal

pub loop-i-init : goal.loop-i-init
loop-i-init c =
    let it = c.into_iter-i-iterator.ensures.into_iter_gives in
    let skipped = ap enumerate_source it ∙ c.enumerate-i-items.ensures.source in
    none_written (skip_steps lines_steps) _ _ _ _ _
    (c.in_ok-push_str.ensures.bytes ∙ ap (λ t. t ++ codes "\n") (c.in_ok-text.ensures ∙ ap again c.first_line.ensures))
    c.requires
    (all_left c.args.script.now
    (ap (λ s. lines_rest (skip_source s)) skipped ∙ ap lines_rest c.skip.ensures.source ∙ c.lines.ensures.rest)
    (ap skip_count skipped ∙ c.skip.ensures.count)
    (ap enumerate_count it ∙ c.enumerate-i-items.ensures.count))

pub prove-unreachable-requires : goal.prove-unreachable-requires
prove-unreachable-requires c =
    omega (arith, has_answer (skip_steps lines_steps) _ _ c.args.events.now c.loop-i.i-iterator c.next.new.self _ c.loop-i.invariant c.in-Some.i c.in-Some.line c.in-Some.ensures.steps, c.if-prove.true)

pub returns : goal.returns
returns c = all_written (skip_steps lines_steps) _ _ c.args.events.now c.loop-i.i-iterator c.next.new.self _ c.loop-i.invariant c.in-None.ensures.steps
