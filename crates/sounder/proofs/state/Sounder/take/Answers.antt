use Rattle.std.proofs.Common.{ℕ, ◌+◌, ◌∙◌, ap₂}
use Rattle.tables.specs.Tables.{words, sample_of}
use Rattle.sounder.specs.States.{state, gathered}
use Rattle.sounder.proofs.state.Sounder.take.Goals as goal

pub returns : goal.returns
returns g c =
    let k = g.P.Sample.Kind in
    let s = c.args.self.now in
    let S = g.row.P-Sample.Denot in
    let old : ℕ → S = λ i. sample_of k.ring k.encoding (words s.sums i) in
    let came = c.push_playing-out.ensures in
    let sums = c.gather.ensures ∙ ap₂ (λ n o. gathered k n s.count o old) c.span-span.ensures.value came.out in
    λ i. state (came.same i) (came.lists i) s.phase s.room (s.count + 1) (sums i)
