use Rattle.std.proofs.Common.{ℕ, ◌++◌, [], ◌∷◌, length, List, ℤ, sym, ap, ◌∙◌, ap₂, arith, lit<}
use Rattle.std.proofs.lemmas.List.FromFn.{length-map-range_with_len, map-range_with_len_more}
use Rattle.calls.specs.declared.call.Call.TheVariants.{Tap}
use Rattle.sounder.specs.States.{state_of, says}
use Rattle.files.specs.Soundings.{words_in}
use Rattle.files.proofs.sounding.gather.Goals as goal

pub push-requires : goal.push-requires
push-requires g c =
    let n = ap length c.loop-index.invariant ∙ length-map-range_with_len (λ i. words_in (says g.P.Sample.Kind (Tap i) (state_of g.P.Sample.Kind g.P.Pair c.args.sounder.now))) 0 c.loop-index.index in
    (lit< tt, omega arith)

pub loop-index-preserved : goal.loop-index-preserved
loop-index-preserved g c =
    let f : ℕ → ℤ × ℤ = λ i. words_in (says g.P.Sample.Kind (Tap i) (state_of g.P.Sample.Kind g.P.Pair c.args.sounder.now)) in
    c.push.ensures.items
    ∙ ap₂ (λ (xs : List (ℤ × ℤ)) (x : ℤ × ℤ). xs ++ x ∷ []) c.loop-index.invariant c.tap_words.ensures
    ∙ sym (map-range_with_len_more f 0 c.loop-index.index c.loop-index.index (omega arith))
