use Rattle.std.proofs.Common.{◌≡◌, ◌+◌, ◌*◌, [], ◌∷◌, length, drop, Some, sym, ap, ◌∙◌, arith, ltb-false, ltb-true, lit<}
use Rattle.std.proofs.lemmas.List.FromFn.{length-map-range_with_len}
use Rattle.layout.specs.Fields.{stage_in, stages_in}
use Rattle.layout.specs.declared.refusal.FileRefusal.TheVariants.{Length}
use Rattle.layout.proofs.Missing.{stage_missing, room_missing, fields_there}
use Rattle.layout.proofs.Rests.{rests_are}
use Rattle.layout.proofs.Stages.{left_length, past_length, room_in, next_stage, stages_more}
use Rattle.layout.proofs.parsing.take_fields.Goals as goal

pub returns-in_default : goal.returns-in_default
returns-in_default c =
    let e = left_length c.args.bytes.now c.loop-i.rest.now (2 * c.loop-i.i) c.loop-i.invariant.0 in
    stage_missing (6 + length c.args.bytes.now) c.args.count (6 + 2 * c.loop-i.i) (omega (arith, ltb-true)) (omega arith) (omega (arith, ltb-true))

pub returns-in_default-more : goal.returns-in_default-more
returns-in_default-more c =
    let e = left_length c.args.bytes.now c.loop-i.rest.now (2 * c.loop-i.i) c.loop-i.invariant.0 in
    let p = past_length c.loop-i.rest.now 1 in
    stage_missing (6 + length c.args.bytes.now) c.args.count (7 + 2 * c.loop-i.i) (omega (arith, ltb-true, ltb-false)) (omega arith) (omega (arith, ltb-true, ltb-false))

pub push-requires : goal.push-requires
push-requires c =
    let n = ap length c.loop-i.invariant.2 ∙ length-map-range_with_len (stage_in c.args.bytes.now) 0 c.loop-i.i in
    (lit< tt, omega arith)

pub loop-i-preserved : goal.loop-i-preserved
loop-i-preserved c =
    let is = c.loop-i.invariant.0 in
    let e = left_length c.args.bytes.now c.loop-i.rest.now (2 * c.loop-i.i) is in
    let p = past_length c.loop-i.rest.now 1 in
    (next_stage c.args.bytes.now c.loop-i.rest.now c.loop-i.i is, omega (arith, ltb-false), c.push.ensures.items ∙ stages_more c.args.bytes.now c.loop-i.rest.now c.loop-i.i is c.loop-i.stages.items c.loop-i.invariant.2)

pub returns-in_default-rest : goal.returns-in_default-rest
returns-in_default-rest c =
    let e = left_length c.args.bytes.now c.loop-i.rest.now (2 * c.loop-i.i) c.loop-i.invariant.0 in
    room_missing (6 + length c.args.bytes.now) c.args.count (omega arith) (omega (arith, ltb-true)) ∙ ap (λ b. Some (Length b)) (sym c.room_byte.ensures)

pub returns : goal.returns
returns c =
    let n = c.args.count in
    let i-is : c.loop-i.i ≡ n = omega arith in
    let is = c.loop-i.invariant.0 ∙ ap (λ n. drop (2 * n) c.args.bytes.now) i-is in
    let e = left_length c.args.bytes.now c.loop-i.rest.now (2 * n) is in (
      fields_there (6 + length c.args.bytes.now) n (omega (arith, ltb-false)),
      record {
        stages_are = c.loop-i.invariant.2 ∙ ap (stages_in c.args.bytes.now) i-is;
        room_is = c.two_bytes-room.ensures ∙ room_in c.args.bytes.now c.loop-i.rest.now (2 * n) is;
        rest_is = rests_are (2 ∷ []) c.args.bytes.now c.loop-i.rest.now (2 * n) is;
        enough = omega (arith, ltb-false);
      },
    )
