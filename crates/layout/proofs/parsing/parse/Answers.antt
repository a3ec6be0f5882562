use Rattle.std.proofs.Common.{◌∙◌, arith}
use Rattle.std.proofs.lemmas.Result.{err_from_is_err_and}
use Rattle.layout.proofs.Orders.{answers_none}
use Rattle.layout.proofs.FileTests.{stops_at_fields, key_decides, plan_same, room_same, records_same, size_same}
use Rattle.layout.proofs.parsing.parse.Goals as goal

pub returns-in_err-fields : goal.returns-in_err-fields
returns-in_err-fields c =
    let h = c.in_ok-head.ensures in
    let p = err_from_is_err_and c.from_residual-in_err-fields.result c.from_residual-in_err-fields.ensures.1 in
    let b = answers_none _ tt tt c.in_ok-check_count.ensures in
    rw (p.1, p.2) (stops_at_fields c.args.file.now h.0 c.in_ok-head.head h.1 b _ c.in_err-fields.ensures)

pub returns-in_err-key : goal.returns-in_err-key
returns-in_err-key c =
    let h = c.in_ok-head.ensures in
    let p = err_from_is_err_and c.from_residual-in_err-key.result c.from_residual-in_err-key.ensures.1 in
    let b = answers_none _ tt tt c.in_ok-check_count.ensures in
    let f = c.in_ok-fields.ensures in
    rw (p.1, p.2) (key_decides c.args.file.now h.0 c.in_ok-head.head h.1 b f.0 c.as_slice.result.now (c.as_slice.ensures.value ∙ f.1.stages_are) ∙ c.in_err-key.ensures)

pub returns : goal.returns
returns c =
    let file = c.args.file.now in
    let head = c.in_ok-head.head in
    let h = c.in_ok-head.ensures in
    let b = answers_none _ tt tt c.in_ok-check_count.ensures in
    let f = c.in_ok-fields.ensures in
    let k = c.in_ok-key.ensures in
    let n = h.1.count_is in (
      key_decides file h.0 head h.1 b f.0 c.as_slice.result.now (c.as_slice.ensures.value ∙ f.1.stages_are) ∙ k.0,
      record {
        key_is = k.1 ∙ plan_same file h.0 head h.1 b f.0 c.as_slice.result.now (c.as_slice.ensures.value ∙ f.1.stages_are);
        kind_is = h.1.kind_is;
        room_is = room_same file h.0 head h.1 _ f.1.room_is;
        byte_is = omega arith;
        records_are = records_same file h.0 head h.1 _ f.1.rest_is;
        size_is = size_same file h.0 head h.1 _ f.1.rest_is f.1.enough;
      },
    )
