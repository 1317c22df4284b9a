use Rattle.std.proofs.Common.{◌<◌, length, sym, arith}
use Rattle.answer_checks.proofs.places.has_place.Goals as goal

pub returns : goal.returns
returns c = λ t.
    let low : c.args.order < length c.args.relations.now = omega arith in
    (c.index-relations-order.result, (c.args.order, low, sym c.index-relations-order.is), c.is_at.ensures t)
