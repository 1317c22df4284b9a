use Rattle.std.proofs.Common.{◌≡◌, ◌∷◌, Some}
use Rattle.base_words.specs.Words.{parts}
use Rattle.answer_trace.specs.Reading.{line_set}
use Rattle.answer_trace.proofs.Ways.{line_goes}
use Rattle.answer_trace.proofs.read.read_shown.Goals as goal

pub returns : goal.returns
returns c =
    let first : parts c.args.left.now.bytes ≡ c.in-Some.line.now ∷ parts c.in-Some.rest.now = cc (c.in-Some.ensures.line, c.in-Some.line-is, c.in-Some.rest-is) in
    let given : line_set c.args.index.now c.args.relation.now c.in-Some.line.now ≡ Some c.in-Some-2.set = cc (c.in_ok-set.ensures, c.in-Some-2.is) in
    line_goes (line_set c.args.index.now c.args.relation.now) c.args.left.now c.go_to.new.self c.in-Some.line.now c.in-Some.rest.now c.in-Some-2.set first c.go_to.ensures given
