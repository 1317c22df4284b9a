use Rattle.std.proofs.Common.{◌≡◌, ◌∷◌, Some}
use Rattle.base_words.specs.Words.{parts}
use Rattle.answer_trace.specs.Reading.{header_of}
use Rattle.answer_trace.proofs.Ways.{line_goes}
use Rattle.answer_trace.proofs.read.take_header.Goals as goal

pub returns-clause-header : goal.returns-clause-header
returns-clause-header c =
    let first : parts c.args.left.now.bytes ≡ c.in-Some.line.now ∷ parts c.in-Some.rest.now = cc (c.in-Some.ensures.line, c.in-Some.line-is, c.in-Some.rest-is) in
    let given : header_of c.in-Some.line.now ≡ Some (c.in-Some-header.count, c.in-Some-header.loop_start) = cc (c.in-Some-header.ensures, c.in-Some-header.count-is, c.in-Some-header.loop_start-is) in
    line_goes header_of c.args.left.now c.go_to.new.self c.in-Some.line.now c.in-Some.rest.now (c.in-Some-header.count, c.in-Some-header.loop_start) first c.go_to.ensures given
