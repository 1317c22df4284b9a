use Rattle.std.proofs.Common.{◌≡◌, ◌∷◌, true, sym, ap, ◌∙◌, arith}
use Rattle.std.proofs.lemmas.Grind.{common_steps}
use Rattle.base_words.specs.Words.{parts}
use Rattle.answer_trace.specs.Reading.{where_true, is_state_line}
use Rattle.answer_trace.proofs.Ways.{line_goes}
use Rattle.answer_trace.proofs.read.take_state_line.Goals as goal

pub returns : goal.returns
returns c =
    let first : parts c.args.left.now.bytes ≡ c.in-Some.line.now ∷ parts c.in-Some.rest.now = cc (c.in-Some.ensures.line, c.in-Some.line-is, c.in-Some.rest-is) in
    let t : c.is_state_line.result ≡ true = grind (arith, common_steps) in
    line_goes (λ line. where_true (is_state_line c.args.number line)) c.args.left.now c.go_to.new.self c.in-Some.line.now c.in-Some.rest.now 0 first c.go_to.ensures (ap where_true (sym c.is_state_line.ensures ∙ t))
