use Rattle.std.proofs.Common.{◌≡◌, ◌∷◌, true, codes, sym, ap, ◌∙◌, arith}
use Rattle.std.specs.Str.{bytes_eq}
use Rattle.std.proofs.lemmas.Grind.{common_steps}
use Rattle.base_words.specs.Words.{parts}
use Rattle.answer_trace.specs.Reading.{where_true}
use Rattle.answer_trace.proofs.Ways.{line_goes}
use Rattle.answer_trace.proofs.Ended.{ended}
use Rattle.answer_trace.proofs.read.take_end.Goals as goal

pub returns : goal.returns
returns c =
    let first : parts c.args.left.now.bytes ≡ c.in-Some.line.now ∷ parts c.in-Some.rest.now = cc (c.in-Some.ensures.line, c.in-Some.line-is, c.in-Some.rest-is) in
    let t : c.is_end.result ≡ true = grind (arith, common_steps) in
    ended (parts c.args.left.now.bytes) c.args.left.now.lines 0 c.go_to.new.self c.is_over.result
    (line_goes (λ line. where_true (bytes_eq line (codes "end"))) c.args.left.now c.go_to.new.self c.in-Some.line.now c.in-Some.rest.now 0 first c.go_to.ensures (ap where_true (sym c.is_end.ensures ∙ t)))
    c.is_over.ensures
