use Rattle.std.proofs.Common.{◌≡◌, Some, sym, ap, ◌∙◌, eqb-true}
use Rattle.answer_trace.specs.Reading.{number_of}
use Rattle.answer_checks.proofs.texts.is_found.Goals as goal

pub returns-in-Some : goal.returns-in-Some
returns-in-Some c = λ t.
    let e : Some c.in-Some.number ≡ number_of c.args.index.now c.text_at.result.now = cc (c.in-Some.ensures) in
    ap (number_of c.args.index.now) (sym c.text_at.ensures) ∙ sym e ∙ ap Some (eqb-true c.in-Some.number c.args.place t)
