use Rattle.std.proofs.Common.{Some, sym, ap, ◌∙◌, eqb-true}
use Rattle.std.proofs.lemmas.Option.{slice_get-get_or}
use Rattle.answer_checks.proofs.places.is_noted.Goals as goal

pub returns-in-Some : goal.returns-in-Some
returns-in-Some c = λ t. slice_get-get_or c.args.holders.now c.args.place c.in-Some.noted.now c.in-Some.ensures.lookup.3.0 ∙ ap Some (sym c.in-Some.ensures.lookup.1 ∙ eqb-true c.in-Some.noted.now c.args.order t)
