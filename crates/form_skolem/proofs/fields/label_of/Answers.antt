use Rattle.std.proofs.Common.{◌∷◌}
use Rattle.form_skolem.proofs.Labels.{first_is, taken_first}
use Rattle.form_skolem.proofs.fields.label_of.Goals as goal

pub returns-then-not-is_taken : goal.returns-then-not-is_taken
returns-then-not-is_taken c = first_is c.args.sigs.now c.args.fields.now (36 ∷ c.args.name.now) c.in_ok-first.first c.text.result.now c.in_ok-first.ensures c.text.ensures c.if-not-is_taken.ensures

pub next_label-requires : goal.next_label-requires
next_label-requires c = taken_first c.args.sigs.now c.args.fields.now c.text.result.now c.in_ok-first.first c.text-2.result.now c.text.ensures c.text-2.ensures c.if-not-is_taken.ensures
