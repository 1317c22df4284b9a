use Rattle.std.proofs.Common.{List, None, ap, ◌∙◌}
use Rattle.base_types.specs.declared.place.Rule.TheVariants as rule
use Rattle.core_tree.specs.declared.model.Sig.{Sig}
use Rattle.bound_definitions.specs.Places.{first_from}
use Rattle.bound_definitions.specs.Rules.{bad_scopes}
use Rattle.bound_scopes.proofs.Answering.{places_kept, places_refused}
use Rattle.bound_scopes.proofs.limits.check_entries.Goals as goal

pub returns-clause-ok : goal.returns-clause-ok
returns-clause-ok c = places_kept (bad_scopes c.args.sigs.now c.args.entries.now) rule.BadScope c.in_ok-found.found c.ask.result (c.in_ok-found.ensures ∙ ap (λ (s : List Sig). first_from None (bad_scopes s c.args.entries.now)) c.as_slice.ensures) c.ask.ensures

pub returns-clause-refused : goal.returns-clause-refused
returns-clause-refused c = places_refused (bad_scopes c.args.sigs.now c.args.entries.now) rule.BadScope c.in_ok-found.found c.ask.result (c.in_ok-found.ensures ∙ ap (λ (s : List Sig). first_from None (bad_scopes s c.args.entries.now)) c.as_slice.ensures) c.ask.ensures
