use Rattle.std.proofs.Common.{List, None, ap, ◌∙◌}
use Rattle.base_types.specs.declared.place.Rule.TheVariants as rule
use Rattle.core_tree.specs.declared.model.Sig.{Sig}
use Rattle.bound_definitions.specs.Places.{first_from}
use Rattle.bound_definitions.specs.Rules.{conflicts}
use Rattle.bound_scopes.proofs.Answering.{places_kept, places_refused}
use Rattle.bound_scopes.proofs.limits.check_words.Goals as goal

pub returns-clause-ok : goal.returns-clause-ok
returns-clause-ok c = places_kept (conflicts c.args.sigs.now c.args.entries.now) rule.ScopeConflict c.conflict-found.result c.ask.result (c.conflict-found.ensures ∙ ap (λ (s : List Sig). first_from None (conflicts s c.args.entries.now)) c.as_slice.ensures) c.ask.ensures

pub returns-clause-refused : goal.returns-clause-refused
returns-clause-refused c = places_refused (conflicts c.args.sigs.now c.args.entries.now) rule.ScopeConflict c.conflict-found.result c.ask.result (c.conflict-found.ensures ∙ ap (λ (s : List Sig). first_from None (conflicts s c.args.entries.now)) c.as_slice.ensures) c.ask.ensures
