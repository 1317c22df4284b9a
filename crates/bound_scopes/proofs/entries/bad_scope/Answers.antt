use Rattle.std.proofs.Common.{[], Option, None, sym, ap, ◌∙◌}
use Rattle.core_tree.specs.declared.model.Sig.{Sig}
use Rattle.core_tree.specs.declared.model.Origin.{Origin}
use Rattle.bound_definitions.specs.Places.{first_from, each, each_behind}
use Rattle.bound_definitions.specs.Rules.{is_subset, bad_entry, open_of}
use Rattle.bound_definitions.proofs.Firsts.{first_append}
use Rattle.bound_scopes.proofs.entries.bad_scope.Goals as goal

pub returns : goal.returns
returns c =
    c.subset_opens.ensures ∙ ap (λ (o : Option Origin). first_from o (each (open_of (λ (d : Sig). is_subset d.kind)) c.args.sigs.now)) c.in_ok-bad.ensures
    ∙ sym (first_append None (each_behind (bad_entry c.args.sigs.now) [] c.args.entries.now) (each (open_of (λ (d : Sig). is_subset d.kind)) c.args.sigs.now))
