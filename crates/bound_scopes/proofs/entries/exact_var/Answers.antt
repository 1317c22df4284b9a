use Rattle.std.proofs.Common.{Option, None, sym, ap, ◌∙◌}
use Rattle.core_tree.specs.declared.model.Sig.{Sig}
use Rattle.core_tree.specs.declared.model.Origin.{Origin}
use Rattle.bound_definitions.specs.Places.{first_from, each}
use Rattle.bound_definitions.specs.Rules.{exact_var_entry, open_of}
use Rattle.bound_definitions.proofs.Firsts.{first_append}
use Rattle.bound_scopes.proofs.entries.exact_var.Goals as goal

pub returns : goal.returns
returns c =
    c.var_opens.ensures ∙ ap (λ (o : Option Origin). first_from o (each (open_of (λ (d : Sig). d.is_var)) c.args.sigs.now)) c.exact_var_entries-listed.ensures
    ∙ sym (first_append None (each (exact_var_entry c.args.sigs.now) c.args.entries.now) (each (open_of (λ (d : Sig). d.is_var)) c.args.sigs.now))
