use Rattle.std.proofs.Common.{map, ap, ◌∙◌}
use Rattle.bound_definitions.specs.Places.{each}
use Rattle.bound_definitions.specs.Trees.{counted_sig, counted_field, counted_fact, counted_command}
use Rattle.bound_scopes.specs.Roots.{counted_root}
use Rattle.bound_scopes.proofs.Roots.{four_parts, counted_all}
use Rattle.bound_scopes.proofs.counted.counted.Goals as goal

pub returns : goal.returns
returns c =
    four_parts (map counted_root c.new-all.result.items) (map counted_root c.add_sigs.new.all.items) (map counted_root c.add_fields.new.all.items) (map counted_root c.add_facts.new.all.items) (map counted_root c.add_command.new.all.items)
    (each counted_sig c.as_slice-sigs.result.now) (each (counted_field c.as_slice-sigs.result.now) c.as_slice.result.now) (each counted_fact c.as_slice-2.result.now) (counted_command c.args.command.now) (ap (map counted_root) c.new-all.ensures.items)
    c.in_ok-add_sigs.ensures c.in_ok-add_fields.ensures c.in_ok-add_facts.ensures c.in_ok-add_command.ensures
    ∙ counted_all c.args.model.now c.args.command.now c.as_slice-sigs.result.now c.as_slice.result.now c.as_slice-2.result.now c.as_slice-sigs.ensures c.as_slice.ensures c.as_slice-2.ensures
