use Rattle.std.proofs.Common.{List, ◌++◌, map, refl, ap, ◌∙◌}
use Rattle.core_tree.specs.Trees.{term_of}
use Rattle.bound_definitions.specs.Trees.{counted_value}
use Rattle.bound_scopes.specs.declared.counted.Root.{Root}
use Rattle.bound_scopes.specs.Roots.{counted_root}
use Rattle.bound_scopes.proofs.Roots.{added_root}
use Rattle.bound_scopes.proofs.counted.counted_value.Goals as goal

pub returns : goal.returns
returns c =
    added_root c.new-all.result.items c.push.new.self.items _ (counted_value (term_of c.args.value.now) c.args.first) c.in_ok-push.ensures.items refl
    ∙ ap (λ (l : List Root). map counted_root l ++ counted_value (term_of c.args.value.now) c.args.first) c.new-all.ensures.items
