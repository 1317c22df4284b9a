use Rattle.std.proofs.Common.{List, map, ap, ◌∙◌, subst}
use Rattle.core_tree.specs.Trees.{term_of}
use Rattle.bound_definitions.specs.Trees.{Counted, counted_value}
use Rattle.bound_definitions.specs.Refusals.{BreaksTrees, IsFirstBroken, AreKept, tree_rules}
use Rattle.bound_scopes.specs.Limits.{IsFaultOf}
use Rattle.bound_scopes.specs.Roots.{counted_root}
use Rattle.bound_scopes.proofs.Answering.{handed}
use Rattle.bound_scopes.proofs.Refusing.{wide_first, past_first, deep_first, trees_kept}
use Rattle.bound_scopes.proofs.value.check.Goals as goal

pub returns-clause-kept : goal.returns-clause-kept
returns-clause-kept c =
    subst (λ (trees : List Counted). AreKept (BreaksTrees c.args.model.now.bodies trees c.args.bits) tree_rules)
    (ap (map counted_root) c.as_slice-roots.ensures.value ∙ c.in_ok-roots.ensures)
    (trees_kept c.args.model.now.bodies (map counted_root c.as_slice-roots.result.now) c.args.bits c.in_ok-check_numbers.ensures.ok c.in_ok-check_past.ensures.ok c.in_ok-check_depth.ensures.ok)

pub returns-in_err-check_numbers-clause-refused : goal.returns-in_err-check_numbers-clause-refused
returns-in_err-check_numbers-clause-refused c =
    handed (IsFaultOf (IsFirstBroken (BreaksTrees c.args.model.now.bodies (counted_value (term_of c.args.value.now) c.args.first) c.args.bits) tree_rules)) c.from_residual-in_err-check_numbers.result c.in_err-check_numbers.field-0.0 c.from_residual-in_err-check_numbers.ensures.1
    (subst (λ (trees : List Counted). IsFaultOf (IsFirstBroken (BreaksTrees c.args.model.now.bodies trees c.args.bits) tree_rules) c.in_err-check_numbers.field-0.0) (ap (map counted_root) c.as_slice-roots.ensures.value ∙ c.in_ok-roots.ensures)
    (wide_first c.args.model.now.bodies (map counted_root c.as_slice-roots.result.now) c.args.bits c.in_err-check_numbers.field-0.0 c.in_err-check_numbers.ensures.refused))

pub returns-in_err-check_past-clause-refused : goal.returns-in_err-check_past-clause-refused
returns-in_err-check_past-clause-refused c =
    handed (IsFaultOf (IsFirstBroken (BreaksTrees c.args.model.now.bodies (counted_value (term_of c.args.value.now) c.args.first) c.args.bits) tree_rules)) c.from_residual-in_err-check_past.result c.in_err-check_past.field-0.0 c.from_residual-in_err-check_past.ensures.1
    (subst (λ (trees : List Counted). IsFaultOf (IsFirstBroken (BreaksTrees c.args.model.now.bodies trees c.args.bits) tree_rules) c.in_err-check_past.field-0.0) (ap (map counted_root) c.as_slice-roots.ensures.value ∙ c.in_ok-roots.ensures)
    (past_first c.args.model.now.bodies (map counted_root c.as_slice-roots.result.now) c.args.bits c.in_ok-check_numbers.ensures.ok c.in_err-check_past.field-0.0 c.in_err-check_past.ensures.refused))

pub returns-in_err-check_depth-clause-refused : goal.returns-in_err-check_depth-clause-refused
returns-in_err-check_depth-clause-refused c =
    handed (IsFaultOf (IsFirstBroken (BreaksTrees c.args.model.now.bodies (counted_value (term_of c.args.value.now) c.args.first) c.args.bits) tree_rules)) c.from_residual-in_err-check_depth.result c.in_err-check_depth.field-0.0 c.from_residual-in_err-check_depth.ensures.1
    (subst (λ (trees : List Counted). IsFaultOf (IsFirstBroken (BreaksTrees c.args.model.now.bodies trees c.args.bits) tree_rules) c.in_err-check_depth.field-0.0) (ap (map counted_root) c.as_slice-roots.ensures.value ∙ c.in_ok-roots.ensures)
    (deep_first c.args.model.now.bodies (map counted_root c.as_slice-roots.result.now) c.args.bits c.in_ok-check_numbers.ensures.ok c.in_ok-check_past.ensures.ok c.in_err-check_depth.field-0.0 c.in_err-check_depth.ensures.refused))
