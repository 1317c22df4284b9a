use Rattle.std.proofs.Common.{◌&&◌, ◌||◌, not, false, map, rules, arith, sym, ap, ◌∙◌}
use Rattle.syntax_tree.specs.Levels.{shape, shaped_decl, shaped_binding, shaped_link, shaped_access, with_item, decl_right, has_some, may_bound, may_lead, linked, stepped, dotted, boxed, every}
use Rattle.syntax_tree.proofs.Shapes.{fold_next, fold_all, implication_shape, shape-Name, shape-At, shape-Constant, shape-Number, shape-Negative, shape-Literal, shape-Parenthesis, shape-Block, shape-Comprehension, shape-Quantified, shape-Let, shape-Sequence, shape-Compare, shape-Prefix, shape-Infix, shape-Join, shape-Prime}
use Rattle.syntax_tree.proofs.levels.+shape.Goals as goal
use Rattle.syntax_tree.proofs.levels.+shape.Goals.{steps_shape-in-Dot, steps_shape-in-Bracket+else-loop-argument-test}

pub shape_of-returns-in-Parenthesis : goal.shape_of-returns-in-Parenthesis
shape_of-returns-in-Parenthesis t c = grind (arith, shape-Parenthesis)

pub shape_of-returns-in-Block : goal.shape_of-returns-in-Block
shape_of-returns-in-Block t c = grind (arith, shape-Block)

pub shape_of-returns-in-Comprehension : goal.shape_of-returns-in-Comprehension
shape_of-returns-in-Comprehension t c = grind (arith, shape-Comprehension)

pub shape_of-returns-in-Quantified : goal.shape_of-returns-in-Quantified
shape_of-returns-in-Quantified t c = grind (arith, shape-Quantified)

pub shape_of-returns-in-Let : goal.shape_of-returns-in-Let
shape_of-returns-in-Let t c = grind (arith, shape-Let)

pub shape_of-returns-in-Sequence : goal.shape_of-returns-in-Sequence
shape_of-returns-in-Sequence t c = grind (arith, shape-Sequence)

pub shape_of-returns-in-Compare : goal.shape_of-returns-in-Compare
shape_of-returns-in-Compare t c = grind (arith, shape-Compare)

pub shape_of-returns-in-Prefix : goal.shape_of-returns-in-Prefix
shape_of-returns-in-Prefix t c = grind (arith, shape-Prefix)

pub shape_of-returns-in-Infix : goal.shape_of-returns-in-Infix
shape_of-returns-in-Infix t c = grind (arith, shape-Infix)

pub shape_of-returns-in-Join : goal.shape_of-returns-in-Join
shape_of-returns-in-Join t c = grind (arith, shape-Join)

pub shape_of-returns-in-Prime : goal.shape_of-returns-in-Prime
shape_of-returns-in-Prime t c = grind (arith, shape-Prime)

pub shape_of-returns-in-Implication : goal.shape_of-returns-in-Implication
shape_of-returns-in-Implication t c = rw c.in-Implication.is (implication_shape _ _ _ _ c.shape_of-condition.result c.shape_of-consequence.result _ c.implied.ensures (search rules) (search rules))

pub decls_right-loop-decl-preserved : goal.decls_right-loop-decl-preserved
decls_right-loop-decl-preserved t c =
    fold_next (λ passed x. passed && decl_right x) shaped_decl _ c.loop-decl.decl-index c.decl-item.result c.loop-decl.right c.also-right.result _
    c.loop-decl-test.true c.decl-item.is c.loop-decl.invariant
    (c.also-right.ensures ∙ ap (λ b. c.loop-decl.right && b) (c.decl_right.ensures
    ∙ (ap (λ b. b && may_bound c.shape_of.result) c.has_some.ensures ∙ ap (λ b. has_some c.decl-item.result.names && may_bound b) c.shape_of.ensures)))

pub decls_right-returns : goal.decls_right-returns
decls_right-returns t c = fold_all (λ passed x. passed && decl_right x) shaped_decl _ c.loop-decl.decl-index _ _ c.loop-decl-test.false c.loop-decl.invariant

pub bindings_right-loop-binding-preserved : goal.bindings_right-loop-binding-preserved
bindings_right-loop-binding-preserved t c =
    fold_next (λ passed x. passed && may_lead 0 x.value) shaped_binding _ c.loop-binding.binding-index c.binding-item.result c.loop-binding.right c.also-right.result _
    c.loop-binding-test.true c.binding-item.is c.loop-binding.invariant
    (c.also-right.ensures ∙ ap (λ b. c.loop-binding.right && b) (c.may_lead.ensures ∙ ap (λ s. may_lead 0 s) c.shape_of.ensures))

pub bindings_right-returns : goal.bindings_right-returns
bindings_right-returns t c = fold_all (λ passed x. passed && may_lead 0 x.value) shaped_binding _ c.loop-binding.binding-index _ _ c.loop-binding-test.false c.loop-binding.invariant

pub items_right-loop-item-preserved : goal.items_right-loop-item-preserved
items_right-loop-item-preserved t c =
    fold_next with_item shape _ c.loop-item.item-index c.item-item.result (c.loop-item.right, c.loop-item.is_first) (c.also-right.result, false) _
    c.loop-item-test.true c.item-item.is c.loop-item.invariant
    (ap (λ b. (b, false)) (c.also-right.ensures ∙ ap (λ b. c.loop-item.right && b) (c.item_right.ensures ∙ ap (λ s. s.right && (c.loop-item.is_first || not s.has_minus)) c.shape_of.ensures)))

pub items_right-returns : goal.items_right-returns
items_right-returns t c =
    ap (λ s. s.0) (fold_all with_item shape _ c.loop-item.item-index (c.loop-item.right, c.loop-item.is_first) _ c.loop-item-test.false c.loop-item.invariant)

pub links_shape-loop-link-preserved : goal.links_shape-loop-link-preserved
links_shape-loop-link-preserved t c =
    fold_next (linked c.args.level) shaped_link _ c.loop-link.link-index c.link-item.result c.loop-link.so_far c.linked-so_far.result _
    c.loop-link-test.true c.link-item.is c.loop-link.invariant
    (c.linked-so_far.ensures ∙ ap (λ s. linked c.args.level c.loop-link.so_far (c.link-item.result.0, s)) c.shape_of.ensures)

pub links_shape-returns : goal.links_shape-returns
links_shape-returns t c = fold_all (linked c.args.level) shaped_link _ c.loop-link.link-index _ _ c.loop-link-test.false c.loop-link.invariant

pub steps_shape-loop-argument-preserved : goal.steps_shape-loop-argument-preserved
steps_shape-loop-argument-preserved t c =
    fold_next (λ passed x. passed && x.right) shape _ c.loop-argument.argument-index c.argument-item.result c.loop-argument.right c.also-right.result _
    c.loop-argument-test.true c.argument-item.is c.loop-argument.invariant
    (c.also-right.ensures ∙ ap (λ s. c.loop-argument.right && s.right) c.shape_of-in-loop-argument.ensures)

pub steps_shape-loop-step-preserved : goal.steps_shape-loop-step-preserved
steps_shape-loop-step-preserved t c =
    let had = c.loop-step.so_far in
    elim c.match-step.branch [
      | steps_shape-in-Dot w ↦ fold_next stepped shaped_access _ c.loop-step.step-index c.step-item.result had c.match-step.so_far _
          c.loop-step-test.true c.step-item.is c.loop-step.invariant
          (w.so_far-is ∙ (w.dotted-so_far.ensures ∙ (ap (dotted had) w.shape_of.ensures ∙ ap (λ s. stepped had (shaped_access s)) (sym w.in-Dot.is))))
      | steps_shape-in-Bracket+else-loop-argument-test w ↦ fold_next stepped shaped_access _ c.loop-step.step-index c.step-item.result had c.match-step.so_far _
          c.loop-step-test.true c.step-item.is c.loop-step.invariant
          (w.so_far-is ∙ (w.boxed-so_far.ensures
          ∙ (ap (boxed had) (fold_all (λ passed x. passed && x.right) shape _ w.loop-argument.argument-index _ _ w.loop-argument-test.false w.loop-argument.invariant)
          ∙ (ap (λ xs. boxed had (every (λ x. x.right) (map shape xs))) w.as_slice-arguments.ensures
          ∙ ap (λ s. stepped had (shaped_access s)) (sym w.in-Bracket.is)))))
    ]

pub steps_shape-returns : goal.steps_shape-returns
steps_shape-returns t c = fold_all stepped shaped_access _ c.loop-step.step-index _ _ c.loop-step-test.false c.loop-step.invariant

pub shape_of-returns-in-Negative : goal.shape_of-returns-in-Negative
shape_of-returns-in-Negative t c = grind (arith, shape-Negative)

pub shape_of-returns-in-Name : goal.shape_of-returns-in-Name
shape_of-returns-in-Name t c = grind (arith, shape-Name)

pub shape_of-returns-in-At : goal.shape_of-returns-in-At
shape_of-returns-in-At t c = grind (arith, shape-At)

pub shape_of-returns-in-Constant : goal.shape_of-returns-in-Constant
shape_of-returns-in-Constant t c = grind (arith, shape-Constant)

pub shape_of-returns-in-Number : goal.shape_of-returns-in-Number
shape_of-returns-in-Number t c = grind (arith, shape-Number)

pub shape_of-returns-in-Literal : goal.shape_of-returns-in-Literal
shape_of-returns-in-Literal t c = grind (arith, shape-Literal)
