use Rattle.std.proofs.Common.{rules, map, ap, sym, ◌∙◌}
use Rattle.syntax_tree.specs.declared.expr.Access.TheVariants as access
use Rattle.syntax_places.specs.Pieces.{pieces, access_pieces, pieced_access}
use Rattle.syntax_tree.specs.declared.token.Symbol.TheVariants as s
use Rattle.syntax_places.proofs.Parts.{joined_next, separated_next, separated_end, box_whole, decls_next, bindings_next, links_next}
use Rattle.syntax_places.proofs.Forms.{implication_whole}
use Rattle.syntax_places.specs.Walk.{walk}
use Rattle.syntax_places.proofs.expr.+placed.Goals as goal
use Rattle.syntax_places.proofs.expr.+placed.Goals.{steps-in-Dot, steps-in-Bracket+else-loop-item-test}

pub exprs-loop-item-preserved : goal.exprs-loop-item-preserved
exprs-loop-item-preserved t c =
    joined_next pieces c.args.items.now c.loop-item.item-index c.loop-item.walk _ c.item-item.result c.expr.new.walk c.loop-item-test.true c.item-item.is c.loop-item.invariant c.expr.ensures

pub decls-loop-one-preserved : goal.decls-loop-one-preserved
decls-loop-one-preserved t c =
    decls_next c.loop-one.one-index c.loop-one.walk _ c.expr.new.walk c.loop-one.is_first c.optional.new.walk c.variables.new.walk c.args.decls.now c.one-item.result
    c.loop-one-test.true c.one-item.is c.loop-one.invariant c.optional.ensures c.variables.ensures c.expr.ensures

pub bindings-loop-one-preserved : goal.bindings-loop-one-preserved
bindings-loop-one-preserved t c =
    bindings_next c.loop-one.one-index c.loop-one.walk _ c.expr.new.walk c.loop-one.is_first c.optional.new.walk c.bound_name.new.walk c.args.bindings.now c.one-item.result
    c.loop-one-test.true c.one-item.is c.loop-one.invariant c.optional.ensures c.bound_name.ensures c.expr.ensures

pub links-loop-link-preserved : goal.links-loop-link-preserved
links-loop-link-preserved t c =
    links_next c.loop-link.link-index c.loop-link.walk _ c.expr.new.walk c.infix.new.walk c.args.links.now c.link-item.result
    c.loop-link-test.true c.link-item.is c.loop-link.invariant c.infix.ensures c.expr.ensures

pub expr-returns-in-Implication : goal.expr-returns-in-Implication
expr-returns-in-Implication t c =
    rw c.in-Implication.is (implication_whole c.in-Implication.field-0 c.in-Implication.condition c.in-Implication.consequence c.in-Implication.other c.args.walk.now
    c.expr-in-Implication.new.walk c.past-in-Implication.new.self c.expr-in-Implication-2.new.walk c.alternative.new.walk (search rules) (search rules) (search rules) (search rules))

pub steps-loop-item-preserved : goal.steps-loop-item-preserved
steps-loop-item-preserved t c =
    separated_next pieces c.as_slice-items.result.now c.loop-item.item-index c.loop-item.walk _ s.Comma c.loop-item.is_first c.item-item.result c.optional.new.walk
    c.expr-in-loop-item.new.walk c.loop-item-test.true c.item-item.is c.loop-item.invariant c.optional.ensures c.expr-in-loop-item.ensures

pub steps-loop-one-preserved : goal.steps-loop-one-preserved
steps-loop-one-preserved t c =
    elim c.match-one.branch [
      | steps-in-Dot w ↦ joined_next (λ a. access_pieces (pieced_access a)) c.args.steps.now c.loop-one.one-index c.loop-one.walk _ c.one-item.result c.match-one.walk
          c.loop-one-test.true c.one-item.is c.loop-one.invariant
          (w.walk-is ∙ (w.expr.ensures ∙ (ap (λ u. walk u (pieces w.in-Dot.operand)) w.past.ensures
          ∙ ap (λ a. walk c.loop-one.walk (access_pieces (pieced_access a))) (sym w.in-Dot.is))))
      | steps-in-Bracket+else-loop-item-test w ↦ joined_next (λ a. access_pieces (pieced_access a)) c.args.steps.now c.loop-one.one-index c.loop-one.walk _ c.one-item.result
          c.match-one.walk c.loop-one-test.true c.one-item.is c.loop-one.invariant
          (w.walk-is ∙ (box_whole w.as_slice-items.result.now c.loop-one.walk w.past-in-Bracket.new.self w.loop-item.walk w.past-in-Bracket-2.new.self w.past-in-Bracket.ensures
          (separated_end pieces w.as_slice-items.result.now w.loop-item.item-index w.loop-item.walk _ s.Comma w.loop-item.is_first w.loop-item-test.false w.loop-item.invariant)
          w.past-in-Bracket-2.ensures
          ∙ (ap (λ xs. walk c.loop-one.walk (access_pieces (access.Bracket (map pieces xs)))) w.as_slice-items.ensures
          ∙ ap (λ a. walk c.loop-one.walk (access_pieces (pieced_access a))) (sym w.in-Bracket.is))))
    ]
