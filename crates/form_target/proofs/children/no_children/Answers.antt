use Rattle.std.proofs.Common.{◌≡◌, ◌+◌, ◌∙◌, List, [], length, ap, refl, arith}
use Rattle.std.proofs.lemmas.List.{length_push}
use Rattle.std.proofs.lemmas.List.Elements.{All-push}
use Rattle.core_tree.specs.declared.model.Column.{Column}
use Rattle.form_target.proofs.children.no_children.Goals as goal

pub loop-sig-init : goal.loop-sig-init
loop-sig-init c = rw c.new-lists.ensures.items (refl, (λ k d low. absurd (omega (arith, low))))

pub loop-sig-preserved : goal.loop-sig-preserved
loop-sig-preserved c = rw c.in_ok-push.ensures.items (length_push c.loop-sig.lists.items _ ∙ ap (λ n. n + 1) c.loop-sig.invariant.0, All-push (λ (l : List Column). l ≡ []) c.loop-sig.lists.items _ c.loop-sig.invariant.1 c.new.ensures)

pub returns-clause-count : goal.returns-clause-count
returns-clause-count c =
    let end : c.loop-sig._sig-index ≡ length c.args.sigs.now = omega arith in
    c.loop-sig.invariant.0 ∙ end

pub returns-clause-empty : goal.returns-clause-empty
returns-clause-empty c = c.loop-sig.invariant.1
