use Rattle.std.proofs.Common.{◌≡◌, ◌+◌, ◌-◌, ℕ, length, replicate, ap, ◌∙◌, arith}
use Rattle.answer_trace.specs.Owners.{owner_at}
use Rattle.answer_trace.proofs.Links.{link_start, link_next}
use Rattle.answer_trace.proofs.owners.Owners.new.Goals as goal

pub loop-count-init : goal.loop-count-init
loop-count-init c =
    let model = c.args.model.now in
    let sigs : c.len.result + 1 ≡ length model.sigs + 1 = omega arith in
    link_start (owner_at model) (length model.sigs) (length model.fields) c.in_ok-heads.heads.items c.new-next.result.items (c.in_ok-heads.ensures.items_if_clones_equal (λ y e. e) ∙ ap (λ (n : ℕ). replicate n 0) sigs) c.new-next.ensures.items

pub loop-count-preserved : goal.loop-count-preserved
loop-count-preserved c =
    let model = c.args.model.now in
    link_next (owner_at model) (length model.sigs) (length model.fields) c.loop-count.heads.items c.loop-count.next.items _ _ c.loop-count.count c.owner_of-owner.result (c.len-fields.result - 1 - c.loop-count.count) c.loop-count.invariant (omega arith) (omega arith) c.owner_of-owner.ensures.owner c.owner_of-owner.ensures.bound c.in_ok-link.ensures.heads c.in_ok-link.ensures.next
