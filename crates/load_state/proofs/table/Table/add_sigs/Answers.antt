use Rattle.std.proofs.Common.{arith, append-nil, ◌∙◌, refl, sym}
use Rattle.load_state.proofs.Counts.{declared_next, stays_itself, stays_on}
use Rattle.load_state.proofs.table.Table.add_sigs.Goals as goal

pub loop-named-init : goal.loop-named-init
loop-named-init c = (refl, sym (append-nil c.args.self.now.declared.items), omega arith, stays_itself _ _ _)

pub loop-named-preserved : goal.loop-named-preserved
loop-named-preserved c =
    let inv = c.loop-named.invariant in (
      c.in_ok-add_sig.ensures.enums ∙ inv.0,
      declared_next c.args.is_private c.args.names.now c.loop-named.named-index c.named-item.result c.args.self.now.declared.items c.loop-named.self.declared.items c.add_sig.new.self.declared.items c.loop-named-test.true
          c.named-item.is inv.1 c.in_ok-add_sig.ensures.declared,
      omega (arith, c.in_ok-add_sig.ensures.sigs, inv.2),
      stays_on _ _ _ _ _ _ _ _ _ inv.3 c.in_ok-add_sig.ensures.tells,
    )
