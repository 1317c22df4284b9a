use Rattle.std.proofs.Common.{◌≡◌, List, length, ap, subst, arith}
use Rattle.std.proofs.lemmas.List.{length_push}
use Rattle.bound_uppers.specs.declared.table.Bound.{Bound}
use Rattle.bound_uppers.specs.Table.{decoded_state}
use Rattle.bound_uppers.specs.Numbers.{HasFirsts}
use Rattle.bound_uppers.proofs.Sizes.{states_more}
use Rattle.bound_uppers.proofs.decoding.states_of.Goals as goal

pub loop-state-preserved : goal.loop-state-preserved
loop-state-preserved c =
    let more = length_push c.loop-state.states.items c.in_ok-state_of.field-0 in
    let grown = ap length c.in_ok-push.ensures.items in
    let kept = c.args.table.now in
    let values = c.args.assignment.now in
    let state = c.in_ok-state_of.field-0 in
    let is = subst (λ (bs : List Bound). HasFirsts bs kept c.loop-state.state → state ≡ decoded_state bs values c.loop-state.state) c.as_slice.ensures c.in_ok-state_of.ensures.exact in
    record {
      count = omega (arith, more, grown, c.loop-state.invariant.count);
      exact = λ firsts. states_more c.args.bounds.now kept values c.loop-state.state state c.loop-state.states.items c.push.new.self.items firsts c.loop-state-test.true is (c.loop-state.invariant.exact firsts) c.in_ok-push.ensures.items;
    }
