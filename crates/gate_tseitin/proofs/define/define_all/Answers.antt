use Rattle.std.proofs.Common.{◌∙◌, ◌<◌, length, arith}
use Rattle.gate_tseitin.proofs.Definitions.{define_step, define_end, get_here}
use Rattle.gate_tseitin.proofs.define.define_all.Goals as goal

pub loop-number-preserved : goal.loop-number-preserved
loop-number-preserved c =
    let store = c.args.store.now in
    let lt : c.loop-number.number < length store = omega arith in
    let g = get_here store c.loop-number.number lt in
    record {
      variables = c.in_ok-define_kept.ensures.variables ∙ c.loop-number.invariant.variables;
      value = λ v vs shown. define_step vs v c.args.kept.now store c.loop-number.number g.0 _ _ _ g.1 (c.in_ok-define_kept.ensures.value g.0 v vs g.1 shown) (c.loop-number.invariant.value v vs shown);
    }

pub returns-clause-value : goal.returns-clause-value
returns-clause-value c = λ v vs shown. define_end vs v c.args.kept.now c.args.store.now c.loop-number.number _ _ (omega arith) (c.loop-number.invariant.value v vs shown)
