use Rattle.std.proofs.Common.{rules, arith, List, ◌-◌, ◌^◌, subst, sym}
use Rattle.syntax_tree.specs.declared.instance.Text.{Text}
use Rattle.load_state.specs.Named.{AllNamed}
use Rattle.load_state.proofs.Heavy.{countable_by}
use Rattle.load_state.proofs.Led.{led_texts}
use Rattle.load_state.proofs.assembly.finished_model.Goals as goal

pub invariant_of-result-clause-countable : goal.invariant_of-result-clause-countable
invariant_of-result-clause-countable c =
    countable_by c.in_ok-texts.field-0.texts c.in_ok-texts.field-0.weights.items c.deref.result.now c.in_ok-instances.instances c.as_slice.result.now c.in_ok-total.total (2 ^ 32 - 1)
    c.in_ok-texts.ensures.weights (search rules) (search rules) (search rules) (omega (arith, c.if-total.false))

pub returns-clause-led : goal.returns-clause-led
returns-clause-led c =
    led_texts c.args.loading.asked.items c.args.loading.asked.items c.args.root.now c.in_ok-instances.instances c.args.loading.sources.items c.args.loading.sources.items c.in_ok-texts.field-0.texts
    c.in_ok-instances.ensures.led (search rules) (search rules) (search rules)

pub returns-clause-named : goal.returns-clause-named
returns-clause-named c = subst (λ (ts : List Text). AllNamed c.in_ok-instances.instances ts) (sym c.in_ok-texts.ensures.texts) c.in_ok-instances.ensures.named
