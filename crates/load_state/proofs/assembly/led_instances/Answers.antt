use Rattle.std.proofs.Common.{rules, List, refl, subst}
use Rattle.syntax_tree.specs.declared.instance.Instance.{Instance}
use Rattle.load_state.specs.Keys.{texts_of}
use Rattle.load_state.specs.Leads.{IsAnswered, AllLed}
use Rattle.load_state.specs.Named.{AllNamed}
use Rattle.load_state.specs.declared.source.Source.{Source}
use Rattle.load_state.proofs.Led.{led_texts}
use Rattle.load_state.proofs.assembly.led_instances.Goals as goal

pub returns-clause-led : goal.returns-clause-led
returns-clause-led c =
    subst (λ (is : List Instance). AllLed (IsAnswered c.args.asked.now.items c.args.root.now) is (texts_of c.args.sources.now.items)) c.as_slice.ensures
    (led_texts c.args.asked.now.items c.deref-2.result.now c.args.root.now c.as_slice.result.now c.args.sources.now.items c.deref-3.result.now (texts_of c.args.sources.now.items) (c.in_ok-led.ensures (search rules))
    c.deref-2.ensures.value c.deref-3.ensures.value refl)

pub returns-clause-named : goal.returns-clause-named
returns-clause-named c =
    subst (λ (is : List Instance). AllNamed is (texts_of c.args.sources.now.items)) c.as_slice-2.ensures
    (subst (λ (ss : List Source). AllNamed c.as_slice-2.result.now (texts_of ss)) c.deref-4.ensures.value (c.in_ok-named.ensures (search rules)))
