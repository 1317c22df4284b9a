use Rattle.core_meaning.specs.Called.{called}
use Rattle.form_inline.specs.declared.given.Given.TheVariants.{Level, Written}
use Rattle.form_inline.specs.Written.{given_names}
use Rattle.form_inline.proofs.Look.{skipped, past_level, past_written, at_written, passed_some, passed_none}
use Rattle.form_inline.proofs.given.+look_up.Goals as goal

pub returns-else-other-name : goal.returns-else-other-name
returns-else-other-name t c =
    rw c.in-Level.is
    (λ bodies level below. skipped bodies (Level c.in-Level.other c.in-Level.level c.in-Level.rest) c.in-Level.rest.now level c.args.name c.look_up.result (past_level bodies c.in-Level.other c.in-Level.level c.in-Level.rest c.args.name c.if-other-name.false) (c.look_up.ensures bodies level below.1))

pub returns-then-other-name-2 : goal.returns-then-other-name-2
returns-then-other-name-2 t c =
    rw c.in-Written.is
    (λ bodies level below. (below, at_written bodies c.in-Written.other c.in-Written.calls c.in-Written.value c.in-Written.rest c.args.name c.if-other-name-2.true))

pub returns-else-other-name-2 : goal.returns-else-other-name-2
returns-else-other-name-2 t c =
    rw c.in-Written.is
    (λ bodies level below. skipped bodies (Written c.in-Written.other c.in-Written.calls c.in-Written.value c.in-Written.rest) c.in-Written.rest.now level c.args.name c.look_up-else-other-name-2.result (past_written bodies c.in-Written.other c.in-Written.calls c.in-Written.value c.in-Written.rest c.args.name c.if-other-name-2.false) (c.look_up-else-other-name-2.ensures bodies level below))

pub returns-in-Some : goal.returns-in-Some
returns-in-Some t c =
    rw c.in-Passed.is
    (λ bodies level below. (
      below,
      λ w m i s. passed_some w (called w bodies c.in-Passed.calls) (given_names w bodies c.in-Passed.outer.now m) i s c.in-Passed.arguments.now c.args.name c.in-Some.argument.now c.in-Some.ensures.lookup.3.0 c.in-Some.ensures.lookup.1,
    ))

pub returns-in-None : goal.returns-in-None
returns-in-None t c =
    let h = c.in-None.ensures.lookup in
    rw c.in-Passed.is
    (λ bodies level below w m i s. passed_none w (called w bodies c.in-Passed.calls) (given_names w bodies c.in-Passed.outer.now m) i s c.in-Passed.arguments.now c.args.name h.3)
