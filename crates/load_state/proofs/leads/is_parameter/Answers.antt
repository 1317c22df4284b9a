use Rattle.std.proofs.Common.{◌≡◌, ◌∙◌, List, Option, rules, subst, sym}
use Rattle.syntax_tree.specs.declared.instance.SigRef.{SigRef}
use Rattle.load_state.specs.Keys.{texts_of}
use Rattle.load_state.specs.Leads.{IsGiven}
use Rattle.load_state.proofs.Led.{parameter_stands}
use Rattle.load_state.proofs.leads.is_parameter.Goals as goal

pub returns-in-Some-source_at : goal.returns-in-Some-source_at
returns-in-Some-source_at c = λ is.
    let same : c.as_slice.result.now ≡ c.args.written.now.parts = search rules in
    let given : c.as_slice-in-Some-source_at.result.now ≡ c.in-Some-instance_at.own.now.arguments = search rules in
    parameter_stands c.args.instances.now (texts_of c.args.sources.now) c.args.number c.args.written.now c.args.argument c.in-Some.part.now c.in-Some-instance_at.own.now c.in-Some-source_at.source.now.text
    (sym same ∙ c.in-Some.ensures) c.in-Some-instance_at.ensures c.in-Some-source_at.ensures
    (subst (λ (xs : List (Option SigRef)). IsGiven c.in-Some-source_at.source.now.text.tree xs c.in-Some.part.now c.args.argument) given (c.is_given.ensures is))
