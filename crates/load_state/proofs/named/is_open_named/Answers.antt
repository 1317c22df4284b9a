use Rattle.std.proofs.Common.{rules, ◌≡◌, ◌∙◌, ap, List, None, sym, subst, slice_get}
use Rattle.std.proofs.lemmas.Option.{none-some, same_Some}
use Rattle.syntax_tree.specs.declared.instance.Instance.{Instance}
use Rattle.syntax_tree.specs.declared.module.Open.{Open}
use Rattle.load_state.specs.Named.{AreGiven}
use Rattle.load_state.proofs.named.is_open_named.Goals as goal

pub returns-in-Some-instance_at : goal.returns-in-Some-instance_at
returns-in-Some-instance_at c = λ texts stands yes o target asks there.
    let o_is : c.in-Some.written.now ≡ o = same_Some c.in-Some.written.now o (sym (ap (λ (os : List Open). slice_get os c.args.k) (sym c.as_slice.ensures) ∙ c.in-Some.ensures.some) ∙ asks) in
    let target_is : c.in-Some-instance_at.target.now ≡ target = same_Some c.in-Some-instance_at.target.now target (sym c.in-Some-instance_at.ensures ∙ there) in
    subst (λ (t : Instance). AreGiven c.args.instances.now texts c.args.opener.number c.args.k c.args.opener.arguments.now o.arguments t.arguments) target_is
    (subst (λ (w : Open). AreGiven c.args.instances.now texts c.args.opener.number c.args.k c.args.opener.arguments.now w.arguments c.in-Some-instance_at.target.now.arguments) o_is
    (search (rules, c.are_named.ensures c.args.instances.now texts c.args.k stands yes)))

pub returns-in-None : goal.returns-in-None
returns-in-None c = λ texts stands yes o target asks there.
    let none : slice_get c.args.opener.source.now.text.tree.opens c.args.k ≡ None = ap (λ (os : List Open). slice_get os c.args.k) (sym c.as_slice.ensures) ∙ c.in-None.ensures.none in
    absurd (none-some o (sym none ∙ asks))
