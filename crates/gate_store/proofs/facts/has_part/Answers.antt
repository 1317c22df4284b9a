use Rattle.std.proofs.Common.{◌≡◌, ◌∙◌, ap, sym, subst, arith, Some}
use Rattle.std.specs.List.{slice_get}
use Rattle.std.proofs.lemmas.Bool.Decides.{nat_tests}
use Rattle.gate_trait.specs.declared.gate.Gate.{Gate}
use Rattle.gate_trait.specs.declared.gate.Gate.TheVariants.{And}
use Rattle.gate_trait.specs.NodeWords.{number_of}
use Rattle.gate_store.proofs.Laws.{same_value, parts_true}
use Rattle.gate_store.proofs.facts.has_part.Goals as goal

pub returns-then-part-a : goal.returns-then-part-a
returns-then-part-a c = λ t x h.
    let at : slice_get c.args.store.now (number_of c.args.whole) ≡ Some (And c.in-And.a c.in-And.b) = subst (λ (k : _). slice_get c.args.store.now k ≡ Some (And c.in-And.a c.in-And.b)) c.number.ensures (c.gate.ensures ∙ ap (λ (g : Gate). Some g) c.in-And.is) in
    same_value c.args.store.now c.in-And.a c.args.part (sym c.if-part-a.true) x
    (parts_true c.args.store.now c.gates-count.ensures.layered c.args.whole c.in-And.a c.in-And.b at (sym c.negated.ensures ∙ c.if-negated.false) x h).0

pub returns-else-part-a : goal.returns-else-part-a
returns-else-part-a c = λ t x h.
    let at : slice_get c.args.store.now (number_of c.args.whole) ≡ Some (And c.in-And.a c.in-And.b) = subst (λ (k : _). slice_get c.args.store.now k ≡ Some (And c.in-And.a c.in-And.b)) c.number.ensures (c.gate.ensures ∙ ap (λ (g : Gate). Some g) c.in-And.is) in
    let is : c.in-And.b.code ≡ c.args.part.code = grind (arith, nat_tests) in
    same_value c.args.store.now c.in-And.b c.args.part is x
    (parts_true c.args.store.now c.gates-count.ensures.layered c.args.whole c.in-And.a c.in-And.b at (sym c.negated.ensures ∙ c.if-negated.false) x h).1
