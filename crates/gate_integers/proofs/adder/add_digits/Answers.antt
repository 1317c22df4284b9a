use Rattle.std.proofs.Common.{◌≡◌, Bool, cond, ap, ◌∙◌}
use Rattle.gate_trait.specs.Built.{xor}
use Rattle.gate_integers.proofs.RowLemmas.{two_same}
use Rattle.gate_integers.proofs.BinaryLemmas.{digit_law}
use Rattle.gate_integers.proofs.adder.add_digits.Goals as goal

pub returns-clause-digits : goal.returns-clause-digits
returns-clause-digits g c = λ x.
    let value = g.G.Gates.node_value in
    let v0 = value c.args.gates.now x in
    let v1 = value c.xor.new.self x in
    let v2 = value c.xor-2.new.self x in
    let v3 = value c.choose.new.self x in
    let k1 = c.xor.ensures.keeps in
    let k2 = c.xor-2.ensures.keeps in
    let k3 = c.choose.ensures.keeps in
    let half = c.in_ok-half.ensures.ok in
    let sum = c.in_ok-sum.ensures.ok in
    let carry = c.in_ok-carry.ensures.ok in
    let h = c.in_ok-half.half in
    let c1 : v1 c.args.c ≡ v0 c.args.c = k1.values c.args.c c.requires.c_belongs x in
    let c2 : v2 c.args.c ≡ v0 c.args.c = k2.values c.args.c (k1.belong c.args.c c.requires.c_belongs) x ∙ c1 in
    let a2 : v2 c.args.a ≡ v0 c.args.a = k2.values c.args.a (k1.belong c.args.a c.requires.a_belongs) x ∙ k1.values c.args.a c.requires.a_belongs x in
    let h2 : v2 h ≡ v1 h = k2.values h half.there x in
    digit_law (v0 c.args.a) (v0 c.args.b) (v0 c.args.c) (v1 h) _ _
    (half.gives x)
    (k3.values c.in_ok-sum.sum sum.there x ∙ sum.gives x ∙ ap (λ (t : Bool). xor (v1 h) t) c1)
    (carry.gives x ∙ ap (λ (t : Bool). cond t (v2 c.args.c) (v2 c.args.a)) h2 ∙ two_same (λ s t. cond (v1 h) s t) _ _ _ _ c2 a2)
