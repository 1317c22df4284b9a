use Rattle.std.proofs.Common.{◌≡◌, ◌∙◌, Bool, List, ap, length, ℤ, ◌+ℤ◌}
use Rattle.core_meaning.specs.Integers.{wrap}
use Rattle.gate_trait.proofs.KeptLemmas.{values_kept}
use Rattle.gate_integers.specs.Numbers.{binary, signed, from_bits}
use Rattle.gate_numbers.specs.Numbers.{where_true}
use Rattle.gate_numbers.proofs.integers.masked_sum.Goals as goal

pub returns-clause-value : goal.returns-clause-value
returns-clause-value g c = λ x.
    let value = g.G.Gates.node_value in
    let first = c.args.gates.now in
    let later = c.masked.new.gates in
    let a = c.args.a.now in
    let kept = ap (λ (bs : List Bool). from_bits (length a) (binary bs)) (values_kept g.G.Gates.belongs value first later c.masked.ensures.keeps a c.requires.a_belongs x) in
    c.in_ok-made.ensures.value x
    ∙ ap (λ (z : ℤ). wrap (length a) (z +ℤ signed (value later x) c.in_ok-more.more)) kept
    ∙ ap (λ (z : ℤ). wrap (length a) (signed (value first x) a +ℤ z)) (c.in_ok-more.ensures.value x)
