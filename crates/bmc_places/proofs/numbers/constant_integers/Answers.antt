use Rattle.std.proofs.lemmas.Int.{to_z-of_z}
use Rattle.core_meaning.specs.Integers.{low_bits}
use Rattle.std.proofs.Common.{w64, ℤ, ◌≡◌, ◌∙◌, ap, List, slice_get}
use Rattle.gate_trait.specs.declared.node.Node.{Node}
use Rattle.bmc_windows.proofs.PushLemmas.{push_at}
use Rattle.bmc_places.proofs.BitLaws.{constant_law, at_all}
use Rattle.bmc_places.proofs.numbers.constant_integers.Goals as goal

pub returns-clause-constant : goal.returns-clause-constant
returns-clause-constant g c =
    let s = c.in_ok-bits.bits in
    let low = c.low_of-low.result in
    let low_is : low ≡ low_bits c.args.width c.args.number = c.low_of-low.ensures.number ∙ ap (λ (z : ℤ). low_bits c.args.width z) (to_z-of_z w64 c.args.number c.ranges.number) in
    let value = g.G.Gates.node_value c.args.gates.now in (
      s,
      c.in_ok-bits.ensures.width,
      (λ x. constant_law (value x) s c.args.width low c.args.number c.in_ok-bits.ensures.width low_is c.low_of-low.ensures.below (c.in_ok-bits.ensures.value x)),
      λ i lt. (
        c.in_ok-made.made,
        at_all c.args.count c.in_ok-made.made c.in_ok-row.row.items i c.in_ok-row.ensures lt,
        ap (λ (ns : List (List Node)). slice_get ns c.in_ok-made.made) c.in_ok-made.ensures.added ∙ push_at c.args.store.now.integers.items s c.in_ok-made.made c.in_ok-made.ensures.number,
      ),
    )
