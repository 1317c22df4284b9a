use Rattle.std.proofs.Common.{◌≡◌, sym, ap, ◌∙◌, arith}
use Rattle.core_tree.specs.declared.model.Sig.{Sig}
use Rattle.bound_definitions.specs.declared.known.Known.{Known}
use Rattle.bound_numbers.specs.declared.families.Family.{Family}
use Rattle.bound_numbers.specs.Tables.{table_of, family_at, of_parent, number_by}
use Rattle.bound_numbers.proofs.Places.{front_more, front_all, here_at}
use Rattle.bound_numbers.proofs.sig_numbers.are_numbers.Goals as goal

pub loop-place-preserved : goal.loop-place-preserved
loop-place-preserved c =
    let n = c.loop-place.place in
    let sig = c.get-sig.result.now in
    let overall = c.args.overall in
    let families = c.args.families.now in
    let sums = c.args.sums.now in
    let numbers = c.args.numbers.now in
    let here : table_of numbers n ≡ number_by sig.kind overall (family_at families n) (table_of sums n) (of_parent (table_of numbers) sig.kind) =
    sym c.known_at-known.ensures ∙ c.is_same.ensures c.if-not-is_same.false ∙ c.number_by-number.ensures
    ∙ ap (λ (f : Family). number_by sig.kind overall f c.known_at-sum.result c.of_parent-parent.result) c.family_at-family.ensures
    ∙ ap (λ (k : Known). number_by sig.kind overall (family_at families n) k c.of_parent-parent.result) c.known_at-sum.ensures
    ∙ ap (λ (k : Known). number_by sig.kind overall (family_at families n) (table_of sums n) k) c.of_parent-parent.ensures in
    front_more (λ k (d : Sig). table_of numbers k ≡ number_by d.kind overall (family_at families k) (table_of sums k) (of_parent (table_of numbers) d.kind)) c.args.sigs.now n c.loop-place.invariant
    (here_at (λ (d : Sig). table_of numbers n ≡ number_by d.kind overall (family_at families n) (table_of sums n) (of_parent (table_of numbers) d.kind)) c.args.sigs.now n sig c.get-sig.ensures here)

pub returns : goal.returns
returns c = λ t.
    let numbers = c.args.numbers.now in
    front_all (λ k (d : Sig). table_of numbers k ≡ number_by d.kind c.args.overall (family_at c.args.families.now k) (table_of c.args.sums.now k) (of_parent (table_of numbers) d.kind)) c.args.sigs.now c.loop-place.place (omega arith) c.loop-place.invariant
