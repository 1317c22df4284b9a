use Rattle.std.proofs.Common.{◌≡◌, sym, ap, ◌∙◌, arith}
use Rattle.core_tree.specs.declared.model.Sig.{Sig}
use Rattle.bound_definitions.specs.declared.known.Known.{Known}
use Rattle.bound_numbers.specs.declared.families.Family.{Family}
use Rattle.bound_numbers.specs.Tables.{table_of, family_at, summed}
use Rattle.bound_numbers.proofs.Places.{front_more, front_all, here_at}
use Rattle.bound_numbers.proofs.sig_numbers.are_sums.Goals as goal

pub loop-place-preserved : goal.loop-place-preserved
loop-place-preserved c =
    let n = c.loop-place.place in
    let sig = c.get-sig.result.now in
    let listed = c.args.listed.now in
    let families = c.args.families.now in
    let sums = c.args.sums.now in
    let here : table_of sums n ≡ summed sig (table_of listed n) (family_at families n) =
    sym c.known_at-known.ensures ∙ c.is_same.ensures c.if-not-is_same.false ∙ c.summed-sum.ensures
    ∙ ap (λ (k : Known). summed sig k c.family_at-family.result) c.known_at-own.ensures ∙ ap (λ (f : Family). summed sig (table_of listed n) f) c.family_at-family.ensures in
    front_more (λ k (d : Sig). table_of sums k ≡ summed d (table_of listed k) (family_at families k)) c.args.sigs.now n c.loop-place.invariant
    (here_at (λ (d : Sig). table_of sums n ≡ summed d (table_of listed n) (family_at families n)) c.args.sigs.now n sig c.get-sig.ensures here)

pub returns : goal.returns
returns c = λ t. front_all (λ k (d : Sig). table_of c.args.sums.now k ≡ summed d (table_of c.args.listed.now k) (family_at c.args.families.now k)) c.args.sigs.now c.loop-place.place (omega arith) c.loop-place.invariant
