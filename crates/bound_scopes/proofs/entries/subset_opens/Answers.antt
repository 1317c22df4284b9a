use Rattle.std.proofs.Common.{◌+◌, refl, ap, ◌∙◌, arith}
use Rattle.core_tree.specs.declared.model.Sig.{Sig}
use Rattle.bound_definitions.specs.Places.{first_from, some_place_if}
use Rattle.bound_definitions.specs.Rules.{is_subset, open_of}
use Rattle.bound_definitions.proofs.Firsts.{first_turn, first_whole}
use Rattle.bound_scopes.proofs.entries.subset_opens.Goals as goal

pub loop-sig-preserved : goal.loop-sig-preserved
loop-sig-preserved c =
    first_turn (open_of (λ (d : Sig). is_subset d.kind)) c.args.found c.args.sigs.now c.loop-sig.sig-index (c.loop-sig.sig-index + 1) c.sig-item.result c.loop-sig.first c.with_some_place-first.result refl
    c.loop-sig-test.true c.sig-item.is c.loop-sig.invariant (c.with_some_place-first.ensures ∙ ap (λ b. first_from c.loop-sig.first (some_place_if b c.sig-item.result.exactly)) c.is_subset.ensures)

pub returns : goal.returns
returns c = c.loop-sig.invariant ∙ first_whole (open_of (λ (d : Sig). is_subset d.kind)) c.args.found c.args.sigs.now c.loop-sig.sig-index (omega arith)
