use Rattle.std.proofs.Common.{◌≡◌, ◌++◌, ◌∷◌, [], ◌≤◌, ℕ, List, length, get_or, sym, ap, ◌∙◌, arith, append_assoc, append-nil}
use Rattle.std.proofs.lemmas.Option.{slice_get-get_or}
use Rattle.gate_trait.specs.declared.node.Node.{Node}
use Rattle.gate_trait.proofs.KeptLemmas.{all_more, keeps_refl}
use Rattle.bmc_stack.proofs.MemberLaws.{says_none, says_more, says_all}
use Rattle.bmc_stack.proofs.members.add_row.Goals as goal

pub loop-place-init : goal.loop-place-init
loop-place-init g c = record {
  belongs = c.requires.nodes;
  says = ([], sym (append-nil c.args.nodes.now), says_none _ _ _ _);
}

pub loop-place-preserved : goal.loop-place-preserved
loop-place-preserved g c =
    let belongs = g.G.Gates.belongs in
    let value = g.G.Gates.node_value in
    let gates = c.args.gates.now in
    let before = c.loop-place.invariant in
    let more = before.says.0 in
    let n = c.member_node.result in
    let is = c.in_ok-push.ensures.ok in
    let number = c.found_at-number.result in
    let here = c.found_at-number.ensures (get_or c.args.row.now c.loop-place.place number) (slice_get-get_or c.args.row.now c.loop-place.place number c.loop-place-test.true) in
    record {
      belongs = all_more belongs value gates gates (keeps_refl belongs value gates) c.loop-place.nodes c.push.new.self n is before.belongs c.member_node.ensures.belongs;
      says = (
        more ++ n ∷ [],
        is ∙ ap (λ (ns : List Node). ns ++ n ∷ []) before.says.1 ∙ append_assoc c.args.nodes.now more (n ∷ []),
        says_more (value gates) c.args.store.now.matrices.items c.args.row.now c.args.tuple.now c.loop-place.place number more n before.says.2 here c.member_node.ensures.says,
      );
    }

pub returns-clause-says : goal.returns-clause-says
returns-clause-says g c =
    let says = c.loop-place.invariant.says in
    (says.0, says.1, says_all _ _ _ _ c.loop-place.place says.0 (omega (arith, c.loop-place-test.false)) (omega (arith, c.loop-place.auto.place-end)) says.2)
