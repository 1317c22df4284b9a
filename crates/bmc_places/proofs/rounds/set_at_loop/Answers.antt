use Rattle.std.proofs.Common.{◌≡◌, ◌<◌, ◌≤◌, ◌∙◌, length, get_or, sym, refl, subst, arith}
use Rattle.std.proofs.lemmas.Option.{slice_get_read}
use Rattle.gate_trait.proofs.KeptLemmas.{keeps_refl, keeps_trans, all_get}
use Rattle.gate_matrix.specs.Matrices.{MatrixEntries, AllBelong}
use Rattle.bmc_stack.proofs.PlaceLaws.{matrix_belongs}
use Rattle.bmc_stack.proofs.StoreLaws.{store_kept}
use Rattle.bmc_places.proofs.LoopSetLaws.{set_first, set_more, set_all}
use Rattle.bmc_places.proofs.rounds.set_at_loop.Goals as goal

pub loop-turn-init : goal.loop-turn-init
loop-turn-init g c =
    let value = g.G.Gates.node_value in
    let belongs = g.G.Gates.belongs in
    let gates = c.args.gates.now in
    let frame = c.args.frame.now in
    let ms = c.args.store.now.matrices.items in
    let w = c.index.result.now in
    let q = c.index-2.result.now in
    let made = c.in_ok-made.made in
    let number = c.found_at-first.result in
    let some : 0 < length frame.windows.items = omega (arith, c.if-count-eq0.false, c.len-count.ensures) in
    let inside : number < length ms = omega (arith, c.if-first-len.false, c.len-2.ensures) in
    let is : made ≡ q = c.in_ok-made.ensures in
    let read : q ≡ get_or ms number q = c.index-2.ensures in
    let here = matrix_belongs (belongs gates) ms number q c.requires.stored.matrices (slice_get_read ms (length ms) number q refl inside read) in
    record {
      keeps = keeps_refl belongs value gates;
      belong = subst (λ (m : MatrixEntries). AllBelong (belongs gates) m.entries) (sym is) here;
      set = set_first (value gates) ms frame c.args.choices.now c.args.row.now w number made q
          (slice_get_read frame.windows.items (length frame.windows.items) 0 w refl some c.index.ensures) c.found_at-first.ensures (is ∙ read);
    }

pub set_or_other-requires-clause-stored : goal.set_or_other-requires-clause-stored
set_or_other-requires-clause-stored g c = store_kept g.G.Gates.belongs g.G.Gates.node_value c.args.gates.now c.loop-turn.gates c.loop-turn.invariant.keeps c.args.store.now c.requires.stored

pub set_or_other-requires-clause-node : goal.set_or_other-requires-clause-node
set_or_other-requires-clause-node g c = c.loop-turn.invariant.keeps.belong c.node-node.result (all_get (g.G.Gates.belongs c.args.gates.now) c.args.choices.now c.loop-turn.turn c.node-node.result c.requires.choices c.node-node.ensures)

pub loop-turn-preserved : goal.loop-turn-preserved
loop-turn-preserved g c =
    let value = g.G.Gates.node_value in
    let belongs = g.G.Gates.belongs in
    let before = c.loop-turn.invariant in
    let first = c.args.gates.now in
    let now = c.loop-turn.gates in
    let later = c.set_or_other.new.gates in
    let frame = c.args.frame.now in
    let w = c.index-window.result.now in
    let turn = c.loop-turn.turn in
    let inside : turn < length frame.windows.items = omega (arith, c.loop-turn-test.true, c.len-count.ensures) in
    record {
      keeps = keeps_trans belongs value first now later before.keeps c.set_or_other.ensures.keeps;
      belong = c.in_ok-next.ensures.belongs;
      set = set_more belongs value first now later before.keeps c.args.store.now.matrices.items c.requires.stored.matrices frame c.args.choices.now c.requires.choices c.args.row.now turn w c.node-node.result c.loop-turn.made c.in_ok-next.next
          (slice_get_read frame.windows.items (length frame.windows.items) turn w refl inside c.index-window.ensures) c.node-node.ensures before.set c.in_ok-next.ensures.here c.in_ok-next.ensures.other;
    }

pub returns-clause-set : goal.returns-clause-set
returns-clause-set g c =
    let value = g.G.Gates.node_value in
    let past : length c.args.choices.now ≤ c.loop-turn.turn = omega (arith, c.loop-turn-test.false, c.if-len-count.false, c.len.ensures) in
    set_all (value c.args.gates.now) (value c.loop-turn.gates) c.args.store.now.matrices.items c.args.frame.now c.args.choices.now c.args.row.now c.loop-turn.turn c.loop-turn.made past c.loop-turn.invariant.set
