use Rattle.std.proofs.Common.{◌≡◌, ◌∙◌, ◌+◌, ◌-◌, ℕ, Some, length, sym, ap, subst, arith}
use Rattle.std.proofs.lemmas.Option.{slice_get-get_or}
use Rattle.gate_trait.proofs.KeptLemmas.{keeps_trans, keeps_refl}
use Rattle.core_tree.specs.Trees.{term_of}
use Rattle.bmc_places.proofs.StoreLaws.{stays_trans, stays_refl, cut_stays}
use Rattle.bmc_walk.proofs.ArrowLaws.{TuplesTo, fits_silent, arrow_fits, end_silent, end_law, tuples_none, tuples_step, tuples_all, adds_tuple}
use Rattle.bmc_walk.proofs.arrows.+fits.Goals as goal

pub fits_row-returns-then-not-wants-clause-right : goal.fits_row-returns-then-not-wants-clause-right
fits_row-returns-then-not-wants-clause-right g t c =
    let value = g.G.Gates.node_value c.args.gates.now in
    fits_silent c.args.walk.now.ground.now c.args.known.now value value c.args.store.now.matrices.items (term_of c.args.bound.now) c.args.set.now.items c.len-places.result c.in_ok-silent.silent (omega (arith, c.len-places.ensures, c.args.set.now.ok.0)) (c.asks-wants.ensures c.if-not-wants.true) c.in_ok-silent.ensures.values

pub fits_row-returns-in_ok-row-in-Product-clause-stays : goal.fits_row-returns-in_ok-row-in-Product-clause-stays
fits_row-returns-in_ok-row-in-Product-clause-stays g t c = stays_trans c.args.store.now c.end_row.new.store c.end_row-in-Product.new.store c.in_ok-first-in-Product.ensures.stays c.in_ok-second-in-Product.ensures.stays

pub fits_row-returns-in_ok-row-in-Product-clause-right : goal.fits_row-returns-in_ok-row-in-Product-clause-right
fits_row-returns-in_ok-row-in-Product-clause-right g t c =
    let value = g.G.Gates.node_value in
    let belongs = g.G.Gates.belongs in
    let ground = c.args.walk.now.ground.now in
    let known = c.args.known.now in
    let x = term_of c.in-Product.a.value in
    let y = term_of c.in-Product.b.value in
    let first = c.in_ok-first-in-Product.first in
    let second = c.in_ok-second-in-Product.second in
    let set = c.args.set.now.items in
    rw c.in-Product.is (arrow_fits belongs value ground known c.args.gates.now c.end_row.new.gates c.end_row-in-Product.new.gates c.both.new.gates c.args.store.now c.end_row.new.store x y c.in-Product.left c.in-Product.right set first second c.in_ok-row-in-Product.row
    c.end_row.ensures.keeps c.end_row-in-Product.ensures.keeps c.requires.stored c.in_ok-first-in-Product.ensures.stays c.in_ok-first-in-Product.ensures.belongs
    (rw c.deref-in-Product.ensures at (rw c.deref.ensures at c.in_ok-first-in-Product.ensures.right)) (rw c.deref-in-Product-3.ensures at (rw c.deref-in-Product-2.ensures at c.in_ok-second-in-Product.ensures.right)) c.in_ok-row-in-Product.ensures.both)

pub end_row-returns-then-not-wants-clause-right : goal.end_row-returns-then-not-wants-clause-right
end_row-returns-then-not-wants-clause-right g t c =
    let value = g.G.Gates.node_value c.args.gates.now in
    end_silent c.args.walk.now.ground.now c.args.known.now value value c.args.store.now.matrices.items c.args.at_start c.args.word (term_of c.args.end.now) (term_of c.args.other.now) c.args.set.now.items c.len-places.result c.in_ok-silent.silent (omega (arith, c.len-places.ensures, c.args.set.now.ok.0)) (c.asks-wants.ensures c.if-not-wants.true) c.in_ok-silent.ensures.values

pub end_row-returns-clause-stays : goal.end_row-returns-clause-stays
end_row-returns-clause-stays g t c =
    cut_stays c.args.store.now c.part_sets.new.store c.found_in.new.store c.tuples_row.new.store c.cut_to.new.store c.len-matrices.result c.len-integers.result (omega (arith, c.len-matrices.ensures, c.args.store.now.matrices.ok.0)) (omega (arith, c.len-integers.ensures, c.args.store.now.integers.ok.0)) c.in_ok-bound.ensures.extends c.in_ok-found.ensures.stays c.in_ok-row.ensures.stays c.cut_to.ensures.matrices c.cut_to.ensures.integers

pub end_row-returns-clause-right : goal.end_row-returns-clause-right
end_row-returns-clause-right g t c =
    let value = g.G.Gates.node_value in
    let belongs = g.G.Gates.belongs in
    let ground = c.args.walk.now.ground.now in
    let known = c.args.known.now in
    end_law belongs value ground known c.args.gates.now c.part_sets.new.gates c.tuples_row.new.gates c.args.store.now c.part_sets.new.store c.found_in.new.store c.args.at_start c.args.word (term_of c.args.end.now) (term_of c.args.other.now) c.args.set.now.items c.in_ok-bound.bound.items c.in_ok-found.found.tuples.items c.in_ok-found.found.nodes c.in_ok-row.row
    c.part_sets.ensures.keeps c.requires.stored c.in_ok-bound.ensures.extends c.in_ok-found.ensures.stays (omega (arith, c.len-count.ensures, ground.setting.frame.now.shown.ok.0, c.len.ensures, c.in_ok-bound.bound.ok.0, c.if-len-count.false))
    c.in_ok-bound.ensures.right c.in_ok-found.ensures.members c.in_ok-found.ensures.says c.in_ok-row.ensures.right

pub tuples_row-loop-turn-init : goal.tuples_row-loop-turn-init
tuples_row-loop-turn-init g t c =
    let value = g.G.Gates.node_value in
    let belongs = g.G.Gates.belongs in
    let ground = c.args.walk.now.ground.now in
    let known = c.args.known.now in
    let tuples = c.args.found.now.tuples.items in
    record {
      keeps = keeps_refl belongs value c.args.gates.now;
      stored = c.requires.stored;
      stays = stays_refl c.args.store.now;
      belong = c.in_ok-all.ensures.belongs;
      right = tuples_none ground known (value c.args.gates.now) c.args.store.now.matrices.items c.args.at_start c.args.word (term_of c.args.other.now) c.args.set.now.items tuples c.args.found.now.nodes c.in_ok-all.all c.len-count.result (length tuples - 0) (omega (arith, c.len-count.ensures, ground.setting.frame.now.shown.ok.0)) (omega arith) c.in_ok-all.ensures.values;
    }

pub tuples_row-loop-turn-preserved : goal.tuples_row-loop-turn-preserved
tuples_row-loop-turn-preserved g t c =
    let value = g.G.Gates.node_value in
    let belongs = g.G.Gates.belongs in
    let ground = c.args.walk.now.ground.now in
    let known = c.args.known.now in
    let before = c.loop-turn.invariant in
    let first = c.args.gates.now in
    let now = c.loop-turn.gates in
    let later = c.tuple_row.new.gates in
    let a = c.args.store.now in
    let b = c.loop-turn.store in
    let at_start = c.args.at_start in
    let word = c.args.word in
    let other = term_of c.args.other.now in
    let set = c.args.set.now.items in
    let tuples = c.args.found.now.tuples.items in
    let nodes = c.args.found.now.nodes in
    let place = c.len-many.result - 1 - c.loop-turn.turn in
    let is : c.len-many.result ≡ length tuples = omega (arith, c.len-many.ensures, c.args.found.now.tuples.ok.0) in
    let up : length tuples - c.loop-turn.turn ≡ place + 1 = omega (arith, is, c.loop-turn-test.true) in
    let down : place ≡ length tuples - (c.loop-turn.turn + 1) = omega (arith, is) in
    let so_far = subst (λ (n : ℕ). TuplesTo ground known (value first) (value now) a.matrices.items at_start word other set tuples nodes n c.loop-turn.all) up before.right in
    record {
      keeps = keeps_trans belongs value first now later before.keeps c.tuple_row.ensures.keeps;
      stored = c.in_ok-more.ensures.stored;
      stays = stays_trans a b c.tuple_row.new.store before.stays c.in_ok-more.ensures.stays;
      belong = c.in_ok-more.ensures.belongs;
      right = subst (λ (n : ℕ). TuplesTo ground known (value first) (value later) a.matrices.items at_start word other set tuples nodes n c.in_ok-more.more) down
          (tuples_step belongs value ground known first now later a b at_start word other set tuples nodes place c.loop-turn.all c.in_ok-more.more before.keeps c.requires.stored before.stays c.requires.nodes so_far c.in_ok-more.ensures.right);
    }

pub tuples_row-returns-clause-right : goal.tuples_row-returns-clause-right
tuples_row-returns-clause-right g t c =
    let value = g.G.Gates.node_value in
    let tuples = c.args.found.now.tuples.items in
    tuples_all c.args.walk.now.ground.now c.args.known.now (value c.args.gates.now) (value c.loop-turn.gates) c.args.store.now.matrices.items c.args.at_start c.args.word (term_of c.args.other.now) c.args.set.now.items tuples c.args.found.now.nodes (length tuples - c.loop-turn.turn) c.loop-turn.all (omega (arith, c.loop-turn-test.false, c.len-many.ensures, c.args.found.now.tuples.ok.0)) c.loop-turn.invariant.right

pub tuple_row-returns-clause-stays : goal.tuple_row-returns-clause-stays
tuple_row-returns-clause-stays g t c =
    let a = c.args.store.now in
    let b = c.rest_sets.new.store in
    let d = c.word_row.new.store in
    let e = c.fits_row.new.store in
    cut_stays a b d e c.cut_to.new.store c.len-matrices.result c.len-integers.result (omega (arith, c.len-matrices.ensures, a.matrices.ok.0)) (omega (arith, c.len-integers.ensures, a.integers.ok.0)) c.in_ok-rest.ensures.extends c.in_ok-count_row.ensures.stays c.in_ok-fits.ensures.stays c.cut_to.ensures.matrices c.cut_to.ensures.integers

pub tuple_row-returns-clause-right : goal.tuple_row-returns-clause-right
tuple_row-returns-clause-right g t c =
    let value = g.G.Gates.node_value in
    let belongs = g.G.Gates.belongs in
    let ground = c.args.walk.now.ground.now in
    let known = c.args.known.now in
    let s = c.index-tuple.result.now in
    let numbers = c.numbers-numbers.result.now in
    let at = slice_get-get_or c.args.found.now.tuples.items c.args.place s c.requires.place ∙ ap Some (sym c.index-tuple.ensures) in
    let at_numbers = at ∙ ap Some (sym c.numbers-numbers.ensures) in
    adds_tuple belongs value ground known c.args.gates.now c.rest_sets.new.gates c.word_row.new.gates c.fits_row.new.gates c.both.new.gates c.held_where.new.gates c.args.store.now c.rest_sets.new.store c.word_row.new.store c.args.at_start c.args.word (term_of c.args.other.now) c.args.set.now.items c.in_ok-rest.rest.items c.args.found.now.tuples.items c.args.found.now.nodes c.args.place c.in_ok-from.from c.len-count.result numbers c.args.all c.in_ok-count_row.count_row c.in_ok-fits.fits c.in_ok-more.more c.in_ok-row.row
    c.rest_sets.ensures.keeps c.word_row.ensures.keeps c.fits_row.ensures.keeps c.both.ensures.keeps c.requires.stored c.in_ok-rest.ensures.stored c.in_ok-rest.ensures.extends c.in_ok-count_row.ensures.stays c.requires.all c.requires.nodes c.in_ok-count_row.ensures.belongs
    at_numbers (omega (arith, c.len-count.ensures, ground.setting.frame.now.shown.ok.0)) c.in_ok-from.ensures
    c.in_ok-rest.ensures.rests c.in_ok-count_row.ensures.word c.in_ok-fits.ensures.right c.in_ok-more.ensures.both c.in_ok-row.ensures.held
