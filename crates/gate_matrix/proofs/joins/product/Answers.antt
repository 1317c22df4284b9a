use Rattle.std.proofs.Common.{arith, ◌≡◌, ◌≤◌, ◌+◌, ◌++◌, ◌&&◌, ℕ, List, All, length, ap, ◌∙◌, take_all}
use Rattle.std.specs.List.{list_any}
use Rattle.core_tuples.specs.Index.{IsNumber}
use Rattle.core_tuples.specs.Sets.{is_same}
use Rattle.gate_matrix.specs.declared.entry.Entry.{Entry}
use Rattle.gate_matrix.specs.Matrices.{AllBelong, has}
use Rattle.gate_matrix.specs.Joined.{has_pair, IsPaired}
use Rattle.gate_matrix.proofs.BasicLemmas.{keeps_trans, all_here, all_as, any_more, belong_kept}
use Rattle.gate_matrix.proofs.JoinLaw.{glued_fits, glued_columns, entry_fits, pair_row, paired_means, gathered_made}
use Rattle.gate_matrix.proofs.MergeLaw.{arity_as}
use Rattle.gate_matrix.proofs.joins.product.Goals as goal

pub add_row-requires-clause-row_belongs : goal.add_row-requires-clause-row_belongs
add_row-requires-clause-row_belongs g c =
    let belongs = g.G.Gates.belongs in
    let right = c.entries-right.result.now in
    belong_kept belongs g.G.Gates.node_value c.args.gates.now c.loop-entry.gates c.loop-entry.invariant.keeps right
    (all_as (λ (f : Entry). belongs c.args.gates.now f.node) right c.args.b.now.entries c.entries-right.ensures.all c.requires.b_belongs)

pub add_row-requires-clause-node_belongs : goal.add_row-requires-clause-node_belongs
add_row-requires-clause-node_belongs g c =
    let belongs = g.G.Gates.belongs in
    let left = c.entries-left.result.now in
    c.loop-entry.invariant.keeps.belong c.entry-item.result.node
    (all_here (λ (f : Entry). belongs c.args.gates.now f.node) left c.loop-entry.entry-index c.entry-item.result (all_as (λ (f : Entry). belongs c.args.gates.now f.node) left c.args.a.now.entries c.entries-left.ensures.all c.requires.a_belongs) c.loop-entry-test.true c.entry-item.is)

pub add_row-requires-clause-fits : goal.add_row-requires-clause-fits
add_row-requires-clause-fits g c =
    let a = c.args.a.now in
    let b = c.args.b.now in
    let n = c.numbers.result.now in
    let right = c.entries-right.result.now in
    let fits = entry_fits a c.entries-left.result.now c.loop-entry.entry-index c.entry-item.result n c.entries-left.ensures.matrix c.entries-left.ensures.all c.loop-entry-test.true c.entry-item.is c.numbers.ensures.same in
    glued_fits n 0 b.arity right fits.1
    (all_as (λ (f : Entry). length f.tuple ≡ b.arity) right b.entries c.entries-right.ensures.all c.entries-right.ensures.matrix.columns)
    (all_as (λ (f : Entry). All IsNumber f.tuple) right b.entries c.entries-right.ensures.all c.entries-right.ensures.matrix.numbers)
    (omega (arith, fits.0))

pub loop-entry-preserved : goal.loop-entry-preserved
loop-entry-preserved g c =
    let value = g.G.Gates.node_value in
    let belongs = g.G.Gates.belongs in
    let before = c.loop-entry.invariant in
    let first = c.args.gates.now in
    let now = c.loop-entry.gates in
    let later = c.add_row.new.gates in
    let a = c.args.a.now in
    let b = c.args.b.now in
    let n = c.numbers.result.now in
    let e = c.entry-item.result in
    let i = c.loop-entry.entry-index in
    let left = c.entries-left.result.now in
    let right = c.entries-right.result.now in
    let fits = entry_fits a left i e n c.entries-left.ensures.matrix c.entries-left.ensures.all c.loop-entry-test.true c.entry-item.is c.numbers.ensures.same in
    let there : belongs first e.node = all_here (λ (f : Entry). belongs first f.node) left i e (all_as (λ (f : Entry). belongs first f.node) left a.entries c.entries-left.ensures.all c.requires.a_belongs) c.loop-entry-test.true c.entry-item.is in
    let rights : AllBelong (belongs first) right = all_as (λ (f : Entry). belongs first f.node) right b.entries c.entries-right.ensures.all c.requires.b_belongs in
    record {
      keeps = keeps_trans belongs value first now later before.keeps c.add_row.ensures.keeps;
      belongs = c.in_ok-add_row.ensures.belongs;
      columns = c.in_ok-add_row.ensures.columns (a.arity + b.arity) before.columns
          (glued_columns n 0 b.arity (a.arity + b.arity) right (all_as (λ (f : Entry). length f.tuple ≡ b.arity) right b.entries c.entries-right.ensures.all c.entries-right.ensures.matrix.columns) (omega (arith, fits.0)));
      numbers = c.in_ok-add_row.ensures.numbers before.numbers;
      truth = λ x t. any_more (λ (d : Entry). list_any (λ (f : Entry). is_same (d.tuple ++ f.tuple) t && (value first x d.node && value first x f.node)) right) left i e _ _ _
          (c.in_ok-add_row.ensures.truth x t) (before.truth x t)
          (pair_row belongs value first now before.keeps n e right c.numbers.ensures.same there rights x t)
          c.loop-entry-test.true c.entry-item.is;
    }

pub returns-clause-arity : goal.returns-clause-arity
returns-clause-arity g c = arity_as c.gathered.result (c.arity.result + c.arity-2.result) (c.args.a.now.arity + c.args.b.now.arity)
    (ap (λ (m : ℕ). m + c.arity-2.result) c.arity.ensures.columns ∙ ap (λ (m : ℕ). c.args.a.now.arity + m) c.arity-2.ensures.columns) c.gathered.ensures.arity

pub returns-clause-truth : goal.returns-clause-truth
returns-clause-truth g c =
    let value = g.G.Gates.node_value in
    let first = c.args.gates.now in
    let now = c.loop-entry.gates in
    let a = c.args.a.now in
    let b = c.args.b.now in
    let left = c.entries-left.result.now in
    let right = c.entries-right.result.now in
    let over : length left ≤ c.loop-entry.entry-index = omega arith in
    gathered_made c.gathered.result (value c.gathered.new.gates) (λ x t. has (value now x) c.loop-entry.all.items t) (λ x t. has_pair (value first x) a.entries b.entries t) (λ x t. IsPaired (value first x) a b t)
    c.gathered.ensures.truth
    (λ x t. c.loop-entry.invariant.truth x t
    ∙ ap (λ (es : List Entry). has_pair (value first x) es right t) (take_all c.loop-entry.entry-index left over ∙ c.entries-left.ensures.all)
    ∙ ap (λ (es : List Entry). has_pair (value first x) a.entries es t) c.entries-right.ensures.all)
    (λ x t. paired_means (value first x) a b t c.entries-left.ensures.matrix c.entries-right.ensures.matrix)
