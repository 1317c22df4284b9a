use Rattle.std.proofs.Common.{arith, ◌≡◌, ◌≤◌, ◌+◌, ◌-◌, ◌++◌, ◌&&◌, eqb, ℕ, List, All, length, drop, take, ap, ◌∙◌, length-take, take_all}
use Rattle.std.specs.List.{list_any}
use Rattle.std.proofs.lemmas.List.Elements.{All-take}
use Rattle.core_tuples.specs.Index.{IsNumber}
use Rattle.core_tuples.specs.Sets.{is_same}
use Rattle.gate_matrix.specs.declared.entry.Entry.{Entry}
use Rattle.gate_matrix.specs.Matrices.{AllBelong, has}
use Rattle.gate_matrix.specs.Joined.{first_of, last_of, front_of, has_join, IsJoined}
use Rattle.gate_matrix.proofs.BasicLemmas.{keeps_trans, all_here, all_as, any_more, belong_kept}
use Rattle.gate_matrix.proofs.JoinLaw.{part_all, glued_fits, glued_columns, entry_fits, join_row, joined_means, gathered_made}
use Rattle.gate_matrix.proofs.MergeLaw.{arity_as}
use Rattle.gate_matrix.proofs.joins.join.Goals as goal

pub add_row-requires-clause-fits : goal.add_row-requires-clause-fits
add_row-requires-clause-fits g c =
    let a = c.args.a.now in
    let b = c.args.b.now in
    let n = c.numbers-numbers.result.now in
    let right = c.entries-right.result.now in
    let row = c.row_of-row.result.now in
    let fits = entry_fits a c.entries-left.result.now c.loop-entry.entry-index c.entry-item.result n c.entries-left.ensures.matrix c.entries-left.ensures.all c.loop-entry-test.true c.entry-item.is c.numbers-numbers.ensures.same in
    glued_fits (take (length n - 1) n) 1 b.arity row (All-take IsNumber (length n - 1) n fits.1)
    (part_all (λ (f : Entry). length f.tuple ≡ b.arity) row right c.row_of-row.ensures.part (all_as (λ (f : Entry). length f.tuple ≡ b.arity) right b.entries c.entries-right.ensures.all c.entries-right.ensures.matrix.columns))
    (part_all (λ (f : Entry). All IsNumber f.tuple) row right c.row_of-row.ensures.part (all_as (λ (f : Entry). All IsNumber f.tuple) right b.entries c.entries-right.ensures.all c.entries-right.ensures.matrix.numbers))
    (omega (arith, length-take (length n - 1) n, fits.0))

pub add_row-requires-clause-row_belongs : goal.add_row-requires-clause-row_belongs
add_row-requires-clause-row_belongs g c =
    let belongs = g.G.Gates.belongs in
    let right = c.entries-right.result.now in
    belong_kept belongs g.G.Gates.node_value c.args.gates.now c.loop-entry.gates c.loop-entry.invariant.keeps c.row_of-row.result.now
    (part_all (λ (f : Entry). belongs c.args.gates.now f.node) c.row_of-row.result.now right c.row_of-row.ensures.part (all_as (λ (f : Entry). belongs c.args.gates.now f.node) right c.args.b.now.entries c.entries-right.ensures.all c.requires.b_belongs))

pub add_row-requires-clause-node_belongs : goal.add_row-requires-clause-node_belongs
add_row-requires-clause-node_belongs g c =
    let belongs = g.G.Gates.belongs in
    let left = c.entries-left.result.now in
    c.loop-entry.invariant.keeps.belong c.entry-item.result.node
    (all_here (λ (f : Entry). belongs c.args.gates.now f.node) left c.loop-entry.entry-index c.entry-item.result (all_as (λ (f : Entry). belongs c.args.gates.now f.node) left c.args.a.now.entries c.entries-left.ensures.all c.requires.a_belongs) c.loop-entry-test.true c.entry-item.is)

pub loop-entry-preserved : goal.loop-entry-preserved
loop-entry-preserved g c =
    let value = g.G.Gates.node_value in
    let belongs = g.G.Gates.belongs in
    let before = c.loop-entry.invariant in
    let first = c.args.gates.now in
    let now = c.loop-entry.gates in
    let later = c.add_row.new.gates in
    let a = c.args.a.now in
    let b = c.args.b.now in
    let n = c.numbers-numbers.result.now in
    let e = c.entry-item.result in
    let i = c.loop-entry.entry-index in
    let left = c.entries-left.result.now in
    let right = c.entries-right.result.now in
    let row = c.row_of-row.result.now in
    let fits = entry_fits a left i e n c.entries-left.ensures.matrix c.entries-left.ensures.all c.loop-entry-test.true c.entry-item.is c.numbers-numbers.ensures.same in
    let least = c.entries-left.ensures.matrix.least in
    let least' = c.entries-right.ensures.matrix.least in
    let there : belongs first e.node = all_here (λ (f : Entry). belongs first f.node) left i e (all_as (λ (f : Entry). belongs first f.node) left a.entries c.entries-left.ensures.all c.requires.a_belongs) c.loop-entry-test.true c.entry-item.is in
    let rights : AllBelong (belongs first) right = all_as (λ (f : Entry). belongs first f.node) right b.entries c.entries-right.ensures.all c.requires.b_belongs in
    record {
      keeps = keeps_trans belongs value first now later before.keeps c.add_row.ensures.keeps;
      belongs = c.in_ok-add_row.ensures.belongs;
      columns = c.in_ok-add_row.ensures.columns (a.arity + b.arity - 2) before.columns
          (glued_columns (take (length n - 1) n) 1 b.arity (a.arity + b.arity - 2) row
          (part_all (λ (f : Entry). length f.tuple ≡ b.arity) row right c.row_of-row.ensures.part (all_as (λ (f : Entry). length f.tuple ≡ b.arity) right b.entries c.entries-right.ensures.all c.entries-right.ensures.matrix.columns))
          (omega (arith, length-take (length n - 1) n, fits.0)));
      numbers = c.in_ok-add_row.ensures.numbers before.numbers;
      truth = λ x t. any_more (λ (d : Entry). list_any (λ (f : Entry). eqb (first_of f) (last_of d.tuple) && (is_same (front_of d.tuple ++ drop 1 f.tuple) t && (value first x d.node && value first x f.node))) right) left i e _ _ _
          (c.in_ok-add_row.ensures.truth x t) (before.truth x t)
          (join_row belongs value first now before.keeps n e row right c.row_of-row.ensures.part c.row_of-row.ensures.tests c.numbers-numbers.ensures.same there rights x t)
          c.loop-entry-test.true c.entry-item.is;
    }

pub returns-clause-arity : goal.returns-clause-arity
returns-clause-arity g c = arity_as c.gathered.result (c.arity.result + c.arity-2.result - 2) (c.args.a.now.arity + c.args.b.now.arity - 2)
    (ap (λ (m : ℕ). m + c.arity-2.result - 2) c.arity.ensures.columns ∙ ap (λ (m : ℕ). c.args.a.now.arity + m - 2) c.arity-2.ensures.columns) c.gathered.ensures.arity

pub returns-clause-truth : goal.returns-clause-truth
returns-clause-truth g c =
    let value = g.G.Gates.node_value in
    let first = c.args.gates.now in
    let now = c.loop-entry.gates in
    let a = c.args.a.now in
    let b = c.args.b.now in
    let left = c.entries-left.result.now in
    let right = c.entries-right.result.now in
    let over : length left ≤ c.loop-entry.entry-index = omega arith in
    gathered_made c.gathered.result (value c.gathered.new.gates) (λ x t. has (value now x) c.loop-entry.all.items t) (λ x t. has_join (value first x) a.entries b.entries t) (λ x t. IsJoined (value first x) a b t)
    c.gathered.ensures.truth
    (λ x t. c.loop-entry.invariant.truth x t
    ∙ ap (λ (es : List Entry). has_join (value first x) es right t) (take_all c.loop-entry.entry-index left over ∙ c.entries-left.ensures.all)
    ∙ ap (λ (es : List Entry). has_join (value first x) a.entries es t) c.entries-right.ensures.all)
    (λ x t. joined_means (value first x) a b t c.entries-left.ensures.matrix c.entries-right.ensures.matrix)
