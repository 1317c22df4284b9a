use Rattle.std.proofs.Common.{◌≡◌, ◌≤◌, ◌&&◌, ◌∷◌, [], ℕ, List, All, length, get_or, ap, sym, subst, ◌∙◌, arith, take_all}
use Rattle.std.specs.List.{list_any}
use Rattle.std.proofs.lemmas.List.Elements.{All-push, All-cons, All-nil}
use Rattle.core_tuples.specs.Index.{IsNumber}
use Rattle.core_tuples.specs.Sets.{is_same}
use Rattle.gate_matrix.specs.declared.entry.Entry.{Entry}
use Rattle.gate_matrix.specs.Matrices.{has}
use Rattle.gate_matrix.proofs.BasicLemmas.{all_here, all_as, any_more, any_push}
use Rattle.gate_closure.specs.Filters.{IsFirst}
use Rattle.gate_closure.proofs.FilterLaw.{filtered_made, means_made, first_means}
use Rattle.gate_closure.proofs.filters.firsts.Goals as goal

pub loop-entry-preserved : goal.loop-entry-preserved
loop-entry-preserved g c =
    let value = g.G.Gates.node_value in
    let belongs = g.G.Gates.belongs in
    let before = c.loop-entry.invariant in
    let first = c.args.gates.now in
    let a = c.args.a.now in
    let es = c.entries-entries.result.now in
    let e = c.entry-item.result in
    let i = c.loop-entry.entry-index in
    let matrix = c.entries-entries.ensures.matrix in
    let n = c.numbers.result.now in
    let old = c.loop-entry.all.items in
    let there : belongs first e.node = all_here (λ (f : Entry). belongs first f.node) es i e (all_as (λ (f : Entry). belongs first f.node) es a.entries c.entries-entries.ensures.all c.requires) c.loop-entry-test.true c.entry-item.is in
    let wide : length e.tuple ≡ a.arity = all_here (λ (f : Entry). length f.tuple ≡ a.arity) es i e (all_as (λ (f : Entry). length f.tuple ≡ a.arity) es a.entries c.entries-entries.ensures.all matrix.columns) c.loop-entry-test.true c.entry-item.is in
    let small : All IsNumber e.tuple = all_here (λ (f : Entry). All IsNumber f.tuple) es i e (all_as (λ (f : Entry). All IsNumber f.tuple) es a.entries c.entries-entries.ensures.all matrix.numbers) c.loop-entry-test.true c.entry-item.is in
    let tuple : c.new.result ≡ get_or e.tuple 0 0 ∷ [] = c.new.ensures ∙ c.in_ok-tuple.ensures ∙ ap (λ (t : List ℕ). get_or t 0 0 ∷ []) c.numbers.ensures.same in
    let added : Entry = record { tuple = c.new.result; node = e.node } in
    record {
      belongs = rw c.in_ok-push.ensures.items (All-push (λ (f : Entry). belongs first f.node) old added before.belongs there);
      columns = rw c.in_ok-push.ensures.items (All-push (λ (f : Entry). length f.tuple ≡ 1) old added before.columns (ap (λ (t : List ℕ). length t) tuple));
      numbers = rw c.in_ok-push.ensures.items (All-push (λ (f : Entry). All IsNumber f.tuple) old added before.numbers (subst (λ (t : List ℕ). All IsNumber t) (sym tuple) (All-cons IsNumber (get_or e.tuple 0 0) [] (small 0 0 (omega (arith, matrix.least))) (All-nil IsNumber))));
      truth = λ x t. any_more (λ (d : Entry). is_same (get_or d.tuple 0 0 ∷ []) t && value first x d.node) es i e _ _ _
          (ap (λ (fs : List Entry). has (value first x) fs t) c.in_ok-push.ensures.items ∙ any_push (λ (f : Entry). is_same f.tuple t && value first x f.node) old added)
          (before.truth x t)
          (ap (λ (s : List ℕ). is_same s t && value first x e.node) tuple)
          c.loop-entry-test.true c.entry-item.is;
    }

pub returns-clause-truth : goal.returns-clause-truth
returns-clause-truth g c =
    let value = g.G.Gates.node_value in
    let first = c.args.gates.now in
    let a = c.args.a.now in
    let es = c.entries-entries.result.now in
    let over : length es ≤ c.loop-entry.entry-index = omega arith in
    means_made c.gathered.result (value c.gathered.new.gates) (λ x t. list_any (λ (d : Entry). is_same (get_or d.tuple 0 0 ∷ []) t && value first x d.node) a.entries) (λ x t. IsFirst (value first x) a t)
    (filtered_made c.gathered.result (value c.gathered.new.gates) (λ x t. has (value first x) c.loop-entry.all.items t) (λ x t. list_any (λ (d : Entry). is_same (get_or d.tuple 0 0 ∷ []) t && value first x d.node) a.entries) c.gathered.ensures.truth
    (λ x t. c.loop-entry.invariant.truth x t ∙ ap (λ (fs : List Entry). list_any (λ (d : Entry). is_same (get_or d.tuple 0 0 ∷ []) t && value first x d.node) fs) (take_all c.loop-entry.entry-index es over ∙ c.entries-entries.ensures.all)))
    (λ x t. first_means (value first x) a t c.entries-entries.ensures.matrix)
