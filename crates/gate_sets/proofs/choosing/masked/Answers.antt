use Rattle.std.proofs.Common.{◌≡◌, ◌≤◌, ◌&&◌, ℕ, Bool, List, All, length, ap, sym, ◌∙◌, arith, take_all, subst}
use Rattle.std.proofs.lemmas.List.Elements.{All-push}
use Rattle.core_tuples.specs.Index.{IsNumber}
use Rattle.core_tuples.specs.Sets.{is_same}
use Rattle.gate_matrix.specs.declared.entry.Entry.{Entry}
use Rattle.gate_matrix.specs.Matrices.{AllBelong, has}
use Rattle.gate_matrix.proofs.BasicLemmas.{keeps_trans, all_here, all_as, any_push, has_kept, belong_kept}
use Rattle.gate_matrix.proofs.FoundLemmas.{has_truth}
use Rattle.gate_sets.proofs.Masks.{mask_more, and_swap, and_both}
use Rattle.gate_sets.proofs.choosing.masked.Goals as goal

pub loop-entry-preserved : goal.loop-entry-preserved
loop-entry-preserved g c =
    let value = g.G.Gates.node_value in
    let belongs = g.G.Gates.belongs in
    let before = c.loop-entry.invariant in
    let first = c.args.gates.now in
    let now = c.loop-entry.gates in
    let later = c.and.new.self in
    let a = c.args.matrix.now in
    let es = c.entries-entries.result.now in
    let e = c.entry-item.result in
    let i = c.loop-entry.entry-index in
    let n = c.args.node in
    let matrix = c.entries-entries.ensures.matrix in
    let there : belongs first e.node = all_here (λ (f : Entry). belongs first f.node) es i e (all_as (λ (f : Entry). belongs first f.node) es a.entries c.entries-entries.ensures.all c.requires.matrix) c.loop-entry-test.true c.entry-item.is in
    let wide : length e.tuple ≡ a.arity = all_here (λ (f : Entry). length f.tuple ≡ a.arity) es i e (all_as (λ (f : Entry). length f.tuple ≡ a.arity) es a.entries c.entries-entries.ensures.all matrix.columns) c.loop-entry-test.true c.entry-item.is in
    let small : All IsNumber e.tuple = all_here (λ (f : Entry). All IsNumber f.tuple) es i e (all_as (λ (f : Entry). All IsNumber f.tuple) es a.entries c.entries-entries.ensures.all matrix.numbers) c.loop-entry-test.true c.entry-item.is in
    let made : c.in_ok-tuple.tuple ≡ e.tuple = c.in_ok-tuple.ensures in
    let added : Entry = record { tuple = c.in_ok-tuple.tuple; node = c.in_ok-both.both } in
    let old : AllBelong (belongs later) c.loop-entry.all.items = belong_kept belongs value now later c.and.ensures.keeps c.loop-entry.all.items before.belong in
    record {
      keeps = keeps_trans belongs value first now later before.keeps c.and.ensures.keeps;
      belong = rw c.in_ok-push.ensures.items (All-push (λ (f : Entry). belongs later f.node) c.loop-entry.all.items added old c.in_ok-both.ensures.ok.there);
      columns = rw c.in_ok-push.ensures.items (All-push (λ (f : Entry). length f.tuple ≡ a.arity) c.loop-entry.all.items added before.columns (ap (λ (t : List ℕ). length t) made ∙ wide));
      numbers = rw c.in_ok-push.ensures.items (All-push (λ (f : Entry). All IsNumber f.tuple) c.loop-entry.all.items added before.numbers (subst (λ (t : List ℕ). All IsNumber t) (sym made) small));
      truth = λ x t. mask_more (λ (f : Entry). is_same f.tuple t && value first x f.node) es i e (value first x n) _ _ _
          (ap (λ (fs : List Entry). has (value later x) fs t) c.in_ok-push.ensures.items ∙ any_push (λ (f : Entry). is_same f.tuple t && value later x f.node) c.loop-entry.all.items added)
          (has_kept belongs value now later c.and.ensures.keeps c.loop-entry.all.items before.belong x t ∙ before.truth x t)
          (ap (λ (s : List ℕ). is_same s t && value later x c.in_ok-both.both) made
          ∙ ap (λ (b : Bool). is_same e.tuple t && b) (c.in_ok-both.ensures.ok.gives x ∙ and_both (before.keeps.values n c.requires.node x) (before.keeps.values e.node there x))
          ∙ and_swap (is_same e.tuple t) (value first x n) (value first x e.node))
          c.loop-entry-test.true c.entry-item.is;
    }

pub returns-clause-truth : goal.returns-clause-truth
returns-clause-truth g c =
    let value = g.G.Gates.node_value in
    let first = c.args.gates.now in
    let a = c.args.matrix.now in
    let es = c.entries-entries.result.now in
    let over : length es ≤ c.loop-entry.entry-index = omega arith in
    λ x t. c.in_ok-made.ensures.truth x t ∙ c.loop-entry.invariant.truth x t
    ∙ ap (λ (fs : List Entry). value first x c.args.node && has (value first x) fs t) (take_all c.loop-entry.entry-index es over ∙ c.entries-entries.ensures.all)
    ∙ ap (λ (b : Bool). value first x c.args.node && b) (has_truth (value first x) a.entries t c.entries-entries.ensures.matrix.sorted)
