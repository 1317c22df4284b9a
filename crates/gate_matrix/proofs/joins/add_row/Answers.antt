use Rattle.std.proofs.Common.{◌≡◌, ◌+◌, ◌-◌, ◌++◌, ◌&&◌, ℕ, Bool, List, length, drop, ap, sym, ◌∙◌, subst, All, length-append, length-drop}
use Rattle.std.proofs.lemmas.List.Elements.{All-push}
use Rattle.core_tuples.specs.Index.{IsNumber, FitsIndex}
use Rattle.core_tuples.specs.Sets.{is_same}
use Rattle.gate_matrix.specs.declared.entry.Entry.{Entry}
use Rattle.gate_matrix.specs.Matrices.{AllBelong, has}
use Rattle.gate_matrix.proofs.BasicLemmas.{keeps_trans, all_here, any_step, any_push, slice_from, has_kept, belong_kept}
use Rattle.gate_matrix.proofs.JoinLaw.{two_values}
use Rattle.gate_matrix.proofs.joins.add_row.Goals as goal

pub loop-entry-preserved : goal.loop-entry-preserved
loop-entry-preserved g c =
    let value = g.G.Gates.node_value in
    let belongs = g.G.Gates.belongs in
    let before = c.loop-entry.invariant in
    let first = c.args.gates.now in
    let now = c.loop-entry.gates in
    let later = c.and.new.self in
    let row = c.args.row.now in
    let i = c.loop-entry.entry-index in
    let e = c.entry-item.result in
    let skip = c.args.skip in
    let head = c.args.head.now in
    let there : belongs first e.node = all_here (λ (f : Entry). belongs first f.node) row i e c.requires.row_belongs c.loop-entry-test.true c.entry-item.is in
    let made : c.new.result ≡ head ++ drop skip e.tuple = c.new.ensures ∙ c.in_ok-tuple.ensures ∙ ap (λ (s : List ℕ). head ++ s) (slice_from skip c.numbers.result.now) ∙ ap (λ (s : List ℕ). head ++ drop skip s) c.numbers.ensures.same in
    let fits : FitsIndex (head ++ drop skip e.tuple) = all_here (λ (f : Entry). FitsIndex (head ++ drop skip f.tuple)) row i e c.requires.fits c.loop-entry-test.true c.entry-item.is in
    let added : Entry = record { tuple = c.new.result; node = c.in_ok-both.both } in
    let old : AllBelong (belongs later) c.loop-entry.all.items = belong_kept belongs value now later c.and.ensures.keeps c.loop-entry.all.items before.belongs in
    record {
      keeps = keeps_trans belongs value first now later before.keeps c.and.ensures.keeps;
      belongs = rw c.in_ok-push.ensures.items (All-push (λ (f : Entry). belongs later f.node) c.loop-entry.all.items added old c.in_ok-both.ensures.ok.there);
      columns = λ k wide long. rw c.in_ok-push.ensures.items (All-push (λ (f : Entry). length f.tuple ≡ k) c.loop-entry.all.items added (before.columns k wide long)
          (ap (λ (t : List ℕ). length t) made ∙ length-append head (drop skip e.tuple) ∙ ap (λ n. length head + n) (length-drop skip e.tuple) ∙ all_here (λ (f : Entry). length head + (length f.tuple - skip) ≡ k) row i e long c.loop-entry-test.true c.entry-item.is));
      numbers = λ small. rw c.in_ok-push.ensures.items (All-push (λ (f : Entry). All IsNumber f.tuple) c.loop-entry.all.items added (before.numbers small) (subst (λ (t : List ℕ). All IsNumber t) (sym made) fits.numbers));
      truth = λ x t. any_step (λ (f : Entry). is_same (head ++ drop skip f.tuple) t && (value first x c.args.node && value first x f.node)) row i e _ _ _ _
          (ap (λ (es : List Entry). has (value later x) es t) c.in_ok-push.ensures.items ∙ any_push (λ (f : Entry). is_same f.tuple t && value later x f.node) c.loop-entry.all.items added)
          (has_kept belongs value now later c.and.ensures.keeps c.loop-entry.all.items before.belongs x t ∙ before.truth x t)
          (ap (λ (s : List ℕ). is_same s t && value later x c.in_ok-both.both) made
          ∙ ap (λ (b : Bool). is_same (head ++ drop skip e.tuple) t && b) (c.in_ok-both.ensures.ok.gives x ∙ two_values (before.keeps.values c.args.node c.requires.node_belongs x) (before.keeps.values e.node there x)))
          c.loop-entry-test.true c.entry-item.is;
    }
