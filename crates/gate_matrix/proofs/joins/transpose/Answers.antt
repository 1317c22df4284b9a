use Rattle.std.proofs.Common.{arith, ◌≡◌, ◌≤◌, ◌∷◌, [], ◌&&◌, ℕ, List, All, length, get_or, ap, sym, subst, ◌∙◌, take_all}
use Rattle.std.proofs.lemmas.List.Elements.{All-push}
use Rattle.core_tuples.specs.Index.{IsNumber}
use Rattle.core_tuples.specs.Sets.{is_same}
use Rattle.gate_matrix.specs.declared.entry.Entry.{Entry}
use Rattle.gate_matrix.specs.Matrices.{has}
use Rattle.gate_matrix.specs.Joined.{has_turned, IsTurned}
use Rattle.gate_matrix.proofs.BasicLemmas.{all_here, all_as, any_more, any_push}
use Rattle.gate_matrix.proofs.JoinLaw.{entry_fits, turned_means, gathered_made}
use Rattle.std.proofs.lemmas.List.Elements.{All-cons, All-nil}
use Rattle.gate_matrix.proofs.joins.transpose.Goals as goal

pub loop-entry-preserved : goal.loop-entry-preserved
loop-entry-preserved g c =
    let value = g.G.Gates.node_value in
    let belongs = g.G.Gates.belongs in
    let before = c.loop-entry.invariant in
    let first = c.args.gates.now in
    let a = c.args.a.now in
    let n = c.numbers-numbers.result.now in
    let e = c.entry-item.result in
    let i = c.loop-entry.entry-index in
    let pairs = c.entries-pairs.result.now in
    let fits = entry_fits a pairs i e n c.entries-pairs.ensures.matrix c.entries-pairs.ensures.all c.loop-entry-test.true c.entry-item.is c.numbers-numbers.ensures.same in
    let there : belongs first e.node = all_here (λ (f : Entry). belongs first f.node) pairs i e (all_as (λ (f : Entry). belongs first f.node) pairs a.entries c.entries-pairs.ensures.all c.requires.a_belongs) c.loop-entry-test.true c.entry-item.is in
    let turned : c.in_ok-tuple.tuple ≡ get_or n 1 0 ∷ get_or n 0 0 ∷ [] = c.in_ok-tuple.ensures in
    let added : Entry = record { tuple = c.in_ok-tuple.tuple; node = e.node } in
    let two : length n ≡ 2 = fits.0 ∙ c.requires.columns in
    let small : All IsNumber (get_or n 1 0 ∷ get_or n 0 0 ∷ []) = All-cons IsNumber (get_or n 1 0) (get_or n 0 0 ∷ []) (fits.1 1 0 (omega arith)) (All-cons IsNumber (get_or n 0 0) [] (fits.1 0 0 (omega arith)) (All-nil IsNumber)) in
    record {
      belongs = rw c.in_ok-push.ensures.items (All-push (λ (f : Entry). belongs first f.node) c.loop-entry.all.items added before.belongs there);
      columns = rw c.in_ok-push.ensures.items (All-push (λ (f : Entry). length f.tuple ≡ 2) c.loop-entry.all.items added before.columns (ap (λ (s : List ℕ). length s) turned));
      numbers = rw c.in_ok-push.ensures.items (All-push (λ (f : Entry). All IsNumber f.tuple) c.loop-entry.all.items added before.numbers (subst (λ (s : List ℕ). All IsNumber s) (sym turned) small));
      truth = λ x t. any_more (λ (d : Entry). is_same (get_or d.tuple 1 0 ∷ get_or d.tuple 0 0 ∷ []) t && value first x d.node) pairs i e _ _ _
          (ap (λ (es : List Entry). has (value first x) es t) c.in_ok-push.ensures.items ∙ any_push (λ (f : Entry). is_same f.tuple t && value first x f.node) c.loop-entry.all.items added)
          (before.truth x t)
          (ap (λ (s : List ℕ). is_same s t && value first x e.node) (turned ∙ ap (λ (s : List ℕ). get_or s 1 0 ∷ get_or s 0 0 ∷ []) c.numbers-numbers.ensures.same))
          c.loop-entry-test.true c.entry-item.is;
    }

pub returns-clause-truth : goal.returns-clause-truth
returns-clause-truth g c =
    let value = g.G.Gates.node_value in
    let first = c.args.gates.now in
    let a = c.args.a.now in
    let pairs = c.entries-pairs.result.now in
    let over : length pairs ≤ c.loop-entry.entry-index = omega arith in
    gathered_made c.gathered.result (value c.gathered.new.gates) (λ x t. has (value first x) c.loop-entry.all.items t) (λ x t. has_turned (value first x) a.entries t) (λ x t. IsTurned (value first x) a t)
    c.gathered.ensures.truth
    (λ x t. c.loop-entry.invariant.truth x t ∙ ap (λ (es : List Entry). has_turned (value first x) es t) (take_all c.loop-entry.entry-index pairs over ∙ c.entries-pairs.ensures.all))
    (λ x t. turned_means (value first x) a t c.entries-pairs.ensures.matrix c.requires.columns)
