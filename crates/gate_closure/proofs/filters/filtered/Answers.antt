use Rattle.std.proofs.Common.{◌≡◌, ◌≤◌, ◌&&◌, ◌∷◌, [], ℕ, List, Option, All, length, ap, sym, ◌∙◌, arith, take_all}
use Rattle.std.specs.List.{list_any}
use Rattle.core_tuples.specs.Index.{IsNumber}
use Rattle.core_tuples.specs.Sets.{is_same}
use Rattle.gate_matrix.specs.declared.entry.Entry.{Entry}
use Rattle.gate_matrix.specs.Matrices.{has, truth, truth_of}
use Rattle.gate_matrix.proofs.BasicLemmas.{keeps_trans, all_here, all_as, any_more, has_kept, belong_kept, found_belongs}
use Rattle.gate_matrix.proofs.FoundLemmas.{truth_kept, has_truth}
use Rattle.gate_matrix.proofs.AddedLemmas.{has_more, belong_more, tuples_more}
use Rattle.gate_closure.specs.Filters.{atom_at, counts}
use Rattle.gate_closure.proofs.FilterLaw.{filtered_made, shared_truth}
use Rattle.gate_closure.proofs.FilterLaw.{arity_made}
use Rattle.gate_closure.proofs.filters.filtered.Goals as goal

pub asked-requires-clause-other_belongs : goal.asked-requires-clause-other_belongs
asked-requires-clause-other_belongs g c = λ n is.
    c.loop-entry.invariant.keeps.belong n (found_belongs (g.G.Gates.belongs c.args.gates.now) c.args.s.now.entries c.in_ok-atom.atom n c.requires.s_belongs (sym c.node.ensures ∙ is))

pub asked-requires-clause-node_belongs : goal.asked-requires-clause-node_belongs
asked-requires-clause-node_belongs g c =
    let belongs = g.G.Gates.belongs in
    let es = c.entries-entries.result.now in
    c.loop-entry.invariant.keeps.belong c.entry-item.result.node
    (all_here (λ (f : Entry). belongs c.args.gates.now f.node) es c.loop-entry.entry-index c.entry-item.result (all_as (λ (f : Entry). belongs c.args.gates.now f.node) es c.args.a.now.entries c.entries-entries.ensures.all c.requires.a_belongs) c.loop-entry-test.true c.entry-item.is)

pub loop-entry-preserved : goal.loop-entry-preserved
loop-entry-preserved g c =
    let value = g.G.Gates.node_value in
    let belongs = g.G.Gates.belongs in
    let before = c.loop-entry.invariant in
    let first = c.args.gates.now in
    let now = c.loop-entry.gates in
    let later = c.asked.new.gates in
    let a = c.args.a.now in
    let s = c.args.s.now in
    let es = c.entries-entries.result.now in
    let e = c.entry-item.result in
    let i = c.loop-entry.entry-index in
    let matrix = c.entries-entries.ensures.matrix in
    let o = c.in_ok-node.node in
    let old = c.loop-entry.all.items in
    let there : belongs first e.node = all_here (λ (f : Entry). belongs first f.node) es i e (all_as (λ (f : Entry). belongs first f.node) es a.entries c.entries-entries.ensures.all c.requires.a_belongs) c.loop-entry-test.true c.entry-item.is in
    let wide : length e.tuple ≡ a.arity = all_here (λ (f : Entry). length f.tuple ≡ a.arity) es i e (all_as (λ (f : Entry). length f.tuple ≡ a.arity) es a.entries c.entries-entries.ensures.all matrix.columns) c.loop-entry-test.true c.entry-item.is in
    let small : All IsNumber e.tuple = all_here (λ (f : Entry). All IsNumber f.tuple) es i e (all_as (λ (f : Entry). All IsNumber f.tuple) es a.entries c.entries-entries.ensures.all matrix.numbers) c.loop-entry-test.true c.entry-item.is in
    let atom : c.in_ok-atom.atom ≡ atom_at c.args.side e.tuple ∷ [] = c.in_ok-atom.ensures ∙ ap (λ (n : ℕ). n ∷ []) (c.number_at.ensures ∙ ap (λ (t : List ℕ). atom_at c.args.side t) c.numbers.ensures.same) in
    record {
      keeps = keeps_trans belongs value first now later before.keeps c.asked.ensures.keeps;
      belongs = rw c.in_ok-add_some.ensures (belong_more (belongs later) o old e.tuple (belong_kept belongs value now later c.asked.ensures.keeps old before.belongs) c.in_ok-node.ensures.ok.there);
      columns = rw c.in_ok-add_some.ensures (tuples_more (λ t. length t ≡ a.arity) o old e.tuple before.columns wide);
      numbers = rw c.in_ok-add_some.ensures (tuples_more (λ t. All IsNumber t) o old e.tuple before.numbers small);
      truth = λ x t. any_more (λ (d : Entry). is_same d.tuple t && (value first x d.node && counts c.args.kept (truth (value first x) s (atom_at c.args.side d.tuple ∷ [])))) es i e _ _ _
          (ap (λ (fs : List Entry). has (value later x) fs t) c.in_ok-add_some.ensures ∙ has_more (value later x) o old e.tuple t)
          (has_kept belongs value now later c.asked.ensures.keeps old before.belongs x t ∙ before.truth x t)
          (ap (λ z. is_same e.tuple t && z) (c.in_ok-node.ensures.ok.gives x
          ∙ ap (λ z. z && counts c.args.kept (truth_of (value now x) c.node.result)) (before.keeps.values e.node there x)
          ∙ ap (λ z. value first x e.node && counts c.args.kept z) (ap (λ (n : Option _). truth_of (value now x) n) c.node.ensures ∙ truth_kept belongs value first now before.keeps s c.requires.s_belongs x c.in_ok-atom.atom ∙ ap (λ (u : List ℕ). truth (value first x) s u) atom)))
          c.loop-entry-test.true c.entry-item.is;
    }

pub returns-clause-truth : goal.returns-clause-truth
returns-clause-truth g c =
    let value = g.G.Gates.node_value in
    let first = c.args.gates.now in
    let a = c.args.a.now in
    let s = c.args.s.now in
    let es = c.entries-entries.result.now in
    let over : length es ≤ c.loop-entry.entry-index = omega arith in
    filtered_made c.gathered.result (value c.gathered.new.gates) (λ x t. has (value c.loop-entry.gates x) c.loop-entry.all.items t) (λ x t. truth (value first x) a t && counts c.args.kept (truth (value first x) s (atom_at c.args.side t ∷ []))) c.gathered.ensures.truth
    (λ x t. c.loop-entry.invariant.truth x t
    ∙ ap (λ (fs : List Entry). list_any (λ (d : Entry). is_same d.tuple t && (value first x d.node && counts c.args.kept (truth (value first x) s (atom_at c.args.side d.tuple ∷ [])))) fs) (take_all c.loop-entry.entry-index es over ∙ c.entries-entries.ensures.all)
    ∙ shared_truth (λ u. counts c.args.kept (truth (value first x) s (atom_at c.args.side u ∷ []))) (value first x) a.entries t
    ∙ ap (λ z. z && counts c.args.kept (truth (value first x) s (atom_at c.args.side t ∷ []))) (has_truth (value first x) a.entries t c.entries-entries.ensures.matrix.sorted))

pub returns-clause-arity : goal.returns-clause-arity
returns-clause-arity g c = arity_made c.gathered.result c.arity.result c.args.a.now.arity c.arity.ensures.columns c.gathered.ensures.arity
