use Rattle.std.proofs.Common.{rules, ◌≡◌, ◌&&◌, List, All, length, sym, ap, ◌∙◌}
use Rattle.std.proofs.lemmas.List.Sorted.{All-permutation, IsNonDecreasingBy-from_sort_by_key, list_any-IsPermutation}
use Rattle.core_tuples.specs.Index.{IsNumber, index_of}
use Rattle.core_tuples.specs.Sets.{is_same}
use Rattle.gate_matrix.specs.declared.entry.Entry.{Entry}
use Rattle.gate_matrix.specs.Matrices.{has}
use Rattle.gate_matrix.proofs.GatherLaw.{truth_as}
use Rattle.gate_matrix.proofs.gather.gathered.Goals as goal

pub collapsed-requires-clause-columns : goal.collapsed-requires-clause-columns
collapsed-requires-clause-columns g c = rw c.deref.ensures.value (All-permutation (λ (e : Entry). length e.tuple ≡ c.args.arity) _ _ c.in_ok-sort_by_key.ensures.permutation c.requires.columns)

pub collapsed-requires-clause-numbers : goal.collapsed-requires-clause-numbers
collapsed-requires-clause-numbers g c = rw c.deref.ensures.value (All-permutation (λ (e : Entry). All IsNumber e.tuple) _ _ c.in_ok-sort_by_key.ensures.permutation c.requires.numbers)

pub collapsed-requires-clause-belongs : goal.collapsed-requires-clause-belongs
collapsed-requires-clause-belongs g c = rw c.deref.ensures.value (All-permutation (λ (e : Entry). g.G.Gates.belongs c.args.gates.now e.node) _ _ c.in_ok-sort_by_key.ensures.permutation c.requires.belongs)

pub collapsed-requires-clause-order : goal.collapsed-requires-clause-order
collapsed-requires-clause-order g c = rw c.deref.ensures.value (IsNonDecreasingBy-from_sort_by_key (λ (e : Entry). index_of e.tuple) _ c.in_ok-sort_by_key.ensures.sorted (λ a r q k. search rules))

pub returns-clause-truth : goal.returns-clause-truth
returns-clause-truth g c =
    let value = g.G.Gates.node_value in
    let first = c.args.gates.now in
    truth_as c.collapsed.result (value c.collapsed.new.gates) (λ x t. has (value first x) c.deref.result.now t) (λ x t. has (value first x) c.args.entries.items t) c.collapsed.ensures.truth
    (λ x t. ap (λ (es : List Entry). has (value first x) es t) c.deref.ensures.value ∙ sym (list_any-IsPermutation (λ (e : Entry). is_same e.tuple t && value first x e.node) c.args.entries.items c.sort_by_key.new.self.items c.in_ok-sort_by_key.ensures.permutation))
