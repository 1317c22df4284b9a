use Rattle.std.proofs.Common.{◌≡◌, ◌≤◌, ◌+◌, ◌-◌, ℕ, All, length, refl, subst, arith}
use Rattle.gate_trait.specs.NodeWords.{number_of}
use Rattle.gate_tseitin.specs.Named.{input_count, variable_count, names_from}
use Rattle.gate_tseitin.proofs.Naming.{name_more, own_more, names_end, own_end, all_names, names_within}
use Rattle.gate_tseitin.proofs.names.names_of.Goals as goal

pub loop-number-preserved : goal.loop-number-preserved
loop-number-preserved c = record {
  total = name_more c.args.marks.now c.args.store.now c.loop-number.number c.gate-gate.result c.is_marked-has_mark.result c.name_at.result c.owns-next.result c.loop-number.list.items _ _ c.loop-number.next _ c.gate-gate.ensures c.is_marked-has_mark.ensures c.name_at.ensures c.owns-next.ensures.count c.in_ok-push.ensures.items refl c.loop-number.invariant.total;
  counted = own_more c.args.marks.now c.args.store.now c.loop-number.number c.gate-gate.result c.is_marked-has_mark.result c.owns-next.result c.loop-number.next _ _ c.gate-gate.ensures c.is_marked-has_mark.ensures c.owns-next.ensures.count refl c.loop-number.invariant.counted;
  within = omega (arith, c.owns-next.ensures.most, c.loop-number.invariant.within);
}

pub invariant_of-result-clause-names : goal.invariant_of-result-clause-names
invariant_of-result-clause-names c =
    let marks = c.args.marks.now in
    let store = c.args.store.now in
    let over : length store ≤ c.loop-number.number = omega (arith, c.gates-gates.ensures.count) in
    let is : c.loop-number.list.items ≡ names_from marks (input_count store + 1) 0 store = names_end marks store c.loop-number.number c.loop-number.list.items _ c.loop-number.next over c.loop-number.invariant.total in
    all_names marks store c.loop-number.list.items is c.requires.inputs (number_of c.args.sure) c.requires.sure_there c.requires.sure_marked c.gates-gates.ensures.few

pub invariant_of-result-clause-within : goal.invariant_of-result-clause-within
invariant_of-result-clause-within c =
    let marks = c.args.marks.now in
    let store = c.args.store.now in
    let list = c.loop-number.list.items in
    let over : length store ≤ c.loop-number.number = omega (arith, c.gates-gates.ensures.count) in
    let is : list ≡ names_from marks (input_count store + 1) 0 store = names_end marks store c.loop-number.number list _ c.loop-number.next over c.loop-number.invariant.total in
    let count : c.loop-number.next ≡ variable_count marks store + 1 = own_end marks store c.loop-number.number c.loop-number.next _ over c.loop-number.invariant.counted in
    let same : variable_count marks store ≡ c.loop-number.next - 1 = omega (arith, count) in
    subst (λ (k : ℕ). All (λ n. n ≤ k) list) same (names_within marks store list is c.requires.inputs (number_of c.args.sure) c.requires.sure_there c.requires.sure_marked)

pub returns-clause-names : goal.returns-clause-names
returns-clause-names c =
    let over : length c.args.store.now ≤ c.loop-number.number = omega (arith, c.gates-gates.ensures.count) in
    names_end c.args.marks.now c.args.store.now c.loop-number.number c.loop-number.list.items _ c.loop-number.next over c.loop-number.invariant.total

pub returns-clause-count : goal.returns-clause-count
returns-clause-count c =
    let over : length c.args.store.now ≤ c.loop-number.number = omega (arith, c.gates-gates.ensures.count) in
    let count : c.loop-number.next ≡ variable_count c.args.marks.now c.args.store.now + 1 = own_end c.args.marks.now c.args.store.now c.loop-number.number c.loop-number.next _ over c.loop-number.invariant.counted in
    omega (arith, count)
