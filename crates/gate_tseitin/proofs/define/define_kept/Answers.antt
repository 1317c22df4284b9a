use Rattle.std.proofs.Common.{◌≡◌, ◌∙◌, ◌<◌, ◌&&◌, true, ap, sym, subst, Bool, List, length, All, arith}
use Rattle.gate_trait.specs.declared.node.Node.{Node}
use Rattle.gate_trait.specs.declared.gate.Gate.{Gate}
use Rattle.gate_trait.specs.NodeWords.{number_of}
use Rattle.gate_tseitin.specs.Named.{satisfied, named_values, marked, defined_where}
use Rattle.gate_tseitin.specs.Shown.{defined_over}
use Rattle.gate_tseitin.proofs.Linking.{kept_defined, other_defined, marks_there}
use Rattle.gate_tseitin.proofs.define.define_kept.Goals as goal

pub returns-then-not-is_marked-clause-value : goal.returns-then-not-is_marked-clause-value
returns-then-not-is_marked-clause-value c = λ g v vs at shown. other_defined vs c.args.kept.now v c.args.number g _ (sym c.is_marked.ensures ∙ c.if-not-is_marked.true)

pub leaves_of-requires-clause-parts : goal.leaves_of-requires-clause-parts
leaves_of-requires-clause-parts c =
    let linked = c.requires.fitting.linked in
    linked.parts c.args.number c.gate-gate.result c.gate-gate.ensures (linked.reached c.args.number (sym c.is_marked.ensures ∙ c.if-not-is_marked.false))

pub define-requires-clause-leaves_there : goal.define-requires-clause-leaves_there
define-requires-clause-leaves_there c =
    let names = c.args.names.now.list.items in
    let long : length c.args.kept.now ≡ length names = omega (arith, c.requires.fitting.linked.kept_each, c.requires.fitting.names_each) in
    subst (λ (ns : List Node). All (λ (n : Node). number_of n < length names) ns) (sym c.deref.ensures.value) (marks_there c.args.kept.now c.in_ok-leaves.leaves.items (length names) long c.in_ok-leaves.ensures.kept)

pub returns-clause-value : goal.returns-clause-value
returns-clause-value c = λ g v vs at shown.
    let store = c.args.store.now in
    let marks = c.args.marks.now in
    let kept = c.args.kept.now in
    let names = c.args.names.now.list.items in
    let number = c.args.number in
    let gate = c.gate-gate.result in
    let leaves = c.in_ok-leaves.leaves.items in
    let before = satisfied v c.args.cnf.now.clauses in
    let linked = c.requires.fitting.linked in
    let has : marked kept number ≡ true = sym c.is_marked.ensures ∙ c.if-not-is_marked.false in
    let parts = linked.parts number gate c.gate-gate.ensures (linked.reached number has) in
    let same : gate ≡ g = cc (c.gate-gate.ensures, at) in
    c.in_ok-define.ensures.value v
    ∙ ap (λ (ns : List Node). before && defined_over (named_values v names) v ns number gate) c.deref.ensures.value
    ∙ ap (λ (b : Bool). before && b) (kept_defined store marks kept names v vs leaves number gate shown has c.in_ok-leaves.ensures.kept parts (c.in_ok-leaves.ensures.value v vs shown.computed))
    ∙ ap (λ (q : Gate). before && defined_where vs v kept number q) same
