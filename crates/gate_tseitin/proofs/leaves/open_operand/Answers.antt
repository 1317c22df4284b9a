use Rattle.std.proofs.Common.{◌≡◌, ◌∙◌, ℕ, false, Some, ap, sym, arith}
use Rattle.std.specs.List.{slice_get}
use Rattle.std.proofs.lemmas.List.Elements.{All-same, All-push}
use Rattle.gate_trait.specs.declared.gate.Gate.{Gate}
use Rattle.gate_trait.specs.declared.gate.Gate.TheVariants.{And}
use Rattle.gate_trait.specs.NodeWords.{number_of}
use Rattle.gate_trait.specs.Circuit.{value_among}
use Rattle.gate_tseitin.specs.Named.{marked}
use Rattle.gate_tseitin.specs.Reached.{HasMark}
use Rattle.gate_tseitin.specs.Shown.{IsOperand, all_nodes}
use Rattle.gate_tseitin.proofs.Linking.{operand_there, operands_of, operand_value, nodes_more, leaf_taken, node_opened}
use Rattle.gate_tseitin.proofs.leaves.open_operand.Goals as goal

pub is_marked-requires : goal.is_marked-requires
is_marked-requires c =
    let there = operand_there c.args.store.now c.args.marks.now c.args.kept.now c.args.node c.requires.linked c.requires.operand in
    omega (arith, there, c.requires.linked.kept_each, c.number.ensures)

pub gate-requires : goal.gate-requires
gate-requires c =
    let there = operand_there c.args.store.now c.args.marks.now c.args.kept.now c.args.node c.requires.linked c.requires.operand in
    omega (arith, there, c.number-2.ensures)

pub returns-then-is_marked-clause-waiting : goal.returns-then-is_marked-clause-waiting
returns-then-is_marked-clause-waiting c = λ h. h

pub returns-then-is_marked-clause-kept : goal.returns-then-is_marked-clause-kept
returns-then-is_marked-clause-kept c = λ h.
    let kept = c.args.kept.now in
    let has : HasMark kept c.args.node = ap (λ (k : ℕ). marked kept k) (sym c.number.ensures) ∙ sym c.is_marked.ensures ∙ c.if-is_marked.true in
    All-same (HasMark kept) _ _ c.in_ok-push.ensures.items (All-push (HasMark kept) c.args.leaves.now.items c.args.node h has)

pub returns-then-is_marked-clause-value : goal.returns-then-is_marked-clause-value
returns-then-is_marked-clause-value c = λ v vs computed.
    leaf_taken (all_nodes vs c.args.leaves.now.items) (all_nodes vs c.args.waiting.now.items) (value_among vs c.args.node) _ (nodes_more vs c.args.leaves.now.items _ c.args.node c.in_ok-push.ensures.items)

pub returns-in_ok-push-in-And-2-clause-waiting : goal.returns-in_ok-push-in-And-2-clause-waiting
returns-in_ok-push-in-And-2-clause-waiting c = λ h.
    let store = c.args.store.now in
    let marks = c.args.marks.now in
    let kept = c.args.kept.now in
    let none : marked kept (number_of c.args.node) ≡ false = ap (λ (k : ℕ). marked kept k) (sym c.number.ensures) ∙ sym c.is_marked.ensures ∙ c.if-is_marked.false in
    let at : slice_get store (number_of c.args.node) ≡ Some (And c.in-And.a c.in-And.b) = ap (λ (k : ℕ). slice_get store k) (sym c.number-2.ensures) ∙ c.gate.ensures ∙ ap (λ (g : Gate). Some g) c.in-And.is in
    let both = operands_of store marks kept c.args.node c.in-And.a c.in-And.b c.requires.linked c.requires.operand none at in
    All-same (IsOperand marks kept) _ _ c.in_ok-push-in-And-2.ensures.items
    (All-push (IsOperand marks kept) _ c.in-And.a
    (All-same (IsOperand marks kept) _ _ c.in_ok-push-in-And.ensures.items (All-push (IsOperand marks kept) c.args.waiting.now.items c.in-And.b h both.1)) both.0)

pub returns-in_ok-push-in-And-2-clause-kept : goal.returns-in_ok-push-in-And-2-clause-kept
returns-in_ok-push-in-And-2-clause-kept c = λ h. h

pub returns-in_ok-push-in-And-2-clause-value : goal.returns-in_ok-push-in-And-2-clause-value
returns-in_ok-push-in-And-2-clause-value c = λ v vs computed.
    let store = c.args.store.now in
    let kept = c.args.kept.now in
    let none : marked kept (number_of c.args.node) ≡ false = ap (λ (k : ℕ). marked kept k) (sym c.number.ensures) ∙ sym c.is_marked.ensures ∙ c.if-is_marked.false in
    let at : slice_get store (number_of c.args.node) ≡ Some (And c.in-And.a c.in-And.b) = ap (λ (k : ℕ). slice_get store k) (sym c.number-2.ensures) ∙ c.gate.ensures ∙ ap (λ (g : Gate). Some g) c.in-And.is in
    node_opened (all_nodes vs c.args.leaves.now.items) (all_nodes vs c.args.waiting.now.items) (value_among vs c.args.node) (value_among vs c.in-And.a) (value_among vs c.in-And.b) _ _
    (nodes_more vs c.args.waiting.now.items _ c.in-And.b c.in_ok-push-in-And.ensures.items)
    (nodes_more vs _ _ c.in-And.a c.in_ok-push-in-And-2.ensures.items)
    (operand_value store c.args.marks.now kept c.args.node c.in-And.a c.in-And.b v vs c.requires.operand none at computed)
