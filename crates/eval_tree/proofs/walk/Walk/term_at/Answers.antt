use Rattle.std.proofs.Common.{rules, w64, SFits}
use Rattle.std.proofs.lemmas.Int.{to_z-of_z}
use Rattle.eval_steps.specs.Judged.{scope_names}
use Rattle.eval_tree.proofs.NameLaw.{name_atom, name_written, name_unknown}
use Rattle.eval_tree.proofs.CallLaw.{call_found}
use Rattle.eval_tree.proofs.FoundLemmas.{said_true, said_false}
use Rattle.eval_tree.proofs.Cases.{combine_case, product_case, unary_case, prime_case, choose_yes_case, choose_no_case, comprehension_case, count_case, arithmetic_case, sum_case}
use Rattle.eval_tree.proofs.walk.Walk.term_at.Goals as goal

pub returns-in-Sig : goal.returns-in-Sig
returns-in-Sig g c =
    rw c.in-Sig.is c.relation_at.ensures

pub returns-in-Field : goal.returns-in-Field
returns-in-Field g c =
    rw c.in-Field.is c.field_of.ensures

pub returns-in-Atom : goal.returns-in-Atom
returns-in-Atom g c =
    rw c.in-Name.is (name_atom c.args.self.now.judge.now c.args.scope.now c.in-Name.name c.args.position c.look_up.result c.look_up.ensures c.in-Atom.atom c.in-Atom.is _ c.one_atom.result c.one_atom.ensures)

pub returns-in-Written : goal.returns-in-Written
returns-in-Written g c =
    rw c.in-Name.is (name_written c.args.self.now.judge.now c.args.scope.now c.in-Name.name c.args.position c.look_up.result c.look_up.ensures c.in-Written.written c.in-Written.outer c.in-Written.is _ c.tuples.result c.tuples.ensures)

pub returns-in-Unknown : goal.returns-in-Unknown
returns-in-Unknown g c =
    rw c.in-Name.is (name_unknown c.args.self.now.judge.now c.args.scope.now c.in-Name.name c.args.position c.look_up.result c.look_up.ensures c.in-Unknown.is c.nothing.result c.nothing.ensures)

pub returns-in-Univ : goal.returns-in-Univ
returns-in-Univ g c =
    rw c.in-Univ.is c.universe_at.ensures

pub returns-in-Iden : goal.returns-in-Iden
returns-in-Iden g c =
    rw c.in-Iden.is c.identity_at.ensures

pub returns-in-Empty : goal.returns-in-Empty
returns-in-Empty g c =
    rw c.in-Empty.is c.nothing-in-Empty.ensures

pub returns-in-Int : goal.returns-in-Int
returns-in-Int g c =
    rw c.in-Int.is c.integers_at.ensures

pub returns-in_ok-y-in-Combine : goal.returns-in_ok-y-in-Combine
returns-in_ok-y-in-Combine g c =
    rw c.in-Combine.is (combine_case c.args.self.now.judge.now (scope_names c.args.self.now.judge.now c.args.scope.now) c.args.position c.in-Combine.a c.in-Combine.b c.deref.result.now c.deref-in-Combine.result.now c.deref.ensures c.deref-in-Combine.ensures c.in_ok-x-in-Combine.x c.in_ok-y-in-Combine.y c.in_ok-x-in-Combine.ensures c.in_ok-y-in-Combine.ensures c.in-Combine.op _ c.combined.result c.combined.ensures)

pub returns-in_ok-y-in-Product : goal.returns-in_ok-y-in-Product
returns-in_ok-y-in-Product g c =
    rw c.in-Product.is (product_case c.args.self.now.judge.now (scope_names c.args.self.now.judge.now c.args.scope.now) c.args.position c.in-Product.a c.in-Product.b c.deref-in-Product.result.now c.deref-in-Product-2.result.now c.deref-in-Product.ensures c.deref-in-Product-2.ensures c.in_ok-x-in-Product.x c.in_ok-y-in-Product.y c.in_ok-x-in-Product.ensures c.in_ok-y-in-Product.ensures c.in-Product.field-1 c.in-Product.field-2 _ c.multiplied.result c.multiplied.ensures)

pub returns-in_ok-x-in-Unary : goal.returns-in_ok-x-in-Unary
returns-in_ok-x-in-Unary g c =
    rw c.in-Unary.is (unary_case c.args.self.now.judge.now (scope_names c.args.self.now.judge.now c.args.scope.now) c.args.position c.in-Unary.a c.deref-in-Unary.result.now c.deref-in-Unary.ensures c.in_ok-x-in-Unary.x c.in_ok-x-in-Unary.ensures c.in-Unary.op _ c.transformed.result c.transformed.ensures)

pub returns-in_ok-after-in-Prime : goal.returns-in_ok-after-in-Prime
returns-in_ok-after-in-Prime g c =
    rw c.in-Prime.is (prime_case c.args.self.now.judge.now (scope_names c.args.self.now.judge.now c.args.scope.now) c.args.position c.in-Prime.a c.deref-in-Prime.result.now c.deref-in-Prime.ensures c.in_ok-after-in-Prime.field-0 c.in_ok-after-in-Prime.ensures _ c.tuples-in-Prime.result c.tuples-in-Prime.ensures)

pub returns-then-chosen : goal.returns-then-chosen
returns-then-chosen g c =
    rw c.in-Choose.is (choose_yes_case c.args.self.now.judge.now (scope_names c.args.self.now.judge.now c.args.scope.now) c.args.position c.in-Choose.f c.in-Choose.a c.in-Choose.b c.deref-in-Choose.result.now c.deref-then-chosen.result.now c.deref-in-Choose.ensures c.deref-then-chosen.ensures (said_true c.in_ok-chosen-in-Choose.chosen c.in_ok-chosen-in-Choose.ensures c.if-chosen.true) _ c.tuples-then-chosen.result c.tuples-then-chosen.ensures)

pub returns-else-chosen : goal.returns-else-chosen
returns-else-chosen g c =
    rw c.in-Choose.is (choose_no_case c.args.self.now.judge.now (scope_names c.args.self.now.judge.now c.args.scope.now) c.args.position c.in-Choose.f c.in-Choose.a c.in-Choose.b c.deref-in-Choose.result.now c.deref-in-Choose-2.result.now c.deref-in-Choose.ensures c.deref-in-Choose-2.ensures (said_false c.in_ok-chosen-in-Choose.chosen c.in_ok-chosen-in-Choose.ensures c.if-chosen.false) _ c.tuples-in-Choose.result c.tuples-in-Choose.ensures)

pub returns-in_ok-rows-in-Comprehension : goal.returns-in_ok-rows-in-Comprehension
returns-in_ok-rows-in-Comprehension g c =
    rw c.in-Comprehension.is (comprehension_case c.args.self.now.judge.now (scope_names c.args.self.now.judge.now c.args.scope.now) c.args.position c.in-Comprehension.variables c.in-Comprehension.f c.deref-in-Comprehension-2.result.now c.deref-in-Comprehension-2.ensures.value _ c.deref-in-Comprehension.ensures c.in_ok-rows-in-Comprehension.rows.items c.in_ok-rows-in-Comprehension.ensures _ c.chosen_set.result (rw c.deref-in-Comprehension-3.ensures.value at c.chosen_set.ensures))

pub returns-in-Number : goal.returns-in-Number
returns-in-Number g c =
    let f : SFits w64 c.in-Number.number = search rules in
    let told = simp to_z-of_z at c.one_integer.ensures in
    rw c.in-Number.is told

pub returns-in_ok-x-in-Count : goal.returns-in_ok-x-in-Count
returns-in_ok-x-in-Count g c =
    rw c.in-Count.is (count_case c.args.self.now.judge.now (scope_names c.args.self.now.judge.now c.args.scope.now) c.args.position c.in-Count.a c.deref-in-Count.result.now c.deref-in-Count.ensures c.in_ok-x-in-Count.x c.in_ok-x-in-Count.ensures _ c.counted.result c.counted.ensures)

pub returns-in_ok-y-in-Arithmetic : goal.returns-in_ok-y-in-Arithmetic
returns-in_ok-y-in-Arithmetic g c =
    rw c.in-Arithmetic.is (arithmetic_case c.args.self.now.judge.now (scope_names c.args.self.now.judge.now c.args.scope.now) c.args.position c.in-Arithmetic.a c.in-Arithmetic.b c.deref-in-Arithmetic.result.now c.deref-in-Arithmetic-2.result.now c.deref-in-Arithmetic.ensures c.deref-in-Arithmetic-2.ensures c.in_ok-x-in-Arithmetic.x c.in_ok-y-in-Arithmetic.y c.in_ok-x-in-Arithmetic.ensures c.in_ok-y-in-Arithmetic.ensures c.in-Arithmetic.op _ c.calculated.result c.calculated.ensures)

pub returns-in_ok-rows-in-Sum : goal.returns-in_ok-rows-in-Sum
returns-in_ok-rows-in-Sum g c =
    rw c.in-Sum.is (sum_case c.args.self.now.judge.now (scope_names c.args.self.now.judge.now c.args.scope.now) c.args.position c.in-Sum.variables c.in-Sum.a c.deref-in-Sum-2.result.now c.deref-in-Sum-2.ensures.value _ c.deref-in-Sum.ensures c.in_ok-rows-in-Sum.rows.items c.in_ok-rows-in-Sum.ensures _ c.sum_of_rows.result (rw c.deref-in-Sum-3.ensures.value at c.sum_of_rows.ensures))

pub returns-in-Let : goal.returns-in-Let
returns-in-Let g c =
    rw c.in-Let.is (rw c.deref-in-Let-2.ensures at (rw c.deref-in-Let.ensures at c.tuples-in-Let.ensures))

pub returns-in-Call : goal.returns-in-Call
returns-in-Call g c =
    rw c.in-Call.is (call_found c.args.self.now.judge.now c.bodies.ensures.weighed c.in-Call.body c.in-Call.arguments (scope_names c.args.self.now.judge.now c.args.scope.now) c.args.position _ c.enter_term.result (rw c.deref-in-Call.ensures.value at c.enter_term.ensures))
