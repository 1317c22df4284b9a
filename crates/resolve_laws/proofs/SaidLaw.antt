-- What an expression says is one thing: an induction over how it says the first.
use Rattle.std.proofs.Common.{List, refl, inl, inr}
use Rattle.syntax_tree.specs.declared.operator.Constant.TheVariants as constant
use Rattle.syntax_tree.specs.declared.operator.Infix.{Infix}
use Rattle.syntax_tree.specs.declared.expr.Named.{Named}
use Rattle.syntax_tree.specs.declared.expr.Decl.{Decl}
use Rattle.syntax_tree.specs.declared.expr.Binding.{Binding}
use Rattle.syntax_tree.specs.declared.expr.Access.{Access}
use Rattle.syntax_tree.specs.declared.expr.Expr.{Expr}
use Rattle.core_tree.specs.Trees.{Claim, Binder}
use Rattle.resolve_said.specs.Operators.{Said}
use Rattle.resolve_said.specs.Locals.{Scope}
use Rattle.resolve_said.specs.Said as said
use Rattle.resolve_said.specs.Said.{Standing, Says, RowSays, ConjunctsSay, ItemsSay, StepsSay, ArgumentsSay, LetSays, DeclsSay, VariablesSay}
use Rattle.resolve_told_literals.specs.Told.{LabelsDiffer}
use Rattle.resolve_laws.specs.Said.{SaidIsOne}
use Rattle.resolve_laws.proofs.SaidFine.{Picks}
use Rattle.resolve_laws.proofs.SaidCases as cases
use Rattle.resolve_laws.proofs.SaidCases.{One, RowOne, ConjunctsOne, ItemsOne, StepsOne, LetsOne, DeclsOne}
use Rattle.resolve_laws.proofs.SaidLists as lists
use Rattle.resolve_laws.proofs.SaidLists.{ArgumentsOne, VariablesOne}

module _ (at : Standing) (picks : Picks) (differ : LabelsDiffer at.sigs) where
  mutual
    pub one : {scope : Scope} {e : Expr} {r : Said} → Says at scope e r → One at picks differ scope e r
    one (said.a_name {scope} {e} {s} {q} is h) = cases.a_name at picks differ scope e q s is h
    one (said.a_field {scope} {e} {p} {q} {f} is h) = cases.a_field at picks differ scope e p q f is h
    one (said.this {scope} {e} {p} {n} is h) = cases.a_word at picks differ scope e p constant.This _ is (inl (n, refl, h, refl))
    one (said.a_constant {scope} {e} {p} {w} {t} is h) = cases.a_word at picks differ scope e p w _ is (inr (t, h, refl))
    one (said.a_number {scope} {e} {p} {n} is) = cases.a_number at picks differ scope e p n is
    one (said.a_negative {scope} {e} {p} {n} is) = cases.a_negative at picks differ scope e p n is
    one (said.a_literal {scope} {e} {p} {text} {n} is h) = cases.a_literal at picks differ scope e p text n is h
    one (said.in_parentheses {scope} {e} {inner} {s} {p} is whole d) = cases.in_parentheses at picks differ scope e inner p s is (one d)
    one (said.primed {scope} {e} {a} {t} is d) = cases.primed at picks differ scope e a t is (one d)
    one (said.prefixed {scope} {e} {a} {r} {s} {p} {op} is d h) = cases.prefixed at picks differ scope e a p op r s is h (one d)
    one (said.a_row {scope} {e} {first} {s} {links} is d) = cases.a_row at picks differ scope e first links s is d (row_one d)
    one (said.a_conjunction {scope} {e} {first} {links} {cs} is d) = cases.a_conjunction at picks differ scope e first links cs is d (conjuncts_one d)
    one (said.a_join {scope} {e} {first} {s} {steps} is d) = cases.a_join at picks differ scope e first steps s is (steps_one d)
    one (said.an_implication {scope} {e} {a} {b} {c} {d} {is_word} is x y) = cases.an_implication at picks differ scope e a b is_word c d is (one x) (one y)
    one (said.a_choice {scope} {e} {a} {b} {other} {c} {r} {s} {u} {is_word} is x y z h) = cases.a_choice at picks differ scope e a b other is_word c r s u is h (one x) (one y) (one z)
    one (said.a_sequence {scope} {e} {a} {b} {c} {d} is x y) = cases.a_sequence at picks differ scope e a b c d is (one x) (one y)
    one (said.a_comparison {scope} {e} {a} {b} {s} {t} {u} {op} is x y h) = cases.a_comparison at picks differ scope e a b op t u s is h (one x) (one y)
    one (said.a_block {scope} {e} {p} {items} {cs} is d) = cases.a_block at picks differ scope e p items cs is (items_one d)
    one (said.a_let {scope} {e} {body} {s} {p} {bindings} {has_bar} is d) = cases.a_let at picks differ scope e body p bindings has_bar s is (lets_one d)
    one (said.a_comprehension {scope} {e} {body} {r} {s} {p} {decls} {has_bar} {vs} is d b h) = cases.a_comprehension at picks differ scope e body p decls has_bar vs r s is h (decls_one d) (one b)
    one (said.a_quantified {scope} {e} {body} {r} {s} {p} {w} {decls} {has_bar} {vs} is d b h) = cases.a_quantified at picks differ scope e body p w decls has_bar vs r s is h (decls_one d) (one b)

    pub row_one : {scope : Scope} {first : Expr} {links : List (Infix × Expr)} {r : Said} → RowSays at scope first links r → RowOne at picks differ scope first links r
    row_one (said.first_operand {scope} {first} {s} d) = lists.first_operand at picks differ scope first s (one d)
    row_one (said.next_operand {scope} {first} {e} {links} {all} {op} {r} {s} {u} is row d link) = lists.next_operand at picks differ scope first e links all op r s u is link (row_one row) (one d)

    pub conjuncts_one : {scope : Scope} {first : Expr} {links : List (Infix × Expr)} {cs : List Claim} → ConjunctsSay at scope first links cs → ConjunctsOne at picks differ scope first links cs
    conjuncts_one (said.first_conjunct {scope} {first} {c} d) = lists.first_conjunct at picks differ scope first c (one d)
    conjuncts_one (said.next_conjunct {scope} {first} {e} {links} {all} op {cs} {ds} {c} is ends rest h d) = lists.next_conjunct at picks differ scope first e links all op cs ds c is ends (conjuncts_one rest) (one d)

    pub items_one : {scope : Scope} {es : List Expr} {cs : List Claim} → ItemsSay at scope es cs → ItemsOne at picks differ scope es cs
    items_one (said.no_item {scope}) = lists.no_item at picks differ scope
    items_one (said.next_item {scope} {e} {es} {all} {cs} {ds} {c} is ends rest d) = lists.next_item at picks differ scope e es all cs ds c is ends (items_one rest) (one d)

    pub steps_one : {scope : Scope} {first : Expr} {steps : List (Access Expr)} {r : Said} → StepsSay at scope first steps r → StepsOne at picks differ scope first steps r
    steps_one (said.no_step {scope} {first} {s} d) = lists.no_step at picks differ scope first s (one d)
    steps_one (said.dot {scope} {first} {e} {steps} {all} {t} {r} {s} is rest d h) = lists.dot at picks differ scope first e steps all t r s is h (steps_one rest) (one d)
    steps_one (said.box {scope} {first} {steps} {all} {es} {r} {s} is rest d) = lists.box at picks differ scope first steps all es r s is (steps_one rest) (arguments_one d)

    pub arguments_one : {scope : Scope} {q : Said} {es : List Expr} {r : Said} → ArgumentsSay at scope q es r → ArgumentsOne at picks differ scope q es r
    arguments_one (said.no_argument {scope} {s}) = lists.no_argument at picks differ scope s
    arguments_one (said.next_argument {scope} {e} {es} {all} {t} {q} {r} {s} is rest d h) = lists.next_argument at picks differ scope e es all t q r s is h (arguments_one rest) (one d)

    pub lets_one : {scope : Scope} {bs : List (Binding Expr)} {body : Expr} {r : Said} → LetSays at scope bs body r → LetsOne at picks differ scope bs body r
    lets_one (said.let_body {scope} {body} {s} d) = lists.let_body at picks differ scope body s (one d)
    lets_one (said.let_value {scope} {body} {b} {bs} {all} {t} {r} {s} is d rest h) = lists.let_value at picks differ scope body b bs all t r s is h (one d) (lets_one rest)

    pub decls_one : {scope : Scope} {ds : List (Decl Expr)} {vs : List Binder} → DeclsSay at scope ds vs → DeclsOne at picks differ scope ds vs
    decls_one (said.no_decl {scope}) = lists.no_decl at picks differ scope
    decls_one (said.next_decl {scope} {d} {ds} {all} {vs} {ws} {us} is ends rest v) = lists.next_decl at picks differ scope d ds all vs ws us is ends (decls_one rest) (variables_one v)

    pub variables_one : {scope : Scope} {d : Decl Expr} {ns : List Named} {vs : List Binder} → VariablesSay at scope d ns vs → VariablesOne at picks differ scope d ns vs
    variables_one (said.no_variable {scope} {d}) = lists.no_variable at picks differ scope d
    variables_one (said.next_variable {scope} {d} {ns} {all} n v {vs} {ws} is ends rest b named apart) = lists.next_variable at picks differ scope d ns all n v vs ws is ends named apart (variables_one rest) (one b)

pub said_one : SaidIsOne
said_one at picks scope e r s differ linked d other agree = one at picks differ d s (record { agree = agree; linked = linked }) other
