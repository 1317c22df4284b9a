-- What a tree says, whatever its places: the tree with one place in each of its places.
use Rattle.std.specs.Prelude.{map}
use Rattle.base_types.specs.declared.place.Position.{Position}
use Rattle.syntax_tree.specs.declared.expr.QualName.{QualName}
use Rattle.syntax_tree.specs.declared.expr.Named.{Named}
use Rattle.syntax_tree.specs.declared.expr.Decl.{Decl}
use Rattle.syntax_tree.specs.declared.expr.Binding.{Binding}
use Rattle.syntax_tree.specs.declared.expr.Expr.{Expr}
use Rattle.syntax_tree.specs.declared.expr.Expr.TheOpen.{Expr-F}
use Rattle.syntax_tree.specs.declared.expr.Expr.TheViews.{roll-Expr}
use Rattle.syntax_tree.specs.declared.expr.Expr.TheFolds.{fold-Expr}

-- the one place
abbrev pub nowhere : Position
nowhere = record { «module» = 0; line = 0; column = 0 }

abbrev pub placeless_name : QualName → QualName
placeless_name name = record { place = nowhere; is_own = name.is_own; parts = name.parts }

abbrev pub placeless_named : Named → Named
placeless_named named = record { place = nowhere; name = named.name }

abbrev pub placeless_decl : {E : Type 0} → Decl E → Decl E
placeless_decl d = record {
  place = nowhere;
  is_disjoint = d.is_disjoint;
  names = map placeless_named d.names;
  bound_place = nowhere;
  word = d.word;
  bound = d.bound;
}

abbrev pub placeless_binding : {E : Type 0} → Binding E → Binding E
placeless_binding b = record { place = nowhere; name = b.name; value = b.value }

-- one layer of a tree
abbrev pub placeless_layer : {E : Type 0} → Expr-F E → Expr-F E
placeless_layer (Expr-F.Name name) = Expr-F.Name (placeless_name name)
placeless_layer (Expr-F.At place name) = Expr-F.At nowhere (placeless_name name)
placeless_layer (Expr-F.Constant place constant) = Expr-F.Constant nowhere constant
placeless_layer (Expr-F.Number place number) = Expr-F.Number nowhere number
placeless_layer (Expr-F.Negative place number) = Expr-F.Negative nowhere number
placeless_layer (Expr-F.Literal place text) = Expr-F.Literal nowhere text
placeless_layer (Expr-F.Parenthesis place inner) = Expr-F.Parenthesis nowhere inner
placeless_layer (Expr-F.Block place items) = Expr-F.Block nowhere items
placeless_layer (Expr-F.Comprehension place decls has_bar body) =
    Expr-F.Comprehension nowhere (map placeless_decl decls) has_bar body
placeless_layer (Expr-F.Quantified place quantifier decls has_bar body) =
    Expr-F.Quantified nowhere quantifier (map placeless_decl decls) has_bar body
placeless_layer (Expr-F.Let place bindings has_bar body) =
    Expr-F.Let nowhere (map placeless_binding bindings) has_bar body
placeless_layer (Expr-F.Sequence first second) = Expr-F.Sequence first second
placeless_layer (Expr-F.Implication is_word condition consequence other) =
    Expr-F.Implication is_word condition consequence other
placeless_layer (Expr-F.Compare comparison left right) = Expr-F.Compare comparison left right
placeless_layer (Expr-F.Prefix place operator operand) = Expr-F.Prefix nowhere operator operand
placeless_layer (Expr-F.Infix first links) = Expr-F.Infix first links
placeless_layer (Expr-F.Join first steps) = Expr-F.Join first steps
placeless_layer (Expr-F.Prime operand) = Expr-F.Prime operand

unfoldable pub placeless : Expr → Expr
placeless = fold-Expr Expr (λ layer. roll-Expr (placeless_layer layer))
