-- Parts of lists and of forms, as the code spells them.
use Rattle.std.specs.Prelude.{Bool, true, false, List, [], ◌∷◌, ◌++◌, map, Option, Some, None}
use Rattle.syntax_tree.specs.declared.expr.Binding.{Binding}
use Rattle.syntax_tree.specs.declared.expr.Decl.{Decl}
use Rattle.syntax_tree.specs.declared.expr.Expr.{Expr}
use Rattle.syntax_tree.specs.declared.token.Symbol.{Symbol}
use Rattle.syntax_tree.specs.declared.token.Symbol.TheVariants as s
use Rattle.syntax_tree.specs.declared.token.Word.TheVariants as w
use Rattle.syntax_tree.specs.Words.{Spelled, word, symbol, multiplicity_words}
use Rattle.syntax_tree.specs.Spelling.{after_each, separated, optional, declared_name, one_name, spelling}

-- the parts with a mark between two of them, and one before the first where another part stands before it
abbrev pub going_on : Bool → Symbol → List Spelled → Spelled
going_on true mark parts = separated mark parts
going_on false mark parts = after_each mark parts

-- what stands before the expression of a bound
abbrev pub before_bound : Decl Expr → Spelled
before_bound d = optional d.is_disjoint (word w.Disj) ++ (separated s.Comma (map declared_name d.names) ++ symbol s.Colon ∷ multiplicity_words d.word)

-- what stands before the value of a `let`
abbrev pub before_value : Binding Expr → Spelled
before_value b = one_name b.name ++ symbol s.Equal ∷ []

-- `else` and what stands after it
abbrev pub other_words : Option Expr → Spelled
other_words None = []
other_words (Some other) = word w.Else ∷ spelling other
