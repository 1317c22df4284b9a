-- The tokens that spell a word, a symbol or an operator.
use Rattle.std.specs.Prelude.{ℕ, List, [], ◌∷◌, ◌++◌, Option, Some, None, codes}
use Rattle.syntax_tree.specs.declared.token.TokenKind.{TokenKind}
use Rattle.syntax_tree.specs.declared.token.TokenKind.TheVariants as kind
use Rattle.syntax_tree.specs.declared.token.Word.{Word}
use Rattle.syntax_tree.specs.declared.token.Word.TheVariants as w
use Rattle.syntax_tree.specs.declared.token.Symbol.{Symbol}
use Rattle.syntax_tree.specs.declared.token.Symbol.TheVariants as s
use Rattle.syntax_tree.specs.declared.operator.Constant.{Constant}
use Rattle.syntax_tree.specs.declared.operator.Constant.TheVariants as constant
use Rattle.syntax_tree.specs.declared.operator.Quantifier.{Quantifier}
use Rattle.syntax_tree.specs.declared.operator.Quantifier.TheVariants as quantifier
use Rattle.syntax_tree.specs.declared.operator.Multiplicity.{Multiplicity}
use Rattle.syntax_tree.specs.declared.operator.Multiplicity.TheVariants as multiplicity
use Rattle.syntax_tree.specs.declared.operator.Prefix.{Prefix}
use Rattle.syntax_tree.specs.declared.operator.Prefix.TheVariants as prefix
use Rattle.syntax_tree.specs.declared.operator.Infix.{Infix}
use Rattle.syntax_tree.specs.declared.operator.Infix.TheVariants as infixed
use Rattle.syntax_tree.specs.declared.operator.Comparator.{Comparator}
use Rattle.syntax_tree.specs.declared.operator.Comparator.TheVariants as comparator
use Rattle.syntax_tree.specs.declared.operator.Negation.{Negation}
use Rattle.syntax_tree.specs.declared.operator.Negation.TheVariants as negation
use Rattle.syntax_tree.specs.declared.operator.Comparison.{Comparison}

-- the tokens that spell something
abbrev pub Spelled : Type 0
Spelled = List TokenKind

abbrev pub word : Word → TokenKind
word a = kind.Word a

abbrev pub symbol : Symbol → TokenKind
symbol a = kind.Symbol a

abbrev pub constant_word : Constant → Word
constant_word constant.This = w.This
constant_word constant.Univ = w.Univ
constant_word constant.Iden = w.Iden
constant_word constant.None = w.None
constant_word constant.Int = w.Int
constant_word constant.String = w.String

abbrev pub quantifier_word : Quantifier → Word
quantifier_word quantifier.All = w.All
quantifier_word quantifier.No = w.No
quantifier_word quantifier.Some = w.Some
quantifier_word quantifier.Lone = w.Lone
quantifier_word quantifier.One = w.One
quantifier_word quantifier.Sum = w.Sum

abbrev pub multiplicity_word : Multiplicity → Word
multiplicity_word multiplicity.Set = w.Set
multiplicity_word multiplicity.One = w.One
multiplicity_word multiplicity.Lone = w.Lone
multiplicity_word multiplicity.Some = w.Some

-- a multiplicity word, where one stands
abbrev pub multiplicity_words : Option Multiplicity → Spelled
multiplicity_words None = []
multiplicity_words (Some m) = word (multiplicity_word m) ∷ []

abbrev pub prefix_token : Prefix → TokenKind
prefix_token prefix.Bang = symbol s.Bang
prefix_token prefix.Not = word w.Not
prefix_token prefix.Always = word w.Always
prefix_token prefix.Eventually = word w.Eventually
prefix_token prefix.After = word w.After
prefix_token prefix.Before = word w.Before
prefix_token prefix.Historically = word w.Historically
prefix_token prefix.Once = word w.Once
prefix_token prefix.No = word w.No
prefix_token prefix.Some = word w.Some
prefix_token prefix.Lone = word w.Lone
prefix_token prefix.One = word w.One
prefix_token prefix.Count = symbol s.Hash
prefix_token prefix.Transpose = symbol s.Tilde
prefix_token prefix.Closure = symbol s.Caret
prefix_token prefix.ReflexiveClosure = symbol s.Star

-- `fun/` and a name
abbrev pub arithmetic : List ℕ → Spelled
arithmetic name = word w.Fun ∷ symbol s.Slash ∷ kind.Name name ∷ []

abbrev pub infix_words : Infix → Spelled
infix_words infixed.OrOr = symbol s.OrOr ∷ []
infix_words infixed.Or = word w.Or ∷ []
infix_words infixed.Equivalence = symbol s.Equivalence ∷ []
infix_words infixed.Iff = word w.Iff ∷ []
infix_words infixed.AndAnd = symbol s.AndAnd ∷ []
infix_words infixed.And = word w.And ∷ []
infix_words infixed.Until = word w.Until ∷ []
infix_words infixed.Releases = word w.Releases ∷ []
infix_words infixed.Since = word w.Since ∷ []
infix_words infixed.Triggered = word w.Triggered ∷ []
infix_words infixed.Plus = symbol s.Plus ∷ []
infix_words infixed.Minus = symbol s.Minus ∷ []
infix_words infixed.Add = arithmetic (codes "add")
infix_words infixed.Sub = arithmetic (codes "sub")
infix_words infixed.Mul = arithmetic (codes "mul")
infix_words infixed.Div = arithmetic (codes "div")
infix_words infixed.Rem = arithmetic (codes "rem")
infix_words infixed.Override = symbol s.PlusPlus ∷ []
infix_words infixed.Intersection = symbol s.Ampersand ∷ []
infix_words (infixed.Arrow before after) = multiplicity_words before ++ symbol s.Arrow ∷ multiplicity_words after
infix_words infixed.Domain = symbol s.Domain ∷ []
infix_words infixed.Range = symbol s.Range ∷ []

abbrev pub negation_words : Negation → Spelled
negation_words negation.Plain = []
negation_words negation.Bang = symbol s.Bang ∷ []
negation_words negation.Not = word w.Not ∷ []

abbrev pub comparator_token : Comparator → TokenKind
comparator_token comparator.In = word w.In
comparator_token comparator.Equal = symbol s.Equal
comparator_token comparator.Less = symbol s.Less
comparator_token comparator.Greater = symbol s.Greater
comparator_token comparator.EqualLess = symbol s.EqualLess
comparator_token comparator.LessEqual = symbol s.LessEqual
comparator_token comparator.GreaterEqual = symbol s.GreaterEqual

abbrev pub comparison_words : Comparison → Spelled
comparison_words c = negation_words c.negation ++ comparator_token c.comparator ∷ multiplicity_words c.word
