-- Which tree a text has: that of the module that its tokens spell.
use Rattle.std.specs.Prelude.{◌≡◌, ℕ, ◌≤◌, List, length, IsTrue, Ok}
use Rattle.base_types.specs.declared.limits.TheConstants.{MODULE_BYTES, TREE_DEPTH}
use Rattle.syntax_lexer.specs.Tokens.{tokens_of}
use Rattle.syntax_tree.specs.ModuleRules.{module_right}
use Rattle.syntax_tree.specs.ModuleWords.{module_words}
use Rattle.syntax_tree.specs.Spelling.{kinds}
use Rattle.syntax_tree.specs.declared.module.Module.{Module}
use Rattle.syntax_tree.specs.declared.token.Token.{Token}
use Rattle.syntax_places.specs.ModulePieces.{module_pieces}
use Rattle.syntax_places.specs.Pieces.{at_places}

-- The bytes aren't over the limit, and their tokens spell the module, whose trees are right and not too deep, and whose places
-- are those of the tokens. The number is that of the text in the places of its tokens.
pub record IsModuleOf (bytes : List ℕ) (number : ℕ) (tree : Module) : Type 0 where
  pub small : length bytes ≤ MODULE_BYTES
  pub tokens : List Token
  pub cut : tokens_of number bytes ≡ Ok tokens
  pub spelled : kinds tokens ≡ module_words tree
  pub right : IsTrue (module_right TREE_DEPTH tree)
  pub placed : IsTrue (at_places (module_pieces tree) tokens)
