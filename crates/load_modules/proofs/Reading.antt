-- What is known of a text that was read.
use Rattle.std.proofs.Common.{◌≡◌, ℕ, ◌≤◌, List, length, Ok, IsTrue, sym, subst}
use Rattle.base_types.specs.declared.limits.TheConstants.{MODULE_BYTES, TREE_DEPTH}
use Rattle.syntax_lexer.specs.Tokens.{tokens_of}
use Rattle.syntax_tree.specs.ModuleRules.{module_right}
use Rattle.syntax_tree.specs.ModuleWords.{module_words}
use Rattle.syntax_tree.specs.Spelling.{kinds}
use Rattle.syntax_tree.specs.declared.module.Module.{Module}
use Rattle.syntax_tree.specs.declared.token.Token.{Token}
use Rattle.syntax_places.specs.ModulePieces.{module_pieces}
use Rattle.syntax_places.specs.Pieces.{at_places}
use Rattle.load_modules.specs.Reading.{IsModuleOf}

pub module_of : (bytes : List ℕ) (number : ℕ) (tokens : List Token) (tree read : Module) → read ≡ tree → length bytes ≤ MODULE_BYTES → tokens_of number bytes ≡ Ok tokens →
    kinds tokens ≡ module_words tree → IsTrue (module_right TREE_DEPTH tree) → IsTrue (at_places (module_pieces tree) tokens) → IsModuleOf bytes number read
module_of bytes number tokens tree read same small cut spelled right placed =
    let of_tree : IsModuleOf bytes number tree = record { small = small; tokens = tokens; cut = cut; spelled = spelled; right = right; placed = placed } in
    subst (IsModuleOf bytes number) (sym same) of_tree
