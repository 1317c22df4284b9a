-- What the text of the root model comes to: a rule that it breaks at a place, or a module that it
-- spells.
use Rattle.std.specs.Prelude.{◌≡◌, ℕ, List, Option, Some, None, Ok, Err, IsTrue}
use Rattle.base_types.specs.declared.limits.TheConstants.{TREE_DEPTH}
use Rattle.base_types.specs.declared.place.Refusal.{Refusal}
use Rattle.syntax_tree.specs.declared.module.Module.{Module}
use Rattle.syntax_tree.specs.declared.token.Token.{Token}
use Rattle.syntax_tree.specs.ModuleWords.{module_words}
use Rattle.syntax_tree.specs.ModuleRules.{module_right}
use Rattle.syntax_tree.specs.Spelling.{kinds}
use Rattle.syntax_places.specs.Pieces.{at_places}
use Rattle.syntax_places.specs.ModulePieces.{module_pieces}
use Rattle.syntax_parser.specs.Refuses.{BreaksTokens}
use Rattle.syntax_lexer.specs.Tokens.{Tokens, tokens_of}
use Rattle.answer_texts.specs.Lines.{command_text}
use Rattle.cli_model.specs.declared.parsed.Root.{Root}
use Rattle.cli_model.specs.declared.parsed.Root.TheVariants as root

-- the tokens spell this module, it keeps the rules of the grammar within the limit of depth, and each place in it is that of its
-- token
pub record Spell (tokens : List Token) (tree : Module) : Type 0 where
  pub spells : kinds tokens ≡ module_words tree
  pub right : IsTrue (module_right TREE_DEPTH tree)
  pub placed : IsTrue (at_places (module_pieces tree) tokens)

-- what parsing these tokens comes to
abbrev pub ParsesTo : List Token → Root → Type 0
ParsesTo tokens (root.Module parsed) = Spell tokens parsed.tree
ParsesTo tokens (root.Broken refusal) = BreaksTokens tokens refusal

-- the text with these tokens breaks this rule at this place: it is that of the tokens, or that which kept it from being cut into
-- tokens
abbrev pub BreakIn : Tokens → Refusal → Type 0
BreakIn (Ok tokens) refusal = BreaksTokens tokens refusal
BreakIn (Err broken) refusal = refusal ≡ broken

-- the text with these tokens spells this module
abbrev pub SpellIn : Tokens → Module → Type 0
SpellIn (Ok tokens) tree = Spell tokens tree
SpellIn (Err broken) tree = ⊥

-- what reading a text with these tokens comes to
abbrev pub ReadsTo : Tokens → Root → Type 0
ReadsTo tokens (root.Module parsed) = SpellIn tokens parsed.tree
ReadsTo tokens (root.Broken refusal) = BreakIn tokens refusal

-- the text with these tokens spells a module
pub record SpellModule (tokens : Tokens) : Type 0 where
  pub tree : Module
  pub spelled : SpellIn tokens tree

-- the text with these tokens spells a module with this list of commands
pub record ListModule (tokens : Tokens) (list : List ℕ) : Type 0 where
  pub tree : Module
  pub spelled : SpellIn tokens tree
  pub list_is : list ≡ command_text tree

-- the text, if it is there, has tokens, and they spell a module
abbrev pub SpellsModule : Option (List ℕ) → Type 0
SpellsModule None = ⊥
SpellsModule (Some text) = SpellModule (tokens_of 0 text)

-- the text, if it is there, spells a module with this list of commands
abbrev pub ListsModule : Option (List ℕ) → List ℕ → Type 0
ListsModule None list = ⊥
ListsModule (Some text) list = ListModule (tokens_of 0 text) list

-- the text, if it is there, breaks this rule at this place
abbrev pub Breaks : Option (List ℕ) → Refusal → Type 0
Breaks None refusal = ⊥
Breaks (Some text) refusal = BreakIn (tokens_of 0 text) refusal
