-- What a refusal of a list of tokens says.
use Rattle.std.specs.Prelude.{◌≡◌, ℕ, ◌+◌, Bool, true, false, IsTrue, List, Some, take, slice_get, ⊤}
use Rattle.base_types.specs.declared.fault.Fault.{Fault}
use Rattle.base_types.specs.declared.fault.Fault.TheVariants as fault
use Rattle.base_types.specs.declared.limits.TheConstants.{TREE_DEPTH}
use Rattle.base_types.specs.declared.place.Refusal.{Refusal}
use Rattle.base_types.specs.declared.place.Rule.{Rule}
use Rattle.base_types.specs.declared.place.Rule.TheVariants as rule
use Rattle.syntax_tree.specs.declared.module.Module.{Module}
use Rattle.syntax_tree.specs.declared.token.Token.{Token}
use Rattle.syntax_tree.specs.ModuleRules.{module_right}
use Rattle.syntax_tree.specs.ModuleWords.{module_words}
use Rattle.syntax_tree.specs.Spelling.{kinds}
use Rattle.syntax_tree.specs.Words.{Spelled}
use Rattle.syntax_machine.specs.declared.thread.Root.{Root}
use Rattle.syntax_machine.specs.declared.thread.Root.TheVariants as root
use Rattle.syntax_parser.specs.Begins.{Begins}

-- the two rules that the grammar has
abbrev pub is_of_grammar : Rule → Bool
is_of_grammar rule.Syntax = true
is_of_grammar rule.TooDeep = true
is_of_grammar _ = false

-- under `Syntax` no text of any depth begins with these words, and under `TooDeep` some text does
abbrev pub AccordsWith : Rule → Root → Spelled → Type 0
AccordsWith rule.Syntax kind words = (depth : ℕ) → Begins kind depth words → ⊥
AccordsWith rule.TooDeep kind words = (depth : ℕ) × Begins kind depth words
AccordsWith _ kind words = ⊥

-- A refusal is under a rule of the grammar, at the least token at which no text of this kind goes on: some right text within the
-- limit of depth begins with the tokens before it, and none with those up to it.
pub record Stops (kind : Root) (tokens : List Token) (refusal : Refusal) : Type 0 where
  pub number : ℕ
  pub token : Token
  pub there : slice_get tokens number ≡ Some token
  pub same : refusal.place ≡ token.place
  pub begins : Begins kind TREE_DEPTH (take number (kinds tokens))
  pub ends : Begins kind TREE_DEPTH (take (number + 1) (kinds tokens)) → ⊥
  pub grammar : IsTrue (is_of_grammar refusal.rule)
  pub accords : AccordsWith refusal.rule kind (take (number + 1) (kinds tokens))

-- the same where there is no tree, or memory was wanting
abbrev pub IsOfTokens : Root → List Token → Fault → Type 0
IsOfTokens kind tokens fault.Memory = ⊤
IsOfTokens kind tokens (fault.Refused refusal) = Stops kind tokens refusal

-- these tokens of a module break this rule at this place
abbrev pub BreaksTokens : List Token → Refusal → Type 0
BreaksTokens tokens refusal = Stops root.Module tokens refusal

-- no module that keeps the rules of the grammar is refused
abbrev pub RightModulesAreTaken : Type 0
RightModulesAreTaken = (tokens : List Token) (m : Module) (refusal : Refusal) → kinds tokens ≡ module_words m → IsTrue (module_right TREE_DEPTH m) → BreaksTokens tokens refusal → ⊥
