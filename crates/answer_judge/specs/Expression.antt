-- Why an expression is refused, and what is read of one.
use Rattle.std.specs.Prelude.{◌≡◌, ◌⊎◌, ◌≤◌, ◌+◌, ℕ, true, List, [], length, take, Some, Ok, IsTrue, slice_get}
use Rattle.base_types.specs.declared.limits.TheConstants.{MODULE_BYTES, TREE_DEPTH}
use Rattle.base_types.specs.declared.place.Position.{Position}
use Rattle.base_types.specs.declared.place.Refusal.{Refusal}
use Rattle.base_types.specs.declared.place.Rule.TheVariants.{LargeFile}
use Rattle.syntax_tree.specs.declared.expr.Expr.{Expr as Written}
use Rattle.syntax_tree.specs.declared.loaded.Loaded.{Loaded}
use Rattle.syntax_tree.specs.declared.token.Token.{Token}
use Rattle.syntax_tree.specs.ModuleRules.{value_right}
use Rattle.syntax_tree.specs.Spelling.{kinds, spelling}
use Rattle.syntax_lexer.specs.Tokens.{tokens_of}
use Rattle.syntax_places.specs.Pieces.{pieces, at_places}
use Rattle.syntax_machine.specs.declared.thread.Root.TheVariants as root
use Rattle.syntax_parser.specs.Refuses.{Stops}
use Rattle.resolve_check.specs.Kept.{IsRightValue}
use Rattle.resolve_model.specs.Refused.{is_of_readings}
use Rattle.resolve_names.specs.Gathered.{scopes_of}
use Rattle.resolve_picks.specs.declared.picks.Picks.{Picks}
use Rattle.resolve_read.specs.declared.types.Types.{Types}
use Rattle.resolve_told_sigs.specs.Says.{SaysValue as IsValue}
use Rattle.core_tree.specs.Trees.{Term, term_of}
use Rattle.core_tree.specs.declared.model.Model.{Model}
use Rattle.bound_definitions.specs.Refusals.{IsValueKept, IsValueRefusal}
use Rattle.answer_judge.specs.declared.expression.ReadValue.{ReadValue}
use Rattle.answer_judge.specs.declared.expression.ReadValue.TheVariants.{Tree, Refused}

-- a text that is too long, by its number
abbrev pub large_text : ℕ → Refusal
large_text number = record { rule = LargeFile; place = record { «module» = number; line = 1; column = 1 } }

-- what is asked of the value that is read, where one is
abbrev pub IfTree : ReadValue → (Term → Type 0) → Type 0
IfTree (Tree value) P = P (term_of value)
IfTree (Refused refusal) P = Unit {0}

-- The expression says this value in the root of what is loaded, outside of all sigs, where declarations have these types: each of its
-- names stands for what the reading of the expression chooses.
abbrev pub SaysValue : Loaded → Model → Types → Written → Term → Type 0
SaysValue loaded model types tree value = (picks : Picks) × IsValue (scopes_of loaded.texts loaded.instances) model types picks 0 tree value

-- The tokens but the last, which ends each list of them, spell this expression; it keeps the rules of the grammar within the limit of
-- depth, and each place in it is that of its token.
pub record SpellValue (tokens : List Token) (tree : Written) : Type 0 where
  pub end : ℕ
  pub last : end + 1 ≡ length tokens
  pub spells : kinds (take end tokens) ≡ spelling tree
  pub right : IsTrue (value_right TREE_DEPTH tree)
  pub placed : IsTrue (at_places (pieces tree) (take end tokens))

-- what the tokens spell says this value in the root
pub record TokensSay (loaded : Loaded) (model : Model) (types : Types) (tokens : List Token) (value : Term) : Type 0 where
  pub tree : Written
  pub spelt : SpellValue tokens tree
  pub says : SaysValue loaded model types tree value

-- what the text spells, in whose places this number stands, says this value in the root
pub record TextSays (loaded : Loaded) (model : Model) (types : Types) (number : ℕ) (text : List ℕ) (value : Term) : Type 0 where
  pub short : length text ≤ MODULE_BYTES
  pub tokens : List Token
  pub cut : tokens_of number text ≡ Ok tokens
  pub say : TokensSay loaded model types tokens value

-- the tokens spell an expression, and this is so of it and of the place of the first of them
pub record SpeltAt (tokens : List Token) (P : Written → Position → Type 0) : Type 0 where
  pub tree : Written
  pub spelt : SpellValue tokens tree
  pub first : Token
  pub at : slice_get tokens 0 ≡ Some first
  pub is : P tree first.place

-- what a value comes to under a bitwidth, where the first token of its expression stands there: the value itself, which breaks no rule
-- on numbers, past operators or depth; or the first of these that it breaks, at its first place
abbrev pub IsChecked : Model → ℕ → Term → Position → ReadValue → Type 0
IsChecked model bits value first (Tree tree) = (term_of tree ≡ value) × IsValueKept model bits value first
IsChecked model bits value first (Refused refusal) = IsValueRefusal model bits value first refusal

module _ (loaded : Loaded) (model : Model) (types : Types) (bits : ℕ) where
  -- the value of the model that an expression says, which keeps these rules
  pub record IsReadValue (tree : Written) (first : Position) (value : Term) : Type 0 where
    pub right : IsRightValue model value
    pub says : SaysValue loaded model types tree value
    pub kept : IsValueKept model bits value first

  -- the value of the model that an expression says breaks one of these rules, and this is its refusal
  pub record RefusesValue (tree : Written) (first : Position) (refusal : Refusal) : Type 0 where
    pub value : Term
    pub right : IsRightValue model value
    pub says : SaysValue loaded model types tree value
    pub breaks : IsValueRefusal model bits value first refusal

  -- why an expression is refused: by a rule on names and readings, or as its value
  abbrev pub RefusesSpelt : Written → Position → Refusal → Type 0
  RefusesSpelt tree first refusal = (is_of_readings refusal.rule ≡ true) ⊎ RefusesValue tree first refusal

  -- what is read of an expression: its value, or why there is none
  abbrev pub IsReadAt : Written → Position → ReadValue → Type 0
  IsReadAt tree first (Tree value) = IsReadValue tree first (term_of value)
  IsReadAt tree first (Refused refusal) = RefusesSpelt tree first refusal

  -- why tokens are refused: at the least of them at which no expression goes on, or as the expression that they spell
  abbrev pub RefusesTokens : List Token → Refusal → Type 0
  RefusesTokens tokens refusal = Stops root.Expr tokens refusal ⊎ SpeltAt tokens (λ tree first. RefusesSpelt tree first refusal)

  -- what is read of tokens
  abbrev pub IsReadOf : List Token → ReadValue → Type 0
  IsReadOf tokens (Tree value) = SpeltAt tokens (λ tree first. IsReadValue tree first (term_of value))
  IsReadOf tokens (Refused refusal) = RefusesTokens tokens refusal
