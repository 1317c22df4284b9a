-- The refusals of an expression that a mode evaluates.
use Rattle.std.proofs.Common.{◌≡◌, ◌∙◌, ◌<◌, ◌≤◌, ℕ, List, length, Ok, Err, Some, option_map, codes, refl, sym, ap, subst, inl, inr}
use Rattle.std.specs.Prelude.{slice_get}
use Rattle.base_types.specs.declared.limits.TheConstants.{MODULE_BYTES}
use Rattle.base_types.specs.declared.place.Refusal.{Refusal}
use Rattle.syntax_lexer.specs.Tokens.{tokens_of}
use Rattle.syntax_tree.specs.declared.instance.Text.{Text}
use Rattle.syntax_tree.specs.declared.loaded.Loaded.{Loaded}
use Rattle.syntax_tree.specs.declared.token.Token.{Token}
use Rattle.answer_analysis.specs.declared.ready.Ready.{Ready}
use Rattle.answer_judge.specs.Expression.{large_text, RefusesTokens, TextSays}
use Rattle.core_tree.specs.Trees.{term_of}
use Rattle.resolve_read.specs.declared.types.Types.{Types}
use Rattle.core_tree.specs.declared.model.Model.{Model}
use Rattle.core_tree.specs.declared.tree.Expr.{Expr}
use Rattle.cli_model.specs.Model.{RefusesAt}
use Rattle.cli_model.specs.Refused.{BreaksExpression}
use Rattle.cli_model.specs.declared.answer.Answer.TheVariants.{Refused}

-- a refusal at a place of a loaded text
pub named_at : (loaded : Loaded) (refusal : Refusal) (text : Text) (name : List ℕ) → slice_get loaded.texts refusal.place.module ≡ Some text → name ≡ text.name → RefusesAt loaded refusal (Refused refusal name)
named_at loaded refusal text name get at = record {
  name = name;
  is = refl;
  named = inl (ap (option_map (λ (t : Text). t.name)) get ∙ ap (λ n. Some n) (sym at));
}

-- a refusal at a place behind all loaded texts
pub beside_all : (loaded : Loaded) (refusal : Refusal) (name : List ℕ) → length loaded.texts ≤ refusal.place.module → name ≡ codes "expr" → RefusesAt loaded refusal (Refused refusal name)
beside_all loaded refusal name past at = record { name = name; is = refl; named = inr (past, at) }

-- what was read of the text of an expression, which has the next number behind those of the loaded texts
pub breaks_of : (ready : Ready) (expression text : List ℕ) (number : ℕ) (refusal : Refusal) → text ≡ expression → number ≡ length ready.loaded.texts →
    (MODULE_BYTES < length text → refusal ≡ large_text number) → ((broken : Refusal) → length text ≤ MODULE_BYTES → tokens_of number text ≡ Err broken → refusal ≡ broken) →
    ((tokens : List Token) → length text ≤ MODULE_BYTES → tokens_of number text ≡ Ok tokens → RefusesTokens ready.loaded ready.model ready.readings.types ready.scopes.bits tokens refusal) →
    BreaksExpression ready expression refusal
breaks_of ready expression text number refusal same count large cut told = record {
  large = λ over. large (subst (λ (b : List ℕ). MODULE_BYTES < length b) (sym same) over) ∙ ap large_text count;
  cut = λ broken short cuts. cut broken (subst (λ (b : List ℕ). length b ≤ MODULE_BYTES) (sym same) short)
      (subst (λ (n : ℕ). tokens_of n text ≡ Err broken) (sym count) (subst (λ (b : List ℕ). tokens_of (length ready.loaded.texts) b ≡ Err broken) (sym same) cuts));
  told = λ tokens short cuts. told tokens (subst (λ (b : List ℕ). length b ≤ MODULE_BYTES) (sym same) short)
      (subst (λ (n : ℕ). tokens_of n text ≡ Ok tokens) (sym count) (subst (λ (b : List ℕ). tokens_of (length ready.loaded.texts) b ≡ Ok tokens) (sym same) cuts));
}

-- the same of what the text says
pub says_of : (loaded : Loaded) (model : Model) (types : Types) (number count : ℕ) (text expression : List ℕ) (v w : Expr) → number ≡ count → text ≡ expression → v ≡ w →
    TextSays loaded model types number text (term_of v) → TextSays loaded model types count expression (term_of w)
says_of loaded model types number count text expression v w counted same are says =
    subst (λ (e : Expr). TextSays loaded model types count expression (term_of e)) are
    (subst (λ (b : List ℕ). TextSays loaded model types count b (term_of v)) same (subst (λ (n : ℕ). TextSays loaded model types n text (term_of v)) counted says))
