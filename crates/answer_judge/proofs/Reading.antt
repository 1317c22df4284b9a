-- What is read of the tokens of an expression.
use Rattle.std.proofs.Common.{◌≡◌, ℕ, zero, suc, ◌<◌, ◌≤◌, List, [], ◌∷◌, length, get_or, Result, Ok, Err, Some, IfOk, slice_get, inr, sym, ap, subst, arith}
use Rattle.std.specs.declared.alloc.AllocError.{AllocError}
use Rattle.base_types.specs.declared.limits.TheConstants.{MODULE_BYTES}
use Rattle.base_types.specs.declared.place.Position.{Position}
use Rattle.syntax_tree.specs.declared.expr.Expr.{Expr as Written}
use Rattle.syntax_tree.specs.declared.loaded.Loaded.{Loaded}
use Rattle.syntax_tree.specs.declared.token.Token.{Token}
use Rattle.syntax_lexer.specs.Tokens.{tokens_of}
use Rattle.core_tree.specs.declared.model.Model.{Model}
use Rattle.core_tree.specs.Trees.{Term, term_of}
use Rattle.resolve_check.specs.Kept.{IsRightValue}
use Rattle.resolve_read.specs.declared.types.Types.{Types}
use Rattle.bound_definitions.specs.Refusals.{IsValueKept}
use Rattle.answer_judge.specs.Expression.{IfTree, IsChecked, IsReadAt, IsReadOf, SaysValue, SpellValue, TextSays, TokensSay}
use Rattle.answer_judge.specs.declared.expression.ReadValue.{ReadValue}
use Rattle.answer_judge.specs.declared.expression.ReadValue.TheVariants.{Tree, Refused}

item_there : (tokens : List Token) (k : ℕ) (token : Token) → k < length tokens → token ≡ get_or tokens k token → slice_get tokens k ≡ Some token
item_there [] k token lt item = absurd (omega (arith, lt))
item_there (x ∷ tokens) zero token lt item = ap Some (sym item)
item_there (x ∷ tokens) (suc k) token lt item = item_there tokens k token (omega (arith, lt)) item

module _ (loaded : Loaded) (model : Model) (types : Types) (bits : ℕ) where
  module _ (tree : Written) (first : Position) (value : Term) (right : IsRightValue model value) (says : SaysValue loaded model types tree value) where
    one_checked : (read : ReadValue) → IsChecked model bits value first read → IsReadAt loaded model types bits tree first read
    one_checked (Tree v) is = record {
      right = subst (IsRightValue model) (sym is.0) right;
      says = subst (SaysValue loaded model types tree) (sym is.0) says;
      kept = subst (λ (t : Term). IsValueKept model bits t first) (sym is.0) is.1;
    }
    one_checked (Refused refusal) is = inr (record { value = value; right = right; says = says; breaks = is })

    -- what is read of an expression that says a value, once this is checked
    pub checked_read : (r : Result ReadValue AllocError) → IfOk r (IsChecked model bits value first) → IfOk r (IsReadAt loaded model types bits tree first)
    checked_read (Ok read) is = one_checked read is
    checked_read (Err e) is = tt

  module _ (tokens : List Token) where
    read_one : (tree : Written) (first : Token) (read : ReadValue) → SpellValue tokens tree → slice_get tokens 0 ≡ Some first → IsReadAt loaded model types bits tree first.place read →
        IsReadOf loaded model types bits tokens read
    read_one tree first (Tree value) spelt at is = record { tree = tree; spelt = spelt; first = first; at = at; is = is }
    read_one tree first (Refused refusal) spelt at is = inr (record { tree = tree; spelt = spelt; first = first; at = at; is = is })

    -- what is read of the tokens of an expression
    pub read_first : (tree : Written) (first : Token) (r : Result ReadValue AllocError) → SpellValue tokens tree → 0 < length tokens → first ≡ get_or tokens 0 first →
        IfOk r (IsReadAt loaded model types bits tree first.place) → IfOk r (IsReadOf loaded model types bits tokens)
    read_first tree first (Ok read) spelt lt item is = read_one tree first read spelt (item_there tokens 0 first lt item) is
    read_first tree first (Err e) spelt lt item is = tt

    module _ (number : ℕ) (text : List ℕ) (short : length text ≤ MODULE_BYTES) (cut : tokens_of number text ≡ Ok tokens) where
      says_one : (read : ReadValue) → IsReadOf loaded model types bits tokens read → IfTree read (TextSays loaded model types number text)
      says_one (Tree value) is = record { short = short; tokens = tokens; cut = cut; say = record { tree = is.tree; spelt = is.spelt; says = is.is.says } }
      says_one (Refused refusal) is = tt

      -- what the text says that is cut into them
      pub says_text : (r : Result ReadValue AllocError) → IfOk r (IsReadOf loaded model types bits tokens) → IfOk r (λ read. IfTree read (TextSays loaded model types number text))
      says_text (Ok read) is = says_one read is
      says_text (Err e) is = tt
