-- A text has one list of tokens, and these have one module.
use Rattle.std.proofs.Common.{◌≡◌, List, sym, subst, ◌∙◌}
use Rattle.std.specs.Prelude.{Result, Ok}
use Rattle.base_types.specs.declared.place.Refusal.{Refusal}
use Rattle.base_types.specs.declared.limits.TheConstants.{TREE_DEPTH}
use Rattle.syntax_tree.specs.declared.token.Token.{Token}
use Rattle.syntax_single.specs.Single.{TokensHaveOneModule, HasModule}
use Rattle.load_laws.specs.One.{TextsHaveOneModule}

same_tokens : (a b : List Token) → ◌≡◌ {A = Result (List Token) Refusal} (Ok a) (Ok b) → a ≡ b
same_tokens a b h = cc

pub one : TokensHaveOneModule → TextsHaveOneModule
one law bytes number m n a b = law TREE_DEPTH a.tokens m n (a.right, a.spelled, a.placed)
    (subst (λ tokens. HasModule TREE_DEPTH tokens n) (same_tokens b.tokens a.tokens (sym b.cut ∙ a.cut)) (b.right, b.spelled, b.placed))
