-- What the text of an expression says of a model is one value.
use Rattle.std.proofs.Common.{◌≡◌, ◌∙◌, ℕ, ◌+◌, Bool, true, false, List, length, take, Option, Some, Ok, refl, sym, ap, subst, arith}
use Rattle.std.specs.Prelude.{IsTrue, ◌&&◌}
use Rattle.std.proofs.lemmas.Option.{same_Some}
use Rattle.base_types.specs.declared.limits.TheConstants.{TREE_DEPTH}
use Rattle.syntax_lexer.specs.Tokens.{Tokens, tokens_of}
use Rattle.syntax_tree.specs.Levels.{is_level_right}
use Rattle.syntax_tree.specs.Spelling.{kinds, spelling}
use Rattle.syntax_tree.specs.declared.expr.Expr.{Expr}
use Rattle.syntax_tree.specs.declared.loaded.Loaded.{Loaded}
use Rattle.syntax_tree.specs.declared.token.Token.{Token}
use Rattle.syntax_places.specs.Pieces.{pieces, at_places}
use Rattle.syntax_single.specs.Single.{HasTree, TokensHaveOneTree}
use Rattle.core_tree.specs.declared.model.Model.{Model}
use Rattle.core_tree.specs.declared.model.Sig.{Sig}
use Rattle.core_tree.specs.Trees.{Term}
use Rattle.form_skolem.specs.Opened.{IsOpened, as_it_was, with_fields}
use Rattle.resolve_names.specs.Gathered.{scopes_of}
use Rattle.resolve_read.specs.declared.types.Types.{Types}
use Rattle.resolve_told_literals.specs.Told.{LabelsDiffer}
use Rattle.resolve_told_sigs.specs.Says.{SaysValue}
use Rattle.resolve_laws.specs.One.{ValuesAreOne}
use Rattle.answer_analysis.specs.Found.{IsReady}
use Rattle.answer_analysis.specs.declared.ready.Ready.{Ready}
use Rattle.answer_judge.specs.Expression.{SpellValue, TextSays, TokensSay}
use Rattle.cli_model.specs.Model.{IsAsked}
use Rattle.cli_model.specs.Ready.{IsModelOf}
use Rattle.cli_laws.specs.Asked.{AskedValuesAreOne}

-- an opened model has the sigs that it had
same_sigs : (model : Model) (number : ℕ) (opened : Model) → IsOpened model number opened → opened.sigs ≡ model.sigs
same_sigs model number opened (as_it_was none same) = ap (λ (m : Model). m.sigs) same
same_sigs model number opened (with_fields b has over) = over.sigs

-- no two sigs of a model that was made ready have one label
differ : (number : ℕ) (ready : Ready) → IsReady number ready → LabelsDiffer ready.model.sigs
differ number ready is =
    let opened = is.opened in
    subst LabelsDiffer (sym (same_sigs opened.resolved number ready.model opened.opens)) opened.of_texts.literals.differ

first_of : (a b : Bool) → IsTrue (a && b) → IsTrue a
first_of true b is = refl
first_of false b is = is

-- the tokens of an expression that spell a tree have it
has_tree : (tokens : List Token) (tree : Expr) (spelt : SpellValue tokens tree) → HasTree (take spelt.end tokens) tree
has_tree tokens tree spelt = (first_of _ _ spelt.right, spelt.spells, spelt.placed)

one_tree : TokensHaveOneTree → (tokens : List Token) (t u : Expr) → SpellValue tokens t → SpellValue tokens u → t ≡ u
one_tree law tokens t u first second =
    let ends : second.end ≡ first.end = omega (arith, first.last, second.last) in
    law (take first.end tokens) t u (has_tree tokens t first) (subst (λ (n : ℕ). HasTree (take n tokens) u) ends (has_tree tokens u second))

one_token_list : (a b : List Token) (cut : Tokens) → cut ≡ Ok a → cut ≡ Ok b → a ≡ b
one_token_list a b cut first second = cc (first, second)

module _ (trees : TokensHaveOneTree) (values : ValuesAreOne) (loaded : Loaded) (model : Model) (types : Types) (labels : LabelsDiffer model.sigs) where
  of_tokens : (tokens : List Token) (v w : Term) → TokensSay loaded model types tokens v → TokensSay loaded model types tokens w → v ≡ w
  of_tokens tokens v w first second =
      let same : second.tree ≡ first.tree = one_tree trees tokens second.tree first.tree second.spelt first.spelt in
      values (scopes_of loaded.texts loaded.instances) model types first.says.0 second.says.0 0 first.tree v w labels (first_of _ _ first.spelt.right) first.says.1
      (subst (λ (e : Expr). SaysValue (scopes_of loaded.texts loaded.instances) model types second.says.0 0 e w) same second.says.1)

  of_text : (number : ℕ) (text : List ℕ) (v w : Term) → TextSays loaded model types number text v → TextSays loaded model types number text w → v ≡ w
  of_text number text v w first second =
      let same : second.tokens ≡ first.tokens = one_token_list second.tokens first.tokens (tokens_of number text) second.cut first.cut in
      of_tokens first.tokens v w first.say (subst (λ (ts : List Token). TokensSay loaded model types ts w) same second.say)

pub one_value : TokensHaveOneTree → ValuesAreOne → AskedValuesAreOne
one_value trees values loaded number ready given v w made first second =
    let same : second.expression ≡ first.expression = same_Some second.expression first.expression (sym second.is ∙ first.is) in
    let model = ready.model in
    let types = ready.readings.types in
    of_text trees values ready.loaded model types (differ number ready made.ready) (length ready.loaded.texts) first.expression v w first.says
    (subst (λ (text : List ℕ). TextSays ready.loaded model types (length ready.loaded.texts) text w) same second.says)
