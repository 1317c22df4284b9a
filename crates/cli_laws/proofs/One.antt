-- What is loaded of a text is one model.
use Rattle.std.proofs.Common.{◌≡◌, ℕ, List, [], ◌∷◌, map, Some, refl, sym, subst}
use Rattle.std.specs.Prelude.{Result, Ok, Err, Option}
use Rattle.base_types.specs.Texts.{Texts}
use Rattle.base_types.specs.declared.limits.TheConstants.{TREE_DEPTH}
use Rattle.base_types.specs.declared.place.Refusal.{Refusal}
use Rattle.syntax_lexer.specs.Tokens.{Tokens, tokens_of}
use Rattle.syntax_tree.specs.declared.instance.Instance.{Instance}
use Rattle.syntax_tree.specs.declared.instance.Text.{Text}
use Rattle.syntax_tree.specs.declared.loaded.Loaded.{Loaded}
use Rattle.syntax_tree.specs.declared.module.Module.{Module}
use Rattle.syntax_single.specs.Single.{TokensHaveOneModule}
use Rattle.load_modules.specs.Led.{OpensTold, IsTextOf}
use Rattle.load_modules.specs.Numbered.{NumberedTold, AreNumberedIn}
use Rattle.load_modules.specs.Reading.{IsModuleOf}
use Rattle.load_modules.specs.Told.{LoadsTree, LoadsGiven, AreTexts}
use Rattle.load_state.specs.Leads.{AllLed}
use Rattle.load_laws.specs.One.{TextsHaveOneModule}
use Rattle.load_laws.specs.Unique.{IsLoad, LoadsAreUnique}
use Rattle.cli_model.specs.Loads.{IsLoaded, IsLoadedText}
use Rattle.cli_model.specs.Root.{SpellIn}
use Rattle.cli_laws.specs.Loaded.{LoadedModelsAreOne, GivenModelsAreOne}

-- tokens spell one module
one_tree : TokensHaveOneModule → (tokens : Tokens) (m n : Module) → SpellIn tokens m → SpellIn tokens n → m ≡ n
one_tree law (Ok tokens) m n a b = law TREE_DEPTH tokens m n (a.right, a.spells, a.placed) (b.right, b.spells, b.placed)
one_tree law (Err broken) m n a b = absurd a

texts_of : (told : List Texts) (root : List ℕ) (tree : Module) (texts : List Text) → LoadsTree (map Some told) root tree texts → AreTexts told root (λ m. m ≡ tree) texts
unfolding LoadsTree
texts_of told root tree texts loads = loads told refl

opens_of : (told : List Texts) (root : List ℕ) (texts : List Text) (instances : List Instance) → OpensTold (map Some told) root texts instances → AllLed (IsTextOf told root texts) instances texts
unfolding OpensTold
opens_of told root texts instances opens = opens told refl

numbers_of : (told : List Texts) (root : List ℕ) (texts : List Text) (instances : List Instance) → NumberedTold (map Some told) root texts instances → AreNumberedIn told root texts instances
unfolding NumberedTold
numbers_of told root texts instances numbered = numbered told refl

load_of : (told : List Texts) (file text : List ℕ) (a : Loaded) (loaded : IsLoaded (map Some told) file text a) → IsLoad told file loaded.tree a.texts a.instances
load_of told file text a loaded = record {
  texts = texts_of told file loaded.tree a.texts loaded.texts;
  opens = opens_of told file a.texts a.instances loaded.opens;
  named = loaded.named;
  distinct = loaded.distinct;
  reached = loaded.reached;
  numbered = numbers_of told file a.texts a.instances loaded.numbered;
}

pub one : TokensHaveOneModule → LoadsAreUnique → LoadedModelsAreOne
one trees law told file text a b left right =
    let same : right.tree ≡ left.tree = one_tree trees (tokens_of 0 text) right.tree left.tree right.spelled left.spelled in
    law told file left.tree a.texts b.texts a.instances b.instances (load_of told file text a left)
    (subst (λ (m : Module). IsLoad told file m b.texts b.instances) same (load_of told file text b right))

-- the module of the text that comes first
record IsFirst (told : List Texts) (name text : List ℕ) (texts : List Text) : Type 0 where
  first : Module
  read : IsModuleOf text 0 first
  loads : AreTexts told name (λ m. m ≡ first) texts

first_of : (told : List Texts) (name text : List ℕ) (texts : List Text) → AreTexts told name (IsModuleOf text 0) texts → IsFirst told name text texts
first_of told name text [] texts = absurd texts
first_of told name text (t ∷ ts) texts = record { first = t.tree; read = texts.1; loads = (texts.0, refl, texts.2) }

given_texts : (told : List Texts) (name text : List ℕ) (texts : List Text) → LoadsGiven (map Some told) name text texts → AreTexts told name (IsModuleOf text 0) texts
unfolding LoadsGiven
given_texts told name text texts loads = loads told refl

given_load : (told : List Texts) (name text : List ℕ) (a : Loaded) (loaded : IsLoadedText (map Some told) name text a) (tree : Module) → AreTexts told name (λ m. m ≡ tree) a.texts → IsLoad told name tree a.texts a.instances
given_load told name text a loaded tree texts = record {
  texts = texts;
  opens = opens_of told name a.texts a.instances loaded.opens;
  named = loaded.named;
  distinct = loaded.distinct;
  reached = loaded.reached;
  numbered = numbers_of told name a.texts a.instances loaded.numbered;
}

pub given_one : TextsHaveOneModule → LoadsAreUnique → GivenModelsAreOne
given_one trees law told name text a b left right =
    let one : IsFirst told name text a.texts = first_of told name text a.texts (given_texts told name text a.texts left.texts) in
    let other : IsFirst told name text b.texts = first_of told name text b.texts (given_texts told name text b.texts right.texts) in
    let same : other.first ≡ one.first = trees text 0 other.first one.first other.read one.read in
    law told name one.first a.texts b.texts a.instances b.instances (given_load told name text a left one.first one.loads)
    (subst (λ (m : Module). IsLoad told name m b.texts b.instances) same (given_load told name text b right other.first other.loads))
