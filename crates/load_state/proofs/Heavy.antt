-- The weights of the texts bound what is counted of a model.
use Rattle.std.proofs.Common.{◌≡◌, ℕ, zero, suc, ◌+◌, ◌<◌, ◌≤◌, List, [], ◌∷◌, ◌++◌, true, false, cond, length, map, ap, ap₂, sym, ◌∙◌, arith, length-append, Option, Some, None}
use Rattle.std.proofs.lemmas.List.{length-map, map-append}
use Rattle.std.proofs.lemmas.List.Sums.{sum_by-cons}
use Rattle.std.specs.Prelude.{slice_get}
use Rattle.std.specs.List.{flat_map, list_any}
use Rattle.std.specs.Str.{bytes_eq}
use Rattle.syntax_tree.specs.ModuleWords.{module_words}
use Rattle.syntax_tree.specs.Spelling.{kinds}
use Rattle.syntax_tree.specs.declared.module.Module.{Module}
use Rattle.syntax_tree.specs.declared.token.Token.{Token}
use Rattle.syntax_tree.specs.Instances.{sig_count, names_of, literals_of, distinct_count, name_count, literal_count}
use Rattle.syntax_tree.specs.declared.instance.Instance.{Instance}
use Rattle.syntax_tree.specs.declared.instance.Text.{Text}
use Rattle.syntax_tree.specs.declared.token.TokenKind.{TokenKind}
use Rattle.syntax_tree.specs.declared.token.TokenKind.TheVariants as kind
use Rattle.load_state.specs.Weights.{Weighs, weight_at, total_weight}

-- the literals of a token, and the names and literals of a text that may not be there, as the definitions have them
abbrev literal_in : TokenKind → List (List ℕ)
literal_in (kind.Literal text) = text ∷ []
literal_in _ = []

abbrev text_names : Option Text → ℕ
text_names None = 0
text_names (Some t) = names_of t.tree

abbrev text_literals : Option Text → List (List ℕ)
text_literals None = []
text_literals (Some t) = literals_of t.tree

one_at_most : (token : TokenKind) → length (literal_in token) ≤ 1
one_at_most (kind.Name name) = omega arith
one_at_most (kind.Number number) = omega arith
one_at_most (kind.Literal text) = omega arith
one_at_most (kind.Word word) = omega arith
one_at_most (kind.Symbol symbol) = omega arith
one_at_most kind.End = omega arith

-- a text has at most as many literals as tokens
literals_among : (words : List TokenKind) → length (flat_map literal_in words) ≤ length words
literals_among [] = omega arith
literals_among (word ∷ words) =
    let one = one_at_most word in
    let rest = literals_among words in
    rw length-append omega arith

-- so has a tree that the tokens spell
pub few_literals : (tokens : List Token) (tree : Module) → kinds tokens ≡ module_words tree → length (literals_of tree) ≤ length tokens
few_literals tokens tree same =
    let among = literals_among (module_words tree) in
    let many : length (module_words tree) ≡ length tokens = ap length (sym same) ∙ length-map tokens (λ (t : Token). t.kind) in
    omega arith

pub distinct_at_most : (texts : List (List ℕ)) → distinct_count texts ≤ length texts
distinct_at_most [] = omega arith
distinct_at_most (text ∷ texts) =
    let rest = distinct_at_most texts in
    elim (list_any (bytes_eq text) texts) as (λ found. cond found (distinct_count texts) (1 + distinct_count texts) ≤ suc (length texts)) [ true ↦ omega arith | false ↦ omega arith ]

pub Weighs_push : (texts : List Text) (weights : List ℕ) (text : Text) (weight : ℕ) → Weighs texts weights → names_of text.tree + length (literals_of text.tree) ≤ weight → Weighs (texts ++ text ∷ []) (weights ++ weight ∷ [])
Weighs_push [] [] text weight old bound = (bound, tt)
Weighs_push (t ∷ ts) (w ∷ ws) text weight old bound = (old.0, Weighs_push ts ws text weight old.1 bound)
Weighs_push [] (w ∷ ws) text weight old bound = absurd old
Weighs_push (t ∷ ts) [] text weight old bound = absurd old

weighs_at : (texts : List Text) (weights : List ℕ) (k : ℕ) → Weighs texts weights → text_names (slice_get texts k) + length (text_literals (slice_get texts k)) ≤ weight_at weights k
weighs_at [] [] k all = omega arith
weighs_at (t ∷ ts) (w ∷ ws) zero all = all.0
weighs_at (t ∷ ts) (w ∷ ws) (suc k) all = weighs_at ts ws k all.1
weighs_at [] (w ∷ ws) k all = absurd all
weighs_at (t ∷ ts) [] k all = absurd all

listed_at_most : (texts : List Text) (weights : List ℕ) (instances : List Instance) → Weighs texts weights → name_count texts instances + length (flat_map (λ i. text_literals (slice_get texts i.text)) instances) ≤ total_weight weights instances
listed_at_most texts weights [] all = omega arith
listed_at_most texts weights (i ∷ is) all =
    let one = weighs_at texts weights i.text all in
    let rest = listed_at_most texts weights is all in
    let names : name_count texts (i ∷ is) ≡ text_names (slice_get texts i.text) + name_count texts is = sum_by-cons (λ x. text_names (slice_get texts x.text)) i is in
    let weight : total_weight weights (i ∷ is) ≡ weight_at weights i.text + total_weight weights is = sum_by-cons (λ x. weight_at weights x.text) i is in
    let listed = length-append (text_literals (slice_get texts i.text)) (flat_map (λ x. text_literals (slice_get texts x.text)) is) in
    omega (arith, one, rest, names, weight, listed)

-- the names and the different literals of a model are together at most its weight
pub counted_at_most : (texts : List Text) (weights : List ℕ) (instances : List Instance) → Weighs texts weights → name_count texts instances + literal_count texts instances ≤ total_weight weights instances
counted_at_most texts weights instances all =
    let listed = listed_at_most texts weights instances all in
    let distinct = distinct_at_most (flat_map (λ i. text_literals (slice_get texts i.text)) instances) in
    omega arith

-- one text more is counted
pub count_next : (texts more : List Text) (sigs counts weights heavier : List ℕ) (text : Text) (n names weight tokens : ℕ) →
    sigs ≡ map (λ t. sig_count t.tree) texts → Weighs texts weights → more ≡ texts ++ text ∷ [] → counts ≡ sigs ++ n ∷ [] → heavier ≡ weights ++ weight ∷ [] →
    n ≡ sig_count text.tree → names ≡ names_of text.tree → weight ≡ names + tokens → length (literals_of text.tree) ≤ tokens →
    (counts ≡ map (λ t. sig_count t.tree) more) × Weighs more heavier
count_next texts more sigs counts weights heavier text n names weight tokens counted weighs is_more is_counts is_heavier is_n is_names is_weight few =
    rw (is_more, is_counts, is_heavier) (
      ap₂ (λ xs x. xs ++ x ∷ []) counted is_n ∙ sym (map-append (λ (t : Text). sig_count t.tree) texts (text ∷ [])),
      Weighs_push texts weights text weight weighs (omega (arith, is_names, is_weight, few)),
    )

-- what is counted stays below a limit that the total weight keeps
pub countable_by : (texts : List Text) (weights given : List ℕ) (instances all : List Instance) (total most : ℕ) → Weighs texts weights → given ≡ weights → all ≡ instances →
    total ≡ total_weight given all → total < most → name_count texts instances + literal_count texts instances < most
countable_by texts weights given instances all total most weighs is_given is_all is_total below =
    let total_is : total ≡ total_weight weights instances = is_total ∙ ap₂ total_weight is_given is_all in
    omega (arith, counted_at_most texts weights instances weighs, total_is, below)
