-- What the parser reads from a text.
use Rattle.std.proofs.Common.{◌≡◌, ◌&&◌, ◌<◌, ◌≤◌, ◌-◌, ℕ, List, [], ◌∷◌, ◌++◌, Option, IsTrue, nat_le, length, take, drop, sym, subst, ap, ◌∙◌, arith, take_all}
use Rattle.std.proofs.lemmas.Bool.{leb-true}
use Rattle.std.proofs.lemmas.List.{length-map, take-append-drop, take-append-le, take-map, take-take}
use Rattle.syntax_tree.specs.declared.expr.Expr.{Expr}
use Rattle.syntax_tree.specs.declared.module.Module.{Module}
use Rattle.syntax_tree.specs.declared.operator.Multiplicity.{Multiplicity}
use Rattle.syntax_tree.specs.declared.token.Token.{Token}
use Rattle.syntax_tree.specs.Words.{Spelled, multiplicity_words}
use Rattle.syntax_tree.specs.Spelling.{kinds, spelling, EndsWell}
use Rattle.syntax_tree.specs.Levels.{is_bound}
use Rattle.syntax_tree.specs.Depth.{depth_of}
use Rattle.syntax_tree.specs.ModuleRules.{value_right, block_right, module_right}
use Rattle.syntax_tree.specs.ModuleWords.{module_words}
use Rattle.syntax_machine.specs.declared.thread.Root.{Root}
use Rattle.syntax_machine.specs.declared.thread.Root.TheVariants as root
use Rattle.syntax_expr.specs.Reads.{Spells}
use Rattle.syntax_completion.specs.Longer.{IsLonger}
use Rattle.syntax_parser.specs.Begins.{Begins}

pub ends_some : (ts : List Token) → EndsWell ts → 0 < length ts
ends_some [] h = absurd h
ends_some (t ∷ ts) h = omega arith

read_front : (text : List Token) (least next : ℕ) (words : Spelled) → Spells text 0 next words → least ≤ next → words ≡ take least (kinds text) ++ drop least words
read_front text least next words spells le =
    let all : next ≡ next - 0 = omega arith in
    let whole : kinds (take next text) ≡ words = ap (λ (n : ℕ). kinds (take n text)) all ∙ spells.same in
    let front : take least words ≡ take least (kinds text) =
    ap (λ (ws : Spelled). take least ws) (sym whole ∙ sym (take-map (λ (u : Token). u.kind) next text)) ∙ take-take least next (kinds text) le in
    sym (take-append-drop least words) ∙ ap (λ (ws : Spelled). ws ++ drop least words) front

pub expr_read : (depth : ℕ) (text : List Token) (least next : ℕ) (tree : Expr) → Spells text 0 next (spelling tree) → IsTrue (value_right depth tree) → IsTrue (nat_le least next) → Begins root.Expr depth (take least (kinds text))
expr_read depth text least next tree spells right le = (tree, drop least (spelling tree), right, read_front text least next (spelling tree) spells (leb-true least next le))

pub bound_read : (depth : ℕ) (text : List Token) (least next : ℕ) (word : Option Multiplicity) (tree : Expr) → Spells text 0 next (multiplicity_words word ++ spelling tree) → IsTrue (is_bound tree && nat_le (depth_of tree) depth) → IsTrue (nat_le least next) →
    Begins root.Bound depth (take least (kinds text))
bound_read depth text least next word tree spells right le =
    let words : Spelled = multiplicity_words word ++ spelling tree in
    (word, tree, drop least words, right, read_front text least next words spells (leb-true least next le))

pub block_read : (depth : ℕ) (text : List Token) (least next : ℕ) (tree : Expr) → Spells text 0 next (spelling tree) → IsTrue (block_right depth tree) → IsTrue (nat_le least next) → Begins root.Block depth (take least (kinds text))
block_read depth text least next tree spells right le = (tree, drop least (spelling tree), right, read_front text least next (spelling tree) spells (leb-true least next le))

pub module_read : (depth : ℕ) (text : List Token) (least : ℕ) (m : Module) → kinds text ≡ module_words m → IsTrue (module_right depth m) → Begins root.Module depth (take least (kinds text))
module_read depth text least m spells right = (m, drop least (kinds text), right, sym spells ∙ sym (take-append-drop least (kinds text)))

-- the first tokens of a longer text
pub begins_front : (of : Root) (depth : ℕ) (tokens text given : List Token) → IsLonger tokens text → given ≡ text → Begins of depth (take (length tokens) (kinds given)) → Begins of depth (kinds tokens)
begins_front of depth tokens text given longer same begins =
    let long : length (kinds tokens) ≡ length tokens = length-map tokens (λ (u : Token). u.kind) in
    let front : take (length tokens) (kinds given) ≡ kinds tokens =
    ap (λ (ts : List Token). take (length tokens) (kinds ts)) same
    ∙ (ap (λ (ks : Spelled). take (length tokens) ks) longer.1
    ∙ (take-append-le (length tokens) (kinds tokens) longer.0 (omega (arith, long)) ∙ take_all (length tokens) (kinds tokens) (omega (arith, long)))) in
    subst (λ (ws : Spelled). Begins of depth ws) front begins
