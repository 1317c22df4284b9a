-- The least token at which no text goes on.
use Rattle.std.proofs.Common.{◌≡◌, ◌+◌, ℕ, zero, suc, List, [], ◌∷◌, Option, Some, None, IfSome, nat_le, take, drop, refl, sym, subst, ap, ◌∙◌}
use Rattle.std.proofs.lemmas.Bool.{and_parts}
use Rattle.std.proofs.lemmas.List.{take-map, take-append-drop}
use Rattle.syntax_tree.specs.declared.token.Token.{Token}
use Rattle.syntax_tree.specs.Words.{Spelled}
use Rattle.syntax_tree.specs.Spelling.{kinds}
use Rattle.syntax_tree.specs.Levels.{is_level_right, is_bound, is_right_block}
use Rattle.syntax_tree.specs.Depth.{depth_of}
use Rattle.syntax_machine.specs.declared.thread.Root.{Root}
use Rattle.syntax_machine.specs.declared.thread.Root.TheVariants as root
use Rattle.syntax_machine.specs.Deaths.{NoneBegins}
use Rattle.syntax_parser.specs.Begins.{Begins}
use Rattle.syntax_parser.specs.Refuses.{RightModulesAreTaken}

-- what begins with the tokens before this one
pub begins_before : (of : Root) (depth : ℕ) (tokens front : List Token) (number : ℕ) → front ≡ take number tokens → Begins of depth (kinds front) → Begins of depth (take number (kinds tokens))
begins_before of depth tokens front number is begins =
    subst (λ (ws : Spelled). Begins of depth ws) (ap (λ (ts : List Token). kinds ts) is ∙ sym (take-map (λ (t : Token). t.kind) number tokens)) begins

-- what no thread is left of doesn't begin so
pub none_within : (of : Root) (depth : ℕ) (words : Spelled) → NoneBegins of (Some depth) words → Begins of depth words → ⊥
none_within root.Expr depth words none (tree, more, right, is) =
    let both = and_parts (is_level_right tree) (nat_le (depth_of tree) depth) right in
    none tree more both.0 both.1 is
none_within root.Bound depth words none (word, tree, more, right, is) =
    let both = and_parts (is_bound tree) (nat_le (depth_of tree) depth) right in
    none word tree more both.0 both.1 is
none_within root.Block depth words none (tree, more, right, is) =
    let both = and_parts (is_right_block tree) (nat_le (depth_of tree) depth) right in
    none tree more both.0 both.1 is
none_within root.Module depth words none (m, more, right, is) = none depth m more refl right is

none_ever : (of : Root) (words : Spelled) → NoneBegins of None words → (depth : ℕ) → Begins of depth words → ⊥
none_ever root.Expr words none depth (tree, more, right, is) = none tree more (and_parts (is_level_right tree) (nat_le (depth_of tree) depth) right).0 refl is
none_ever root.Bound words none depth (word, tree, more, right, is) = none word tree more (and_parts (is_bound tree) (nat_le (depth_of tree) depth) right).0 refl is
none_ever root.Block words none depth (tree, more, right, is) = none tree more (and_parts (is_right_block tree) (nat_le (depth_of tree) depth) right).0 refl is
none_ever root.Module words none depth (m, more, right, is) = none depth m more tt right is

-- a death of this number
pub none_at : (of : Root) (words : Spelled) (death : Option ℕ) (number : ℕ) → death ≡ Some number → IfSome death (λ n. NoneBegins of None (take (n + 1) words)) →
    (depth : ℕ) → Begins of depth (take (number + 1) words) → ⊥
none_at of words death number is none =
    none_ever of (take (number + 1) words) (subst (λ (o : Option ℕ). IfSome o (λ n. NoneBegins of None (take (n + 1) words))) is none)

-- what stands before this place of what stands before it
take_twice : {X : Type 0} (n : ℕ) (xs : List X) → take n (take n xs) ≡ take n xs
take_twice zero xs = refl
take_twice (suc n) [] = refl
take_twice (suc n) (x ∷ xs) = ap (λ (ys : List _). x ∷ ys) (take_twice n xs)

-- what doesn't begin with the tokens up to this one, of those up to it, doesn't of all
pub none_before : (of : Root) (tokens front : List Token) (number : ℕ) → front ≡ take number tokens → ((depth : ℕ) → Begins of depth (take number (kinds front)) → ⊥) →
    (depth : ℕ) → Begins of depth (take number (kinds tokens)) → ⊥
none_before of tokens front number is none =
    let same : kinds front ≡ take number (kinds tokens) = ap (λ (ts : List Token). kinds ts) is ∙ sym (take-map (λ (t : Token). t.kind) number tokens) in
    subst (λ (ws : Spelled). (depth : ℕ) → Begins of depth ws → ⊥) (ap (λ (ws : Spelled). take number ws) same ∙ take_twice number (kinds tokens)) none

pub right_taken : RightModulesAreTaken
right_taken tokens m refusal spells right breaks =
    let next : ℕ = breaks.number + 1 in
    breaks.ends (m, drop next (kinds tokens), right, sym spells ∙ sym (take-append-drop next (kinds tokens)))
