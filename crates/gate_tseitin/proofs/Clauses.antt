-- The clauses of an `and`: each of its nodes is true where the output is, and the output where all are.
use Rattle.std.proofs.Common.{◌≡◌, ℕ, zero, suc, ◌+◌, ◌<◌, ◌≤◌, Bool, true, false, not, ◌&&◌, ◌||◌, List, [], ◌∷◌, ◌++◌, length, take, get_or, refl, sym, ◌∙◌, ap, subst, arith, All}
use Rattle.std.proofs.lemmas.List.{take_all}
use Rattle.std.proofs.lemmas.List.Folds.{list_any-append, list_all_more}
use Rattle.std.proofs.lemmas.List.Elements.{All-nil, All-push}
use Rattle.gate_trait.specs.declared.node.Node.{Node}
use Rattle.gate_trait.specs.NodeWords.{number_of, is_negated}
use Rattle.gate_trait.specs.Built.{xor}
use Rattle.gate_trait.specs.Circuit.{value_among}
use Rattle.gate_tseitin.specs.Named.{any_node, alike}
use Rattle.gate_tseitin.specs.Shown.{all_nodes}

-- the negation of a node has the other value
pub opposite_value : (vs : List Bool) (n m : Node) → number_of m ≡ number_of n → is_negated m ≡ not (is_negated n) → value_among vs m ≡ not (value_among vs n)
opposite_value vs n m number negated =
    ap (λ (k : ℕ). xor (is_negated m) (get_or vs k false)) number
    ∙ ap (λ (b : Bool). xor b (get_or vs (number_of n) false)) negated
    ∙ by_cases (is_negated n) (get_or vs (number_of n) false)
  where
    by_cases : (b c : Bool) → xor (not b) c ≡ not (xor b c)
    by_cases true true = refl
    by_cases true false = refl
    by_cases false true = refl
    by_cases false false = refl

pub two_there : (a b : Node) (m : ℕ) → number_of a < m → number_of b < m → All (λ d. number_of d < m) (a ∷ b ∷ [])
two_there a b m h i zero d lt = h
two_there a b m h i (suc zero) d lt = i
two_there a b m h i (suc (suc k)) d lt = absurd (omega arith)

-- at first nothing is said of the nodes
pub said_first : (p o : Bool) → p ≡ p && (not o || true)
said_first true true = refl
said_first true false = refl
said_first false o = refl

-- one more clause of two literals
pub said_more : (vs : List Bool) (output opposite : Node) (nodes : List Node) (i : ℕ) (d : Node) (start before now : Bool) → i < length nodes → number_of opposite ≡ number_of output → is_negated opposite ≡ not (is_negated output) → before ≡ start && (not (value_among vs output) || all_nodes vs (take i nodes)) → now ≡ before && any_node vs (opposite ∷ get_or nodes i d ∷ []) → now ≡ start && (not (value_among vs output) || all_nodes vs (take (i + 1) nodes))
said_more vs output opposite nodes i d start before now lt number negated h is =
    let o = value_among vs output in
    let n = value_among vs (get_or nodes i d) in
    let l = all_nodes vs (take i nodes) in
    is ∙ ap (λ (b : Bool). b && (value_among vs opposite || (n || false))) h
    ∙ ap (λ (b : Bool). (start && (not o || l)) && (b || (n || false))) (opposite_value vs output opposite number negated)
    ∙ by_cases start o l n
    ∙ ap (λ (b : Bool). start && (not o || b)) (sym (list_all_more (value_among vs) nodes i d lt))
  where
    by_cases : (s o l n : Bool) → (s && (not o || l)) && (not o || (n || false)) ≡ s && (not o || (l && n))
    by_cases false o l n = refl
    by_cases true false l n = refl
    by_cases true true false n = refl
    by_cases true true true true = refl
    by_cases true true true false = refl

-- and the long clause has one node more
pub long_more : (vs : List Bool) (output opposite : Node) (long new nodes : List Node) (i : ℕ) (d : Node) → i < length nodes → number_of opposite ≡ number_of (get_or nodes i d) → is_negated opposite ≡ not (is_negated (get_or nodes i d)) → new ≡ long ++ opposite ∷ [] → any_node vs long ≡ value_among vs output || not (all_nodes vs (take i nodes)) → any_node vs new ≡ value_among vs output || not (all_nodes vs (take (i + 1) nodes))
long_more vs output opposite long new nodes i d lt number negated is h =
    let o = value_among vs output in
    let n = value_among vs (get_or nodes i d) in
    let l = all_nodes vs (take i nodes) in
    ap (λ (ns : List Node). any_node vs ns) is ∙ list_any-append (value_among vs) long (opposite ∷ [])
    ∙ ap (λ (b : Bool). b || (value_among vs opposite || false)) h
    ∙ ap (λ (b : Bool). (o || not l) || (b || false)) (opposite_value vs (get_or nodes i d) opposite number negated)
    ∙ by_cases o l n
    ∙ ap (λ (b : Bool). o || not b) (sym (list_all_more (value_among vs) nodes i d lt))
  where
    by_cases : (o l n : Bool) → (o || not l) || (not n || false) ≡ o || not (l && n)
    by_cases true l n = refl
    by_cases false false n = refl
    by_cases false true true = refl
    by_cases false true false = refl

-- with the long clause the output is true just where all nodes are
pub said_all : (vs : List Bool) (output : Node) (long nodes : List Node) (i : ℕ) (start before now : Bool) → length nodes ≤ i → before ≡ start && (not (value_among vs output) || all_nodes vs (take i nodes)) → any_node vs long ≡ value_among vs output || not (all_nodes vs (take i nodes)) → now ≡ before && any_node vs long → now ≡ start && alike (value_among vs output) (all_nodes vs nodes)
said_all vs output long nodes i start before now over h whole is =
    let o = value_among vs output in
    let l = all_nodes vs (take i nodes) in
    is ∙ ap (λ (b : Bool). b && any_node vs long) h
    ∙ ap (λ (b : Bool). (start && (not o || l)) && b) whole
    ∙ by_cases start o l
    ∙ ap (λ (ns : List Node). start && alike o (all_nodes vs ns)) (take_all i nodes over)
  where
    by_cases : (s o l : Bool) → (s && (not o || l)) && (o || not l) ≡ s && alike o l
    by_cases false o l = refl
    by_cases true true true = refl
    by_cases true true false = refl
    by_cases true false true = refl
    by_cases true false false = refl

pub there_more : (m : ℕ) (long new : List Node) (n : Node) → new ≡ long ++ n ∷ [] → number_of n < m → All (λ d. number_of d < m) long → All (λ d. number_of d < m) new
there_more m long new n is lt all = subst (λ (ns : List Node). All (λ (d : Node). number_of d < m) ns) (sym is) (All-push (λ (d : Node). number_of d < m) long n all lt)

-- the long clause begins with the output
pub long_first : (vs : List Bool) (output : Node) (none long : List Node) → none ≡ [] → long ≡ none ++ output ∷ [] → any_node vs long ≡ value_among vs output || not true
long_first vs output none long h is = ap (λ (ns : List Node). any_node vs ns) (is ∙ ap (λ (ns : List Node). ns ++ output ∷ []) h)

pub there_first : (m : ℕ) (none long : List Node) (n : Node) → none ≡ [] → long ≡ none ++ n ∷ [] → number_of n < m → All (λ d. number_of d < m) long
there_first m none long n h is lt = there_more m none long n is lt (subst (λ (ns : List Node). All (λ (d : Node). number_of d < m) ns) (sym h) (All-nil (λ (d : Node). number_of d < m)))
