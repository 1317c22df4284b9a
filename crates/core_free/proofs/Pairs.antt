-- Trees over lists are the same where their lists and parts are.
use Rattle.std.proofs.Common.{◌≡◌, ◌<◌, ◌+◌, ℕ, List, ◌++◌, [], ◌∷◌, map, take, length, get_or, sym, ap, ap₂, ◌∙◌, Vec, Box, Global}
use Rattle.std.proofs.lemmas.List.{take_more, map-append}
use Rattle.core_tree.specs.declared.tree.Variable.{Variable}
use Rattle.core_tree.specs.declared.tree.Formula.{Formula, Every, ForAll}
use Rattle.core_tree.specs.declared.tree.Expr.{Expr, Comprehension, Sum}
use Rattle.core_tree.specs.Trees.{Term, Claim, Binder, every, for_all, comprehension, sum_over, term_of, claim_of, variable_of, variable_list, claim_list}
use Rattle.core_tree.proofs.RowLemmas.{every_is, for_all_is, comprehension_is, sum_over_is}

-- what is made of equal lists, as they were lent
lent : {X Y : Type 0} (f : X → Y) (v w s t : List X) → s ≡ v → t ≡ w → map f s ≡ map f t → map f v ≡ map f w
lent {X} f v w s t is at same = ap (λ (ys : List X). map f ys) (sym is) ∙ same ∙ ap (λ (ys : List X). map f ys) at

pub every_same : (v w : Vec Formula Global) (s t : List Formula) → s ≡ v.items → t ≡ w.items → map claim_of s ≡ map claim_of t → claim_of (Every v) ≡ claim_of (Every w)
every_same v w s t is at same = every_is v ∙ ap (λ (fs : List Claim). every (claim_list fs)) (lent claim_of v.items w.items s t is at same) ∙ sym (every_is w)

pub for_all_same : (v w : Vec Variable Global) (s t : List Variable) (a b : Box Formula Global) (f g : Formula) → s ≡ v.items → t ≡ w.items → f ≡ a.value → g ≡ b.value → map variable_of s ≡ map variable_of t → claim_of f ≡ claim_of g → claim_of (ForAll v a) ≡ claim_of (ForAll w b)
for_all_same v w s t a b f g is at part other same alike =
    for_all_is v a ∙ ap₂ (λ (vs : List Binder) (c : Claim). for_all (variable_list vs) c) (lent variable_of v.items w.items s t is at same) (ap claim_of (sym part) ∙ alike ∙ ap claim_of other) ∙ sym (for_all_is w b)

pub comprehension_same : (v w : Vec Variable Global) (s t : List Variable) (a b : Box Formula Global) (f g : Formula) → s ≡ v.items → t ≡ w.items → f ≡ a.value → g ≡ b.value → map variable_of s ≡ map variable_of t → claim_of f ≡ claim_of g → term_of (Comprehension v a) ≡ term_of (Comprehension w b)
comprehension_same v w s t a b f g is at part other same alike =
    comprehension_is v a ∙ ap₂ (λ (vs : List Binder) (c : Claim). comprehension (variable_list vs) c) (lent variable_of v.items w.items s t is at same) (ap claim_of (sym part) ∙ alike ∙ ap claim_of other) ∙ sym (comprehension_is w b)

pub sum_same : (v w : Vec Variable Global) (s t : List Variable) (a b : Box Expr Global) (e f : Expr) → s ≡ v.items → t ≡ w.items → e ≡ a.value → f ≡ b.value → map variable_of s ≡ map variable_of t → term_of e ≡ term_of f → term_of (Sum v a) ≡ term_of (Sum w b)
sum_same v w s t a b e f is at part other same alike =
    sum_over_is v a ∙ ap₂ (λ (vs : List Binder) (c : Term). sum_over (variable_list vs) c) (lent variable_of v.items w.items s t is at same) (ap term_of (sym part) ∙ alike ∙ ap term_of other) ∙ sym (sum_over_is w b)

-- a turn of a loop over both
pub turn : {X Y : Type 0} (f : X → Y) (xs ys : List X) (i next : ℕ) (x y : X) → next ≡ i + 1 → i < length xs → i < length ys → x ≡ get_or xs i x → y ≡ get_or ys i y → map f (take i xs) ≡ map f (take i ys) → f x ≡ f y → map f (take next xs) ≡ map f (take next ys)
turn {X} f xs ys i next x y one lt below is at same alike =
    ap (λ (n : ℕ). map f (take n xs)) one ∙ last xs x lt is ∙ ap₂ (λ zs z. zs ++ z ∷ []) same alike ∙ sym (last ys y below at) ∙ ap (λ (n : ℕ). map f (take n ys)) (sym one)
  where
    last : (zs : List X) (z : X) → i < length zs → z ≡ get_or zs i z → map f (take (i + 1) zs) ≡ map f (take i zs) ++ f z ∷ []
    last zs z less found = ap (λ (l : List X). map f l) (take_more zs i z less) ∙ map-append f (take i zs) (get_or zs i z ∷ []) ∙ ap (λ (o : X). map f (take i zs) ++ f o ∷ []) (sym found)
