-- Trees over equal parts are equal.
use Rattle.std.proofs.Common.{◌≡◌, map, ap, sym, ◌∙◌, Vec, Box, Global}
use Rattle.core_tree.specs.declared.operators.Quantity.{Quantity}
use Rattle.core_tree.specs.declared.tree.Variable.{Variable}
use Rattle.core_tree.specs.declared.tree.Formula.{Formula, Every, ForAll, Counted, Call as CallFormula}
use Rattle.core_tree.specs.declared.tree.Expr.{Expr, Comprehension, Sum, Call as CallExpr}
use Rattle.core_tree.specs.Trees.{every, for_all, counted, call_claim, comprehension, sum_over, call_term, term_of, claim_of, variable_of, term_list, variable_list, claim_list}
use Rattle.core_tree.proofs.RowLemmas.{every_is, for_all_is, counted_is, call_claim_is, comprehension_is, sum_over_is, call_term_is}

pub every_same : (v u : Vec Formula Global) → map claim_of v.items ≡ map claim_of u.items → claim_of (Every v) ≡ claim_of (Every u)
every_same v u e = every_is v ∙ ap (λ fs. every (claim_list fs)) e ∙ sym (every_is u)

pub for_all_same : (v u : Vec Variable Global) (b c : Box Formula Global) → map variable_of v.items ≡ map variable_of u.items → claim_of b.value ≡ claim_of c.value → claim_of (ForAll v b) ≡ claim_of (ForAll u c)
for_all_same v u b c e h = for_all_is v b ∙ ap (λ vs. for_all (variable_list vs) (claim_of b.value)) e ∙ ap (for_all (variable_list (map variable_of u.items))) h ∙ sym (for_all_is u c)

pub counted_same : (q : Quantity) (v u : Vec Variable Global) (b c : Box Formula Global) → map variable_of v.items ≡ map variable_of u.items → claim_of b.value ≡ claim_of c.value → claim_of (Counted q v b) ≡ claim_of (Counted q u c)
counted_same q v u b c e h = counted_is q v b ∙ ap (λ vs. counted q (variable_list vs) (claim_of b.value)) e ∙ ap (counted q (variable_list (map variable_of u.items))) h ∙ sym (counted_is q u c)

pub call_claim_same : (body : _) (v u : Vec Expr Global) → map term_of v.items ≡ map term_of u.items → claim_of (CallFormula body v) ≡ claim_of (CallFormula body u)
call_claim_same body v u e = call_claim_is body v ∙ ap (λ es. call_claim body (term_list es)) e ∙ sym (call_claim_is body u)

pub comprehension_same : (v u : Vec Variable Global) (b c : Box Formula Global) → map variable_of v.items ≡ map variable_of u.items → claim_of b.value ≡ claim_of c.value → term_of (Comprehension v b) ≡ term_of (Comprehension u c)
comprehension_same v u b c e h = comprehension_is v b ∙ ap (λ vs. comprehension (variable_list vs) (claim_of b.value)) e ∙ ap (comprehension (variable_list (map variable_of u.items))) h ∙ sym (comprehension_is u c)

pub sum_over_same : (v u : Vec Variable Global) (b c : Box Expr Global) → map variable_of v.items ≡ map variable_of u.items → term_of b.value ≡ term_of c.value → term_of (Sum v b) ≡ term_of (Sum u c)
sum_over_same v u b c e h = sum_over_is v b ∙ ap (λ vs. sum_over (variable_list vs) (term_of b.value)) e ∙ ap (sum_over (variable_list (map variable_of u.items))) h ∙ sym (sum_over_is u c)

pub call_term_same : (body : _) (v u : Vec Expr Global) → map term_of v.items ≡ map term_of u.items → term_of (CallExpr body v) ≡ term_of (CallExpr body u)
call_term_same body v u e = call_term_is body v ∙ ap (λ es. call_term body (term_list es)) e ∙ sym (call_term_is body u)
