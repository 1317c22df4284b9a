-- Lemmas that give the data of a tree over a `Vec` by the items of the `Vec`.
use Rattle.std.proofs.Common.{◌≡◌, map, refl, ap, ◌∙◌, Vec, Box, Global}
use Rattle.core_tree.specs.declared.operators.Quantity.{Quantity}
use Rattle.core_tree.specs.declared.tree.Variable.{Variable}
use Rattle.core_tree.specs.declared.tree.Formula.{Formula, Every, Every', ForAll, ForAll', Counted, Counted', Call as CallFormula, Call' as CallFormula', Row_of-Formula, end_of-Formula, more_of-Formula, items-the_row-Formula, items_hidden-the_row-Formula-2}
use Rattle.core_tree.specs.declared.tree.Expr.{Expr, Comprehension, Comprehension', Sum, Sum', Call as CallExpr, Call' as CallExpr', Row_of-Variable, end_of-Variable, more_of-Variable, Row_of-Expr, end_of-Expr, more_of-Expr, items-the_row-Expr, items-the_row-Variable, items_hidden-the_row-Expr-1, items_hidden-the_row-Variable-0}
use Rattle.core_tree.specs.Trees.{Term, Claim, more_terms, more_variables, more_claims, every, for_all, counted, call_claim, comprehension, sum_over, call_term, term_of, terms_of, variables_of, claim_of, claims_of, variable_of, term_list, variable_list, claim_list}

pub terms_by_items : {m : _} → (es : Row_of-Expr m) → terms_of es ≡ term_list (map term_of (items-the_row-Expr m es))
terms_by_items end_of-Expr = refl
terms_by_items (more_of-Expr e rest) = ap (more_terms (term_of e)) (terms_by_items rest)

pub variables_by_items : {m : _} → (vs : Row_of-Variable m) → variables_of vs ≡ variable_list (map variable_of (items-the_row-Variable m vs))
variables_by_items end_of-Variable = refl
variables_by_items (more_of-Variable x apart e rest) = ap (more_variables x apart (term_of e)) (variables_by_items rest)

pub claims_by_items : {m : _} → (fs : Row_of-Formula m) → claims_of fs ≡ claim_list (map claim_of (items-the_row-Formula m fs))
claims_by_items end_of-Formula = refl
claims_by_items (more_of-Formula f rest) = ap (more_claims (claim_of f)) (claims_by_items rest)

-- a formula whose row is written by its items
abbrev by_items : Formula → Claim
by_items (Every' shape fs) = every (claim_list (map claim_of (items-the_row-Formula _ fs)))
by_items (ForAll' shape vs p f) = for_all (variable_list (map variable_of (items-the_row-Variable _ vs))) (claim_of f)
by_items (Counted' q shape vs p f) = counted q (variable_list (map variable_of (items-the_row-Variable _ vs))) (claim_of f)
by_items (CallFormula' body shape es) = call_claim body (term_list (map term_of (items-the_row-Expr _ es)))
by_items f = claim_of f

claim_by_items : (f : Formula) → claim_of f ≡ by_items f
claim_by_items (Every' shape fs) = ap every (claims_by_items fs)
claim_by_items (ForAll' shape vs p f) = ap (λ ws. for_all ws (claim_of f)) (variables_by_items vs)
claim_by_items (Counted' q shape vs p f) = ap (λ ws. counted q ws (claim_of f)) (variables_by_items vs)
claim_by_items (CallFormula' body shape es) = ap (call_claim body) (terms_by_items es)
claim_by_items f = refl

pub every_is : (v : Vec Formula Global) → claim_of (Every v) ≡ every (claim_list (map claim_of v.items))
every_is v = claim_by_items (Every v) ∙ ap (λ fs. every (claim_list (map claim_of fs))) (items_hidden-the_row-Formula-2 v)

pub for_all_is : (v : Vec Variable Global) (b : Box Formula Global) → claim_of (ForAll v b) ≡ for_all (variable_list (map variable_of v.items)) (claim_of b.value)
for_all_is v b = claim_by_items (ForAll v b) ∙ ap (λ vs. for_all (variable_list (map variable_of vs)) (claim_of b.value)) (items_hidden-the_row-Variable-0 v)

pub counted_is : (q : Quantity) (v : Vec Variable Global) (b : Box Formula Global) → claim_of (Counted q v b) ≡ counted q (variable_list (map variable_of v.items)) (claim_of b.value)
counted_is q v b = claim_by_items (Counted q v b) ∙ ap (λ vs. counted q (variable_list (map variable_of vs)) (claim_of b.value)) (items_hidden-the_row-Variable-0 v)

pub call_claim_is : (body : _) (v : Vec Expr Global) → claim_of (CallFormula body v) ≡ call_claim body (term_list (map term_of v.items))
call_claim_is body v = claim_by_items (CallFormula body v) ∙ ap (λ es. call_claim body (term_list (map term_of es))) (items_hidden-the_row-Expr-1 v)

abbrev term_by_rows : Expr → Term
term_by_rows (Comprehension' shape vs p f) = comprehension (variable_list (map variable_of (items-the_row-Variable _ vs))) (claim_of f)
term_by_rows (Sum' shape vs p e) = sum_over (variable_list (map variable_of (items-the_row-Variable _ vs))) (term_of e)
term_by_rows (CallExpr' body shape es) = call_term body (term_list (map term_of (items-the_row-Expr _ es)))
term_by_rows e = term_of e

term_by_items : (e : Expr) → term_of e ≡ term_by_rows e
term_by_items (Comprehension' shape vs p f) = ap (λ ws. comprehension ws (claim_of f)) (variables_by_items vs)
term_by_items (Sum' shape vs p e) = ap (λ ws. sum_over ws (term_of e)) (variables_by_items vs)
term_by_items (CallExpr' body shape es) = ap (call_term body) (terms_by_items es)
term_by_items e = refl

pub comprehension_is : (v : Vec Variable Global) (b : Box Formula Global) → term_of (Comprehension v b) ≡ comprehension (variable_list (map variable_of v.items)) (claim_of b.value)
comprehension_is v b = term_by_items (Comprehension v b) ∙ ap (λ vs. comprehension (variable_list (map variable_of vs)) (claim_of b.value)) (items_hidden-the_row-Variable-0 v)

pub sum_over_is : (v : Vec Variable Global) (b : Box Expr Global) → term_of (Sum v b) ≡ sum_over (variable_list (map variable_of v.items)) (term_of b.value)
sum_over_is v b = term_by_items (Sum v b) ∙ ap (λ vs. sum_over (variable_list (map variable_of vs)) (term_of b.value)) (items_hidden-the_row-Variable-0 v)

pub call_term_is : (body : _) (v : Vec Expr Global) → term_of (CallExpr body v) ≡ call_term body (term_list (map term_of v.items))
call_term_is body v = term_by_items (CallExpr body v) ∙ ap (λ es. call_term body (term_list (map term_of es))) (items_hidden-the_row-Expr-1 v)
