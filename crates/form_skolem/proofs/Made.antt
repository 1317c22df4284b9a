-- What the formulas that are made say, as data.
use Rattle.std.proofs.Common.{◌≡◌, ℕ, ◌+◌, ◌-◌, ◌<◌, ◌≤◌, List, [], ◌∷◌, ◌++◌, map, take, drop, reverse, length, get_or, Option, Some, None, refl, ap, sym, ◌∙◌, append_assoc, Vec, Box, Global}
use Rattle.std.proofs.lemmas.List.{append-nil, map-append, drop_all, take_more, length-reverse, get_or-reverse}
use Rattle.std.proofs.lemmas.Bool.{false≢true}
use Rattle.std.specs.Prelude.{◌==◌, false}
use Rattle.core_tree.specs.declared.model.Parameter.{Parameter}
use Rattle.core_tree.specs.declared.operators.Quantity.TheVariants.{Some as SomeOf}
use Rattle.core_tree.specs.declared.tree.Variable.{Variable}
use Rattle.core_tree.specs.declared.tree.Formula.{Formula, Every, Counted, Let, Call}
use Rattle.core_tree.specs.declared.tree.Expr.{Expr, Field}
use Rattle.core_tree.specs.Trees.{Term, Claim, counted, every, let_claim, call_claim, field, term_of, claim_of, variable_of, term_list, claim_list, variable_list}
use Rattle.core_tree.proofs.RowLemmas.{every_is, counted_is, call_claim_is}
use Rattle.form_skolem.specs.Claims.{arguments, some_of, lies_in, are_apart, apart_from, field_claim, call}
use Rattle.form_skolem.specs.Steps.{binders}

-- all arguments are there
arguments_end : (place : ℕ) (fs : List (Option ℕ)) (es all : List Term) → length fs ≤ place → es ++ arguments place (drop place fs) ≡ all → es ≡ all
arguments_end place fs es all end e = sym (append-nil es) ∙ ap (λ gs. es ++ arguments place gs) (sym (drop_all place fs end)) ∙ e

pub call_made : (body place : ℕ) (fs : List (Option ℕ)) (v : Vec Expr Global) → length fs ≤ place → map term_of v.items ++ arguments place (drop place fs) ≡ arguments 0 fs → claim_of (Call body v) ≡ call body fs
call_made body place fs v end e = call_claim_is body v ∙ ap (λ es. call_claim body (term_list es)) (arguments_end place fs (map term_of v.items) (arguments 0 fs) end e)

apart_both : (f : ℕ) (gs hs : List (Option ℕ)) → apart_from f (gs ++ hs) ≡ apart_from f gs ++ apart_from f hs
apart_both f [] hs = refl
apart_both f (None ∷ gs) hs = apart_both f gs hs
apart_both f (Some g ∷ gs) hs = ap (λ cs. are_apart g f ∷ cs) (apart_both f gs hs)

pub apart_more : (f back : ℕ) (xs : List (Option ℕ)) (old done new : List Claim) → back < length xs →
    done ≡ old ++ apart_from f (take back (reverse xs)) → new ≡ done ++ apart_from f (get_or xs (length xs - 1 - back) None ∷ []) → new ≡ old ++ apart_from f (take (back + 1) (reverse xs))
apart_more f back xs old done new low before next =
    let other : Option ℕ = get_or xs (length xs - 1 - back) None in
    let within : back < length (reverse xs) = rw length-reverse low in
    let more : take (back + 1) (reverse xs) ≡ take back (reverse xs) ++ other ∷ [] = take_more (reverse xs) back None within ∙ ap (λ x. take back (reverse xs) ++ x ∷ []) (get_or-reverse xs back None low) in
    next ∙ ap (λ cs. cs ++ apart_from f (other ∷ [])) before ∙ append_assoc old (apart_from f (take back (reverse xs))) (apart_from f (other ∷ []))
    ∙ ap (λ cs. old ++ cs) (sym (apart_both f (take back (reverse xs)) (other ∷ [])) ∙ ap (apart_from f) (sym more))

pub atoms_made : (first : ℕ) (ps : List Parameter) (v : Vec Variable Global) (b : Box Formula Global) (after : Formula) → false ≡ (length ps == 0) → map variable_of v.items ≡ binders first ps → b.value ≡ after →
    claim_of (Counted SomeOf v b) ≡ some_of (binders first ps) (claim_of after)
atoms_made first [] v b after some e same = absurd (false≢true some)
atoms_made first (p ∷ ps) v b after some e same = counted_is SomeOf v b ∙ ap (λ vs. counted SomeOf (variable_list vs) (claim_of b.value)) e ∙ ap (λ (f : Formula). counted SomeOf (variable_list (binders first (p ∷ ps))) (claim_of f)) same

pub field_made : (k f : ℕ) (p : Parameter) (earlier : List (Option ℕ)) (inside after : Formula) (v : Vec Formula Global) (parts : List Formula) (value : Box Expr Global) (rest : Box Formula Global) →
    claim_of inside ≡ lies_in f p → map claim_of parts ≡ claim_of inside ∷ apart_from f (take p.apart earlier) → v.items ≡ parts ++ Let k value rest ∷ [] →
    value.value ≡ Field f → rest.value ≡ after → claim_of (Every v) ≡ field_claim k f p earlier (claim_of after)
field_made k f p earlier inside after v parts value rest lies apart all named same =
    let last : claim_of (Let k value rest) ≡ let_claim k (field f) (claim_of after) = ap (λ (e : Expr). let_claim k (term_of e) (claim_of rest.value)) named ∙ ap (λ (g : Formula). let_claim k (field f) (claim_of g)) same in
    every_is v ∙ ap (λ cs. every (claim_list cs)) (ap (map claim_of) all ∙ map-append claim_of parts (Let k value rest ∷ []) ∙ ap (λ cs. cs ++ claim_of (Let k value rest) ∷ []) apart
    ∙ ap (λ (c : Claim). c ∷ (apart_from f (take p.apart earlier) ++ claim_of (Let k value rest) ∷ [])) lies
    ∙ ap (λ (c : Claim). lies_in f p ∷ (apart_from f (take p.apart earlier) ++ c ∷ [])) last)
