-- Formulas under variables, by the lists that hold the variables.
use Rattle.std.proofs.Common.{◌≡◌, ◌∙◌, ℕ, List, [], ◌∷◌, ◌++◌, map, ap, Vec, Box, Global}
use Rattle.core_tree.specs.declared.tree.Variable.{Variable}
use Rattle.core_tree.specs.declared.tree.Formula.{Formula, ForAll}
use Rattle.core_tree.specs.declared.tree.Expr.{Sig}
use Rattle.core_tree.proofs.RowLemmas.{for_all_is}
use Rattle.core_tree.specs.Trees.{sig, for_all, no_variables, more_variables, claim_of, variable_of, variable_list}

-- a variable bound by a sig
abbrev pub over : ℕ → ℕ → Variable
over x s = record { name = x; apart = x; bound = Sig s }

pub each_is : (v : Vec Variable Global) (b : Box Formula Global) (start : List Variable) (s : ℕ) (g : Formula) → start ≡ [] → v.items ≡ start ++ over 0 s ∷ [] → b.value ≡ g → claim_of (ForAll v b) ≡ for_all (more_variables 0 0 (sig s) no_variables) (claim_of g)
each_is v b start s g none items value =
    for_all_is v b
    ∙ ap (λ vs. for_all (variable_list (map variable_of vs)) (claim_of b.value)) (items ∙ ap (λ k. k ++ over 0 s ∷ []) none)
    ∙ ap (λ h. for_all (more_variables 0 0 (sig s) no_variables) (claim_of h)) value

pub two_are : (v : Vec Variable Global) (b : Box Formula Global) (start mid : List Variable) (s : ℕ) (g : Formula) → start ≡ [] → mid ≡ start ++ over 0 s ∷ [] → v.items ≡ mid ++ over 1 s ∷ [] → b.value ≡ g → claim_of (ForAll v b) ≡ for_all (more_variables 0 0 (sig s) (more_variables 1 1 (sig s) no_variables)) (claim_of g)
two_are v b start mid s g none first items value =
    for_all_is v b
    ∙ ap (λ vs. for_all (variable_list (map variable_of vs)) (claim_of b.value)) (items ∙ ap (λ k. k ++ over 1 s ∷ []) (first ∙ ap (λ k. k ++ over 0 s ∷ []) none))
    ∙ ap (λ h. for_all (more_variables 0 0 (sig s) (more_variables 1 1 (sig s) no_variables)) (claim_of h)) value
