use Rattle.std.proofs.Common.{◌&&◌, ◌||◌, ◌∷◌, [], not, ap, ◌∙◌}
use Rattle.gate_matrix.specs.Matrices.{truth}
use Rattle.gate_matrix.proofs.BasicLemmas.{belong_kept}
use Rattle.gate_matrix.proofs.FoundLemmas.{truth_kept}
use Rattle.gate_closure.specs.declared.filters.Side.TheVariants.{First}
use Rattle.gate_closure.specs.Filters.{atom_at, IsOverridden}
use Rattle.gate_closure.proofs.FilterLaw.{means_made, filtered_made, override_means}
use Rattle.gate_closure.proofs.FilterLaw.{arity_made}
use Rattle.gate_closure.proofs.filters.override_by.Goals as goal

pub filtered-requires-clause-a_belongs : goal.filtered-requires-clause-a_belongs
filtered-requires-clause-a_belongs g c = belong_kept g.G.Gates.belongs g.G.Gates.node_value c.args.gates.now c.firsts.new.gates c.firsts.ensures.keeps c.args.a.now.entries c.requires.a_belongs

pub union-requires-clause-b_belongs : goal.union-requires-clause-b_belongs
union-requires-clause-b_belongs g c =
    belong_kept g.G.Gates.belongs g.G.Gates.node_value c.firsts.new.gates c.filtered.new.gates c.filtered.ensures.keeps c.args.b.now.entries
    (belong_kept g.G.Gates.belongs g.G.Gates.node_value c.args.gates.now c.firsts.new.gates c.firsts.ensures.keeps c.args.b.now.entries c.requires.b_belongs)

pub returns-clause-truth : goal.returns-clause-truth
returns-clause-truth g c =
    let value = g.G.Gates.node_value in
    let belongs = g.G.Gates.belongs in
    let first = c.args.gates.now in
    let mid = c.firsts.new.gates in
    let late = c.filtered.new.gates in
    let a = c.args.a.now in
    let b = c.args.b.now in
    let over = c.in_ok-over.over in
    let rest = c.in_ok-rest.rest in
    means_made c.union.result (value c.union.new.gates) (λ x t. (truth (value first x) a t && not (truth (value mid x) over (atom_at First t ∷ []))) || truth (value first x) b t) (λ x t. IsOverridden (value first x) a b t)
    (filtered_made c.union.result (value c.union.new.gates) (λ x t. truth (value late x) rest t || truth (value late x) b t) (λ x t. (truth (value first x) a t && not (truth (value mid x) over (atom_at First t ∷ []))) || truth (value first x) b t) c.union.ensures.truth
    (λ x t. ap (λ z. z || truth (value late x) b t) (c.in_ok-rest.ensures.truth x t ∙ ap (λ z. z && not (truth (value mid x) over (atom_at First t ∷ []))) (truth_kept belongs value first mid c.firsts.ensures.keeps a c.requires.a_belongs x t))
    ∙ ap (λ z. (truth (value first x) a t && not (truth (value mid x) over (atom_at First t ∷ []))) || z)
    (truth_kept belongs value mid late c.filtered.ensures.keeps b (belong_kept belongs value first mid c.firsts.ensures.keeps b.entries c.requires.b_belongs) x t
    ∙ truth_kept belongs value first mid c.firsts.ensures.keeps b c.requires.b_belongs x t)))
    (λ x t. override_means (value first x) a b t (truth (value mid x) over (atom_at First t ∷ [])) c.arity.ensures.matrix (c.in_ok-over.ensures.truth x (atom_at First t ∷ [])))

pub returns-clause-arity : goal.returns-clause-arity
returns-clause-arity g c = arity_made c.union.result c.in_ok-rest.rest.arity c.args.a.now.arity c.in_ok-rest.ensures.arity c.union.ensures.arity
