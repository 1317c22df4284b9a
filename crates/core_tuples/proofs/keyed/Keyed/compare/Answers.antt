use Rattle.std.proofs.Common.{◌≡◌, ℕ, List, All, ap, ◌∙◌, subst}
use Rattle.std.specs.Ordering.{nat_cmp}
use Rattle.core_tuples.specs.Index.{IsNumber, index_of}
use Rattle.core_tuples.proofs.IndexLaw.{index_order}
use Rattle.core_tuples.proofs.keyed.Keyed.compare.Goals as goal

pub returns : goal.returns
returns c =
    let a : c.self.inside.index ≡ index_of c.args.self.now = c.self.invariant.is ∙ ap index_of c.self.view_is in
    let b : c.other.inside.index ≡ index_of c.args.other.now = c.other.invariant.is ∙ ap index_of c.other.view_is in
    c.cmp.ensures ∙ ap (λ n. nat_cmp n c.other.inside.index) a ∙ ap (λ n. nat_cmp (index_of c.args.self.now) n) b
    ∙ index_order c.args.self.now c.args.other.now c.requires (subst (λ (t : List ℕ). All IsNumber t) c.self.view_is c.self.invariant.fits.numbers) (subst (λ (t : List ℕ). All IsNumber t) c.other.view_is c.other.invariant.fits.numbers)
