use Rattle.std.proofs.Common.{◌∙◌, ℕ, List, All, length, refl, sym, ap, subst, inl, inr}
use Rattle.core_tuples.specs.Index.{IsNumber}
use Rattle.bmc_places.specs.Rests.{joined}
use Rattle.bmc_places.proofs.rests.add_rest.Goals as goal

pub returns-in-None : goal.returns-in-None
returns-in-None c =
    let none = rw c.in-None.is at c.in_ok-left.ensures.none in
    inl (refl, (λ u same. none u (c.tuple.ensures.same ∙ same)))

pub returns-in_ok-push-in-Some : goal.returns-in_ok-push-in-Some
returns-in_ok-push-in-Some c =
    let some = rw c.in-Some.is at c.in_ok-left.ensures.some in
    let is = c.new-tuple.ensures in
    let fits = c.fits_columns-fits.ensures in
    inr (
      _,
      c.in_ok-push-in-Some.ensures.items,
      sym c.tuple.ensures.same ∙ some ∙ ap (λ (u : List ℕ). joined c.args.at_start c.args.numbers.now u) (sym is),
      refl,
      ap (λ (u : List ℕ). length u) is ∙ fits.columns c.if-not-fits.false,
      subst (λ (u : List ℕ). All IsNumber u) (sym is) (fits.numbers c.if-not-fits.false),
    )
