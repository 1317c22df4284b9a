use Rattle.std.proofs.Common.{◌≡◌, ◌∙◌, arith, codes, length, sym}
use Rattle.std.proofs.lemmas.Slice.Eq.{bytes_eq-Decides}
use Rattle.resolve_told.proofs.Running.{one_part, first_part}
use Rattle.resolve_told.proofs.scopes.is_steps.Goals as goal

pub returns-clause-yes : goal.returns-clause-yes
returns-clause-yes c = λ yes.
    let one : length c.as_slice-parts.result.now ≡ 1 = omega arith in (
      c.if-name.false,
      sym c.as_slice-parts.ensures ∙ one_part c.as_slice-parts.result.now c.index-parts-0.result (codes "steps") one c.index-parts-0.is
          (sym c.text.ensures ∙ (bytes_eq-Decides c.text.result.now (codes "steps")).0 (sym c.have_same-is_same.ensures ∙ yes)),
    )

pub returns-clause-no : goal.returns-clause-no
returns-clause-no c = λ s.
    c.have_same-is_same.ensures ∙ (bytes_eq-Decides c.text.result.now (codes "steps")).1
    (c.text.ensures ∙ first_part c.as_slice-parts.result.now c.index-parts-0.result (codes "steps") (c.as_slice-parts.ensures ∙ s.1) c.index-parts-0.is)
