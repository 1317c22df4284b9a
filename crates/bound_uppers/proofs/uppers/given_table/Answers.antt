use Rattle.std.proofs.Common.{◌≡◌, ℕ, List, All, map, length, ap, sym, ◌∙◌, subst}
use Rattle.core_tree.specs.declared.model.Sig.{Sig}
use Rattle.core_meaning.specs.declared.scopes.SigScope.{SigScope}
use Rattle.bound_uppers.specs.declared.uppers.Sketch.{Sketch}
use Rattle.bound_owners.specs.Tops.{HasTops}
use Rattle.bound_owners.specs.Own.{HasOrigins}
use Rattle.bound_owners.specs.Owned.{AreConstantsOf, HasStanding}
use Rattle.bound_uppers.specs.Sketches.{IsRightSketch, AreSketches, HasUppers}
use Rattle.bound_uppers.specs.Table.{are_fixed}
use Rattle.bound_uppers.proofs.Exact.{uppers_are}
use Rattle.bound_uppers.proofs.uppers.given_table.Goals as goal

pub constants_of-requires : goal.constants_of-requires
constants_of-requires c = subst (λ (ds : List Sig). HasTops ds c.args.ups.now) (sym c.as_slice-sigs.ensures) c.requires.tops

pub table_standing-requires-clause-tops : goal.table_standing-requires-clause-tops
table_standing-requires-clause-tops c = subst (λ (ds : List Sig). HasTops ds c.args.ups.now) (sym c.as_slice-sigs.ensures) c.requires.tops

pub atom_sets-requires-clause-constants : goal.atom_sets-requires-clause-constants
atom_sets-requires-clause-constants c = subst (λ (ds : List Sig). AreConstantsOf ds c.in_ok-constants.constants) c.as_slice-sigs.ensures c.in_ok-constants.ensures

standing_of : (sigs ds : List Sig) (numbers ns : List SigScope) (all us : List ℕ) → ds ≡ sigs → ns ≡ numbers → us ≡ all → HasStanding ds ns all → HasStanding sigs numbers us
standing_of sigs ds numbers ns all us e f g has = subst (λ (xs : List ℕ). HasStanding sigs numbers xs) (sym g) (subst (λ (xs : List SigScope). HasStanding sigs xs all) f (subst (λ (xs : List Sig). HasStanding xs ns all) e has))

pub atom_sets-requires-clause-standing : goal.atom_sets-requires-clause-standing
atom_sets-requires-clause-standing c = standing_of c.args.model.now.sigs c.as_slice-sigs.result.now c.args.scopes.now.numbers c.as_slice-numbers.result.now c.in_ok-standing.standing.items c.deref.result.now c.as_slice-sigs.ensures c.as_slice-numbers.ensures c.deref.ensures.value c.in_ok-standing.ensures

pub atom_sets-requires-clause-counted : goal.atom_sets-requires-clause-counted
atom_sets-requires-clause-counted c = sym (ap length c.as_slice-numbers.ensures) ∙ (c.if-numbers-sigs.false ∙ ap length c.as_slice-sigs.ensures)

pub atom_sets-requires-clause-above : goal.atom_sets-requires-clause-above
atom_sets-requires-clause-above c = c.are_tops.ensures c.if-not-are_tops.false

pub table_of-requires-clause-fixed : goal.table_of-requires-clause-fixed
table_of-requires-clause-fixed c = subst (λ (ks : List Sketch). map (λ (s : Sketch). s.fixed) ks ≡ are_fixed c.args.model.now) (sym c.deref-3.ensures.value) c.in_ok-all.ensures.fixed

pub table_of-requires-clause-sets : goal.table_of-requires-clause-sets
table_of-requires-clause-sets c = c.in_ok-sets.ensures.columns

pub table_of-requires-clause-right : goal.table_of-requires-clause-right
table_of-requires-clause-right c = subst (λ (ks : List Sketch). All IsRightSketch ks) (sym c.deref-3.ensures.value) c.in_ok-all.ensures.its.right

pub returns-clause-uppers : goal.returns-clause-uppers
returns-clause-uppers c =
    let model = c.args.model.now in
    let scopes = c.args.scopes.now in
    let sets = c.in_ok-sets.sets in
    let all = c.in_ok-all.all.items in
    let standing = c.in_ok-standing.standing.items in
    let relations = c.in_ok-found.found.relations in
    let stands : HasStanding model.sigs scopes.numbers standing = subst (λ (us : List ℕ). HasStanding model.sigs scopes.numbers us) c.deref.ensures.value (standing_of model.sigs c.as_slice-sigs.result.now scopes.numbers c.as_slice-numbers.result.now standing c.deref.result.now c.as_slice-sigs.ensures c.as_slice-numbers.ensures c.deref.ensures.value c.in_ok-standing.ensures) in
    let are = subst (λ (us : List ℕ). AreSketches model us c.args.spans.now all) c.deref-2.ensures.value c.in_ok-all.ensures.its in
    let have = subst (λ (ks : List Sketch). HasUppers sets ks relations) c.deref-3.ensures.value c.in_ok-found.ensures.uppers in
    uppers_are model scopes c.args.spans.now standing sets c.requires.spans stands c.in_ok-sets.ensures all relations are have

pub returns-clause-origins : goal.returns-clause-origins
returns-clause-origins c = subst HasOrigins c.as_slice-sigs.ensures (c.have_origins.ensures c.if-not-have_origins.false)
