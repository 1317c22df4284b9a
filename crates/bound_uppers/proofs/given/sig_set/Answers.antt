use Rattle.std.proofs.Common.{◌≡◌, ◌+◌, ◌-◌, ◌≤◌, ◌∷◌, [], ℕ, List, IsTrue, length, slice_get, ap, sym, ◌∙◌, subst}
use Rattle.core_tuples.specs.Sets.{HasJust}
use Rattle.core_tree.specs.declared.model.Sig.{Sig}
use Rattle.core_meaning.specs.declared.scopes.SigScope.{SigScope}
use Rattle.bound_uppers.specs.declared.numbers.AtomRange.{AtomRange}
use Rattle.bound_uppers.specs.Kinds.{InSpan}
use Rattle.bound_owners.specs.Own.{owners, is_given_by}
use Rattle.bound_uppers.proofs.Exact.{fits_sig}
use Rattle.bound_uppers.proofs.Giving.{owns_of, sig_given}
use Rattle.bound_uppers.proofs.given.sig_set.Goals as goal

pub given_atoms-requires : goal.given_atoms-requires
given_atoms-requires c = subst (λ (z : AtomRange). z.first + z.count ≤ 16384) (sym c.atoms_of-span.ensures) (fits_sig c.args.scopes.now c.args.spans.now c.requires.spans c.top_of-top.result)

pub returns : goal.returns
returns c =
    let model = c.args.model.now in
    let scopes = c.args.scopes.now in
    let s = c.args.sig in
    let top = c.top_of-top.result in
    let found = c.owners_of-owners.result.now in
    let owns = c.does_own-owns.result in
    let span = c.atoms_of-span.result in
    let set = c.in_ok-set.set in
    let up = c.top_of-top.ensures ∙ c.requires.tops s in
    let counted : length c.as_slice.result.now ≡ length model.sigs = ap length c.as_slice.ensures ∙ c.requires.counted in
    let own : found ≡ owners model.sigs scopes.numbers top = subst (λ (ns : List SigScope). found ≡ owners model.sigs ns top) c.as_slice.ensures (c.owners_of-owners.ensures model.sigs c.requires.constants counted) in
    let does = owns_of model.sigs scopes.numbers c.args.constants.now.marks.items found s top owns c.requires.constants.marks up own c.does_own-owns.ensures in
    let made = subst (λ (ds : List Sig). HasJust set 1 (λ t. (a : ℕ) × InSpan span a × (t ≡ a ∷ []) × IsTrue (is_given_by ds owns (slice_get found (a - span.first)) s))) c.as_slice-2.ensures c.in_ok-set.ensures in
    sig_given model scopes c.args.spans.now c.requires.spans s top found owns span set up own does c.atoms_of-span.ensures made
