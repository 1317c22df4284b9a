use Rattle.std.proofs.Common.{ℕ, List, sym, subst, refl, ◌∙◌}
use Rattle.core_tree.specs.declared.model.Sig.{Sig}
use Rattle.bound_owners.specs.Tops.{HasTops}
use Rattle.bound_uppers.proofs.Counting.{large_is, small_is}
use Rattle.bound_uppers.proofs.uppers.bounds.Goals as goal

pub is_large-requires-clause-tops : goal.is_large-requires-clause-tops
is_large-requires-clause-tops c =
    let tops = subst (λ (ds : List Sig). HasTops ds c.in_ok-ups.ups.items) c.as_slice.ensures c.in_ok-ups.ensures in
    subst (λ (us : List ℕ). HasTops c.args.model.now.sigs us) (sym c.deref.ensures.value) tops

pub given_table-requires-clause-tops : goal.given_table-requires-clause-tops
given_table-requires-clause-tops c =
    let tops = subst (λ (ds : List Sig). HasTops ds c.in_ok-ups.ups.items) c.as_slice.ensures c.in_ok-ups.ensures in
    subst (λ (us : List ℕ). HasTops c.args.model.now.sigs us) (sym c.deref-2.ensures.value) tops

pub returns-clause-most : goal.returns-clause-most
returns-clause-most c = c.in_ok-spans.ensures.most

pub returns-then-branch-clause-refused : goal.returns-then-branch-clause-refused
returns-then-branch-clause-refused c = (refl, large_is c.args.model.now c.args.scopes.now (sym c.in_ok-is_large.ensures ∙ c.if-branch.true))

pub returns-clause-fits : goal.returns-clause-fits
returns-clause-fits c = small_is c.args.model.now c.args.scopes.now (sym c.in_ok-is_large.ensures ∙ c.if-branch.false)
