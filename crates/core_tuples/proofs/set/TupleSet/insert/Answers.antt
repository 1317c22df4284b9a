use Rattle.std.proofs.Common.{◌≡◌, ◌⊎◌, subst, sym, ap, ◌∙◌}
use Rattle.core_tuples.specs.Sets.{TupleList, HasJust, In, IsGap}
use Rattle.core_tuples.proofs.OrderLemmas.{set_insert, just_insert}
use Rattle.core_tuples.proofs.set.TupleSet.insert.Goals as goal

pub invariant_of-self : goal.invariant_of-self
invariant_of-self c =
    rw (c.in_ok-insert.ensures.items, c.new.ensures) (set_insert _ _ _ _ c.self.invariant (c.requires.columns ∙ sym (ap (λ (v : TupleList). v.arity) c.self.view_is)) c.requires.numbers (subst (λ ts. IsGap ts c.args.tuple c.in-Err.place) c.deref.ensures.value c.in-Err.ensures.gap))

pub returns-in_ok-insert-clause-ok : goal.returns-in_ok-insert-clause-ok
returns-in_ok-insert-clause-ok c =
    subst (λ (v : TupleList). HasJust (record { arity = c.self.inside.arity; tuples = c.insert.new.self.items }) v.arity (λ t. In t v ⊎ (t ≡ c.args.tuple))) c.self.view_is (rw (c.in_ok-insert.ensures.items, c.new.ensures) (just_insert _ _ _ _))
