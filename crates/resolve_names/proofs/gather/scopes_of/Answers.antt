use Rattle.std.proofs.Common.{◌+◌, List, length, refl, sym, subst, ap, ◌∙◌}
use Rattle.std.proofs.lemmas.List.{length_push}
use Rattle.std.proofs.lemmas.List.Elements.{All-push}
use Rattle.resolve_names.specs.declared.table.Namespace.{Namespace}
use Rattle.resolve_names.specs.Gathered.{scopes_from}
use Rattle.resolve_names.specs.Marks.{AreScoped, IsScoped}
use Rattle.resolve_names.proofs.Gathering.{scopes_next, end_on}
use Rattle.resolve_names.proofs.gather.scopes_of.Goals as goal

pub loop-place-preserved : goal.loop-place-preserved
loop-place-preserved c = record {
  scopes = scopes_next c.args.texts.now c.args.instances.now c.loop-place.place c.loop-place.counts.sigs c.in_ok-scoped.scoped.after.sigs c.loop-place.counts.fields c.in_ok-scoped.scoped.after.fields
      c.loop-place.counts.bodies c.in_ok-scoped.scoped.after.bodies c.index-instances-place.result c.loop-place.scopes c.push.new.self _ c.loop-place-test.true c.index-instances-place.is
      c.loop-place.invariant.scopes (cc (c.in_ok-push.ensures.ok, c.in_ok-scoped.ensures.scope, c.in_ok-tree.ensures)) (cc (c.in_ok-scoped.ensures.sigs, c.in_ok-tree.ensures))
      (cc (c.in_ok-scoped.ensures.fields, c.in_ok-tree.ensures)) (cc (c.in_ok-scoped.ensures.bodies, c.in_ok-tree.ensures));
  every = ap (λ (s : List Namespace). length s) c.in_ok-push.ensures.ok ∙ length_push c.loop-place.scopes _ ∙ ap (λ n. n + 1) c.loop-place.invariant.every;
  inside = subst (λ (s : List Namespace). AreScoped (length c.args.instances.now) s) (sym c.in_ok-push.ensures.ok) (All-push (IsScoped (length c.args.instances.now)) c.loop-place.scopes _ c.loop-place.invariant.inside c.in_ok-scoped.ensures.inside);
}

pub returns-clause-scopes : goal.returns-clause-scopes
returns-clause-scopes c =
    end_on (scopes_from c.args.texts.now c.loop-place.place c.loop-place.counts.sigs c.loop-place.counts.fields c.loop-place.counts.bodies) c.args.instances.now c.loop-place.place c.loop-place.scopes _ refl
    c.loop-place-test.false c.loop-place.invariant.scopes
