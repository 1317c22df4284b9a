use Rattle.std.proofs.Common.{◌∙◌, ap, arith, subst, sym}
use Rattle.core_tree.specs.Trees.{claim_of}
use Rattle.resolve_told.specs.Commands.{RunsWith}
use Rattle.resolve_told.specs.Bodies.{bodies_from, parameters_of}
use Rattle.resolve_told_sigs.specs.Says.{outside}
use Rattle.resolve_told.specs.declared.texts.Declaration.{Declaration}
use Rattle.resolve_told.proofs.Running.{body_at}
use Rattle.resolve_told.proofs.asked.runs_body.Goals as goal

pub returns-in_ok-is_right-in-Some : goal.returns-in_ok-is_right-in-Some
returns-in_ok-is_right-in-Some c = λ same. record {
  instance = c.index-sources-place.result.instance;
  predicate = c.in-Some.predicate.now;
  declared = body_at c.args.sources.now.bodies.now (bodies_from c.args.sources.now.loaded.now.texts 0 c.args.sources.now.loaded.now.instances) c.args.body c.index-sources-place.result c.in-Some.predicate.now
      c.requires (omega arith) c.index-sources-place.is (ap (λ (d : Declaration). d.paragraph.now) c.index-sources-place.is ∙ c.in-Some.ensures);
  runs = subst (λ k. RunsWith (outside c.args.sources.now.names.now.scopes c.args.sources.now.model.now c.args.sources.now.readings.now k) c.args.body (parameters_of c.in-Some.predicate.now.receiver c.in-Some.predicate.now.parameters) (claim_of c.args.formula.now))
      (sym (ap (λ (d : Declaration). d.instance) c.index-sources-place.is)) (c.in_ok-is_right-in-Some.ensures same);
}
