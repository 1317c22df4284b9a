use Rattle.std.proofs.Common.{◌<◌, List, sym, subst, All}
use Rattle.std.proofs.lemmas.List.Elements.{All-push}
use Rattle.resolve_names.specs.declared.table.Link.{Link}
use Rattle.resolve_names.proofs.Gathering.{links_next, links_end}
use Rattle.resolve_names.proofs.links.links_of.Goals as goal

pub loop-place-preserved : goal.loop-place-preserved
loop-place-preserved c = record {
  links = links_next c.args.written.now c.args.opens.now c.loop-place.place c.index-opens-place.result c.loop-place.links c.push.new.self _ c.loop-place-test.true c.index-opens-place.is
      c.loop-place.invariant.links (cc (c.in_ok-push.ensures.ok, c.in_ok-link.ensures.link, c.is_private-hidden.ensures));
  inside = subst (λ (ls : List Link). All (λ k. k.instance < c.args.count) ls) (sym c.in_ok-push.ensures.ok) (All-push (λ k. k.instance < c.args.count) c.loop-place.links _ c.loop-place.invariant.inside c.in_ok-link.ensures.inside);
}

pub returns-clause-links : goal.returns-clause-links
returns-clause-links c = links_end c.args.written.now c.args.opens.now c.loop-place.place c.loop-place.links _ c.loop-place-test.false c.loop-place.invariant.links
