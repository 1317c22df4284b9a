use Rattle.std.proofs.Common.{◌∙◌, ap}
use Rattle.bound_naming.specs.Naming.{favours_all}
use Rattle.answer_search.proofs.circuit.circuit_of.Goals as goal

pub returns-clause-says : goal.returns-clause-says
returns-clause-says c =
    let name = c.in_ok-name.name in
    record {
      all = c.in_ok-all.all.items;
      name = name;
      rest = c.in_ok-encoded.encoded.roots;
      roots_are = c.in_ok-roots.ensures;
      paired = c.in_ok-all.ensures;
      named = λ x. c.encode.ensures.keeps.values name c.in_ok-name.ensures.ok.there x ∙ (c.in_ok-name.ensures.ok.gives x ∙ ap (favours_all x) c.deref.ensures.value);
      count = c.in_ok-encoded.ensures.count;
      encoded = c.in_ok-encoded.ensures.says;
    }
