use Rattle.std.proofs.Common.{◌≡◌, ◌<◌, ◌^◌, ◌∙◌, ap, sym, subst, reverse, ◌∷◌, length, None}
use Rattle.std.proofs.lemmas.List.{length-set}
use Rattle.test_dpll.specs.Steps.{IsApart}
use Rattle.test_dpll.specs.Path.{steps_of}
use Rattle.test_dpll.proofs.Values.{reverse_push}
use Rattle.test_dpll.proofs.Growing.{Tied, tied_less}
use Rattle.test_dpll.proofs.path.pop_step.Goals as goal

pub returns-clause-path : goal.returns-clause-path
returns-clause-path c =
    let values = c.args.path.now.values.items in
    let below = reverse c.pop.new.self.items in
    let steps : steps_of c.args.path.now ≡ c.in-Some.step ∷ below = ap reverse c.in-Some.ensures.items ∙ reverse_push c.pop.new.self.items c.in-Some.step in
    let apart : IsApart (length values) (c.in-Some.step ∷ below) = subst (IsApart (length values)) steps c.requires.path.apart in
    let tied : Tied values (c.in-Some.step ∷ below) = subst (Tied values) steps c.requires.path.values in
    record {
      values = λ place h. tied_less values c.in-Some.step below c.place_of-place.result place c.place_of-place.ensures tied apart.2 (subst (λ n. place < n) (length-set values c.place_of-place.result None) h);
      apart = subst (λ n. IsApart n below) (sym (length-set values c.place_of-place.result None)) apart.3;
      small = subst (λ n. n < 2 ^ 63) (sym (length-set values c.place_of-place.result None)) c.requires.path.small;
    }
