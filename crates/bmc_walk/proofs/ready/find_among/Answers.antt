use Rattle.std.proofs.Common.{◌≡◌, ◌<◌, List, length, Contains, sym, ◌∙◌, subst, arith}
use Rattle.std.proofs.lemmas.List.Elements.{Contains-get_or}
use Rattle.bmc_walk.specs.declared.walk.Made.{Made}
use Rattle.bmc_walk.proofs.ready.find_among.Goals as goal

pub returns-then-is : goal.returns-then-is
returns-then-is c =
    let made = c.args.made.now in
    let one = c.index-one.result.now in
    let inside : c.loop-place.place < length made.items = omega (arith, c.loop-place-test.true, c.len-place-end.ensures, made.ok.0) in
    record {
      made = one;
      has = subst (λ (m : Made). Contains made.items m) (sym c.index-one.ensures) (Contains-get_or made.items c.loop-place.place one inside);
      of = c.is_of-is.ensures c.if-is.true;
      is = c.in_ok-numbers.ensures.items_if_clones_equal (λ x y e. e) ∙ c.deref.ensures.value;
    }
