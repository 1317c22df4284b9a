use Rattle.std.proofs.Common.{rules, arith, ◌+◌, ◌∷◌, ◌∙◌, ℕ, List, drop, ap, sym, subst}
use Rattle.std.proofs.lemmas.List.{drop_more, drop_all}
use Rattle.std.specs.HashMap.{get_by_text}
use Rattle.load_state.specs.Named.{IsBehind}
use Rattle.load_state.specs.Sets.{reach_or}
use Rattle.load_state.specs.declared.reach.Reach.{Reach}
use Rattle.load_state.proofs.Through.{IsOnTheWay, way_first, way_next, way_over}
use Rattle.load_state.proofs.argument.through.Goals as goal

pub loop-alias-init : goal.loop-alias-init
loop-alias-init c = λ instances texts k stands.
    way_first instances texts k c.args.opener c.aliased.result.all c.args.first.now c.args.rest.now stands
    (ap (λ (r : Reach). r.all) c.aliased.ensures ∙ ap (λ (t : List ℕ). (reach_or (get_by_text c.args.opener.doors.now.aliases t)).all) (search rules))

pub loop-alias-preserved : goal.loop-alias-preserved
loop-alias-preserved c = λ instances texts k stands.
    let way = c.loop-alias.invariant instances texts k stands in
    let behind = IsBehind instances texts c.args.opener.number k c.args.first.now c.args.rest.now in
    let here = drop_more c.args.rest.now c.loop-alias.alias-index c.alias-item.result c.loop-alias-test.true ∙ ap (λ x. x ∷ drop (c.loop-alias.alias-index + 1) c.args.rest.now) (sym c.alias-item.is) in
    way_next instances texts c.args.opener.finished.now c.loop-alias.among c.step-among.result c.alias-item.result (drop (c.loop-alias.alias-index + 1) c.args.rest.now) behind stands.replayed c.step-among.ensures
    (subst (λ (xs : List (List ℕ)). IsOnTheWay instances texts c.args.opener.finished.now c.loop-alias.among xs behind) here way)

pub returns : goal.returns
returns c = λ instances texts k l stands.
    let behind = IsBehind instances texts c.args.opener.number k c.args.first.now c.args.rest.now in
    way_over instances texts c.args.opener.finished.now c.loop-alias.among behind
    (subst (λ (xs : List (List ℕ)). IsOnTheWay instances texts c.args.opener.finished.now c.loop-alias.among xs behind) (drop_all c.loop-alias.alias-index c.args.rest.now (omega (arith, c.loop-alias-test.false)))
    (c.loop-alias.invariant instances texts k stands)) l
