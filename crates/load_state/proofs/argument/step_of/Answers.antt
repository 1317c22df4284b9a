use Rattle.std.proofs.Common.{rules, ◌∙◌, ◌≡◌, List, ℕ, ap, sym, subst}
use Rattle.std.specs.HashMap.{get_by_text}
use Rattle.load_state.specs.Sets.{IsIn, reach_or}
use Rattle.load_state.specs.declared.reach.Reach.{Reach}
use Rattle.load_state.proofs.Noted.{empty_in}
use Rattle.load_state.proofs.argument.step_of.Goals as goal

pub returns-then-not-has : goal.returns-then-not-has
returns-then-not-has c = λ l. (λ h. absurd (empty_in l h), λ a. absurd (let yes = c.has.ensures.1 a.0 in let none = c.if-not-has.true in cc))

pub returns : goal.returns
returns c = λ l.
    let alias : c.text.result.now ≡ c.args.alias.now = search rules in
    let is : c.aliased.result ≡ reach_or (get_by_text c.args.f.now.doors.aliases c.args.alias.now) = c.aliased.ensures ∙ ap (λ (t : List ℕ). reach_or (get_by_text c.args.f.now.doors.aliases t)) alias in
    (λ h. (c.has.ensures.0 (search rules), subst (λ (r : Reach). IsIn r.public l) is h), λ a. subst (λ (r : Reach). IsIn r.public l) (sym is) a.1)
