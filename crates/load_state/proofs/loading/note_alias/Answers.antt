use Rattle.std.proofs.Common.{rules, ◌≡◌, ◌∙◌, ℕ, List, Some, ap, subst}
use Rattle.std.specs.HashMap.{get_by_text}
use Rattle.std.specs.Map.{update}
use Rattle.std.specs.Str.{bytes_eq}
use Rattle.load_state.specs.Sets.{IsWider, IsJust, reach_or}
use Rattle.load_state.specs.declared.reach.Reach.{Reach}
use Rattle.load_state.proofs.Noted.{alias_put, wider_as, alone}
use Rattle.load_state.proofs.loading.note_alias.Goals as goal

pub returns : goal.returns
returns c =
    let before = get_by_text c.args.aliases.now in
    let alias = c.args.opened.now.alias in
    let first : c.text.result.now ≡ alias = search rules in
    let later : c.text-2.result.now ≡ alias = search rules in
    let was : c.aliased-reach.result ≡ reach_or (before alias) = c.aliased-reach.ensures ∙ ap (λ (t : List ℕ). reach_or (before t)) first in
    alias_put alias c.args.opened.now.instance c.args.is_private before (get_by_text c.put_alias.new.aliases) c.add.new.self
    (λ other. c.in_ok-put_alias.ensures other ∙ ap (λ (t : List ℕ). update bytes_eq before t (Some c.add.new.self) other) later)
    (subst (λ (r : Reach). IsWider r c.add.new.self c.args.is_private (IsJust c.args.opened.now.instance)) was
    (wider_as c.aliased-reach.result c.add.new.self c.args.is_private (λ n. alone c.adding.result c.args.opened.now.instance n (c.adding.ensures n)) c.add.ensures))
