use Rattle.std.proofs.Common.{◌≡◌, ◌∙◌, ◌-◌, ℕ, ap}
use Rattle.resolve_drafts.specs.Calls.{call_of}
use Rattle.resolve_drafts.proofs.built.give.Goals as goal

pub returns : goal.returns
returns c =
    (c.in_ok-arguments.arguments, c.in_ok-arguments.ensures, c.called.ensures ∙ ap (λ (n : ℕ). call_of c.args.pending.body n c.args.pending.is_function c.in_ok-arguments.arguments) c.saturating_sub.ensures)
