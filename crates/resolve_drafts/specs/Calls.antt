-- What a call becomes as its arguments are given.
use Rattle.std.specs.Prelude.{ℕ, ◌-◌, ◌++◌, ◌≡◌, nat_lt, Bool, [], ◌∷◌, if◌then◌else◌}
use Rattle.std.specs.Global.{Vec}
use Rattle.core_tree.specs.declared.tree.Expr.{Expr, Call as CallExpr}
use Rattle.core_tree.specs.declared.tree.Formula.{Call as CallFormula}
use Rattle.resolve_drafts.specs.declared.built.Pending.{Pending}
use Rattle.resolve_drafts.specs.declared.built.Built.{Built}
use Rattle.resolve_drafts.specs.declared.built.Built.TheVariants.{Term, Test, Waiting}

-- the call of a body with these arguments: it waits while it wants more, and then is an expression
-- or a formula
abbrev pub call_of : ℕ → ℕ → Bool → Vec Expr → Built
call_of body left is_function all =
    if nat_lt 0 left then Waiting (record { body = body; left = left; is_function = is_function; arguments = all })
    else (if is_function then Term (CallExpr body all) else Test (CallFormula body all))

-- Whether this is the call with one argument more, which stands behind those that it had.
abbrev pub IsGiven : Pending → Expr → Built → Type 0
IsGiven call argument made =
    (all : Vec Expr) × (all.items ≡ call.arguments.items ++ argument ∷ []) × (made ≡ call_of call.body (call.left - 1) call.is_function all)
