use Rattle.std.proofs.Common.{List, ◌∷◌, [], ◌++◌, ap, ◌∙◌}
use Rattle.resolve_check.specs.declared.names.Named.{Named}
use Rattle.resolve_check.proofs.NameLists.{one_more}
use Rattle.resolve_check.proofs.names.with_name.Goals as goal

pub returns : goal.returns
returns c =
    let n : Named = record { name = c.args.name; columns = c.args.columns } in
    one_more c.args.names.now c.push.new.self n (c.in_ok-push.ensures.ok ∙ ap (λ (l : List Named). l ++ n ∷ []) c.in_ok-all.ensures)
