use Rattle.std.specs.Prelude.{option_map}
use Rattle.std.proofs.Common.{◌∙◌, ap}
use Rattle.resolve_told.specs.Commands.{label_or, place_of_name}
use Rattle.resolve_told.proofs.commands.is_placed.Goals as goal

pub returns-clause-kind : goal.returns-clause-kind
returns-clause-kind c = λ same. c.is_kind.ensures c.if-not-is_kind.false

pub returns-clause-keyword : goal.returns-clause-keyword
returns-clause-keyword c = λ same. c.is_same.ensures c.if-not-is_same.false

pub returns-clause-first : goal.returns-clause-first
returns-clause-first c = λ same. c.is_same-2.ensures c.if-not-is_same-2.false

pub returns-clause-name_place : goal.returns-clause-name_place
returns-clause-name_place c = λ same. c.is_place.ensures c.if-not-is_place.false ∙ ap (option_map place_of_name) c.subject_name-name.ensures

pub returns-clause-label : goal.returns-clause-label
returns-clause-label c = λ same. c.in_ok-is_right.ensures same ∙ ap (label_or c.args.written.now.label) c.subject_name-name.ensures
