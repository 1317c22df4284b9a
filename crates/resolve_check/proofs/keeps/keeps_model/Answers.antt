use Rattle.std.proofs.Common.{◌≡◌}
use Rattle.core_tree.specs.Models.{shapes_of}
use Rattle.resolve_check.specs.Fits.{shapes_in}
use Rattle.resolve_check.proofs.ParameterSteps.{some_of}
use Rattle.resolve_check.proofs.keeps.keeps_model.Goals as goal

pub has_right_parts-requires-clause-shape : goal.has_right_parts-requires-clause-shape
has_right_parts-requires-clause-shape c = some_of (λ s. shapes_in s ≡ shapes_of c.args.model.now) c.in_ok-full_shape.field-0 c.in-Some.shape c.in-Some.is c.in_ok-full_shape.ensures
