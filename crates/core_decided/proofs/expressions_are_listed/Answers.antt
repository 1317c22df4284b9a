use Rattle.core_meaning.specs.Kept.{world_of}
use Rattle.core_meaning.specs.Meaning.{no_names}
use Rattle.core_meaning.specs.Called.{bodies_of}
use Rattle.core_tree.specs.Past.{no_depths, body_depths}
use Rattle.core_decided.proofs.Deciding.{term_listed, bodies_fine, nothing_fine}
use Rattle.core_decided.proofs.expressions_are_listed.Goals as goal

pub returns : goal.returns
returns c model scopes lasso e i some few =
    let w = world_of scopes lasso in
    term_listed w some (bodies_of w model.bodies) (body_depths model.bodies) (bodies_fine w some model.bodies) e no_names no_depths (nothing_fine w some) few i
