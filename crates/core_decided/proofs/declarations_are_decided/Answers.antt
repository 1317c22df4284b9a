use Rattle.core_meaning.specs.Kept.{world_of}
use Rattle.core_meaning.specs.Called.{bodies_of}
use Rattle.core_decided.proofs.Deciding.{bodies_fine}
use Rattle.core_decided.proofs.Declaring.{declarations_decided}
use Rattle.core_decided.proofs.declarations_are_decided.Goals as goal

pub returns : goal.returns
returns c model scopes lasso i some few =
    let w = world_of scopes lasso in
    declarations_decided model w some (bodies_of w model.bodies) (bodies_fine w some model.bodies) i few
