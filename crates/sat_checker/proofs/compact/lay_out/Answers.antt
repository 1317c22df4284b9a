use Rattle.std.proofs.Common.{refl, rules}
use Rattle.sat_checker.specs.contracts.compact.fn.lay_out.retain as closure
use Rattle.sat_checker.proofs.Compacting.{laid_by_calls}
use Rattle.sat_checker.proofs.compact.lay_out.Goals as goal

pub returns : goal.returns
returns c =
    laid_by_calls _ (λ f. (closure.captures f).end) (λ f id span b left f' call room. search rules) _ _ _ c.retain.ensures.filtered refl c.requires
