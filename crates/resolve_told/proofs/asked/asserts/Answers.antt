use Rattle.resolve_names.specs.Visible.{Leads, path_of, last_of}
use Rattle.resolve_told.specs.Commands.{IsAssertion}
use Rattle.resolve_told.proofs.Running.{if_some_of}
use Rattle.resolve_told.proofs.asked.asserts.Goals as goal

pub returns-in_ok-is_said-in-Some : goal.returns-in_ok-is_said-in-Some
returns-in_ok-is_said-in-Some c = λ same.
    let one = c.in-Some.one in
    record {
      instance = one.instance;
      assertion = one.claim.now;
      led = if_some_of (λ f. Leads c.args.sources.now.names.now.scopes 0 c.args.name.now.is_own (path_of c.args.name.now.parts) f.instance) c.in_ok-found.found one c.in-Some.is c.in_ok-found.ensures.led;
      declared = if_some_of (λ f. IsAssertion c.args.sources.now.loaded.now.texts c.args.sources.now.loaded.now.instances f.instance (last_of c.args.name.now.parts) f.claim.now) c.in_ok-found.found one c.in-Some.is c.in_ok-found.ensures.there;
      said = c.in_ok-is_said-in-Some.ensures same;
    }
