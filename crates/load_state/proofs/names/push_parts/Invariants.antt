use Rattle.std.proofs.Common.{◌≡◌, ◌++◌, drop}
use Rattle.std.specs.Prelude.{string_bytes}
use Rattle.load_state.specs.Names.{slashed, after_slashes}
use Rattle.load_state.proofs.names.push_parts.Given as goal

abbrev pub invariant-loop-part : goal.invariant-loop-part
invariant-loop-part l = string_bytes l.fn.text ++ slashed l.parts ≡ string_bytes l.text ++ after_slashes (drop l.part-index l.rest)
