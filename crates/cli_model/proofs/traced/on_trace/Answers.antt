use Rattle.cli_model.proofs.traced.on_trace.Goals as goal

pub returns : goal.returns
returns c = record {
  said = c.in_ok-said.said;
  says_so = cc c.in_ok-copy.ensures;
  on = c.in_ok-said.ensures;
}
