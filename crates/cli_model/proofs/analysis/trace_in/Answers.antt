use Rattle.cli_model.proofs.analysis.trace_in.Goals as goal

pub returns : goal.returns
returns g c = c.found_text.ensures c.args.prepared c.requires c.in_ok-found.ensures
