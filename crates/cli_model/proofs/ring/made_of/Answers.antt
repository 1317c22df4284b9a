use Rattle.cli_model.proofs.ring.made_of.Goals as goal

pub returns : goal.returns
returns g c = c.made_text.ensures c.args.prepared c.requires c.in_ok-found.ensures
