use Rattle.std.proofs.Common.{◌∙◌}
use Rattle.cli_words.proofs.Decimals.{number_read}
use Rattle.cli_model.proofs.ring.nodes_in.Goals as goal

pub returns : goal.returns
returns c = c.ok.ensures.value ∙ number_read 32 c.args.text.now c.parse.result c.parse.ensures.value.0
