use Rattle.std.proofs.lemmas.Slice.Eq.{slice_eq-Decides}
use Rattle.load_state.proofs.Pairs.{option_decides, sig_decides}
use Rattle.load_state.proofs.loading.are_same.Goals as goal

pub returns : goal.returns
returns c = slice_eq-Decides (option_decides sig_decides) c.args.a.now c.args.b.now c.eq.result c.eq.ensures
