use Rattle.std.proofs.Common.{length, refl}
use Rattle.std.proofs.lemmas.Option.{slice_get_read}
use Rattle.syntax_parser.proofs.refused.refusal_at.Goals as goal

pub returns : goal.returns
returns c =
    let tokens = c.args.tokens.now in
    let token = c.index-tokens-number.result in
    record {
      number = c.args.number;
      token = token;
      there = slice_get_read tokens (length tokens) c.args.number token refl c.requires.within c.index-tokens-number.is;
      same = refl;
      begins = c.requires.begins;
      ends = c.requires.ends;
      grammar = c.requires.grammar;
      accords = c.requires.accords;
    }
