use Rattle.std.proofs.Common.{length, ap, sym, ◌∙◌, subst, All}
use Rattle.core_tuples.specs.Index.{IsNumber}
use Rattle.bound_uppers.proofs.Choosing.{put_is}
use Rattle.bound_uppers.proofs.Lists.{has_columns, has_numbers}
use Rattle.bound_uppers.proofs.decoding.put.Goals as goal

pub insert-requires : goal.insert-requires
insert-requires c = record {
  columns = ap length c.in_ok-copy.ensures ∙ has_columns c.args.upper.now c.args.place c.tuple-row.result.now c.len-count.ensures.set c.tuple-row.ensures ∙ sym c.requires.columns;
  numbers = subst (All IsNumber) (sym c.in_ok-copy.ensures) (has_numbers c.args.upper.now c.args.place c.tuple-row.result.now c.len-count.ensures.set c.tuple-row.ensures);
}

pub returns-clause-tuples : goal.returns-clause-tuples
returns-clause-tuples c = λ t at sorted. put_is c.args.upper.now.tuples c.args.place c.tuple-row.result.now c.in_ok-copy.copy c.args.set.now c.insert.new.self t c.tuple-row.ensures c.in_ok-copy.ensures c.in_ok-insert.ensures.ok c.arity-columns.ensures.set at sorted
