use Rattle.std.proofs.Common.{◌∙◌}
use Rattle.bound_numbers.specs.Tables.{table_of}
use Rattle.bound_numbers.proofs.Rules.{sums_are, numbers_are}
use Rattle.bound_numbers.proofs.sig_numbers.numbers.Goals as goal

pub returns-clause-numbered : goal.returns-clause-numbered
returns-clause-numbered c =
    let sigs = c.args.sigs.now in
    let entries = c.args.entries.now in
    let listed = c.in_ok-listed.listed in
    let families = c.in_ok-families.families in
    let sums = c.in_ok-sums.sums in
    record {
      sums = table_of sums;
      numbers = table_of c.in_ok-numbers.numbers;
      are_sums = sums_are sigs entries listed families sums (c.in_ok-listed.ensures.length ∙ c.len.ensures) c.in_ok-families.ensures.length c.in_ok-listed.ensures.listed c.in_ok-families.ensures.families (c.are_sums.ensures c.if-not-are_sums.false);
      are_numbers = numbers_are sigs entries c.overall_number-overall.result families sums (table_of c.in_ok-numbers.numbers) c.in_ok-families.ensures.length c.overall_number-overall.ensures c.in_ok-families.ensures.families (c.are_numbers.ensures c.if-not-are_numbers.false);
      each = c.in_ok-list.ensures.each;
    }
