use Rattle.std.proofs.Common.{◌≡◌, List, length, All}
use Rattle.core_tree.specs.declared.model.Column.{Column}
use Rattle.core_tree.specs.Models.{IsParent}
use Rattle.resolve_check.proofs.Owners.{all_more, all_whole}
use Rattle.resolve_check.proofs.fields.are_rows.Goals as goal

pub loop-row-preserved : goal.loop-row-preserved
loop-row-preserved c = record {
  wide = all_more (λ (r : List Column). length r ≡ c.args.columns) c.args.rows.now c.loop-row.row-index c.row-item.result c.loop-row-test.true c.row-item.is c.loop-row.invariant.wide (c.is_row.ensures.wide c.if-not-is_row.false);
  parts = all_more (λ (r : List Column). All (IsParent c.args.sigs) r) c.args.rows.now c.loop-row.row-index c.row-item.result c.loop-row-test.true c.row-item.is c.loop-row.invariant.parts (c.is_row.ensures.parts c.if-not-is_row.false);
}

pub returns-clause-wide : goal.returns-clause-wide
returns-clause-wide c = λ t. all_whole (λ (r : List Column). length r ≡ c.args.columns) c.args.rows.now c.loop-row.row-index c.loop-row-test.false c.loop-row.invariant.wide

pub returns-clause-parts : goal.returns-clause-parts
returns-clause-parts c = λ t. all_whole (λ (r : List Column). All (IsParent c.args.sigs) r) c.args.rows.now c.loop-row.row-index c.loop-row-test.false c.loop-row.invariant.parts
