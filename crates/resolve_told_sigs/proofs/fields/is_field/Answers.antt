use Rattle.std.proofs.Common.{◌∙◌, ap, sym}
use Rattle.syntax_tree.specs.declared.module.FieldWord.TheVariants as word
use Rattle.resolve_told_sigs.specs.Words.{field_label, has_field_word}
use Rattle.resolve_told_sigs.proofs.fields.is_field.Goals as goal

pub returns-in_ok-told-in-Some : goal.returns-in_ok-told-in-Some
returns-in_ok-told-in-Some c = λ h. record {
  label_is = sym c.text.ensures ∙ (c.in_ok-is_field_label.ensures c.if-not-branch.false ∙ ap (λ n. field_label c.args.owner.now.label.now n) c.text-2.ensures);
  is_var = c.same_bool.ensures c.if-not-same_bool.false ∙ (c.has_field_word.ensures ∙ ap (λ ws. has_field_word word.Var ws) c.as_slice.ensures);
  owner = c.is_owner.ensures c.if-not-is_owner.false;
  bound = c.in-Some.bound;
  declared = c.in-Some.is;
  is_bound = c.in_ok-told-in-Some.ensures h;
}
