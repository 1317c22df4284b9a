use Rattle.std.proofs.Common.{List, subst}
use Rattle.core_tree.specs.declared.model.Sig.{Sig}
use Rattle.core_laws.specs.Typed.{ExtendsPlain}
use Rattle.answer_checks.proofs.models.extends_plain.Goals as goal

pub returns : goal.returns
returns c = λ t. subst (λ (l : List Sig). ExtendsPlain l) c.as_slice.ensures (c.extend_plain.ensures t)
