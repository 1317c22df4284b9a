use Rattle.core_tree.specs.Trees.{claim_of}
use Rattle.form_kernel.proofs.Promised.{kernel_left, kernel_same, kernel_past, kernel_parts}
use Rattle.form_kernel.proofs.forms.kernel.Goals as goal

pub returns-clause-forms : goal.returns-clause-forms
returns-clause-forms c = kernel_left (claim_of c.args.formula.now) c.kernel_of.result c.kernel_of.ensures

pub returns-clause-same : goal.returns-clause-same
returns-clause-same c = kernel_same (claim_of c.args.formula.now) c.kernel_of.result c.kernel_of.ensures

pub returns-clause-past : goal.returns-clause-past
returns-clause-past c = kernel_past (claim_of c.args.formula.now) c.kernel_of.result c.kernel_of.ensures

pub returns-clause-parts : goal.returns-clause-parts
returns-clause-parts c = kernel_parts (claim_of c.args.formula.now) c.kernel_of.result c.kernel_of.ensures
