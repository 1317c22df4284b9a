use Rattle.std.proofs.Common.{[], ◌∷◌, List, subst}
use Rattle.syntax_tree.specs.declared.expr.Named.{Named}
use Rattle.resolve_names.specs.Noted.{has_text, Notes}
use Rattle.resolve_names.proofs.Noting.{notes_then}
use Rattle.resolve_names.proofs.twice.note_sig.Goals as goal

pub returns-in_ok-sigs-in-Sig : goal.returns-in_ok-sigs-in-Sig
returns-in_ok-sigs-in-Sig c =
    rw c.in-Sig.is (subst (λ (ns : List Named). Notes ns (has_text c.args.known.now) c.args.least (has_text c.note_all.new.known) c.in_ok-sigs-in-Sig.sigs)
    c.as_slice.ensures c.in_ok-sigs-in-Sig.ensures)

pub returns-in_ok-all-in-Enum : goal.returns-in_ok-all-in-Enum
returns-in_ok-all-in-Enum c =
    let later : Notes c.in-Enum.e.members (has_text c.note.new.known) c.in_ok-first-in-Enum.first (has_text c.note_all-in-Enum.new.known) c.in_ok-all-in-Enum.all =
    subst (λ (ns : List Named). Notes ns (has_text c.note.new.known) c.in_ok-first-in-Enum.first (has_text c.note_all-in-Enum.new.known) c.in_ok-all-in-Enum.all)
    c.as_slice-in-Enum.ensures c.in_ok-all-in-Enum.ensures in
    rw c.in-Enum.is (notes_then (has_text c.args.known.now) c.args.least (has_text c.note.new.known) c.in_ok-first-in-Enum.first (has_text c.note_all-in-Enum.new.known) c.in_ok-all-in-Enum.all
    (c.in-Enum.e.name ∷ []) c.in-Enum.e.members c.in_ok-first-in-Enum.ensures later)
