use Rattle.std.proofs.Common.{arith, List, subst, ◌++◌, ◌∷◌, ◌+◌, ◌∙◌, drop, flat_map, sym, ap}
use Rattle.std.proofs.lemmas.List.{drop_more}
use Rattle.load_state.specs.Opens.{enums_from, enums_of}
use Rattle.load_state.specs.Sigs.{declared_in, sigs_of, parameters_of}
use Rattle.std.specs.HashMap.{get_by_text}
use Rattle.load_state.specs.Counts.{TestsAll}
use Rattle.load_state.specs.declared.table.DeclaredSig.{DeclaredSig}
use Rattle.load_state.proofs.Counts.{declared_end, declared_on, stays_told, tested}
use Rattle.load_state.proofs.Opens.{enums_next}
use Rattle.load_state.proofs.table.Table.new.Goals as goal

pub returns-clause-tells : goal.returns-clause-tells
returns-clause-tells c =
    let same =
    declared_end c.as_slice-paragraph-items.result.now c.loop-paragraph.paragraph-index (sigs_of c.args.tree.now) c.loop-paragraph.table.declared.items (omega (arith, c.loop-paragraph-test.false)) c.loop-paragraph.invariant.1 in
    subst (λ (ds : List DeclaredSig). TestsAll (parameters_of c.args.tree.now) ds (get_by_text c.loop-paragraph.table.known)) same
    (tested (parameters_of c.args.tree.now) c.loop-paragraph.table.declared.items (get_by_text c.loop-paragraph.table.known) c.loop-paragraph.invariant.2.0)

pub loop-paragraph-preserved : goal.loop-paragraph-preserved
loop-paragraph-preserved c =
    let inv = c.loop-paragraph.invariant in
    let ps = c.as_slice-paragraph-items.result.now in
    let i = c.loop-paragraph.paragraph-index in
    let p = c.paragraph-item.result in
    let old = c.loop-paragraph.table in
    let here = drop_more ps i p c.loop-paragraph-test.true ∙ ap (λ x. x ∷ drop (i + 1) ps) (sym c.paragraph-item.is) in
    let added = c.in_ok-add_paragraph.ensures in (
      enums_next p (drop (i + 1) ps) old.sigs c.add_paragraph.new.self.sigs (enums_of c.args.tree.now) old.enums.items c.add_paragraph.new.self.enums.items
          (inv.0 ∙ ap (λ xs. old.enums.items ++ enums_from old.sigs xs) here) added.enums added.sigs,
      declared_on p (drop (i + 1) ps) (sigs_of c.args.tree.now) old.declared.items c.add_paragraph.new.self.declared.items (inv.1 ∙ ap (λ xs. old.declared.items ++ flat_map declared_in xs) here) added.declared,
      stays_told _ _ _ _ _ _ (parameters_of c.args.tree.now) added.tells inv.2,
    )
