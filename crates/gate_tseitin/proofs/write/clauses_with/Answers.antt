use Rattle.std.proofs.Common.{ℤ, ◌<◌, ◌∙◌, List, length, ap, arith}
use Rattle.gate_tseitin.specs.Named.{satisfied}
use Rattle.gate_trait.specs.NodeWords.{number_of}
use Rattle.gate_tseitin.proofs.Linking.{linked, sure_kept, roots_kept}
use Rattle.gate_tseitin.proofs.Naming.{names_each, names_named, one_there, all_there}
use Rattle.gate_tseitin.proofs.WrittenLaw.{written, says_all}
use Rattle.gate_tseitin.proofs.write.clauses_with.Goals as goal

pub define_all-requires-clause-fitting : goal.define_all-requires-clause-fitting
define_all-requires-clause-fitting c =
    let store = c.args.store.now in
    let kept = c.args.kept.now in
    let names = c.args.names.now.list.items in
    record {
      layered = c.requires.layered;
      linked = linked store c.args.sure c.args.roots.now c.args.marks.now kept c.requires.reached c.requires.kept;
      names_each = names_each kept store names c.requires.named;
      named = names_named kept store names c.requires.named;
    }

pub add_clause-requires-clause-there : goal.add_clause-requires-clause-there
add_clause-requires-clause-there c =
    let long = names_each c.args.kept.now c.args.store.now c.args.names.now.list.items c.requires.named in
    let there : number_of c.args.sure < length c.args.names.now.list.items = omega (arith, c.requires.sure_there, long) in
    one_there c.args.sure (length c.args.names.now.list.items) there

pub add_units-requires-clause-there : goal.add_units-requires-clause-there
add_units-requires-clause-there c = all_there c.args.roots.now (length c.args.names.now.list.items) (length c.args.store.now) (names_each c.args.kept.now c.args.store.now c.args.names.now.list.items c.requires.named) c.requires.roots_there

pub returns-clause-written : goal.returns-clause-written
returns-clause-written c =
    let store = c.args.store.now in
    let sure = c.args.sure in
    let roots = c.args.roots.now in
    let marks = c.args.marks.now in
    let kept = c.args.kept.now in
    written marks kept store c.args.names.now.list.items c.requires.named c.requires.inputs c.requires.layered c.requires.reached.closed
    (linked store sure roots marks kept c.requires.reached c.requires.kept)
    sure roots c.add_clause.new.cnf.clauses c.add_units.new.cnf.clauses
    c.in_ok-add_units.ensures.units
    (λ v vs shown. says_all _ _ _ _ _ (ap (λ (cs : List (List ℤ)). satisfied v cs) c.new.ensures) (c.in_ok-define_all.ensures.value v vs shown) (c.in_ok-add_clause.ensures.value v))
    c.requires.sure_there c.requires.roots_there
    (sure_kept store sure roots marks kept c.requires.reached c.requires.kept)
    (roots_kept store sure roots marks kept c.requires.reached c.requires.kept)
    c.add_units.new.cnf.variables (c.in_ok-add_units.ensures.variables ∙ c.in_ok-add_clause.ensures.variables ∙ c.in_ok-define_all.ensures.variables ∙ c.requires.counted)
