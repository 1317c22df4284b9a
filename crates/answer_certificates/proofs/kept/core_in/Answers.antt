use Rattle.std.proofs.Common.{ℕ, ◌<◌, ◌≤◌, length, subst}
use Rattle.std.specs.List.{All}
use Rattle.answer_texts.specs.Table.{IsTableOf}
use Rattle.answer_certificates.specs.Certificate.{ShowsFacts}
use Rattle.answer_certificates.specs.Core.{IsCore}
use Rattle.answer_certificates.specs.Parts.{AreNeeded, RuleOut, SayPart}
use Rattle.answer_certificates.specs.declared.facts.Core.{Core}
use Rattle.answer_certificates.proofs.kept.core_in.Goals as goal

pub found_shown-requires : goal.found_shown-requires
found_shown-requires g c =
    let p = c.args.prepared.now in
    let found = subst (λ (x : Core). IsCore p.target p.first_fact c.in_ok-facts.facts p.ready.bounds c.args.budget x) c.in-Trace.is c.in_ok-lasso.ensures in
    record {
      few = λ number made. subst (λ (n : ℕ). length c.in-Trace.lasso.states ≤ n) made.ready.states found.0;
      fewest = found.1;
    }

pub returns-in_ok-text-in-Unknown : goal.returns-in_ok-text-in-Unknown
returns-in_ok-text-in-Unknown g c =
    let p = c.args.prepared.now in
    let found = subst (λ (x : Core). IsCore p.target p.first_fact c.in_ok-facts.facts p.ready.bounds c.args.budget x) c.in-Unknown.is c.in_ok-lasso.ensures in
    record {
      cnf = c.in-Unknown.proof.cnf;
      says = subst (λ (n : ℕ). SayPart p.target p.first_fact n p.ready.bounds c.in-Unknown.proof.cnf) c.in_ok-facts.ensures found.1;
      shows = c.in_ok-text-in-Unknown.ensures;
    }

pub returns-in_ok-text-in-Refuted : goal.returns-in_ok-text-in-Refuted
returns-in_ok-text-in-Refuted g c =
    let p = c.args.prepared.now in
    let proof = c.in-Refuted.proof in
    let found = subst (λ (x : Core). IsCore p.target p.first_fact c.in_ok-facts.facts p.ready.bounds c.args.budget x) c.in-Refuted.is c.in_ok-lasso.ensures in
    let ruled = subst (λ (n : ℕ). RuleOut p.target p.first_fact n p.ready.bounds c.in-Refuted.kept proof.cnf) c.in_ok-facts.ensures found.2 in
    record {
      kept = c.in-Refuted.kept;
      names = c.in_ok-names-in-Refuted.names;
      rising = found.0.0;
      facts = subst (λ (n : ℕ). All (λ number. number < n) c.in-Refuted.kept) c.in_ok-facts.ensures found.0.1;
      named = c.in_ok-names-in-Refuted.ensures;
      cnf = proof.cnf;
      ruled = ruled;
      none = λ number made. c.kept_facts_rule_out.ensures number p c.in-Refuted.kept proof.cnf made ruled;
      needed = λ number made. subst (λ (n : ℕ). AreNeeded p.target p.first_fact n p.ready.bounds c.in-Refuted.kept) c.in_ok-facts.ensures (found.4 made.ready.table);
      scoped = λ number made. made.ready.states;
      shows = subst (λ (n : ℕ). ShowsFacts (IsTableOf p.ready.labels p.ready.bounds) proof.cnf n c.args.budget c.args.part c.in_ok-names-in-Refuted.names c.in_ok-text-in-Refuted.text) found.1.0
          (c.in_ok-text-in-Refuted.ensures c.args.budget found.1.2);
    }

pub core_shown-requires-clause-refutes : goal.core_shown-requires-clause-refutes
core_shown-requires-clause-refutes g c =
    let p = c.args.prepared.now in
    (subst (λ (x : Core). IsCore p.target p.first_fact c.in_ok-facts.facts p.ready.bounds c.args.budget x) c.in-Refuted.is c.in_ok-lasso.ensures).1.1

pub core_shown-requires-clause-laid : goal.core_shown-requires-clause-laid
core_shown-requires-clause-laid g c =
    let p = c.args.prepared.now in
    (subst (λ (x : Core). IsCore p.target p.first_fact c.in_ok-facts.facts p.ready.bounds c.args.budget x) c.in-Refuted.is c.in_ok-lasso.ensures).3

pub spent_shown-requires-clause-spends : goal.spent_shown-requires-clause-spends
spent_shown-requires-clause-spends g c =
    let p = c.args.prepared.now in
    (subst (λ (x : Core). IsCore p.target p.first_fact c.in_ok-facts.facts p.ready.bounds c.args.budget x) c.in-Unknown.is c.in_ok-lasso.ensures).0.1

pub spent_shown-requires-clause-laid : goal.spent_shown-requires-clause-laid
spent_shown-requires-clause-laid g c =
    let p = c.args.prepared.now in
    (subst (λ (x : Core). IsCore p.target p.first_fact c.in_ok-facts.facts p.ready.bounds c.args.budget x) c.in-Unknown.is c.in_ok-lasso.ensures).2
