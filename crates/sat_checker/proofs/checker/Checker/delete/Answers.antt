use Rattle.std.proofs.Common.{◌≡◌, ap, sym, ◌∙◌, List, ℤ, Ok, Bool, true, false, cond, ◌&&◌, refl, is_some, nat_eq}
use Rattle.std.specs.List.{list_all}
use Rattle.std.specs.Map.{lookup}
use Rattle.sat_lrat.specs.Step.{State, are_distinct}
use Rattle.sat_checker.proofs.Standing.{same_stand}
use Rattle.sat_checker.proofs.checker.Checker.delete.Goals as goal
use Rattle.sat_checker.proofs.checker.Checker.delete.Goals.{else-all_stand-via-then-all_stand+else-are_distinct, else-all_stand-via-else-all_stand}

both : {X : Type 0} (a b : Bool) (x y : X) → a ≡ true → b ≡ true → cond (a && b) x y ≡ x
both a b x y p q = rw (p, q) refl

not_first : {X : Type 0} (a b : Bool) (x y : X) → a ≡ false → cond (a && b) x y ≡ y
not_first a b x y p = rw p refl

not_second : {X : Type 0} (a b : Bool) (x y : X) → a ≡ true → b ≡ false → cond (a && b) x y ≡ y
not_second a b x y p q = rw (p, q) refl

pub returns-then-are_distinct-clause-passes : goal.returns-then-are_distinct-clause-passes
returns-then-are_distinct-clause-passes c =
    let e : list_all (λ id. is_some (lookup (nat_eq id) c.self.inside.clauses)) c.args.ids.now ≡ true = cc in
    let d : are_distinct c.args.ids.now ≡ true = cc in
    rw (← c.self.view_is, same_stand {X = List ℤ} c.self.inside.clauses c.args.ids.now) (both _ _ _ _ e d ∙ ap (λ s. let t : State = record { standing = s; top = c.self.inside.top } in Ok t) (sym (c.remove_all.ensures.without ∙ (cc))), refl)

pub returns-clause-fault : goal.returns-clause-fault
returns-clause-fault c =
    rw (← c.self.view_is, same_stand {X = List ℤ} c.self.inside.clauses c.args.ids.now) (
      refl,
      elim c.else-all_stand.branch [
        | else-all_stand-via-then-all_stand+else-are_distinct w ↦
            let e : list_all (λ id. is_some (lookup (nat_eq id) c.self.inside.clauses)) c.args.ids.now ≡ true = cc in
            let d : are_distinct c.args.ids.now ≡ false = cc in
            not_second _ _ _ _ e d
        | else-all_stand-via-else-all_stand w ↦
            let e : list_all (λ id. is_some (lookup (nat_eq id) c.self.inside.clauses)) c.args.ids.now ≡ false = cc in
            not_first _ _ _ _ e
      ],
    )
