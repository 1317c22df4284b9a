-- The operators on types: where the tuples of the operands have rows, those of the operator have.
use Rattle.std.proofs.Common.{◌≡◌, inl, ℕ, List, [], ◌∷◌, ◌++◌, map, Some, refl, sym, ap, ◌∙◌, subst}
use Rattle.std.specs.List.{flat_map}
use Rattle.std.specs.Prelude.{reverse}
use Rattle.std.proofs.lemmas.List.{reverse-append, reverse-reverse}
use Rattle.core_tree.specs.declared.model.Model.{Model}
use Rattle.core_tree.specs.declared.model.Column.{Column}
use Rattle.core_tree.specs.Types.{TypeRow, TypeRows, row_pairs, option_rows, both_columns, row_meet, turned_join, row_join, first_meets, last_meets, each_pair}
use Rattle.core_meaning.specs.declared.scopes.Scopes.{Scopes}
use Rattle.core_meaning.specs.Sequence.{LassoValue}
use Rattle.core_laws.proofs.Members.{Member, member_left, member_right, member_map, member_flat}
use Rattle.core_laws.proofs.Held.{IsGiven, HasColumn, HasRow, meets}

module _ (model : Model) (scopes : Scopes) (lasso : LassoValue) where
  -- one of the rows has the tuple
  abbrev pub InRows : TypeRows → List ℕ → Type 0
  InRows rows t = (r : TypeRow) × Member r rows × HasRow model scopes lasso r t

  pub rows_left : (a b : TypeRows) (t : List ℕ) → InRows a t → InRows (a ++ b) t
  rows_left a b t (r, among, has) = (r, member_left a b r among, has)

  pub rows_right : (a b : TypeRows) (t : List ℕ) → InRows b t → InRows (a ++ b) t
  rows_right a b t (r, among, has) = (r, member_right a b r among, has)

  pub row_joined : (r q : TypeRow) (s u : List ℕ) → HasRow model scopes lasso r s → HasRow model scopes lasso q u → HasRow model scopes lasso (r ++ q) (s ++ u)
  row_joined [] q [] u one two = two
  row_joined (c ∷ r) q (a ∷ s) u one two = (one.0, row_joined r q s u one.1 two)
  row_joined [] q (a ∷ s) u one two = elim one [ ]
  row_joined (c ∷ r) q [] u one two = elim one [ ]

  pub rows_pair : (a b : TypeRows) (s u : List ℕ) → InRows a s → InRows b u → InRows (row_pairs a b) (s ++ u)
  rows_pair a b s u (r, among_r, has_r) (q, among_q, has_q) =
      (r ++ q, member_flat (λ p. map (λ o. p ++ o) b) a r (r ++ q) among_r (member_map (λ o. r ++ o) b q among_q), row_joined r q s u has_r has_q)

  -- a row that two rows give
  pub in_pair : (f : TypeRow → TypeRow → TypeRows) (a b : TypeRows) (r q x : TypeRow) → Member r a → Member q b → Member x (f r q) → Member x (each_pair f a b)
  in_pair f a b r q x among_r among_q among = member_flat (λ p. flat_map (f p) b) a r x among_r (member_flat (f r) b q x among_q among)

  -- the last column of a row
  pub row_cut : (r : TypeRow) (s : List ℕ) (x : ℕ) → HasRow model scopes lasso r (s ++ x ∷ []) → (q : TypeRow) × (c : Column) × (r ≡ q ++ c ∷ []) × HasRow model scopes lasso q s × HasColumn model scopes lasso c x
  row_cut [] [] x has = elim has [ ]
  row_cut [] (a ∷ s) x has = elim has [ ]
  row_cut (c ∷ []) [] x has = ([], c, refl, tt, has.0)
  row_cut (c ∷ d ∷ r) [] x has = elim has.1 [ ]
  row_cut (c ∷ r) (a ∷ s) x has =
      let (q, d, is, before, last) = row_cut r s x has.1 in
      (c ∷ q, d, ap (λ p. c ∷ p) is, (has.0, before), last)

  one_column : (r : TypeRow) (x : ℕ) → HasRow model scopes lasso r (x ∷ []) → (c : Column) × (r ≡ c ∷ []) × HasColumn model scopes lasso c x
  one_column [] x has = elim has [ ]
  one_column (c ∷ []) x has = (c, refl, has.0)
  one_column (c ∷ d ∷ r) x has = elim has.1 [ ]

  turned : (q : TypeRow) (c : Column) → reverse (q ++ c ∷ []) ≡ c ∷ reverse q
  turned q c = reverse-append q (c ∷ [])

  module _ (given : IsGiven model scopes lasso) where
    pub rows_join : (a b : TypeRows) (s u : List ℕ) (x : ℕ) → InRows a (s ++ x ∷ []) → InRows b (x ∷ u) → InRows (each_pair (row_join model.sigs) a b) (s ++ u)
    rows_join a b s u x (r, among_r, has_r) ([], among_q, has_q) = elim has_q [ ]
    rows_join a b s u x (r, among_r, has_r) (d ∷ q, among_q, has_q) =
        let (p, c, is, before, last) = row_cut r s x has_r in
        let (m, met, held) = meets model scopes lasso given c d x last has_q.0 in
        let row : row_join model.sigs r (d ∷ q) ≡ (p ++ q) ∷ [] =
        ap (λ o. turned_join model.sigs o (d ∷ q)) (ap reverse is ∙ turned p c) ∙ (ap (option_rows (λ y. reverse (reverse p) ++ q)) met ∙ ap (λ o. (o ++ q) ∷ []) (reverse-reverse p)) in
        (p ++ q, in_pair (row_join model.sigs) a b r (d ∷ q) (p ++ q) among_r among_q (subst (Member (p ++ q)) (sym row) (inl refl)), row_joined p q s u before has_q.1)

    row_meets : (r q : TypeRow) (t : List ℕ) → HasRow model scopes lasso r t → HasRow model scopes lasso q t → (m : TypeRow) × (row_meet model.sigs r q ≡ Some m) × HasRow model scopes lasso m t
    row_meets [] [] [] one two = ([], refl, tt)
    row_meets (c ∷ r) (d ∷ q) (a ∷ t) one two =
        let (x, met, held) = meets model scopes lasso given c d a one.0 two.0 in
        let (m, rest, has) = row_meets r q t one.1 two.1 in
        (x ∷ m, ap (λ o. both_columns o (row_meet model.sigs r q)) met ∙ ap (both_columns (Some x)) rest, (held, has))
    row_meets [] q (a ∷ t) one two = elim one [ ]
    row_meets (c ∷ r) q [] one two = elim one [ ]
    row_meets [] (d ∷ q) [] one two = elim two [ ]
    row_meets (c ∷ r) [] (a ∷ t) one two = elim two [ ]

    pub rows_meet : (a b : TypeRows) (t : List ℕ) → InRows a t → InRows b t → InRows (each_pair (λ r q. option_rows (λ x. x) (row_meet model.sigs r q)) a b) t
    rows_meet a b t (r, among_r, has_r) (q, among_q, has_q) =
        let (m, met, held) = row_meets r q t has_r has_q in
        let row : option_rows (λ x. x) (row_meet model.sigs r q) ≡ m ∷ [] = ap (option_rows (λ x. x)) met in
        (m, in_pair (λ p o. option_rows (λ x. x) (row_meet model.sigs p o)) a b r q m among_r among_q (subst (Member m) (sym row) (inl refl)), held)

    pub rows_first : (a b : TypeRows) (x : ℕ) (u : List ℕ) → InRows a (x ∷ []) → InRows b (x ∷ u) → InRows (each_pair (first_meets model.sigs) a b) (x ∷ u)
    rows_first a b x u (r, among_r, has_r) ([], among_q, has_q) = elim has_q [ ]
    rows_first a b x u (r, among_r, has_r) (d ∷ q, among_q, has_q) =
        let (c, is, has_c) = one_column r x has_r in
        let (m, met, held) = meets model scopes lasso given c d x has_c has_q.0 in
        let row : first_meets model.sigs r (d ∷ q) ≡ (m ∷ q) ∷ [] = ap (λ o. first_meets model.sigs o (d ∷ q)) is ∙ ap (option_rows (λ y. y ∷ q)) met in
        (m ∷ q, in_pair (first_meets model.sigs) a b r (d ∷ q) (m ∷ q) among_r among_q (subst (Member (m ∷ q)) (sym row) (inl refl)), (held, has_q.1))

    pub rows_last : (a b : TypeRows) (s : List ℕ) (x : ℕ) → InRows a (s ++ x ∷ []) → InRows b (x ∷ []) → InRows (each_pair (last_meets model.sigs) a b) (s ++ x ∷ [])
    rows_last a b s x (r, among_r, has_r) (q, among_q, has_q) =
        let (p, c, is, before, last) = row_cut r s x has_r in
        let (d, one, has_d) = one_column q x has_q in
        let (m, met, held) = meets model scopes lasso given d c x has_d last in
        let first : first_meets model.sigs q (reverse r) ≡ (m ∷ reverse p) ∷ [] = ap (first_meets model.sigs q) (ap reverse is ∙ turned p c) ∙ (ap (λ o. first_meets model.sigs o (c ∷ reverse p)) one ∙ ap (option_rows (λ y. y ∷ reverse p)) met) in
        let back : reverse (m ∷ reverse p) ≡ p ++ m ∷ [] = reverse-append (m ∷ []) (reverse p) ∙ ap (λ o. o ++ m ∷ []) (reverse-reverse p) in
        let row : last_meets model.sigs r q ≡ (p ++ m ∷ []) ∷ [] = ap (map (λ o. reverse o)) first ∙ ap (λ o. o ∷ []) back in
        (p ++ m ∷ [], in_pair (last_meets model.sigs) a b r q (p ++ m ∷ []) among_r among_q (subst (Member (p ++ m ∷ [])) (sym row) (inl refl)), row_joined p (m ∷ []) s (x ∷ []) before (held, tt))
