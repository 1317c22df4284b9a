-- Rows that are added each once.
use Rattle.std.proofs.Common.{◌≡◌, ℕ, ◌+◌, ◌<◌, Bool, true, false, cond, [], ◌∷◌, ◌++◌, Contains, get_or, take, length, refl, sym, ap, ◌∙◌, subst, ◌⊎◌, inl, inr, ⊎_elim}
use Rattle.std.specs.List.{IsDistinct}
use Rattle.std.proofs.lemmas.List.{take_more}
use Rattle.std.proofs.lemmas.List.Elements.{Contains-append_left, Contains-push, Contains-push_cases}
use Rattle.std.proofs.lemmas.Map.Keys.{IsDistinct-push}
use Rattle.core_tree.specs.Types.{TypeRow, TypeRows}
use Rattle.resolve_type_check.specs.Same.{same_row, has_row, with_row, added, Within, IsEachOnce}
use Rattle.resolve_type_check.proofs.Equal.{same_row_laws, has_from}
use Rattle.resolve_type_check.proofs.Flat.{none_in, cons_cases, head_in, tail_in}

module _ (rows : TypeRows) (row : TypeRow) where
  from_by : (b : Bool) (r : TypeRow) → Contains (cond b rows (rows ++ row ∷ [])) r → Contains rows r ⊎ (row ≡ r)
  from_by true r h = inl h
  from_by false r h = Contains-push_cases rows row r h

  old_by : (b : Bool) (r : TypeRow) → Contains rows r → Contains (cond b rows (rows ++ row ∷ [])) r
  old_by true r h = h
  old_by false r h = Contains-append_left rows (row ∷ []) r h

  new_by : (b : Bool) → has_row rows row ≡ b → Contains (cond b rows (rows ++ row ∷ [])) row
  new_by true e = has_from rows row e
  new_by false e = Contains-push rows row

  once_by : (b : Bool) → has_row rows row ≡ b → IsDistinct same_row rows → IsDistinct same_row (cond b rows (rows ++ row ∷ []))
  once_by true e d = d
  once_by false e d = IsDistinct-push same_row_laws rows row d e

added_old : (rows more : TypeRows) (r : TypeRow) → Contains rows r → Contains (added rows more) r
added_old rows [] r h = h
added_old rows (row ∷ more) r h = added_old (with_row rows row) more r (old_by rows row (has_row rows row) r h)

added_from : (rows more : TypeRows) (r : TypeRow) → Contains (added rows more) r → Contains rows r ⊎ Contains more r
added_from rows [] r h = inl h
added_from rows (row ∷ more) r h = ⊎_elim
    (λ k. ⊎_elim (λ o. inl o) (λ (e : row ≡ r). inr (subst (λ x. Contains (row ∷ more) x) e (head_in row more))) (from_by rows row (has_row rows row) r k))
    (λ k. inr (tail_in row more r k))
    (added_from (with_row rows row) more r h)

added_new : (rows more : TypeRows) (r : TypeRow) → Contains more r → Contains (added rows more) r
added_new rows [] r h = absurd (none_in r h)
added_new rows (row ∷ more) r h = ⊎_elim
    (λ (e : row ≡ r). added_old (with_row rows row) more r (subst (λ x. Contains (with_row rows row) x) e (new_by rows row (has_row rows row) refl)))
    (λ k. added_new (with_row rows row) more r k)
    (cons_cases row more r h)

added_once : (rows more : TypeRows) → IsDistinct same_row rows → IsDistinct same_row (added rows more)
added_once rows [] d = d
added_once rows (row ∷ more) d = added_once (with_row rows row) more (once_by rows row (has_row rows row) refl d)

nothing_once : IsDistinct same_row []
unfolding IsDistinct
nothing_once = tt

pub each_once_is : (rows made : TypeRows) → made ≡ added [] rows → IsEachOnce rows made
each_once_is rows made e = subst (IsEachOnce rows) (sym e) (record {
  same = record {
    to = λ r h. ⊎_elim (λ n. absurd (none_in r n)) (λ k. k) (added_from [] rows r h);
    back = λ r h. added_new [] rows r h;
  };
  once = added_once [] rows nothing_once;
})

added-append : (rows xs ys : TypeRows) → added rows (xs ++ ys) ≡ added (added rows xs) ys
added-append rows [] ys = refl
added-append rows (x ∷ xs) ys = added-append (with_row rows x) xs ys

pub added_more : (rows more : TypeRows) (i : ℕ) (row : TypeRow) → i < length more → row ≡ get_or more i row → with_row (added rows (take i more)) row ≡ added rows (take (i + 1) more)
added_more rows more i row lt e =
    sym (added-append rows (take i more) (row ∷ []))
    ∙ ap (λ xs. added rows xs) (ap (λ y. take i more ++ y ∷ []) e ∙ sym (take_more more i row lt))

pub within_more : (rows others : TypeRows) (i : ℕ) (row : TypeRow) → i < length rows → row ≡ get_or rows i row → Within (take i rows) others → has_row others row ≡ true → Within (take (i + 1) rows) others
within_more rows others i row lt e w has r h =
    ⊎_elim (λ k. w r k) (λ (s : row ≡ r). has_from others r (subst (λ x. has_row others x ≡ true) s has))
    (Contains-push_cases (take i rows) row r (subst (λ l. Contains l r) (take_more rows i row lt ∙ ap (λ y. take i rows ++ y ∷ []) (sym e)) h))

pub alike_more : (a b : TypeRows) (i : ℕ) (r q : TypeRow) → i < length a → i < length b → r ≡ get_or a i r → q ≡ get_or b i q → take i a ≡ take i b → r ≡ q → take (i + 1) a ≡ take (i + 1) b
alike_more a b i r q lt less at_r at_q before same =
    take_more a i r lt
    ∙ ap (λ y. take i a ++ y ∷ []) (sym at_r ∙ same ∙ at_q)
    ∙ ap (λ xs. xs ++ get_or b i q ∷ []) before
    ∙ sym (take_more b i q less)
