-- What the tuples of a set give, tuple by tuple.
use Rattle.std.proofs.Common.{◌≡◌, ◌↔◌, ◌⊎◌, ℕ, ◌<◌, List, [], ◌∷◌, ◌++◌, ◌+◌, ◌-◌, ◌≢◌, Bool, false, IsTrue, length, take, drop, get_or, Contains, inl, inr, refl, sym, ap, ◌∙◌, subst, arith, length-append, take_all}
use Rattle.std.proofs.lemmas.List.{take_more, get_or_default, get_or_push}
use Rattle.std.proofs.Math.Seq.{take-append_seam}
use Rattle.std.proofs.lemmas.Bool.{false≢true}
use Rattle.core_tuples.specs.Sets.{TupleList, In}
use Rattle.eval_sets.specs.declared.rows.Rule.{Rule}
use Rattle.eval_sets.specs.SetOf.{IsSetOf}
use Rattle.eval_sets.specs.Rows.{Ends, Passes, GivesItself, GivesFirst, GivesTwice, GivesAfter, GivesBefore}

pub itself_means : (rule : Rule) (set other : TupleList) (t : List ℕ) → ((s : List ℕ) × In s set × GivesItself rule other s t) ↔ (In t set × Passes rule other t)
itself_means rule set other t = (
  (λ (s, i, g). (subst (λ (v : List ℕ). In v set) (sym g.0) i, subst (λ (v : List ℕ). Passes rule other v) (sym g.0) g.1)),
  (λ (i, p). (t, i, (refl, p))),
)

pub first_means : (set : TupleList) (t : List ℕ) → ((s : List ℕ) × In s set × GivesFirst s t) ↔ ((x : ℕ) × (r : List ℕ) × In (x ∷ r) set × (t ≡ x ∷ []))
first_means set t = (
  (λ (s, i, g). (g.0, g.1, subst (λ (v : List ℕ). In v set) g.2 i, g.3)),
  (λ (x, r, i, e). (x ∷ r, i, (x, r, refl, e))),
)

pub twice_means : (set : TupleList) (t : List ℕ) → ((s : List ℕ) × In s set × GivesTwice s t) ↔ ((x : ℕ) × In (x ∷ []) set × (t ≡ x ∷ x ∷ []))
twice_means set t = (
  (λ (s, i, g). (g.0, subst (λ (v : List ℕ). In v set) g.1 i, g.2)),
  (λ (x, i, e). (x ∷ [], i, (x, refl, e))),
)

pub after_means : (set : TupleList) (begin t : List ℕ) → ((s : List ℕ) × In s set × GivesAfter begin s t) ↔ In (begin ++ t) set
after_means set begin t = (
  (λ (s, i, g). subst (λ (v : List ℕ). In v set) g i),
  (λ i. (begin ++ t, i, refl)),
)

pub before_means : (set : TupleList) (end t : List ℕ) → ((s : List ℕ) × In s set × GivesBefore end s t) ↔ In (t ++ end) set
before_means set end t = (
  (λ (s, i, g). subst (λ (v : List ℕ). In v set) g i),
  (λ i. (t ++ end, i, refl)),
)

-- the set of one tuple
pub one_set : (old new : TupleList) (tuple row : List ℕ) → old ≡ record { arity = 1; tuples = [] } → tuple ≡ row → IsSetOf new (λ t. In t old ⊎ (t ≡ tuple)) → IsSetOf new (λ t. t ≡ row)
one_set old new tuple row none same has = record {
  just = λ t. (
    (λ h. elim ((has.just t).0 h) [ inl o ↦ absurd (nothing t (subst (λ (s : TupleList). In t s) none o)) | inr e ↦ e ∙ same ]),
    (λ e. (has.just t).1 (inr (e ∙ sym same))),
  );
}
  where
    nothing : (t : List ℕ) → ¬ Contains [] t
    nothing t (k, lt, e) = omega arith

-- ---- a tuple's last number

pub last_split : (t : List ℕ) (n : ℕ) → n ≡ length t → 0 < n → t ≡ take (n - 1) t ++ get_or t (n - 1) 0 ∷ []
last_split t n e some =
    let back : n - 1 + 1 ≡ n = omega arith in
    sym (take_all n t (omega arith)) ∙ ap (λ (k : ℕ). take k t) (sym back) ∙ take_more t (n - 1) 0 (omega arith)

pub last_answer : (t : List ℕ) (n x d : ℕ) → n ≡ length t → 0 < n → x ≡ get_or t (n - 1) d → (r : List ℕ) × (t ≡ r ++ x ∷ [])
last_answer t n x d e some at = (take (n - 1) t, last_split t n e some ∙ ap (λ (k : ℕ). take (n - 1) t ++ k ∷ []) (get_or_default t (n - 1) 0 d (omega arith) ∙ sym at))

same_last : (r s : List ℕ) (x y : ℕ) → r ++ x ∷ [] ≡ s ++ y ∷ [] → x ≡ y
same_last r s x y e =
    let long : length r ≡ length s = omega (arith, ap (λ (v : List ℕ). length v) e, length-append r (x ∷ []), length-append s (y ∷ [])) in
    sym (get_or_push r x 0 (length r) refl) ∙ ap (λ (v : List ℕ). get_or v (length r) 0) e ∙ get_or_push s y 0 (length r) (sym long)

pub ends_answer : (atoms : TupleList) (t : List ℕ) (x : ℕ) (b : Bool) → ((r : List ℕ) × (t ≡ r ++ x ∷ [])) → IsTrue b ↔ In (x ∷ []) atoms → IsTrue b ↔ Ends atoms t
ends_answer atoms t x b (r, e) h = (
  (λ yes'. (r, x, e, h.0 yes')),
  (λ (s, y, f, i). h.1 (subst (λ (k : ℕ). In (k ∷ []) atoms) (same_last s r y x (sym f ∙ e)) i)),
)

pub ends_never : (atoms : TupleList) (t : List ℕ) → length t ≡ 0 → IsTrue false ↔ Ends atoms t
ends_never atoms t none = (
  (λ h. absurd (false≢true h)),
  (λ (r, x, e, i). absurd (omega (arith, ap (λ (v : List ℕ). length v) e, length-append r (x ∷ [])))),
)

-- ---- rows that a tuple gives

pub itself_row : (rule : Rule) (other : TupleList) (s row : List ℕ) → row ≡ s → Passes rule other s → (t : List ℕ) → (t ≡ row) ↔ GivesItself rule other s t
itself_row rule other s row same ok t = ((λ e. (e ∙ same, ok)), (λ g. g.0 ∙ sym same))

pub first_row : (s row : List ℕ) (x d : ℕ) → 0 < length s → x ≡ get_or s 0 d → row ≡ x ∷ [] → (t : List ℕ) → (t ≡ row) ↔ GivesFirst s t
first_row [] row x d some at same t = absurd (omega arith)
first_row (y ∷ s) row x d some at same t = (
  (λ e. (y, s, refl, e ∙ same ∙ ap (λ (k : ℕ). k ∷ []) at)),
  (λ (z, r, e, f). let here : z ≡ y = cc in f ∙ ap (λ (k : ℕ). k ∷ []) (here ∙ sym at) ∙ sym same),
)

pub twice_row : (s row : List ℕ) (x d : ℕ) → length s ≡ 1 → x ≡ get_or s 0 d → row ≡ x ∷ x ∷ [] → (t : List ℕ) → (t ≡ row) ↔ GivesTwice s t
twice_row [] row x d one at same t = absurd (omega arith)
twice_row (y ∷ []) row x d one at same t = (
  (λ e. (y, refl, e ∙ same ∙ ap (λ (k : ℕ). k ∷ k ∷ []) at)),
  (λ (z, e, f). let here : z ≡ y = cc in f ∙ ap (λ (k : ℕ). k ∷ k ∷ []) (here ∙ sym at) ∙ sym same),
)
twice_row (y ∷ z ∷ s) row x d one at same t = absurd (omega arith)

pub after_row : (begin s rest row : List ℕ) → s ≡ begin ++ rest → row ≡ rest → (t : List ℕ) → (t ≡ row) ↔ GivesAfter begin s t
after_row begin s rest row split same t = (
  (λ e. split ∙ ap (λ (v : List ℕ). begin ++ v) (sym (e ∙ same))),
  (λ g. append_cancel begin t rest (sym g ∙ split) ∙ sym same),
)
  where
    append_cancel : (xs ys zs : List ℕ) → xs ++ ys ≡ xs ++ zs → ys ≡ zs
    append_cancel [] ys zs e = e
    append_cancel (x ∷ xs) ys zs e = append_cancel xs ys zs (ap (λ (v : List ℕ). drop 1 v) e)

pub before_row : (end s rest row : List ℕ) → s ≡ rest ++ end → row ≡ rest → (t : List ℕ) → (t ≡ row) ↔ GivesBefore end s t
before_row end s rest row split same t = (
  (λ e. split ∙ ap (λ (v : List ℕ). v ++ end) (sym (e ∙ same))),
  (λ g. back g ∙ sym same),
)
  where
    back : s ≡ t ++ end → t ≡ rest
    back g =
        let both : t ++ end ≡ rest ++ end = sym g ∙ split in
        let long : length t ≡ length rest = omega (arith, ap (λ (v : List ℕ). length v) both, length-append t end, length-append rest end) in
        sym (take-append_seam t end) ∙ ap (λ (v : List ℕ). take (length t) v) both ∙ ap (λ (n : ℕ). take n (rest ++ end)) long ∙ take-append_seam rest end
