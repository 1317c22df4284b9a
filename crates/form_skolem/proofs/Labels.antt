-- Labels that are taken, and labels that are free.
use Rattle.std.proofs.Common.{◌≡◌, ℕ, ◌<◌, Bool, true, false, cond, List, [], ◌∷◌, ◌++◌, map, refl, sym, ◌∙◌, subst, inl, inr, arith}
use Rattle.std.specs.Prelude.{◌+◌, ◌≤◌, Contains, decimal}
use borrow.Author.Count.{below_more}
use Rattle.std.specs.Str.{bytes_eq}
use Rattle.std.specs.Bool.{Decides}
use Rattle.std.proofs.lemmas.Slice.Eq.{bytes_eq-Decides}
use Rattle.std.proofs.lemmas.Bool.{false≢true}
use Rattle.std.proofs.lemmas.Bool.Decides.{not_from_Decides}
use Rattle.std.proofs.lemmas.List.Elements.{Contains-append_left, Contains-append_right, Contains-append_cases, Contains-push, Contains-push_cases}
use Rattle.core_tree.specs.declared.model.Sig.{Sig}
use Rattle.core_tree.specs.declared.model.Field.{Field}
use Rattle.form_skolem.specs.Opened.{IsLabel, plain, counted, sig_labels, labels}
use Rattle.form_skolem.specs.Steps.{sig_has, field_has, is_taken}

abbrev field_labels : List Field → List (List ℕ)
field_labels fields = map (λ (f : Field). f.label) fields

none_in_nil : (x : List ℕ) → Contains [] x → ⊥
none_in_nil x (k, low, e) = absurd (omega arith)

-- the first of a list, and the others
heads : (x y : List ℕ) (xs : List (List ℕ)) → bytes_eq x y ≡ true → Contains (x ∷ xs) y
heads x y xs e = Contains-append_left (x ∷ []) xs y (subst (λ (z : List ℕ). Contains (x ∷ []) z) ((bytes_eq-Decides x y).0 e) (Contains-push [] x))

lacks : (x y : List ℕ) (xs : List (List ℕ)) → bytes_eq x y ≡ false → (Contains xs y → ⊥) → Contains (x ∷ xs) y → ⊥
lacks x y xs e none c = elim (Contains-append_cases (x ∷ []) xs y c) [
  | inl h ↦ elim (Contains-push_cases [] x y h) [
    | inl g ↦ none_in_nil y g
    | inr same ↦ not_from_Decides (bytes_eq x y) (bytes_eq-Decides x y) e same
  ]
  | inr h ↦ none h
]

-- a test that says whether a label is in a list, by its first and its others
decided : (x y : List ℕ) (xs : List (List ℕ)) (b : Bool) → Decides b (Contains xs y) → Decides (cond (bytes_eq x y) true b) (Contains (x ∷ xs) y)
decided x y xs b d = by_first (bytes_eq x y) refl
  where
    by_first : (t : Bool) → bytes_eq x y ≡ t → Decides (cond t true b) (Contains (x ∷ xs) y)
    by_first true e = ((λ is. heads x y xs e), (λ c. refl))
    by_first false e = ((λ is. Contains-append_right (x ∷ []) xs y (d.0 is)), (λ c. elim (Contains-append_cases (x ∷ []) xs y c) [ inl h ↦ absurd (lacks x y [] e (none_in_nil y) h) | inr h ↦ d.1 h ]))

sig_decides : (sigs : List Sig) (label : List ℕ) → Decides (sig_has sigs label) (Contains (sig_labels sigs) label)
sig_decides [] label = ((λ is. absurd (false≢true is)), (λ c. absurd (none_in_nil label c)))
sig_decides (s ∷ sigs) label = decided s.label label (sig_labels sigs) (sig_has sigs label) (sig_decides sigs label)

field_decides : (fields : List Field) (label : List ℕ) → Decides (field_has fields label) (Contains (field_labels fields) label)
field_decides [] label = ((λ is. absurd (false≢true is)), (λ c. absurd (none_in_nil label c)))
field_decides (f ∷ fields) label = decided f.label label (field_labels fields) (field_has fields label) (field_decides fields label)

taken_decides : (sigs : List Sig) (fields : List Field) (label : List ℕ) → Decides (is_taken sigs fields label) (Contains (labels sigs fields) label)
taken_decides sigs fields label = by_sigs (sig_has sigs label) (sig_decides sigs label)
  where
    by_sigs : (t : Bool) → Decides t (Contains (sig_labels sigs) label) → Decides (cond t true (field_has fields label)) (Contains (labels sigs fields) label)
    by_sigs true d = ((λ is. Contains-append_left (sig_labels sigs) (field_labels fields) label (d.0 refl)), (λ c. refl))
    by_sigs false d = (
      (λ is. Contains-append_right (sig_labels sigs) (field_labels fields) label ((field_decides fields label).0 is)),
      (λ c. elim (Contains-append_cases (sig_labels sigs) (field_labels fields) label c) [ inl h ↦ absurd (false≢true (d.1 h)) | inr h ↦ (field_decides fields label).1 h ]),
    )

taken : (sigs : List Sig) (fields : List Field) (label text : List ℕ) → text ≡ label → true ≡ is_taken sigs fields text → Contains (labels sigs fields) label
taken sigs fields label text e is = subst (Contains (labels sigs fields)) e ((taken_decides sigs fields text).0 (sym is))

free : (sigs : List Sig) (fields : List Field) (label text : List ℕ) → text ≡ label → false ≡ is_taken sigs fields text → Contains (labels sigs fields) label → ⊥
free sigs fields label text e is c = not_from_Decides (is_taken sigs fields text) (taken_decides sigs fields text) (sym is) (subst (Contains (labels sigs fields)) (sym e) c)

pub first_is : (sigs : List Sig) (fields : List Field) (first label text : List ℕ) → label ≡ first → text ≡ label → false ≡ is_taken sigs fields text → IsLabel (labels sigs fields) first label
first_is sigs fields first label text e same is = subst (λ (l : List ℕ). IsLabel (labels sigs fields) first l) (sym e) (plain (free sigs fields first text (same ∙ e) is))

pub next_is : (sigs : List Sig) (fields : List Field) (first label text : List ℕ) (number : ℕ) → label ≡ first ++ 36 ∷ decimal number → text ≡ label → false ≡ is_taken sigs fields text → Contains (labels sigs fields) first → 2 ≤ number →
    ((m : ℕ) → 2 ≤ m → m < number → Contains (labels sigs fields) (first ++ 36 ∷ decimal m)) → IsLabel (labels sigs fields) first label
next_is sigs fields first label text number e same is given two below = subst (λ (l : List ℕ). IsLabel (labels sigs fields) first l) (sym e) (counted number given two (free sigs fields (first ++ 36 ∷ decimal number) text (same ∙ e) is) below)

pub next_taken : (sigs : List Sig) (fields : List Field) (first label text : List ℕ) (number : ℕ) → label ≡ first ++ 36 ∷ decimal number → text ≡ label → true ≡ is_taken sigs fields text →
    ((m : ℕ) → 2 ≤ m → m < number → Contains (labels sigs fields) (first ++ 36 ∷ decimal m)) → (m : ℕ) → 2 ≤ m → m < number + 1 → Contains (labels sigs fields) (first ++ 36 ∷ decimal m)
next_taken sigs fields first label text number e same is below m two low =
    below_more (λ (k : ℕ). 2 ≤ k → Contains (labels sigs fields) (first ++ 36 ∷ decimal k)) number (λ k under over. below k over under) (λ over. taken sigs fields (first ++ 36 ∷ decimal number) text (same ∙ e) is) m low two

pub taken_first : (sigs : List Sig) (fields : List Field) (text first again : List ℕ) → text ≡ first → again ≡ first → true ≡ is_taken sigs fields text → Contains (labels sigs fields) again
taken_first sigs fields text first again e f is = taken sigs fields again text (e ∙ sym f) is
