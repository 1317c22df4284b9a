-- The lists of children, one sig after another.
use Rattle.std.proofs.Common.{◌≡◌, ◌≢◌, ◌⊎◌, ◌↔◌, ◌∙◌, ℕ, zero, suc, ◌+◌, ◌<◌, ◌≤◌, List, [], ◌∷◌, ◌++◌, length, get_or, set, All, Contains, AllPairs, Option, Some, None, slice_get, refl, sym, ap, subst, arith, inl, inr}
use Rattle.std.proofs.lemmas.Bool.{cases_lt, cases_eq}
use Rattle.std.proofs.lemmas.List.{length-set, get_or-set_same, get_or-set_other}
use Rattle.std.proofs.lemmas.List.Elements.{Contains-get_or, Contains-append_left, Contains-push, Contains-push_cases}
use Rattle.std.proofs.lemmas.List.Quantifiers.{all_pairs_push}
use Rattle.std.proofs.lemmas.Option.{slice_get_within, same_Some}
use Rattle.core_tree.specs.declared.model.Sig.{Sig}
use Rattle.core_tree.specs.declared.model.SigKind.{SigKind}
use Rattle.core_tree.specs.declared.model.SigKind.TheVariants.{Top, Extends, Subset}
use Rattle.core_tree.specs.declared.model.Column.{Column}
use Rattle.core_tree.specs.declared.model.Column.TheVariants.{Sig as SigColumn, Int as IntColumn}
use Rattle.core_meaning.specs.Operators.{IsListOf}
use Rattle.core_meaning.specs.Declarations.{IsChild}
use Rattle.form_target.specs.Children.{IsChildColumn, IsChildBelow, HasChildren, HasChildrenBelow}
use Rattle.form_target.proofs.Lists.{nothing_in}

abbrev number_of : Column → ℕ
number_of (SigColumn c) = c
number_of IntColumn = 0

abbrev parent_of : SigKind → ℕ
parent_of (Extends p) = p
parent_of Top = 0
parent_of (Subset ps) = 0

abbrev is_child : SigKind → ℕ
is_child (Extends p) = 1
is_child Top = 0
is_child (Subset ps) = 0

sooner : (c n : ℕ) → c < n → c < n + 1
sooner c n lt = omega (arith, lt)

not_below_none : (c : ℕ) → c < 0 → ⊥
not_below_none c lt = omega (arith, lt)

same_number : (c n : ℕ) → c < n + 1 → n ≤ c → n ≡ c
same_number c n lt past = omega (arith, lt, past)

list_as : (A B : Column → Type 0) → ((x : Column) → A x ↔ B x) → (xs : List Column) → IsListOf A xs → IsListOf B xs
list_as A B same xs h = record { distinct = h.distinct; all_and_only = λ x. ((λ c. (same x).0 ((h.all_and_only x).0 c)), (λ b. (h.all_and_only x).1 ((same x).1 b))) }

no_pairs : AllPairs (λ (x y : Column). x ≢ y) []
no_pairs i j d low high = absurd (omega (arith, high))

module _ (sigs : List Sig) where
  none_below : (p : ℕ) (x : Column) → IsChildBelow sigs 0 p x → Contains [] x
  none_below p (SigColumn c) h = absurd (not_below_none c h.1)
  none_below p IntColumn h = absurd h

  none_yet : (p : ℕ) → IsListOf (IsChildBelow sigs 0 p) []
  none_yet p = record { distinct = no_pairs; all_and_only = λ x. ((λ there. absurd (nothing_in x there)), (λ h. none_below p x h)) }

  pub starts : (lists : List (List Column)) → length lists ≡ length sigs → All (λ l. l ≡ []) lists → HasChildrenBelow sigs 0 lists
  starts lists count all = record {
    count = count;
    each = λ p lt. subst (IsListOf (IsChildBelow sigs 0 p)) (sym (all p [] (omega (arith, lt, count)))) (none_yet p);
  }

  same_sig : (n c : ℕ) (d e : Sig) → slice_get sigs n ≡ Some d → slice_get sigs c ≡ Some e → c ≡ n → e ≡ d
  same_sig n c d e atn atc same =
      let there : slice_get sigs n ≡ Some e = subst (λ j. slice_get sigs j ≡ Some e) same atc in
      same_Some e d (sym there ∙ atn)

  other_child : (n p c : ℕ) (d : Sig) → slice_get sigs n ≡ Some d → (d.kind ≡ Extends p → ⊥) → IsChild sigs p c → c ≡ n → ⊥
  other_child n p c d at other (e, ate, kind) same = other (subst (λ (z : Sig). z.kind ≡ Extends p) (same_sig n c d e at ate same) kind)

  -- a sig that is no child of p leaves the children of p as they are
  other_kept : (n p : ℕ) (d : Sig) → slice_get sigs n ≡ Some d → (d.kind ≡ Extends p → ⊥) → (x : Column) → IsChildBelow sigs n p x ↔ IsChildBelow sigs (n + 1) p x
  other_kept n p d at other (SigColumn c) = (
    (λ h. (h.0, sooner c n h.1)),
    (λ (child, lt). elim (cases_lt c n) [
      | inl less ↦ (child, less)
      | inr past ↦ absurd (other_child n p c d at other child (omega (arith, lt, past)))
    ]),
  )
  other_kept n p d at other IntColumn = ((λ h. h), (λ h. h))

  not_new : (n p : ℕ) (x : Column) → IsChildBelow sigs n p x → x ≢ SigColumn n
  not_new n p (SigColumn c) h e =
      let lt : c < n = h.1 in
      let same : c ≡ n = ap number_of e in
      omega (arith, lt, same)
  not_new n p IntColumn h e = absurd h

  weaker : (n p : ℕ) (x : Column) → IsChildBelow sigs n p x → IsChildBelow sigs (n + 1) p x
  weaker n p (SigColumn c) h = (h.0, sooner c n h.1)
  weaker n p IntColumn h = h

  module _ (n p : ℕ) (d : Sig) (at : slice_get sigs n ≡ Some d) (kind : d.kind ≡ Extends p) (xs : List Column) (all : IsListOf (IsChildBelow sigs n p) xs) where
    new_child : IsChildBelow sigs (n + 1) p (SigColumn n)
    new_child = ((d, at, kind), omega arith)

    in_new : (x : Column) → Contains (xs ++ SigColumn n ∷ []) x → IsChildBelow sigs (n + 1) p x
    in_new x there = elim (Contains-push_cases xs (SigColumn n) x there) [
      | inl old ↦ weaker n p x ((all.all_and_only x).0 old)
      | inr e ↦ subst (IsChildBelow sigs (n + 1) p) e new_child
    ]

    new_in : (x : Column) → IsChildBelow sigs (n + 1) p x → Contains (xs ++ SigColumn n ∷ []) x
    new_in (SigColumn c) (child, lt) = elim (cases_lt c n) [
      | inl less ↦ Contains-append_left xs (SigColumn n ∷ []) (SigColumn c) ((all.all_and_only (SigColumn c)).1 (child, less))
      | inr past ↦ subst (λ k. Contains (xs ++ SigColumn n ∷ []) (SigColumn k)) (same_number c n lt past) (Contains-push xs (SigColumn n))
    ]
    new_in IntColumn h = absurd h

    one_more : IsListOf (IsChildBelow sigs (n + 1) p) (xs ++ SigColumn n ∷ [])
    one_more = record {
      distinct = all_pairs_push (λ x y. x ≢ y) xs (SigColumn n) all.distinct (λ k z lt. not_new n p (get_or xs k z) ((all.all_and_only (get_or xs k z)).0 (Contains-get_or xs k z lt)));
      all_and_only = λ x. ((λ there. in_new x there), (λ h. new_in x h));
    }

  pub other_step : (n : ℕ) (d : Sig) (lists : List (List Column)) → HasChildrenBelow sigs n lists → slice_get sigs n ≡ Some d → ((p : ℕ) → d.kind ≡ Extends p → ⊥) → HasChildrenBelow sigs (n + 1) lists
  other_step n d lists h at other = record {
    count = h.count;
    each = λ p lt. list_as (IsChildBelow sigs n p) (IsChildBelow sigs (n + 1) p) (other_kept n p d at (other p)) (get_or lists p []) (h.each p lt);
  }

  no_child_of_top : (d : Sig) → d.kind ≡ Top → (p : ℕ) → d.kind ≡ Extends p → ⊥
  no_child_of_top d is p too =
      let same : 0 ≡ 1 = ap is_child (sym is ∙ too) in
      omega (arith, same)

  no_child_of_subset : (d : Sig) (ps : List Column) → d.kind ≡ Subset ps → (p : ℕ) → d.kind ≡ Extends p → ⊥
  no_child_of_subset d ps is p too =
      let same : 0 ≡ 1 = ap is_child (sym is ∙ too) in
      omega (arith, same)

  pub top_step : (n : ℕ) (d : Sig) (lists : List (List Column)) → HasChildrenBelow sigs n lists → slice_get sigs n ≡ Some d → d.kind ≡ Top → HasChildrenBelow sigs (n + 1) lists
  top_step n d lists h at is = other_step n d lists h at (no_child_of_top d is)

  pub subset_step : (n : ℕ) (d : Sig) (lists : List (List Column)) (ps : List Column) → HasChildrenBelow sigs n lists → slice_get sigs n ≡ Some d → d.kind ≡ Subset ps → HasChildrenBelow sigs (n + 1) lists
  subset_step n d lists ps h at is = other_step n d lists h at (no_child_of_subset d ps is)

  other_parent : (p q : ℕ) (d : Sig) → d.kind ≡ Extends q → p ≢ q → d.kind ≡ Extends p → ⊥
  other_parent p q d is ne too = ne (ap parent_of (sym too ∙ is))

  pub child_step : (n q : ℕ) (d : Sig) (lists : List (List Column)) → HasChildrenBelow sigs n lists → slice_get sigs n ≡ Some d → d.kind ≡ Extends q → q < length lists → HasChildrenBelow sigs (n + 1) (set lists q (get_or lists q [] ++ SigColumn n ∷ []))
  child_step n q d lists h at kind there = record {
    count = length-set lists q (get_or lists q [] ++ SigColumn n ∷ []) ∙ h.count;
    each = λ p lt. elim (cases_eq p q) [
      | inl same ↦ (
          let old = h.each q (let low : q < length sigs = subst (λ k. q < k) h.count there in low) in
          let new = one_more n q d at kind (get_or lists q []) old in
          subst (λ k. IsListOf (IsChildBelow sigs (n + 1) k) (get_or (set lists q (get_or lists q [] ++ SigColumn n ∷ [])) k [])) (sym same)
          (subst (IsListOf (IsChildBelow sigs (n + 1) q)) (sym (get_or-set_same lists q (get_or lists q [] ++ SigColumn n ∷ []) [] there)) new)
          )
      | inr ne ↦ subst (IsListOf (IsChildBelow sigs (n + 1) p)) (sym (get_or-set_other lists q p (get_or lists q [] ++ SigColumn n ∷ []) [] ne))
          (list_as (IsChildBelow sigs n p) (IsChildBelow sigs (n + 1) p) (other_kept n p d at (other_parent p q d kind ne)) (get_or lists p []) (h.each p lt))
    ];
  }

  child_below : (n p c : ℕ) → length sigs ≤ n → IsChild sigs p c → c < n
  child_below n p c past (e, ate, kind) = let lt = slice_get_within sigs c e ate in omega (arith, lt, past)

  all_below : (n p : ℕ) → length sigs ≤ n → (x : Column) → IsChildBelow sigs n p x ↔ IsChildColumn sigs p x
  all_below n p past (SigColumn c) = ((λ h. h.0), (λ h. (h, child_below n p c past h)))
  all_below n p past IntColumn = ((λ h. h), (λ h. h))

  pub ends : (n : ℕ) (lists : List (List Column)) → length sigs ≤ n → HasChildrenBelow sigs n lists → HasChildren sigs lists
  ends n lists past h = record {
    count = h.count;
    each = λ p lt. list_as (IsChildBelow sigs n p) (IsChildColumn sigs p) (all_below n p past) (get_or lists p []) (h.each p lt);
  }

-- the list of one sig
pub list_at : (sigs all : List Sig) (lists read : List (List Column)) (i n : ℕ) (cs : List Column) → HasChildren sigs lists → sigs ≡ all → n ≡ i → i < length sigs → read ≡ lists → cs ≡ get_or read n [] → IsListOf (IsChildColumn all n) cs
list_at sigs all lists read i n cs h same at lt is_read is =
    let low : n < length sigs = subst (λ k. k < length sigs) (sym at) lt in
    let there = subst (λ (l : List Sig). IsListOf (IsChildColumn l n) (get_or lists n [])) same (h.each n low) in
    subst (IsListOf (IsChildColumn all n)) (sym (is ∙ ap (λ (l : List (List Column)). get_or l n []) is_read)) there
