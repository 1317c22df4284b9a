-- Renamings taken back and composed, and the exchange of two atoms.
use Rattle.std.proofs.Common.{◌≡◌, inl, inr, ℕ, zero, suc, ◌+◌, ◌<◌, ◌≤◌, Bool, true, if◌then◌else◌, List, [], ◌∷◌, map, take, length, Some, slice_get, refl, sym, ap, ◌∙◌, subst, arith}
use Rattle.std.proofs.lemmas.Bool.{cases_lt, cases_eq}
use Rattle.std.proofs.lemmas.List.Sums.{sum_by-cons}
use Rattle.core_tuples.proofs.OrderLemmas.{take_all}
use Rattle.core_tree.specs.declared.model.Model.{Model}
use Rattle.core_tree.specs.Columns.{or_zero}
use Rattle.core_meaning.specs.declared.scopes.SigScope.{SigScope}
use Rattle.core_meaning.specs.declared.scopes.Scopes.{Scopes}
use Rattle.core_meaning.specs.World.{InRelation}
use Rattle.core_meaning.specs.Kept.{world_of, atoms_of_sig, atom_count}
use Rattle.core_window.proofs.SameLemmas.{same_trans}
use Rattle.core_renaming.specs.Renamings.{Renaming}
use Rattle.core_renaming.specs.Sigs.{IsTopSigAtom, KeepsSigs, literal_atom}
use Rattle.core_renaming.specs.Composed.{exchanged, exchanged_first, exchanged_second, exchanged_other, exchanged_twice, exchange, IsNoLiteral, RenamingsGoBack, RenamingsCompose, ExchangesKeepSigs}
use Rattle.core_renaming.proofs.Targets.{inverse_shows}
use Rattle.core_renaming.proofs.Keeping.{inverse_keeps}
use Rattle.core_renaming.proofs.Tops.{get_within}

pub go_back : RenamingsGoBack
go_back model scopes r one two keeps shows = (inverse_keeps model scopes r keeps, inverse_shows scopes r one two keeps.integers shows)

map_twice : (r q : Renaming) (t : List ℕ) → map q.to (map r.to t) ≡ map (λ a. q.to (r.to a)) t
map_twice r q [] = refl
map_twice r q (a ∷ t) = ap (λ u. q.to (r.to a) ∷ u) (map_twice r q t)

pub compose : RenamingsCompose
compose model scopes r q one two three keeps keeps' shows shows' = (
  record {
    sigs = λ s e get top a. same_trans (keeps.sigs s e get top a) (keeps'.sigs s e get top (r.to a));
    integers = λ a high. ap q.to (keeps.integers a high) ∙ keeps'.integers a high;
    literals = λ s d p get is own. ap q.to (keeps.literals s d p get is own) ∙ keeps'.literals s d p get is own;
  },
  (λ relation i t. (
    (λ has. subst (InRelation (world_of scopes three) relation i) (map_twice r q t) ((shows' relation i (map r.to t)).0 ((shows relation i t).0 has))),
    (λ has. (shows relation i t).1 ((shows' relation i (map r.to t)).1 (subst (InRelation (world_of scopes three) relation i) (sym (map_twice r q t)) has))),
  )),
)

-- ---- the atoms of different sigs

count_more : (n : SigScope) (ns : List SigScope) → atom_count (n ∷ ns) ≡ atoms_of_sig n + atom_count ns
count_more n ns = sum_by-cons (λ x. x) (atoms_of_sig n) (map atoms_of_sig ns)

comes_before : (ns : List SigScope) (x y : ℕ) (e : SigScope) → x < y → slice_get ns x ≡ Some e → atom_count (take x ns) + atoms_of_sig e ≤ atom_count (take y ns)
comes_before [] x y e lt get = cc
comes_before (n ∷ ns) x zero e lt get = absurd (omega (arith, lt))
comes_before (n ∷ ns) zero (suc y) e lt get =
    let is : n ≡ e = cc in
    let whole = count_more n (take y ns) in
    let same : atoms_of_sig n ≡ atoms_of_sig e = ap atoms_of_sig is in
    omega (arith, whole, same)
comes_before (n ∷ ns) (suc x) (suc y) e lt get =
    let rest = comes_before ns x y e (omega (arith, lt)) get in
    let one = count_more n (take x ns) in
    let two = count_more n (take y ns) in
    omega (arith, rest, one, two)

all_top : (e : SigScope) → e.top ≡ true → atoms_of_sig e ≡ or_zero e.number
all_top e top = ap (λ (t : Bool). if t then or_zero e.number else 0) top

among_atoms : (ns : List SigScope) (s a : ℕ) (e : SigScope) → slice_get ns s ≡ Some e → e.top ≡ true → IsTopSigAtom ns s e a → a < atom_count ns
among_atoms ns s a e get top of_sig =
    let number = all_top e top in
    let before = comes_before ns s (length ns) e (get_within ns s e get) get in
    let whole : atom_count (take (length ns) ns) ≡ atom_count ns = ap atom_count (take_all ns (length ns) (omega arith)) in
    omega (arith, of_sig.1, number, before, whole)

apart : (ns : List SigScope) (x y a : ℕ) (e f : SigScope) → x < y → slice_get ns x ≡ Some e → e.top ≡ true → IsTopSigAtom ns x e a → IsTopSigAtom ns y f a → ⊥
apart ns x y a e f lt get top one two =
    let number = all_top e top in
    let before = comes_before ns x y e lt get in
    omega (arith, one.1, two.0, number, before)

one_sig : (ns : List SigScope) (x y a : ℕ) (e f : SigScope) → slice_get ns x ≡ Some e → e.top ≡ true → slice_get ns y ≡ Some f → f.top ≡ true → IsTopSigAtom ns x e a → IsTopSigAtom ns y f a → x ≡ y
one_sig ns x y a e f get_x top_x get_y top_y one two = elim (cases_lt x y) [
  | inl less ↦ absurd (apart ns x y a e f less get_x top_x one two)
  | inr more ↦ elim (cases_lt y x) [ inl less ↦ absurd (apart ns y x a f e less get_y top_y two one) | inr least ↦ omega (arith, more, least) ]
]

-- ---- the exchange

module _ (model : Model) (scopes : Scopes) (s : ℕ) (e : SigScope) (a b : ℕ) (get : slice_get scopes.numbers s ≡ Some e) (top : e.top ≡ true) (of_sig_a : IsTopSigAtom scopes.numbers s e a) (of_sig_b : IsTopSigAtom scopes.numbers s e b) where
  -- where one atom of the sig is a sig's, all are
  with_another : (x y k : ℕ) (f : SigScope) → slice_get scopes.numbers k ≡ Some f → f.top ≡ true → IsTopSigAtom scopes.numbers s e x → IsTopSigAtom scopes.numbers s e y → IsTopSigAtom scopes.numbers k f x → IsTopSigAtom scopes.numbers k f y
  with_another x y k f there marked of_sig_x of_sig_y is =
      let same : s ≡ k = one_sig scopes.numbers s k x e f get top there marked of_sig_x is in
      let both : Some e ≡ Some f = sym get ∙ ap (slice_get scopes.numbers) same ∙ there in
      let scope : e ≡ f = cc in
      subst (λ g. IsTopSigAtom scopes.numbers k g y) scope (subst (λ n. IsTopSigAtom scopes.numbers n e y) same of_sig_y)

  kept : (k : ℕ) (f : SigScope) → slice_get scopes.numbers k ≡ Some f → f.top ≡ true → (c : ℕ) → IsTopSigAtom scopes.numbers k f c → IsTopSigAtom scopes.numbers k f (exchanged a b c)
  kept k f there marked c is = elim (cases_eq c a) [
    | inl first ↦ subst (IsTopSigAtom scopes.numbers k f) (sym (ap (exchanged a b) first ∙ exchanged_first a b)) (with_another a b k f there marked of_sig_a of_sig_b (subst (IsTopSigAtom scopes.numbers k f) first is))
    | inr one ↦ elim (cases_eq c b) [
      | inl second ↦ subst (IsTopSigAtom scopes.numbers k f) (sym (ap (exchanged a b) second ∙ exchanged_second a b)) (with_another b a k f there marked of_sig_b of_sig_a (subst (IsTopSigAtom scopes.numbers k f) second is))
      | inr two ↦ subst (IsTopSigAtom scopes.numbers k f) (sym (exchanged_other a b c one two)) is
    ]
  ]

  pub exchange_keeps : IsNoLiteral model scopes a → IsNoLiteral model scopes b → KeepsSigs model scopes (exchange a b)
  exchange_keeps plain_a plain_b = record {
    sigs = λ k f there marked c. (kept k f there marked c, (λ is. subst (IsTopSigAtom scopes.numbers k f) (exchanged_twice a b c) (kept k f there marked (exchanged a b c) is)));
    integers = λ c high.
        let low_a = among_atoms scopes.numbers s a e get top of_sig_a in
        let low_b = among_atoms scopes.numbers s b e get top of_sig_b in
        exchanged_other a b c (λ same. omega (arith, high, low_a, same)) (λ same. omega (arith, high, low_b, same));
    literals = λ k d p there is own. exchanged_other a b (literal_atom scopes k p) (plain_a k d p there is own) (plain_b k d p there is own);
  }

pub exchanges_keep : ExchangesKeepSigs
exchanges_keep model scopes s e a b get top of_sig_a of_sig_b plain_a plain_b = exchange_keeps model scopes s e a b get top of_sig_a of_sig_b plain_a plain_b
