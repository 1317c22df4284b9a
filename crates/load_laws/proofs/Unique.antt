-- Two loadings of one root have the same texts and instances.
use Rattle.std.proofs.Common.{◌≡◌, ℕ, ◌<◌, ◌≤◌, List, [], ◌∷◌, length, slice_get, Option, Some, None, codes, refl, sym, ap, subst, ◌∙◌, inl, inr, arith}
use Rattle.std.proofs.lemmas.Bool.{cases_lt, cases_eq}
use Rattle.std.proofs.lemmas.Option.{same_Some, slice_get_within}
use Rattle.base_types.specs.Texts.{Texts}
use Rattle.syntax_tree.specs.declared.instance.Instance.{Instance}
use Rattle.syntax_tree.specs.declared.instance.Opened.{Opened}
use Rattle.syntax_tree.specs.declared.instance.SigRef.{SigRef}
use Rattle.syntax_tree.specs.declared.instance.Text.{Text}
use Rattle.syntax_tree.specs.declared.module.Module.{Module}
use Rattle.load_state.specs.Leads.{IsInstanceOf, IsOfIntegers, IsEnd, no_more, integers}
use Rattle.load_state.specs.Named.{IsOpen}
use Rattle.load_state.specs.Opens.{openings_of, is_hidden}
use Rattle.load_modules.specs.Led.{IsTextOf}
use Rattle.load_modules.specs.Numbered.{AreMet, IsRounded}
use Rattle.load_modules.specs.Told.{name_at, IsPathAnswer}
use Rattle.load_laws.specs.One.{TextsHaveOneModule}
use Rattle.load_laws.specs.Unique.{IsLoad, LoadsAreUnique}
use Rattle.load_laws.proofs.Alike.{turned, same_lists, same_sized, element, one_instance, the_first, the_second}
use Rattle.load_laws.proofs.Found.{named_text, none_found, answered}
use Rattle.load_laws.proofs.Names.{SameBelow}
use Rattle.load_laws.proofs.Targets.{known_number, known_target, same_path, same_opened}
use Rattle.load_laws.proofs.Ends.{AreWhole, both_walked}

-- an instance has as many opens in both models
rounded_same : (answer : Option ℕ) (count : ℕ) (i j : Instance) → i.text ≡ j.text → IsRounded answer count i → IsRounded answer count j → length i.opens ≡ length j.opens
rounded_same None count i j same is was = is ∙ sym was
rounded_same (Some text) count i j same is was = elim (cases_eq i.text text) [
  | inl e ↦ is.0 e ∙ sym (was.0 (sym same ∙ e))
  | inr other ↦ is.1 other ∙ sym (was.1 (λ e. other (same ∙ e)))
]

nothing : {A : Type 0} (xs ys : List A) → length xs ≡ 0 → length ys ≡ 0 → xs ≡ ys
nothing [] [] none also = refl
nothing [] (y ∷ ys) none also = absurd (omega (arith, also))
nothing (x ∷ xs) ys none also = absurd (omega (arith, none))

same_instance : (i j : Instance) → i.text ≡ j.text → i.arguments ≡ j.arguments → i.label ≡ j.label → i.opens ≡ j.opens → i ≡ j
same_instance i j text arguments label opens =
    let make : ℕ → List (Option SigRef) → List ℕ → List Opened → Instance = λ t a l o. record { text = t; arguments = a; label = l; opens = o } in
    ap (λ (t : ℕ). make t i.arguments i.label i.opens) text
    ∙ (ap (λ (a : List (Option SigRef)). make j.text a i.label i.opens) arguments
    ∙ (ap (λ (l : List ℕ). make j.text j.arguments l i.opens) label ∙ ap (λ (o : List Opened). make j.text j.arguments j.label o) opens))

named_within : (texts : List Text) (n : ℕ) (name : List ℕ) → name_at texts n ≡ Some name → n < length texts
named_within texts n name is = let t = named_text texts n name is in slice_get_within texts n t.0 t.1

-- the text of a number, which some instance has
text_over : (texts others : List Text) (instances rest : List Instance) → AreMet instances (length texts) → SameBelow texts others instances rest (length instances) → (n : ℕ) (t : Text) → slice_get texts n ≡ Some t →
    slice_get others n ≡ Some t
text_over texts others instances rest are below n t is =
    let met = are.all n (slice_get_within texts n t is) in
    let same = below met.earlier met.before in
    let one : same.alike.first ≡ met.instance = same_Some same.alike.first met.instance (sym same.alike.is_first ∙ met.is) in
    let number : same.alike.first.text ≡ n = ap (λ (i : Instance). i.text) one ∙ met.has in
    let text : same.text ≡ t = same_Some same.text t (sym same.is_first ∙ (ap (λ (x : ℕ). slice_get texts x) number ∙ is)) in
    ap (λ (x : ℕ). slice_get others x) (sym number ∙ same.alike.text) ∙ (same.is_second ∙ ap (λ (x : Text). Some x) text)

module _ (told : List Texts) (root : List ℕ) (tree : Module) (texts others : List Text) (instances rest : List Instance) (a : IsLoad told root tree texts instances) (b : IsLoad told root tree others rest)
    (whole : AreWhole texts others instances rest (length instances) (length rest)) where
  -- the text of the integers has one number, or there is none in both
  same_answer : (path : List ℕ) (answer reply : Option ℕ) → IsPathAnswer told root texts path answer → IsPathAnswer told root others path reply → answer ≡ reply
  same_answer path None None found sought = refl
  same_answer path None (Some m) found sought = absurd (none_found told root path sought.0 found.0 found.1 sought.2)
  same_answer path (Some n) None found sought = absurd (none_found told root path found.0 sought.0 sought.1 found.2)
  same_answer path (Some n) (Some m) found sought =
      let got = answered told root others path found.0 (Some m) sought found.2 in
      let there = named_within texts n found.0 found.1 in
      let met = a.numbered.numbered.met.all n there in
      let here = ap (λ (x : ℕ). name_at texts x) met.has ∙ found.1 in
      let number : got.0 ≡ (met.instance).text =
      known_number texts others instances rest met.earlier met.instance got.0 found.0 b.numbered.numbered.apart (whole.same met.earlier met.before) met.is here got.2 in
      ap (λ (x : ℕ). Some x) (sym met.has ∙ (sym number ∙ sym (same_Some m got.0 got.1)))

  -- the opens of the integers
  same_integers : (o p : Opened) → IsOfIntegers (IsTextOf told root texts) instances o → IsOfIntegers (IsTextOf told root others) rest p → o ≡ p
  same_integers o p is was =
      let arguments = nothing is.target.arguments was.target.arguments is.none was.none in
      let targets = same_path told root (codes "integer") (codes "util/integer") texts others instances rest o p is.target was.target is.leads was.leads arguments in
      let lt = slice_get_within instances o.instance targets.first targets.is_first in
      same_opened o p targets.alias (known_target texts others instances rest (length instances) o p b.numbered.numbered.apart b.distinct whole.same targets lt)

  -- the opens that are written or implied by enums
  own_opens : (n : ℕ) (i j : Instance) (t : Text) (k : ℕ) (d : Opened) → n < length instances → IsInstanceOf instances texts n i t → IsInstanceOf rest others n j t → k < length (openings_of t.tree) → slice_get i.opens k ≡ Some d →
      slice_get j.opens k ≡ Some d
  own_opens n i j t k d lt is was less at =
      let opening = element (openings_of t.tree) k less in
      let here : IsOpen instances texts n k d (is_hidden opening.0) = record { instance = i; text = t; is = is; opening = opening.0; asks = opening.1; leads = at; private = refl } in
      let there = (whole.carries n lt k d (is_hidden opening.0) here).0 in
      let one = one_instance rest others n there.instance j there.text t there.is was in
      subst (λ (x : Instance). slice_get x.opens k ≡ Some d) one.0 there.leads

  last_open : (count : ℕ) (xs ys : List Opened) (k : ℕ) (d : Opened) → length xs ≡ length ys → count ≤ k → slice_get xs k ≡ Some d → IsEnd (IsTextOf told root texts) instances count xs →
      IsEnd (IsTextOf told root others) rest count ys → slice_get ys k ≡ Some d
  last_open count xs ys k d size least is (no_more none) end = let lt = slice_get_within xs k d is in absurd (omega (arith, lt, none, least))
  last_open count xs ys k d size least is (integers o one at of) (no_more none) = absurd (omega (arith, size, one, none))
  last_open count xs ys k d size least is (integers o one at of) (integers p also there off) =
      let lt = slice_get_within xs k d is in
      let last : count ≡ k = omega (arith, lt, one, least) in
      let same : o ≡ d = same_Some o d (sym at ∙ (ap (λ (x : ℕ). slice_get xs x) last ∙ is)) in
      ap (λ (x : ℕ). slice_get ys x) (sym last) ∙ (there ∙ ap (λ (x : Opened). Some x) (sym (same_integers o p of off) ∙ same))

  all_opens : (answer : Option ℕ) (n : ℕ) (i j : Instance) (t : Text) → n < length instances → IsInstanceOf instances texts n i t → IsInstanceOf rest others n j t → i.text ≡ j.text →
      IsRounded answer (length (openings_of t.tree)) i → IsRounded answer (length (openings_of t.tree)) j → i.opens ≡ j.opens
  all_opens answer n i j t lt is was text rounded round = same_sized i.opens j.opens size each
    where
      size : length i.opens ≡ length j.opens
      size = rounded_same answer (length (openings_of t.tree)) i j text rounded round

      ends : IsEnd (IsTextOf told root texts) instances (length (openings_of t.tree)) i.opens
      ends = (a.opens n i is.is_instance t is.is_text).ends

      other_ends : IsEnd (IsTextOf told root others) rest (length (openings_of t.tree)) j.opens
      other_ends = (b.opens n j was.is_instance t was.is_text).ends

      each : (k : ℕ) (d : Opened) → slice_get i.opens k ≡ Some d → slice_get j.opens k ≡ Some d
      each k d at = elim (cases_lt k (length (openings_of t.tree))) [
        | inl less ↦ own_opens n i j t k d lt is was less at
        | inr least ↦ last_open (length (openings_of t.tree)) i.opens j.opens k d size least at ends other_ends
      ]

  instance_over : (n : ℕ) (i : Instance) → slice_get instances n ≡ Some i → slice_get rest n ≡ Some i
  instance_over n i is =
      let lt = slice_get_within instances n i is in
      let same = whole.same n lt in
      let one : same.alike.first ≡ i = same_Some same.alike.first i (sym same.alike.is_first ∙ is) in
      let here = the_first texts others instances rest n same in
      let there = the_second texts others instances rest n same in
      let answer = same_answer (codes "util/integer") a.numbered.integers b.numbered.integers a.numbered.found b.numbered.found in
      let rounded = a.numbered.numbered.rounded n same.alike.first same.text here in
      let round = subst (λ (x : Option ℕ). IsRounded x (length (openings_of same.text.tree)) same.alike.second) (sym answer) (b.numbered.numbered.rounded n same.alike.second same.text there) in
      let opens = all_opens a.numbered.integers n same.alike.first same.alike.second same.text lt here there same.alike.text rounded round in
      same.alike.is_second ∙ ap (λ (x : Instance). Some x) (sym (same_instance same.alike.first same.alike.second same.alike.text same.alike.arguments same.alike.label opens) ∙ one)

  same_instances : instances ≡ rest
  same_instances = same_sized instances rest whole.size instance_over

  same_texts : texts ≡ others
  same_texts = same_lists texts others (text_over texts others instances rest a.numbered.numbered.met whole.same) (text_over others texts rest instances b.numbered.numbered.met back)
    where
      back : SameBelow others texts rest instances (length rest)
      back m lt = let less : m < length instances = omega (arith, lt, whole.size) in turned texts others instances rest m (whole.same m less)

pub unique : TextsHaveOneModule → LoadsAreUnique
unique law told root tree texts others instances rest a b =
    let whole = both_walked law told root tree texts others instances rest a b (codes "util/integer") a.numbered.integers b.numbered.integers a.numbered.found b.numbered.found a.numbered.numbered.walked b.numbered.numbered.walked in
    (same_texts told root tree texts others instances rest a b whole, same_instances told root tree texts others instances rest a b whole)
