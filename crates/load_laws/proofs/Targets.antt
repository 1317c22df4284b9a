-- Where opens of one number lead in two models whose instances are the same so far.
use Rattle.std.proofs.Common.{◌≡◌, ℕ, ◌<◌, Bool, List, slice_get, Some, sym, ap, ap₂, subst, ◌∙◌, inl, inr, arith}
use Rattle.std.proofs.lemmas.Bool.{cases_order}
use Rattle.std.proofs.lemmas.Option.{same_Some}
use Rattle.base_types.specs.Texts.{Texts}
use Rattle.syntax_tree.specs.declared.instance.Instance.{Instance}
use Rattle.syntax_tree.specs.declared.instance.Opened.{Opened}
use Rattle.syntax_tree.specs.declared.instance.Text.{Text}
use Rattle.syntax_tree.specs.declared.module.Module.{Module}
use Rattle.load_state.specs.Keys.{pairs_of, AreDistinct}
use Rattle.load_state.specs.Leads.{IsInstanceOf, IsLed, LeadsTo}
use Rattle.load_state.specs.Named.{IsOpen}
use Rattle.load_state.specs.Opens.{Opening, openings_of, is_hidden, alias_of, path_of}
use Rattle.load_modules.specs.Led.{IsTextOf}
use Rattle.load_modules.specs.Numbered.{AreApart, AreMet, IsLabelled, labels_before}
use Rattle.load_modules.specs.Order.{IsLabel}
use Rattle.load_modules.specs.Told.{name_at}
use Rattle.load_laws.specs.One.{TextsHaveOneModule}
use Rattle.load_laws.specs.Unique.{IsLoad}
use Rattle.load_laws.proofs.Alike.{AreSame, turned, moved, one_instance, one_number, one_label, same_labels}
use Rattle.load_laws.proofs.Found.{named_text, name_of, one_name, same_text}
use Rattle.load_laws.proofs.Names.{IsState, SameBelow, CarriesBelow, same_arguments}

-- an open with its instance, text and opening is one
pub one_open : (instances : List Instance) (texts : List Text) (number k : ℕ) (o p : Opened) (hidden private : Bool) → IsOpen instances texts number k o hidden → IsOpen instances texts number k p private →
    (o ≡ p) × (hidden ≡ private)
one_open instances texts number k o p hidden private is was =
    let one = one_instance instances texts number is.instance was.instance is.text was.text is.is was.is in
    let there : slice_get was.instance.opens k ≡ Some o = subst (λ (i : Instance). slice_get i.opens k ≡ Some o) one.0 is.leads in
    let asked : slice_get (openings_of was.text.tree) k ≡ Some is.opening = subst (λ (t : Text). slice_get (openings_of t.tree) k ≡ Some is.opening) one.1 is.asks in
    let opening : is.opening ≡ was.opening = same_Some is.opening was.opening (sym asked ∙ was.asks) in
    (same_Some o p (sym there ∙ was.leads), sym is.private ∙ (ap is_hidden opening ∙ was.private))

-- one text has both opens, so they are of one opening
pub same_opening : (texts others : List Text) (instances rest : List Instance) (number k : ℕ) (o p : Opened) (hidden private : Bool) → AreSame texts others instances rest number →
    (is : IsOpen instances texts number k o hidden) (was : IsOpen rest others number k p private) →
    IsInstanceOf rest others number was.instance is.text × (is.opening ≡ was.opening) × (is.instance.arguments ≡ was.instance.arguments)
same_opening texts others instances rest number k o p hidden private same is was =
    let there = moved texts others instances rest number is.instance is.text same is.is in
    let one = one_instance rest others number there.0 was.instance is.text was.text there.1 was.is in
    let asked : slice_get (openings_of was.text.tree) k ≡ Some is.opening = subst (λ (t : Text). slice_get (openings_of t.tree) k ≡ Some is.opening) one.1 is.asks in (
      subst (λ (i : Instance). IsInstanceOf rest others number i is.text) one.0 there.1,
      same_Some is.opening was.opening (sym asked ∙ was.asks),
      there.2 ∙ ap (λ (i : Instance). i.arguments) one.0,
    )

-- two opens lead to instances of texts of one name with equal arguments, by one alias
pub record AreTargets (texts others : List Text) (instances rest : List Instance) (o p : Opened) : Type 0 where
  pub first : Instance
  pub second : Instance
  pub is_first : slice_get instances o.instance ≡ Some first
  pub is_second : slice_get rest p.instance ≡ Some second
  pub alias : o.alias ≡ p.alias
  pub arguments : first.arguments ≡ second.arguments
  pub name : List ℕ
  pub named_first : name_at texts first.text ≡ Some name
  pub named_second : name_at others second.text ≡ Some name

pub turned_targets : (texts others : List Text) (instances rest : List Instance) (o p : Opened) → AreTargets texts others instances rest o p → AreTargets others texts rest instances p o
turned_targets texts others instances rest o p t = record {
  first = t.second;
  second = t.first;
  is_first = t.is_second;
  is_second = t.is_first;
  alias = sym t.alias;
  arguments = sym t.arguments;
  name = t.name;
  named_first = t.named_second;
  named_second = t.named_first;
}

-- two texts that are found for one path have one name
targets_of : (told : List Texts) (root path : List ℕ) (texts others : List Text) (instances rest : List Instance) (o p : Opened) (x y : Instance) → slice_get instances o.instance ≡ Some x →
    slice_get rest p.instance ≡ Some y → o.alias ≡ p.alias → x.arguments ≡ y.arguments → IsTextOf told root texts path x.text → IsTextOf told root others path y.text → AreTargets texts others instances rest o p
targets_of told root path texts others instances rest o p x y is was alias arguments found sought = record {
  first = x;
  second = y;
  is_first = is;
  is_second = was;
  alias = alias;
  arguments = arguments;
  name = found.0;
  named_first = found.1;
  named_second = sought.1 ∙ ap (λ (n : List ℕ). Some n) (one_name told root path sought.0 found.0 sought.2 found.2);
}

pub same_path : (told : List Texts) (root alias path : List ℕ) (texts others : List Text) (instances rest : List Instance) (o p : Opened) (x y : Instance) → LeadsTo (IsTextOf told root texts) instances alias path o x →
    LeadsTo (IsTextOf told root others) rest alias path p y → x.arguments ≡ y.arguments → AreTargets texts others instances rest o p
same_path told root alias path texts others instances rest o p x y leads led arguments =
    targets_of told root path texts others instances rest o p x y leads.reached led.reached (leads.named ∙ sym led.named) arguments leads.found led.found

-- the number of a text that an instance has which is the same in both
pub known_number : (texts others : List Text) (instances rest : List Instance) (m : ℕ) (i : Instance) (n : ℕ) (name : List ℕ) → AreApart others → AreSame texts others instances rest m → slice_get instances m ≡ Some i →
    name_at texts i.text ≡ Some name → name_at others n ≡ Some name → n ≡ i.text
known_number texts others instances rest m i n name apart same is named called =
    let one : same.alike.first ≡ i = same_Some same.alike.first i (sym same.alike.is_first ∙ is) in
    let text : same.alike.first.text ≡ i.text = ap (λ (x : Instance). x.text) one in
    let there : name_at texts i.text ≡ Some same.text.name = name_of texts i.text same.text (ap (λ (x : ℕ). slice_get texts x) (sym text) ∙ same.is_first) in
    let name_is : name ≡ same.text.name = same_Some name same.text.name (sym named ∙ there) in
    let again : name_at others same.alike.second.text ≡ Some name = name_of others same.alike.second.text same.text same.is_second ∙ ap (λ (x : List ℕ). Some x) (sym name_is) in
    apart n same.alike.second.text name called again ∙ (sym same.alike.text ∙ text)

-- an open that leads to an instance that was met leads there in both
pub known_target : (texts others : List Text) (instances rest : List Instance) (met : ℕ) (o p : Opened) → AreApart others → AreDistinct (pairs_of rest) → SameBelow texts others instances rest met →
    AreTargets texts others instances rest o p → o.instance < met → o.instance ≡ p.instance
known_target texts others instances rest met o p apart distinct below t lt =
    let same = below o.instance lt in
    let one : same.alike.first ≡ t.first = same_Some same.alike.first t.first (sym same.alike.is_first ∙ t.is_first) in
    let number : t.second.text ≡ t.first.text = known_number texts others instances rest o.instance t.first t.second.text t.name apart same t.is_first t.named_first t.named_second in
    let text : same.alike.second.text ≡ t.second.text = sym same.alike.text ∙ (ap (λ (i : Instance). i.text) one ∙ sym number) in
    let arguments : same.alike.second.arguments ≡ t.second.arguments = sym same.alike.arguments ∙ (ap (λ (i : Instance). i.arguments) one ∙ t.arguments) in
    one_number rest o.instance p.instance same.alike.second t.second distinct same.alike.is_second t.is_second text arguments

pub same_opened : (o p : Opened) → o.alias ≡ p.alias → o.instance ≡ p.instance → o ≡ p
same_opened o p alias instance = let make : List ℕ → ℕ → Opened = λ x y. record { alias = x; instance = y } in ap₂ make alias instance

-- the texts of two instances that are met now have one number
no_lower : (texts others : List Text) (instances rest : List Instance) (met count n : ℕ) (y : Instance) (name : List ℕ) → AreApart others → AreMet rest count → SameBelow texts others instances rest met →
    slice_get rest met ≡ Some y → name_at texts n ≡ Some name → name_at others y.text ≡ Some name → n < y.text → ⊥
no_lower texts others instances rest met count n y name apart are below is named called lt =
    let before = are.lower met y is n lt in
    let same = below before.earlier before.before in
    let one : same.alike.second ≡ before.instance = same_Some same.alike.second before.instance (sym same.alike.is_second ∙ before.is) in
    let text : same.alike.first.text ≡ n = same.alike.text ∙ (ap (λ (i : Instance). i.text) one ∙ before.has) in
    let there : name_at texts same.alike.first.text ≡ Some name = ap (λ (x : ℕ). name_at texts x) text ∙ named in
    let number : y.text ≡ same.alike.first.text = known_number texts others instances rest before.earlier same.alike.first y.text name apart same same.alike.is_first there called in
    omega (arith, number, text, lt)

same_number : (texts others : List Text) (instances rest : List Instance) (met count counted : ℕ) (x y : Instance) (name : List ℕ) → AreApart texts → AreApart others → AreMet instances count → AreMet rest counted →
    SameBelow texts others instances rest met → slice_get instances met ≡ Some x → slice_get rest met ≡ Some y → name_at texts x.text ≡ Some name → name_at others y.text ≡ Some name → x.text ≡ y.text
same_number texts others instances rest met count counted x y name apart distant are were below is was named called = elim (cases_order x.text y.text) [
  | inl same ↦ same
  | inr (inl lt) ↦ absurd (no_lower texts others instances rest met counted x.text y name distant were below was named called lt)
  | inr (inr lt) ↦ absurd (no_lower others texts rest instances met count y.text x name apart are (λ m less. turned texts others instances rest m (below m less)) is called named lt)
]

module _ (law : TextsHaveOneModule) (told : List Texts) (root : List ℕ) (tree : Module) (texts others : List Text) (instances rest : List Instance) (a : IsLoad told root tree texts instances)
    (b : IsLoad told root tree others rest) where
  -- the next instance is the same
  pub same_next : (met : ℕ) (way : List ℕ) (x y : Instance) (name : List ℕ) → SameBelow texts others instances rest met → slice_get instances met ≡ Some x → slice_get rest met ≡ Some y → x.arguments ≡ y.arguments →
      name_at texts x.text ≡ Some name → name_at others y.text ≡ Some name → IsLabelled instances met way → IsLabelled rest met way → AreSame texts others instances rest met
  same_next met way x y name below is was arguments named called label labelled =
      let number : x.text ≡ y.text = same_number texts others instances rest met _ _ x y name a.numbered.numbered.apart b.numbered.numbered.apart a.numbered.numbered.met b.numbered.numbered.met below is was named called in
      let t = named_text texts x.text name named in
      let u = named_text others y.text name called in
      let there : slice_get others x.text ≡ Some u.0 = ap (λ (n : ℕ). slice_get others n) number ∙ u.1 in
      let same : t.0 ≡ u.0 = same_text told root law tree x.text texts others t.0 u.0 a.texts b.texts t.1 there (t.2 ∙ sym u.2) in
      record {
        alike = record { first = x; second = y; is_first = is; is_second = was; text = number; arguments = arguments; label = labels x y is was };
        text = t.0;
        is_first = t.1;
        is_second = u.1 ∙ ap (λ (z : Text). Some z) (sym same);
      }
    where
      front : labels_before instances met ≡ labels_before rest met
      front = same_labels met instances rest (λ m lt. (below m lt).alike)

      labels : (x y : Instance) → slice_get instances met ≡ Some x → slice_get rest met ≡ Some y → x.label ≡ y.label
      labels x y is was =
          let one : label.instance ≡ x = same_Some label.instance x (sym label.is ∙ is) in
          let two : labelled.instance ≡ y = same_Some labelled.instance y (sym labelled.is ∙ was) in
          let here : IsLabel (labels_before rest met) way label.instance.label = subst (λ (ls : List (List ℕ)). IsLabel ls way label.instance.label) front label.label in
          sym (ap (λ (i : Instance). i.label) one) ∙ (one_label (labels_before rest met) way label.instance.label labelled.instance.label here labelled.label ∙ ap (λ (i : Instance). i.label) two)

  -- what an open leads to
  led_by : (lists : List Text) (models : List Instance) (number k : ℕ) (o : Opened) (hidden : Bool) → IsLoad told root tree lists models → (is : IsOpen models lists number k o hidden) →
      IsLed (IsTextOf told root lists) models lists number is.opening o
  led_by lists models number k o hidden load is =
      let led = (load.opens number is.instance is.is.is_instance is.text is.is.is_text).led k is.opening is.asks in
      subst (λ (d : Opened). IsLed (IsTextOf told root lists) models lists number is.opening d) (same_Some led.0 o (sym led.1 ∙ is.leads)) led.2

  -- the next open of an instance that is the same leads to instances that are alike
  pub same_targets : (met : ℕ) (passed : List ℕ) (number k : ℕ) (o p : Opened) (hidden private : Bool) → IsState texts others instances rest met passed → CarriesBelow texts others instances rest passed number k → number < met →
      IsOpen instances texts number k o hidden → IsOpen rest others number k p private → AreTargets texts others instances rest o p × (hidden ≡ private)
  same_targets met passed number k o p hidden private state own inside is was =
      let there = same_opening texts others instances rest number k o p hidden private (state.same number inside) is was in
      let led = led_by texts instances number k o hidden a is in
      let other : IsLed (IsTextOf told root others) rest others number is.opening p =
      subst (λ (x : Opening). IsLed (IsTextOf told root others) rest others number x p) (sym there.1) (led_by others rest number k p private b was) in
      let arguments = same_arguments texts others instances rest met passed state number k own inside a.named b.named is.opening is.instance was.instance is.text o p led.target other.target
      is.is there.0 there.2 is.asks is.leads was.leads led.leads.reached other.leads.reached led.given other.given in (
        same_path told root (alias_of is.opening) (path_of is.opening) texts others instances rest o p led.target other.target led.leads other.leads arguments,
        sym is.private ∙ (ap is_hidden there.1 ∙ was.private),
      )
