-- The tree of an instance is that of its loaded text; so are its opens and sigs.
use Rattle.std.proofs.Common.{◌≡◌, ◌≢◌, ◌⊎◌, ℕ, zero, suc, ◌+◌, Bool, true, false, List, [], ◌∷◌, slice_get, Some, refl, sym, ap, subst, ◌∙◌, inl, inr, arith}
use Rattle.std.proofs.lemmas.Option.{none-some, same_Some}
use Rattle.base_types.specs.Texts.{Texts}
use Rattle.syntax_tree.specs.declared.instance.Instance.{Instance}
use Rattle.syntax_tree.specs.declared.instance.Opened.{Opened}
use Rattle.syntax_tree.specs.declared.instance.Text.{Text}
use Rattle.syntax_tree.specs.declared.module.Module.{Module}
use Rattle.syntax_single.specs.PlacelessModule.{placeless_module}
use Rattle.syntax_single.specs.Single.{ModulesAreSingle}
use Rattle.load_state.specs.Counts.{HasName}
use Rattle.load_state.specs.Leads.{IsInstanceOf, IsLed}
use Rattle.load_state.specs.Named.{IsOpen}
use Rattle.load_state.specs.Opens.{Opening, openings_of, alias_of, is_hidden}
use Rattle.load_state.specs.Sigs.{sigs_of}
use Rattle.load_state.specs.declared.table.DeclaredSig.{DeclaredSig}
use Rattle.load_modules.specs.Instances as least
use Rattle.load_modules.specs.Instances.{Given, given, Arguments, text_of_given}
use Rattle.load_modules.specs.Led.{IsTextOf}
use Rattle.load_modules.specs.Numbered.{AreApart}
use Rattle.load_modules.specs.Reading.{IsModuleOf}
use Rattle.load_modules.specs.Told.{name_at, IsModuleUnder, AreTold, AreTexts}
use Rattle.load_laws.specs.Unique.{IsLoad}
use Rattle.load_laws.proofs.Found.{named_text, name_of, root_name}
use Rattle.load_laws.proofs.LeastAlike.{AreAlike, alike_modules, alike_opening, both_alike, same_sigs, same_alias_of, same_hidden}
use Rattle.load_laws.proofs.LeastMeant.{Means, means}

told_at : (told : List Texts) (root : List ℕ) (number n total : ℕ) (xs : List Text) (t : Text) → AreTold told root number xs → slice_get xs n ≡ Some t → number + n ≡ total → IsModuleUnder told t.name total t.tree
told_at told root number n total [] t are is sum = absurd (none-some t is)
told_at told root number zero total (x ∷ xs) t are is sum =
    let at : number ≡ total = omega (arith, sum) in
    subst (λ (m : ℕ). IsModuleUnder told t.name m t.tree) at (subst (λ (y : Text). IsModuleUnder told y.name number y.tree) (same_Some x t is) are.0)
told_at told root number (suc n) total (x ∷ xs) t are is sum = let more : suc number + n ≡ total = omega (arith, sum) in told_at told root (suc number) n total xs t are.2 is more

first_text : (told : List Texts) (root : List ℕ) (tree : Module) (texts : List Text) (t : Text) → AreTexts told root (λ m. m ≡ tree) texts → slice_get texts 0 ≡ Some t → (t.name ≡ root) × (t.tree ≡ tree)
first_text told root tree [] t are is = absurd are
first_text told root tree (x ∷ xs) t are is = let same : x ≡ t = same_Some x t is in (sym (ap (λ (y : Text). y.name) same) ∙ are.0, sym (ap (λ (y : Text). y.tree) same) ∙ are.1)

later_text : (told : List Texts) (root : List ℕ) (tree : Module) (texts : List Text) (n : ℕ) (t : Text) → AreTexts told root (λ m. m ≡ tree) texts → slice_get texts (suc n) ≡ Some t → IsModuleUnder told t.name (suc n) t.tree
later_text told root tree [] n t are is = absurd are
later_text told root tree (x ∷ xs) n t are is = let sum : 1 + n ≡ suc n = omega arith in told_at told root 1 n (suc n) xs t are.2 is sum

public_only : (b : Bool) → (b ≡ true → false ≡ true) → b ≡ false
public_only true e = sym (e refl)
public_only false e = refl

alike_told : (told : List Texts) → ModulesAreSingle → (name : List ℕ) (a b : ℕ) (m n : Module) → IsModuleUnder told name a m → IsModuleUnder told name b n → placeless_module m ≡ placeless_module n
alike_told told law name a b m n is was = alike_modules law is.bytes a b m n is.read (subst (λ (bytes : List ℕ). IsModuleOf bytes b n) (same_Some was.bytes is.bytes (sym was.held ∙ is.held)) was.read)

module _ (told : List Texts) (root : List ℕ) (tree : Module) where
  -- a tree that a library has, with some number
  record IsOther (g : Given) (m : Module) : Type 0 where
    other : text_of_given g ≢ root
    number : ℕ
    under : IsModuleUnder told (text_of_given g) number m

  -- the tree of the root is the one that was given, and another one is that which a library has
  tree_cases : (g : Given) (m : Module) → least.HasTree told root tree g m → ((text_of_given g ≡ root) × (m ≡ tree)) ⊎ IsOther g m
  tree_cases g m (least.the_root arguments) = inl (refl, refl)
  tree_cases g m (least.a_text text arguments number n other under) = inr (record { other = other; number = number; under = under })

  -- the trees of an instance are the same, but for places
  pub alike_trees : ModulesAreSingle → (g : Given) (m n : Module) → least.HasTree told root tree g m → least.HasTree told root tree g n → placeless_module m ≡ placeless_module n
  alike_trees law g m n a b = elim (tree_cases g m a) [
    | inl is ↦ elim (tree_cases g n b) [
      | inl was ↦ ap placeless_module (is.1 ∙ sym was.1)
      | inr was ↦ absurd (was.other is.0)
    ]
    | inr is ↦ elim (tree_cases g n b) [
      | inl was ↦ absurd (is.other was.0)
      | inr was ↦ alike_told told law (text_of_given g) is.number was.number m n is.under was.under
    ]
  ]

module _ (told : List Texts) (root : List ℕ) (tree : Module) (texts : List Text) (instances : List Instance) (load : IsLoad told root tree texts instances) where
  apart : AreApart texts
  apart = load.numbered.numbered.apart

  later_tree : (n : ℕ) (t : Text) (arguments : Arguments) → slice_get texts (suc n) ≡ Some t → least.HasTree told root tree (given t.name arguments) t.tree
  later_tree n t arguments is =
      let named : name_at texts (suc n) ≡ Some t.name = name_of texts (suc n) t is in
      least.a_text t.name arguments (suc n) t.tree (λ e. other e named) (later_text told root tree texts n t load.texts is)
    where
      other : t.name ≡ root → name_at texts (suc n) ≡ Some t.name → ⊥
      other e named =
          let same : suc n ≡ 0 = apart (suc n) 0 root (named ∙ ap (λ (x : List ℕ). Some x) e) (root_name told root tree texts load.texts) in omega (arith, same)

  text_tree : (n : ℕ) (t : Text) (arguments : Arguments) → slice_get texts n ≡ Some t → least.HasTree told root tree (given t.name arguments) t.tree
  text_tree zero t arguments is =
      let first = first_text told root tree texts t load.texts is in
      subst (λ (m : Module). least.HasTree told root tree (given t.name arguments) m) (sym first.1)
      (subst (λ (name : List ℕ). least.HasTree told root tree (given name arguments) tree) (sym first.0) (least.the_root arguments))
  text_tree (suc n) t arguments is = later_tree n t arguments is

  -- the tree of an instance
  pub tree_of : (n : ℕ) (i : Instance) (t : Text) (g : Given) → IsInstanceOf instances texts n i t → Means texts instances n g → least.HasTree told root tree g t.tree
  tree_of n i t g is (means m j name arguments there named are) =
      let same : j ≡ i = same_Some j i (sym there ∙ is.is_instance) in
      let at : name_at texts i.text ≡ Some t.name = name_of texts i.text t is.is_text in
      let text : t.name ≡ name = same_Some t.name name (sym at ∙ (ap (λ (x : Instance). name_at texts x.text) (sym same) ∙ named)) in
      subst (λ (x : List ℕ). least.HasTree told root tree (given x arguments) t.tree) text (text_tree i.text t arguments is.is_text)

  -- the instance and the text of a number that means one
  pub record IsThere (n : ℕ) (g : Given) : Type 0 where
    pub instance : Instance
    pub text : Text
    pub is : IsInstanceOf instances texts n instance text
    pub has : least.HasTree told root tree g text.tree

  pub there : (n : ℕ) (g : Given) → Means texts instances n g → IsThere n g
  there n g meant = go n g meant meant
    where
      go : (n : ℕ) (g : Given) → Means texts instances n g → Means texts instances n g → IsThere n g
      go n g (means m i name arguments is named are) again =
          let t = named_text texts i.text name named in
          let at : IsInstanceOf instances texts n i t.0 = record { is_instance = is; is_text = t.1 } in
          record { instance = i; text = t.0; is = at; has = tree_of n i t.0 g at again }

  -- what an open asks for, and where it leads
  pub record IsAsked (n k : ℕ) (o : Opened) (hidden : Bool) (g : Given) : Type 0 where
    pub instance : Instance
    pub text : Text
    pub is : IsInstanceOf instances texts n instance text
    pub opening : Opening
    pub at : slice_get (openings_of text.tree) k ≡ Some opening
    pub leads : slice_get instance.opens k ≡ Some o
    pub asks : least.Asks told root tree g k opening
    pub private : is_hidden opening ≡ hidden
    pub led : IsLed (IsTextOf told root texts) instances texts n opening o

  pub asked : (n k : ℕ) (o : Opened) (hidden : Bool) (g : Given) → IsOpen instances texts n k o hidden → Means texts instances n g → IsAsked n k o hidden g
  asked n k o hidden g is meant =
      let got = (load.opens n is.instance (is.is).is_instance is.text (is.is).is_text).led k is.opening is.asks in
      let same : got.0 ≡ o = same_Some got.0 o (sym got.1 ∙ is.leads) in
      record {
        instance = is.instance;
        text = is.text;
        is = is.is;
        opening = is.opening;
        at = is.asks;
        leads = is.leads;
        asks = least.asks g is.text.tree k is.opening (tree_of n is.instance is.text g is.is meant) is.asks;
        private = is.private;
        led = subst (λ (x : Opened). IsLed (IsTextOf told root texts) instances texts n is.opening x) same got.2;
      }

  -- a sig of an instance
  pub record HasSigOf (g : Given) (sig : ℕ) (name : List ℕ) (harmless : Bool) : Type 0 where
    pub hidden : Bool
    pub has : least.HasSig told root tree g sig name hidden
    pub seen : hidden ≡ true → harmless ≡ true

  pub sig_over : (n : ℕ) (i : Instance) (t : Text) (g : Given) (sig : ℕ) (name : List ℕ) (harmless : Bool) → IsInstanceOf instances texts n i t → Means texts instances n g → HasName (sigs_of t.tree) sig name harmless →
      HasSigOf g sig name harmless
  sig_over n i t g sig name harmless is meant has =
      let make : List ℕ → DeclaredSig = λ x. record { name = x; is_private = (has.sig).is_private } in
      let here : slice_get (sigs_of t.tree) sig ≡ Some (make name) = has.numbered ∙ ap (λ (x : List ℕ). Some (make x)) has.named in
      record { hidden = (has.sig).is_private; has = least.has_sig g t.tree sig name (has.sig).is_private (tree_of n i t g is meant) here; seen = has.seen }

  pub seen_over : (n : ℕ) (i : Instance) (t : Text) (g : Given) (sig : ℕ) (name : List ℕ) → IsInstanceOf instances texts n i t → Means texts instances n g → HasName (sigs_of t.tree) sig name false →
      least.HasSig told root tree g sig name false
  seen_over n i t g sig name is meant has =
      let got = sig_over n i t g sig name false is meant has in
      subst (λ (b : Bool). least.HasSig told root tree g sig name b) (public_only got.hidden got.seen) got.has

  -- and back
  pub record HasNameOf (n sig : ℕ) (name : List ℕ) (harmless : Bool) : Type 0 where
    pub instance : Instance
    pub text : Text
    pub is : IsInstanceOf instances texts n instance text
    pub has : HasName (sigs_of text.tree) sig name harmless

  pub sig_back : ModulesAreSingle → (n : ℕ) (g : Given) (sig : ℕ) (name : List ℕ) (hidden harmless : Bool) → Means texts instances n g → least.HasSig told root tree g sig name hidden → (hidden ≡ true → harmless ≡ true) →
      HasNameOf n sig name harmless
  sig_back law n g sig name hidden harmless meant (least.has_sig h m sig' name' hidden' has is) seen =
      let at = there n g meant in
      let same : sigs_of m ≡ sigs_of at.text.tree = same_sigs m at.text.tree (alike_trees told root tree law g m at.text.tree has at.has) in
      let make : DeclaredSig = record { name = name; is_private = hidden } in
      let here : slice_get (sigs_of at.text.tree) sig ≡ Some make = subst (λ (x : List DeclaredSig). slice_get x sig ≡ Some make) same is in
      record { instance = at.instance; text = at.text; is = at.is; has = record { sig = make; numbered = here; named = refl; seen = seen } }

  -- an open that is asked for
  pub record IsOpened (n k : ℕ) (asked : Opening) : Type 0 where
    pub opened : Opened
    pub is_open : IsOpen instances texts n k opened (is_hidden asked)
    pub alias : opened.alias ≡ alias_of asked

  pub open_back : ModulesAreSingle → (n : ℕ) (g : Given) (k : ℕ) (opening : Opening) → Means texts instances n g → least.Asks told root tree g k opening → IsOpened n k opening
  open_back law n g k opening meant (least.asks h m k' o has is) =
      let at = there n g meant in
      let here = alike_opening m at.text.tree k opening (alike_trees told root tree law g m at.text.tree has at.has) is in
      let got = (load.opens n at.instance at.is.is_instance at.text at.is.is_text).led k here.other here.at in
      record {
        opened = got.0;
        is_open = record { instance = at.instance; text = at.text; is = at.is; opening = here.other; asks = here.at; leads = got.1; private = sym (same_hidden opening here.other here.alike) };
        alias = got.2.leads.named ∙ sym (same_alias_of opening here.other here.alike);
      }

  -- what a number asks for is what its open is of, but for places
  with_tree : ModulesAreSingle → (g : Given) (k : ℕ) (opening other : Opening) (m : Module) → least.HasTree told root tree g m → slice_get (openings_of m) k ≡ Some opening → least.Asks told root tree g k other → AreAlike opening other
  with_tree law g k opening other m has is (least.asks h q k' o had was) = both_alike m q k opening other (alike_trees told root tree law g m q has had) is was

  pub alike_asked : ModulesAreSingle → (g : Given) (k : ℕ) (opening other : Opening) → least.Asks told root tree g k opening → least.Asks told root tree g k other → AreAlike opening other
  alike_asked law g k opening other (least.asks h m k' o has is) b = with_tree law g k opening other m has is b
