-- Which instance is meant by a number: its text by its name, its arguments by the instances of theirs.
use Rattle.std.proofs.Common.{◌≡◌, ℕ, zero, suc, ◌<◌, List, [], ◌∷◌, length, slice_get, Option, Some, None, refl, sym, ap, ap₂, subst, ◌∙◌}
use Rattle.std.proofs.lemmas.Option.{none-some, same_Some, slice_get_within}
use Rattle.std.specs.Bool.{⊤}
use Rattle.syntax_tree.specs.declared.instance.Instance.{Instance}
use Rattle.syntax_tree.specs.declared.instance.SigRef.{SigRef}
use Rattle.syntax_tree.specs.declared.instance.Text.{Text}
use Rattle.load_state.specs.Keys.{pairs_of, AreDistinct}
use Rattle.load_state.specs.Named.{Named, a_sig, a_parameter}
use Rattle.load_modules.specs.Instances as least
use Rattle.load_modules.specs.Instances.{Given, given, Arguments, nothing, int_and, sig_and, Argument, with_argument, argument_at, Candidate}
use Rattle.load_modules.specs.Numbered.{AreApart}
use Rattle.load_modules.specs.Told.{name_at}
use Rattle.load_laws.specs.Least.{arguments_of}
use Rattle.load_laws.proofs.Alike.{one_number}

same_ref : (s t : SigRef) → s.instance ≡ t.instance → s.sig ≡ t.sig → s ≡ t
same_ref s t instance sig =
    let make : ℕ → ℕ → SigRef = λ x y. record { instance = x; sig = y } in
    ap₂ make instance sig

same_sig_and : (g h : Given) (m n : ℕ) (a b : Arguments) → g ≡ h → m ≡ n → a ≡ b → sig_and g m a ≡ sig_and h n b
same_sig_and g h m n a b p q r = ap (λ (x : Given). sig_and x m a) p ∙ (ap (λ (x : ℕ). sig_and h x a) q ∙ ap (λ (x : Arguments). sig_and h n x) r)

module _ (texts : List Text) (instances : List Instance) where
  mutual
    -- the instance of this number has this text and these arguments
    pub data Means : ℕ → Given → Type 0 where
      means : (n : ℕ) (i : Instance) (name : List ℕ) (arguments : Arguments) → slice_get instances n ≡ Some i → name_at texts i.text ≡ Some name → AreMeant i.arguments arguments →
          Means n (given name arguments)

    pub data AreMeant : List (Option SigRef) → Arguments → Type 0 where
      none_meant : AreMeant [] nothing
      int_meant : (xs : List (Option SigRef)) (arguments : Arguments) → AreMeant xs arguments → AreMeant (None ∷ xs) (int_and arguments)
      sig_meant : (s : SigRef) (g : Given) (sig : ℕ) (xs : List (Option SigRef)) (arguments : Arguments) → s.sig ≡ sig → Means s.instance g → AreMeant xs arguments →
          AreMeant (Some s ∷ xs) (sig_and g sig arguments)

  -- a number means one instance
  mutual
    pub one_meant : (n : ℕ) (g h : Given) → Means n g → Means n h → g ≡ h
    one_meant n g h (means m i name arguments is named are) (means o j other given_to was called were) =
        let same : i ≡ j = same_Some i j (sym is ∙ was) in
        let text : name ≡ other = same_Some name other (sym named ∙ (ap (λ (x : Instance). name_at texts x.text) same ∙ called)) in
        let these : AreMeant i.arguments given_to = subst (λ (x : Instance). AreMeant x.arguments given_to) (sym same) were in
        ap₂ given text (all_meant i.arguments arguments given_to are these)

    all_meant : (xs : List (Option SigRef)) (a b : Arguments) → AreMeant xs a → AreMeant xs b → a ≡ b
    all_meant xs a b none_meant none_meant = refl
    all_meant xs a b (int_meant ys c are) (int_meant zs d were) = ap int_and (all_meant ys c d are were)
    all_meant xs a b (sig_meant s g m ys c is meant are) (sig_meant t h n zs d was other were) =
        same_sig_and g h m n c d (one_meant s.instance g h meant other) (sym is ∙ was) (all_meant ys c d are were)

  module _ (apart : AreApart texts) (distinct : AreDistinct (pairs_of instances)) where
    -- an instance has one number
    mutual
      pub one_place : (m n : ℕ) (g : Given) → Means m g → Means n g → m ≡ n
      one_place m n g (means m' i name arguments is named are) (means n' j other given_to was called were) =
          one_number instances m n i j distinct is was (apart i.text j.text name named called) (same_arguments i.arguments j.arguments arguments are were)

      same_arguments : (xs ys : List (Option SigRef)) (a : Arguments) → AreMeant xs a → AreMeant ys a → xs ≡ ys
      same_arguments xs ys a none_meant none_meant = refl
      same_arguments xs ys a (int_meant vs c are) (int_meant ws d were) = ap (λ (zs : List (Option SigRef)). None ∷ zs) (same_arguments vs ws c are were)
      same_arguments xs ys a (sig_meant s g m vs c is meant are) (sig_meant t h n ws d was other were) =
          ap₂ (λ (x : SigRef) (zs : List (Option SigRef)). Some x ∷ zs) (same_ref s t (one_place s.instance t.instance g meant other) (is ∙ sym was)) (same_arguments vs ws c are were)

  -- a number that means an instance is that of one
  pub meant_within : (n : ℕ) (g : Given) → Means n g → n < length instances
  meant_within n g (means m i name arguments is named are) = slice_get_within instances n i is

  -- an argument is this one
  abbrev pub IsMeant : Option SigRef → Argument → Type 0
  IsMeant None None = ⊤
  IsMeant None (Some a) = ⊥
  IsMeant (Some s) None = ⊥
  IsMeant (Some s) (Some a) = (s.sig ≡ a.1) × Means s.instance a.0

  pub with_meant : (x : Option SigRef) (a : Argument) (xs : List (Option SigRef)) (arguments : Arguments) → IsMeant x a → AreMeant xs arguments → AreMeant (x ∷ xs) (with_argument a arguments)
  with_meant None None xs arguments is are = int_meant xs arguments are
  with_meant None (Some a) xs arguments is are = absurd is
  with_meant (Some s) None xs arguments is are = absurd is
  with_meant (Some s) (Some a) xs arguments is are = sig_meant s a.0 a.1 xs arguments is.0 is.1 are

  -- the argument of a number
  pub meant_at : (xs : List (Option SigRef)) (arguments : Arguments) (n : ℕ) (x : Option SigRef) → AreMeant xs arguments → slice_get xs n ≡ Some x →
      (a : Argument) × (argument_at arguments n ≡ Some a) × IsMeant x a
  meant_at xs arguments n x none_meant is = absurd (none-some x is)
  meant_at xs arguments zero x (int_meant ys c are) is = (None, refl, subst (λ (y : Option SigRef). IsMeant y None) (same_Some None x is) tt)
  meant_at xs arguments (suc n) x (int_meant ys c are) is = meant_at ys c n x are is
  meant_at xs arguments zero x (sig_meant s g m ys c same meant are) is =
      (Some (g, m), refl, subst (λ (y : Option SigRef). IsMeant y (Some (g, m))) (same_Some (Some s) x is) (same, meant))
  meant_at xs arguments (suc n) x (sig_meant s g m ys c same meant are) is = meant_at ys c n x are is

  -- arguments by the instances of all numbers
  pub meant_by : (at : ℕ → Given) → ((n : ℕ) → n < length instances → Means n (at n)) → (xs : List (Option SigRef)) (arguments : Arguments) → AreMeant xs arguments → AreMeant xs (arguments_of at xs)
  meant_by at each xs arguments none_meant = none_meant
  meant_by at each xs arguments (int_meant ys c are) = int_meant ys (arguments_of at ys) (meant_by at each ys c are)
  meant_by at each xs arguments (sig_meant s g m ys c same meant are) =
      sig_meant s (at s.instance) s.sig ys (arguments_of at ys) refl (each s.instance (meant_within s.instance g meant)) (meant_by at each ys c are)

  -- what is named by numbers is this
  abbrev pub IsCandidate : Named → Candidate → Type 0
  IsCandidate (a_sig s) (least.a_sig g sig) = (s.sig ≡ sig) × Means s.instance g
  IsCandidate (a_sig s) (least.a_parameter n) = ⊥
  IsCandidate (a_parameter m) (least.a_sig g sig) = ⊥
  IsCandidate (a_parameter m) (least.a_parameter n) = m ≡ n
