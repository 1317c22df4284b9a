-- What an open of an instance of the root leads to, the same open of the loaded instance leads to.
use Rattle.std.proofs.Common.{◌≡◌, ℕ, suc, ◌<◌, Bool, true, false, List, [], ◌∷◌, map, length, slice_get, Option, Some, None, option_map, refl, sym, ap, subst, ◌∙◌, inl, inr, arith}
use Rattle.std.proofs.lemmas.List.{length-map}
use Rattle.std.proofs.lemmas.Option.{none-some, same_Some, slice_get_within, slice_get-map}
use Rattle.base_types.specs.Texts.{Texts}
use Rattle.syntax_tree.specs.declared.expr.QualName.{QualName}
use Rattle.syntax_tree.specs.declared.instance.Instance.{Instance}
use Rattle.syntax_tree.specs.declared.instance.Opened.{Opened}
use Rattle.syntax_tree.specs.declared.instance.SigRef.{SigRef}
use Rattle.syntax_tree.specs.declared.instance.Text.{Text}
use Rattle.syntax_tree.specs.declared.module.Module.{Module}
use Rattle.syntax_tree.specs.declared.module.Open.{Open}
use Rattle.syntax_tree.specs.declared.module.SigName.{SigName}
use Rattle.syntax_tree.specs.declared.module.SigName.TheVariants as sig_name
use Rattle.syntax_single.specs.PlacelessModule.{placeless_sig_name}
use Rattle.syntax_single.specs.Single.{ModulesAreSingle}
use Rattle.load_state.specs.Leads.{AreOf}
use Rattle.load_state.specs.Named.{Named, a_sig, a_parameter, Stands, IsOpen, Reaches, itself, further, Follows, IsBrought, IsBehind, IsSeen, IsOwn, NamesBy, Names, IsOne, IsGiven, front_of}
use Rattle.load_state.specs.Names.{last_part}
use Rattle.load_state.specs.Opens.{Opening, written, implied, openings_of, alias_of, path_of, is_hidden}
use Rattle.load_state.specs.Sigs.{parameters_of}
use Rattle.load_state.specs.declared.table.Enumerated.{Enumerated}
use Rattle.load_modules.specs.Instances as least
use Rattle.load_modules.specs.Instances.{Given, given, Arguments, nothing, sig_and, Argument, argument_at, Candidate}
use Rattle.load_modules.specs.Told.{IsFound}
use Rattle.load_laws.specs.Unique.{IsLoad}
use Rattle.load_laws.proofs.Found.{one_name}
use Rattle.load_laws.proofs.LeastAlike.{AreAlike, same_parameters, same_path_of, as_written, as_implied}
use Rattle.load_laws.proofs.LeastMeant.{Means, means, AreMeant, none_meant, sig_meant, IsMeant, with_meant, meant_at, IsCandidate}
use Rattle.load_laws.proofs.LeastTree.{IsAsked, asked, there, sig_back, open_back, alike_asked, alike_trees}
use Rattle.load_laws.proofs.LeastWalk.{written_of}

module _ (law : ModulesAreSingle) (told : List Texts) (root : List ℕ) (tree : Module) (texts : List Text) (instances : List Instance) (load : IsLoad told root tree texts instances) where
  abbrev SetLeads : Given → ℕ → Given → Type 0
  SetLeads g k h = least.Leads told root tree g k h

  abbrev SetNames : Given → ℕ → QualName → Candidate → Type 0
  SetNames g k name c = least.Names told root tree g k name c

  abbrev SetGiven : Given → ℕ → List SigName → Arguments → Type 0
  SetGiven g k names arguments = least.AreGiven told root tree g k names arguments

  abbrev SetReaches : Given → Given → Type 0
  SetReaches g h = least.Reaches told root tree g h

  abbrev SetFollows : Given → List (List ℕ) → Given → Type 0
  SetFollows g aliases h = least.Follows told root tree g aliases h

  abbrev SetStands : Given → Candidate → Argument → Type 0
  SetStands g c a = least.StandsFor told root tree g c a

  abbrev SetAsks : Given → ℕ → Opening → Type 0
  SetAsks g k o = least.Asks told root tree g k o

  abbrev SetSig : Given → ℕ → List ℕ → Type 0
  SetSig g sig name = least.HasSig told root tree g sig name false

  abbrev Is : ℕ → Given → Type 0
  Is n g = Means texts instances n g

  abbrev Opens : ℕ → ℕ → Opened → Bool → Type 0
  Opens n k o hidden = IsOpen instances texts n k o hidden

  -- what is named
  record IsNamed (n k : ℕ) (name : QualName) (c : Candidate) : Type 0 where
    one : Named
    same : IsCandidate texts instances one c
    names : Names instances texts n k name one

  -- an instance that is reached
  record IsReached (n : ℕ) (h : Given) : Type 0 where
    number : ℕ
    meant : Is number h
    reaches : Reaches instances texts n number

  record IsFollowed (n : ℕ) (aliases : List (List ℕ)) (h : Given) : Type 0 where
    number : ℕ
    meant : Is number h
    follows : Follows instances texts aliases n number

  -- an open, and all that is said of where it leads
  pub record HasOpened (n k : ℕ) : Type 0 where
    pub opened : Opened
    pub hidden : Bool
    pub is_open : Opens n k opened hidden

  asks_in : (g : Given) (k : ℕ) (h : Given) → SetLeads g k h → (o : Opening) × SetAsks g k o
  asks_in g k h (least.written_open i m o text arguments asking found are) = (written o, asking)
  asks_in g k h (least.implied_open i m e text asking found) = (implied e, asking)

  pub opened_in : (n : ℕ) (g : Given) (k : ℕ) (h : Given) → Is n g → SetLeads g k h → HasOpened n k
  opened_in n g k h is leads =
      let asking = asks_in g k h leads in
      let got = open_back told root tree texts instances load law n g k asking.0 is asking.1 in
      record { opened = got.opened; hidden = is_hidden asking.0; is_open = got.is_open }

  -- what a name names, by what is seen of it
  own_named : (n : ℕ) (g : Given) (k : ℕ) (name : QualName) (sig : ℕ) (hidden : Bool) → Is n g → front_of name.parts ≡ [] → least.HasSig told root tree g sig (last_part name.parts) hidden →
      IsNamed n k name (least.a_sig g sig)
  own_named n g k name sig hidden is front has =
      let got = sig_back told root tree texts instances load law n g sig (last_part name.parts) hidden true is has (λ e. refl) in
      let s : SigRef = record { instance = n; sig = sig } in
      let own : IsOwn instances texts n (last_part name.parts) (a_sig s) = (refl, got.instance, got.text, got.is, got.has) in
      record {
        one = a_sig s;
        same = (refl, is);
        names = subst (λ (parts : List (List ℕ)). NamesBy instances texts n k name.is_own parts (last_part name.parts) (a_sig s)) (sym front) (inl own);
      }

  parameter_named : (n : ℕ) (g : Given) (k : ℕ) (name : QualName) (m : Module) (number : ℕ) → Is n g → front_of name.parts ≡ [] → least.HasTree told root tree g m →
      slice_get (parameters_of m) number ≡ Some (last_part name.parts) → IsNamed n k name (least.a_parameter number)
  parameter_named n g k name m number is front has at =
      let here = there told root tree texts instances load n g is in
      let same : parameters_of m ≡ parameters_of here.text.tree = same_parameters m here.text.tree (alike_trees told root tree law g m here.text.tree has here.has) in
      let parameter : slice_get (parameters_of here.text.tree) number ≡ Some (last_part name.parts) = subst (λ (x : List (List ℕ)). slice_get x number ≡ Some (last_part name.parts)) same at in
      let own : IsOwn instances texts n (last_part name.parts) (a_parameter number) = (here.instance, here.text, here.is, parameter) in
      record {
        one = a_parameter number;
        same = refl;
        names = subst (λ (parts : List (List ℕ)). NamesBy instances texts n k name.is_own parts (last_part name.parts) (a_parameter number)) (sym front) (inl own);
      }

  brought_named : (n : ℕ) (k earlier : ℕ) (l : Given) (name : QualName) (sig : ℕ) → name.is_own ≡ false → front_of name.parts ≡ [] → earlier < k → (o : HasOpened n earlier) → IsReached o.opened.instance l →
      SetSig l sig (last_part name.parts) → IsNamed n k name (least.a_sig l sig)
  brought_named n k earlier l name sig plain front before o reached has =
      let got = sig_back told root tree texts instances load law reached.number l sig (last_part name.parts) false false reached.meant has (λ e. e) in
      let s : SigRef = record { instance = reached.number; sig = sig } in
      let by : IsBrought instances texts n k reached.number =
      record { earlier = earlier; before = before; opened = o.opened; hidden = o.hidden; is_open = o.is_open; seen = λ e. absurd cc; leading = reached.reaches } in
      let seen : IsSeen instances texts (IsBrought instances texts n k) (last_part name.parts) (a_sig s) = (by, got.instance, got.text, got.is, got.has) in
      record {
        one = a_sig s;
        same = (refl, reached.meant);
        names = subst (λ (parts : List (List ℕ)). NamesBy instances texts n k name.is_own parts (last_part name.parts) (a_sig s)) (sym front) (inr (plain, seen));
      }

  behind_named : (n : ℕ) (k earlier : ℕ) (l : Given) (name : QualName) (alias : List ℕ) (aliases : List (List ℕ)) (sig : ℕ) → front_of name.parts ≡ alias ∷ aliases → earlier < k → (o : HasOpened n earlier) →
      o.opened.alias ≡ alias → IsFollowed o.opened.instance aliases l → SetSig l sig (last_part name.parts) → IsNamed n k name (least.a_sig l sig)
  behind_named n k earlier l name alias aliases sig front before o called followed has =
      let got = sig_back told root tree texts instances load law followed.number l sig (last_part name.parts) false false followed.meant has (λ e. e) in
      let s : SigRef = record { instance = followed.number; sig = sig } in
      let by : IsBehind instances texts n k alias aliases followed.number =
      record { earlier = earlier; before = before; opened = o.opened; hidden = o.hidden; is_open = o.is_open; seen = λ e. absurd cc; leading = (called, followed.follows) } in
      let seen : IsSeen instances texts (IsBehind instances texts n k alias aliases) (last_part name.parts) (a_sig s) = (by, got.instance, got.text, got.is, got.has) in
      record {
        one = a_sig s;
        same = (refl, followed.meant);
        names = subst (λ (parts : List (List ℕ)). NamesBy instances texts n k name.is_own parts (last_part name.parts) (a_sig s)) (sym front) seen;
      }

  -- what a candidate stands for is what the number's argument means
  parameter_back : (n : ℕ) (name : List ℕ) (arguments : Arguments) (i : Instance) (p : ℕ) (x : Option SigRef) (a : Argument) → Is n (given name arguments) → slice_get instances n ≡ Some i →
      slice_get i.arguments p ≡ Some x → argument_at arguments p ≡ Some a → IsMeant texts instances x a
  parameter_back n name arguments i p x a (means m j name' arguments' is named are) here at given_at =
      let same : i ≡ j = same_Some i j (sym here ∙ is) in
      let got = meant_at texts instances j.arguments arguments p x are (ap (λ (y : Instance). slice_get y.arguments p) (sym same) ∙ at) in
      let one : got.0 ≡ a = same_Some got.0 a (sym got.1 ∙ given_at) in
      subst (λ (b : Argument). IsMeant texts instances x b) one got.2

  stands_back : (n : ℕ) (g : Given) (i : Instance) (c : Named) (d : Candidate) (x : Option SigRef) (a : Argument) → Is n g → slice_get instances n ≡ Some i → IsCandidate texts instances c d → Stands i.arguments c x → SetStands g d a →
      IsMeant texts instances x a
  stands_back n g i (a_sig s) d x a is here same stands (least.for_sig h j sig) = subst (λ (y : Option SigRef). IsMeant texts instances y (Some (j, sig))) (sym stands) same
  stands_back n g i (a_parameter p) d x a is here same stands (least.for_sig h j sig) = absurd same
  stands_back n g i (a_sig s) d x a is here same stands (least.for_parameter name arguments number b at) = absurd same
  stands_back n g i (a_parameter p) d x a is here same stands (least.for_parameter name arguments number b at) =
      parameter_back n name arguments i number x b is here (subst (λ (y : ℕ). slice_get i.arguments y ≡ Some x) same stands) at

  -- the arguments of the open of a number
  abbrev AreEach : ℕ → ℕ → Instance → List SigName → List (Option SigRef) → Type 0
  AreEach n k i names xs = (m : ℕ) (name : SigName) (x : Option SigRef) → slice_get names m ≡ Some name → slice_get xs m ≡ Some x → IsGiven instances texts n k i.arguments name x

  no_more : (xs : List (Option SigRef)) → 0 ≡ length xs → AreMeant texts instances xs nothing
  no_more [] size = none_meant
  no_more (x ∷ xs) size = absurd (omega (arith, size))

  -- a first argument and the others
  record IsSplit (xs : List (Option SigRef)) (count : ℕ) : Type 0 where
    head : Option SigRef
    tail : List (Option SigRef)
    whole : xs ≡ head ∷ tail
    size : count ≡ length tail

  split : (count : ℕ) (xs : List (Option SigRef)) → suc count ≡ length xs → IsSplit xs count
  split count [] size = absurd (omega (arith, size))
  split count (x ∷ xs) size = record { head = x; tail = xs; whole = refl; size = let less : count ≡ length xs = omega (arith, size) in less }

  each_rest : (n k : ℕ) (i : Instance) (name : SigName) (names : List SigName) (x : Option SigRef) (tail : List (Option SigRef)) → AreEach n k i (name ∷ names) (x ∷ tail) → AreEach n k i names tail
  each_rest n k i name names x tail each m other y is was = each (suc m) other y is was

  -- An argument is told by what a name says, whatever its place.
  given_placeless : (n k : ℕ) (arguments : List (Option SigRef)) (name : SigName) (x : Option SigRef) → IsGiven instances texts n k arguments name x → IsGiven instances texts n k arguments (placeless_sig_name name) x
  given_placeless n k arguments (sig_name.Int place) x is = is
  given_placeless n k arguments (sig_name.Name name) x is = record { one = is.one; names = is.names; only = is.only; stands = is.stands }

  placeless_given : (n k : ℕ) (arguments : List (Option SigRef)) (name : SigName) (x : Option SigRef) → IsGiven instances texts n k arguments (placeless_sig_name name) x → IsGiven instances texts n k arguments name x
  placeless_given n k arguments (sig_name.Int place) x is = is
  placeless_given n k arguments (sig_name.Name name) x is = record { one = is.one; names = is.names; only = is.only; stands = is.stands }

  given_alike : (n k : ℕ) (arguments : List (Option SigRef)) (a b : SigName) (x : Option SigRef) → placeless_sig_name a ≡ placeless_sig_name b → IsGiven instances texts n k arguments b x → IsGiven instances texts n k arguments a x
  given_alike n k arguments a b x same is =
      placeless_given n k arguments a x (subst (λ (name : SigName). IsGiven instances texts n k arguments name x) (sym same) (given_placeless n k arguments b x is))

  -- the name of this number is the same in both, but for places
  record IsSaid (names : List SigName) (m : ℕ) (name : SigName) : Type 0 where
    other : SigName
    at : slice_get names m ≡ Some other
    same : placeless_sig_name name ≡ placeless_sig_name other

  name_alike : (xs ys : List SigName) (m : ℕ) (name : SigName) → map placeless_sig_name xs ≡ map placeless_sig_name ys → slice_get xs m ≡ Some name → IsSaid ys m name
  name_alike xs ys m name same is = found (slice_get ys m) refl here
    where
      here : option_map placeless_sig_name (slice_get ys m) ≡ Some (placeless_sig_name name)
      here =
          sym (slice_get-map placeless_sig_name ys m)
          ∙ (ap (λ (names : List SigName). slice_get names m) (sym same) ∙ (slice_get-map placeless_sig_name xs m ∙ ap (option_map placeless_sig_name) is))

      found : (o : Option SigName) → slice_get ys m ≡ o → option_map placeless_sig_name o ≡ Some (placeless_sig_name name) → IsSaid ys m name
      found None at e = absurd (none-some (placeless_sig_name name) e)
      found (Some b) at e = record { other = b; at = at; same = sym (same_Some (placeless_sig_name b) (placeless_sig_name name) e) }

  each_alike : (n k : ℕ) (i : Instance) (names others : List SigName) (xs : List (Option SigRef)) → map placeless_sig_name names ≡ map placeless_sig_name others → AreEach n k i others xs → AreEach n k i names xs
  each_alike n k i names others xs same each m name x is was =
      let b = name_alike names others m name same is in
      given_alike n k i.arguments name b.other x b.same (each m b.other x b.at was)

  size_alike : (xs ys : List SigName) → map placeless_sig_name xs ≡ map placeless_sig_name ys → length xs ≡ length ys
  size_alike xs ys same = sym (length-map xs placeless_sig_name) ∙ (ap (λ (names : List SigName). length names) same ∙ length-map ys placeless_sig_name)

  -- the target of an open
  target_back : (n : ℕ) (g : Given) (k : ℕ) (opening : Opening) (o : Opened) (hidden : Bool) (text : List ℕ) (arguments : Arguments) → Is n g → SetAsks g k opening → Opens n k o hidden → IsFound told root (path_of opening) text →
      ((at : IsAsked told root tree texts instances load n k o hidden g) → AreAlike at.opening opening → AreMeant texts instances at.led.target.arguments arguments) → Is o.instance (given text arguments)
  target_back n g k opening o hidden text arguments is asking is_open found are =
      let at = asked told root tree texts instances load n k o hidden g is_open is in
      let alike : AreAlike at.opening opening = alike_asked told root tree texts instances load law g k at.opening opening at.asks asking in
      let leads = at.led.leads in
      let path : IsFound told root (path_of opening) leads.found.0 = subst (λ (x : List ℕ). IsFound told root x leads.found.0) (same_path_of at.opening opening alike) leads.found.2 in
      let name : leads.found.0 ≡ text = one_name told root (path_of opening) leads.found.0 text path found in
      means o.instance at.led.target text arguments leads.reached (leads.found.1 ∙ ap (λ (x : List ℕ). Some x) name) (are at alike)

  implied_arguments : (n : ℕ) (g : Given) (sig other : ℕ) (xs : List (Option SigRef)) → Is n g → other ≡ sig → xs ≡ Some (record { instance = n; sig = other }) ∷ [] → AreMeant texts instances xs (sig_and g sig nothing)
  implied_arguments n g sig other xs is same whole =
      let self : SigRef = record { instance = n; sig = other } in
      subst (λ (ys : List (Option SigRef)). AreMeant texts instances ys (sig_and g sig nothing)) (sym whole) (sig_meant self g sig [] nothing same is none_meant)

  implied_given : (n : ℕ) (g : Given) (k : ℕ) (o : Opened) (hidden : Bool) (e : Enumerated) (at : IsAsked told root tree texts instances load n k o hidden g) → AreAlike at.opening (implied e) → Is n g →
      AreMeant texts instances at.led.target.arguments (sig_and g e.sig nothing)
  implied_given n g k o hidden e at alike is =
      let as_one = as_implied at.opening e alike in
      implied_arguments n g e.sig as_one.enum_there.sig at.led.target.arguments is as_one.sig_is (subst (λ (x : Opening). AreOf instances texts n x at.led.target.arguments) as_one.is at.led.given)

  -- what is said of the arguments of a written open
  record IsWritten (n k : ℕ) (i : Instance) (names : List SigName) (xs : List (Option SigRef)) : Type 0 where
    every : length names ≡ length xs
    each : AreEach n k i names xs

  written_given : (n : ℕ) (g : Given) (k : ℕ) (o : Opened) (hidden : Bool) (w : Open) (at : IsAsked told root tree texts instances load n k o hidden g) → AreAlike at.opening (written w) →
      IsWritten n k at.instance w.arguments at.led.target.arguments
  written_given n g k o hidden w at alike =
      let as_one = as_written at.opening w alike in
      let here : slice_get (openings_of at.text.tree) k ≡ Some (written as_one.open_there) = at.at ∙ ap (λ (x : Opening). Some x) as_one.is in
      let inside : n < length instances = slice_get_within instances n at.instance at.is.is_instance in
      let are = (load.named n inside).each k at.instance at.led.target at.text as_one.open_there o at.is (written_of at.text.tree k as_one.open_there here) at.leads at.led.leads.reached in
      record {
        every = size_alike w.arguments as_one.open_there.arguments as_one.arguments ∙ are.every;
        each = each_alike n k at.instance w.arguments as_one.open_there.arguments at.led.target.arguments as_one.arguments are.each;
      }

  mutual
    pub leads_back : (n : ℕ) (g : Given) (k : ℕ) (h : Given) → SetLeads g k h → Is n g → (o : Opened) (hidden : Bool) → Opens n k o hidden → Is o.instance h
    leads_back n g k h (least.written_open i m w text arguments asking found are) is o hidden is_open =
        target_back n g k (written w) o hidden text arguments is asking is_open found
        (λ at alike.
        let all = written_given n g k o hidden w at alike in
        given_back n g k w.arguments arguments are is at.instance at.is.is_instance at.led.target.arguments all.every all.each)
    leads_back n g k h (least.implied_open i m e text asking found) is o hidden is_open =
        target_back n g k (implied e) o hidden text (sig_and g e.sig nothing) is asking is_open found (λ at alike. implied_given n g k o hidden e at alike is)

    given_back : (n : ℕ) (g : Given) (k : ℕ) (names : List SigName) (arguments : Arguments) → SetGiven g k names arguments → Is n g → (i : Instance) → slice_get instances n ≡ Some i → (xs : List (Option SigRef)) →
        length names ≡ length xs → AreEach n k i names xs → AreMeant texts instances xs arguments
    given_back n g k names arguments (least.none_given h m) is i here xs size each = no_more xs size
    given_back n g k names arguments (least.int_given h m place rest others are) is i here xs size each =
        let parts = split (length rest) xs size in
        let all : AreEach n k i (sig_name.Int place ∷ rest) (parts.head ∷ parts.tail) = subst (λ (ys : List (Option SigRef)). AreEach n k i (sig_name.Int place ∷ rest) ys) parts.whole each in
        let int : parts.head ≡ None = all 0 (sig_name.Int place) parts.head refl refl in
        let tail = given_back n g k rest others are is i here parts.tail parts.size (each_rest n k i (sig_name.Int place) rest parts.head parts.tail all) in
        let head : IsMeant texts instances parts.head None = subst (λ (y : Option SigRef). IsMeant texts instances y None) (sym int) tt in
        subst (λ (ys : List (Option SigRef)). AreMeant texts instances ys arguments) (sym parts.whole) (with_meant texts instances parts.head None parts.tail others head tail)
    given_back n g k names arguments (least.name_given h m name c a rest others named stands are) is i here xs size each =
        let parts = split (length rest) xs size in
        let all : AreEach n k i (sig_name.Name name ∷ rest) (parts.head ∷ parts.tail) = subst (λ (ys : List (Option SigRef)). AreEach n k i (sig_name.Name name ∷ rest) ys) parts.whole each in
        let one : IsOne instances texts n k i.arguments name parts.head = all 0 (sig_name.Name name) parts.head refl refl in
        let tail = given_back n g k rest others are is i here parts.tail parts.size (each_rest n k i (sig_name.Name name) rest parts.head parts.tail all) in
        let got = names_back n g k name c named is in
        let same : IsCandidate texts instances one.one c = subst (λ (x : Named). IsCandidate texts instances x c) (one.only got.one got.names) got.same in
        let head : IsMeant texts instances parts.head a = stands_back n g i one.one c parts.head a is here same one.stands stands in
        subst (λ (ys : List (Option SigRef)). AreMeant texts instances ys (least.with_argument a others)) (sym parts.whole) (with_meant texts instances parts.head a parts.tail others head tail)

    names_back : (n : ℕ) (g : Given) (k : ℕ) (name : QualName) (c : Candidate) → SetNames g k name c → Is n g → IsNamed n k name c
    names_back n g k name c (least.own_sig i m called sig hidden front has) is = own_named n g k name sig hidden is front has
    names_back n g k name c (least.own_parameter i m called p number front has at) is = parameter_named n g k name p number is front has at
    names_back n g k name c (least.reached i m earlier j l called sig plain front before leads reaches has) is =
        let o = opened_in n g earlier j is leads in
        let first : Is o.opened.instance j = leads_back n g earlier j leads is o.opened o.hidden o.is_open in
        let then : IsReached o.opened.instance l = reaches_back o.opened.instance j l reaches first in
        brought_named n k earlier l name sig plain front before o then has
    names_back n g k name c (least.through i m earlier j l called asked_for aliases sig front before asking leads follows has) is =
        let got = open_back told root tree texts instances load law n g earlier asked_for is asking in
        let o : HasOpened n earlier = record { opened = got.opened; hidden = is_hidden asked_for; is_open = got.is_open } in
        let first : Is o.opened.instance j = leads_back n g earlier j leads is o.opened o.hidden o.is_open in
        let then : IsFollowed o.opened.instance aliases l = follows_back o.opened.instance j aliases l follows first in
        behind_named n k earlier l name (alias_of asked_for) aliases sig front before o got.alias then has

    reaches_back : (n : ℕ) (g h : Given) → SetReaches g h → Is n g → IsReached n h
    reaches_back n g h (least.itself i) is = record { number = n; meant = is; reaches = itself n }
    reaches_back n g h (least.further i j l k asked_for asking public leads reaches) is =
        let got = open_back told root tree texts instances load law n g k asked_for is asking in
        let o = got.opened in
        let first : Is o.instance j = leads_back n g k j leads is o (is_hidden asked_for) got.is_open in
        let then : IsReached o.instance l = reaches_back o.instance j l reaches first in
        record { number = then.number; meant = then.meant; reaches = further n k then.number o (subst (λ (b : Bool). Opens n k o b) public got.is_open) then.reaches }

    follows_back : (n : ℕ) (g : Given) (aliases : List (List ℕ)) (h : Given) → SetFollows g aliases h → Is n g → IsFollowed n aliases h
    follows_back n g aliases h (least.no_alias i) is = record { number = n; meant = is; follows = refl }
    follows_back n g aliases h (least.an_alias i j l k asked_for rest asking public leads follows) is =
        let got = open_back told root tree texts instances load law n g k asked_for is asking in
        let o = got.opened in
        let first : Is o.instance j = leads_back n g k j leads is o (is_hidden asked_for) got.is_open in
        let then : IsFollowed o.instance rest l = follows_back o.instance j rest l follows first in
        let open_to : Opens n k o false = subst (λ (b : Bool). Opens n k o b) public got.is_open in
        record { number = then.number; meant = then.meant; follows = (k, o, open_to, got.alias, then.follows) }
