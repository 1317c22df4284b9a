-- Where opens lead.
use Rattle.std.proofs.Common.{◌≡◌, ◌⊎◌, inl, inr, ℕ, suc, Bool, ◌+◌, ◌<◌, List, [], ◌∷◌, length, Option, Some, None, refl, sym, ap, subst, ◌∙◌, arith, slice_get, get_or, codes, option_map, bytes_eq, true}
use Rattle.std.proofs.lemmas.Bool.{cases_eq}
use Rattle.std.proofs.lemmas.Option.{same_Some, slice_get-map, slice_get_read, slice_get_within}
use Rattle.std.proofs.lemmas.Slice.Eq.{bytes_eq-Decides}
use Rattle.syntax_tree.specs.declared.expr.QualName.{QualName}
use Rattle.syntax_tree.specs.declared.instance.Instance.{Instance}
use Rattle.syntax_tree.specs.declared.instance.Opened.{Opened}
use Rattle.syntax_tree.specs.declared.instance.SigRef.{SigRef}
use Rattle.syntax_tree.specs.declared.instance.Text.{Text}
use Rattle.syntax_tree.specs.declared.module.Header.{Header}
use Rattle.syntax_tree.specs.declared.module.Module.{Module}
use Rattle.syntax_tree.specs.declared.module.Open.{Open}
use Rattle.syntax_tree.specs.declared.module.Parameter.{Parameter}
use Rattle.syntax_tree.specs.declared.module.SigName.{SigName}
use Rattle.load_state.specs.Keys.{answer_in, texts_of}
use Rattle.load_state.specs.Leads.{IsAnswered, near, far, LeadsTo, IsLed, IsEnd, no_more, integers, IsOfIntegers, IsDeclared, IsGiven, StandsFor, a_sig, a_parameter, IsArgument, AreArguments, AreLed, IsInstanceLed, AllLed}
use Rattle.load_state.specs.Names.{folder_of, file_name, path_bytes, last_part}
use Rattle.load_state.specs.Opens.{Opening, written, implied, openings_of, alias_of}
use Rattle.load_state.specs.Sigs.{sigs_of, header_names}
use Rattle.load_state.specs.declared.loading.Asked.{Asked}
use Rattle.load_state.specs.declared.source.Source.{Source}
use Rattle.load_state.specs.declared.table.DeclaredSig.{DeclaredSig}
use Rattle.load_state.specs.declared.table.Enumerated.{Enumerated}

-- an argument of each, one after another
pub arguments_each : (instances : List Instance) (texts : List Text) (number : ℕ) (names : List SigName) (arguments : List (Option SigRef)) → length names ≡ length arguments →
    ((k : ℕ) (n : SigName) (a : Option SigRef) → slice_get names k ≡ Some n → slice_get arguments k ≡ Some a → IsArgument instances texts number n a) → AreArguments instances texts number names arguments
arguments_each instances texts number [] [] same are = tt
arguments_each instances texts number (n ∷ names) (a ∷ arguments) same are =
    (are 0 n a refl refl, arguments_each instances texts number names arguments (omega (arith, same)) (λ k m b x y. are (suc k) m b x y))
arguments_each instances texts number [] (a ∷ arguments) same are = absurd (omega (arith, same))
arguments_each instances texts number (n ∷ names) [] same are = absurd (omega (arith, same))

pub same_bytes : (a b : List ℕ) → bytes_eq a b ≡ true → a ≡ b
same_bytes a b same = (bytes_eq-Decides a b).0 same

-- what an argument stands for
pub declared_by : (tree : Module) (number : ℕ) (name : List ℕ) (harmless : Bool) (d : DeclaredSig) (declared : List DeclaredSig) → slice_get declared number ≡ Some d → declared ≡ sigs_of tree → d.name ≡ name →
    (d.is_private ≡ true → harmless ≡ true) → IsDeclared tree number name (harmless ≡ true)
declared_by tree number name harmless d declared here same named seen =
    record { declared = d; numbered = ap (λ (ds : List DeclaredSig). slice_get ds number) (sym same) ∙ here; named = named; seen = seen }

pub text_of_source : (sources : List Source) (n : ℕ) (s : Source) → slice_get sources n ≡ Some s → slice_get (texts_of sources) n ≡ Some s.text
text_of_source sources n s here = slice_get-map (λ (x : Source). x.text) sources n ∙ ap (λ (x : Option Source). option_map (λ (y : Source). y.text) x) here

pub sig_stands : (instances : List Instance) (texts : List Text) (number : ℕ) (name : QualName) (argument : Option SigRef) (s : SigRef) (i : Instance) (t : Text) (last : List ℕ) (is_own : Bool) → argument ≡ Some s →
    slice_get instances s.instance ≡ Some i → slice_get texts i.text ≡ Some t → last ≡ last_part name.parts → IsDeclared t.tree s.sig last (is_own ≡ true) → (is_own ≡ true → s.instance ≡ number) →
    StandsFor instances texts number name argument
sig_stands instances texts number name argument s i t last is_own is here text named declared own =
    let d : IsDeclared t.tree s.sig (last_part name.parts) (s.instance ≡ number) =
    record { declared = declared.declared; numbered = declared.numbered; named = declared.named ∙ named; seen = λ hidden. own (declared.seen hidden) } in
    subst (StandsFor instances texts number name) (sym is) (a_sig s i t (record { is_instance = here; is_text = text }) d)

pub parameter_stands : (instances : List Instance) (texts : List Text) (number : ℕ) (name : QualName) (argument : Option SigRef) (part : List ℕ) (i : Instance) (t : Text) → name.parts ≡ part ∷ [] →
    slice_get instances number ≡ Some i → slice_get texts i.text ≡ Some t → IsGiven t.tree i.arguments part argument → StandsFor instances texts number name argument
parameter_stands instances texts number name argument part i t is here text given = a_parameter part i t argument is (record { is_instance = here; is_text = text }) given

pub parameter_here : (header : Option Header) (h : Header) (p : Parameter) (place : ℕ) (name : List ℕ) → header ≡ Some h → slice_get h.parameters place ≡ Some p → p.name.name ≡ name →
    slice_get (header_names header) place ≡ Some name
parameter_here header h p place name is here named =
    ap (λ (x : Option Header). slice_get (header_names x) place) is ∙ (slice_get-map (λ (x : Parameter). x.name.name) h.parameters place ∙
    (ap (λ (x : Option Parameter). option_map (λ (y : Parameter). y.name.name) x) here ∙ ap (λ (x : List ℕ). Some x) named))

pub given_by : (tree : Module) (arguments : List (Option SigRef)) (name : List ℕ) (argument : Option SigRef) (place : ℕ) → slice_get (header_names tree.header) place ≡ Some name → slice_get arguments place ≡ Some argument →
    IsGiven tree arguments name argument
given_by tree arguments name argument place parameter given = record { place = place; parameter = parameter; given = given }

pub near_answered : (asked : List Asked) (root path folder name : List ℕ) (answer : Option (Option ℕ)) (found text : ℕ) → folder ≡ folder_of root → name ≡ file_name folder path → answer ≡ answer_in asked name →
    answer ≡ Some (Some found) → found ≡ text → IsAnswered asked root path text
near_answered asked root path folder name answer found text in_folder named is here same =
    near (ap (answer_in asked) (sym (named ∙ ap (λ (f : List ℕ). file_name f path) in_folder)) ∙ (sym is ∙ (here ∙ ap (λ (n : ℕ). Some (Some n)) same)))

pub far_answered : (asked : List Asked) (root path folder name other : List ℕ) (answer later : Option (Option ℕ)) (text : ℕ) → folder ≡ folder_of root → name ≡ file_name folder path → answer ≡ answer_in asked name →
    answer ≡ Some None → other ≡ file_name [] path → later ≡ answer_in asked other → later ≡ Some (Some text) → IsAnswered asked root path text
far_answered asked root path folder name other answer later text in_folder named is none far_named is_later here =
    far (ap (answer_in asked) (sym (named ∙ ap (λ (f : List ℕ). file_name f path) in_folder)) ∙ (sym is ∙ none)) (ap (answer_in asked) (sym far_named) ∙ (sym is_later ∙ here))

-- a written open, and the one of an enum
pub written_led : (asked : List Asked) (root : List ℕ) (instances : List Instance) (texts : List Text) (number : ℕ) (o : Open) (opened : Opened) (target : Instance) (alias path : List ℕ) →
    LeadsTo (IsAnswered asked root) instances alias path opened target → alias ≡ alias_of (written o) → path ≡ path_bytes o.path → AreArguments instances texts number o.arguments target.arguments →
    IsLed (IsAnswered asked root) instances texts number (written o) opened
written_led asked root instances texts number o opened target alias path is same_alias same_path given =
    let P : List ℕ → List ℕ → Type 0 = λ a p. LeadsTo (IsAnswered asked root) instances a p opened target in
    record { target = target; leads = subst (λ (a : List ℕ). P a (path_bytes o.path)) same_alias (subst (λ (p : List ℕ). P alias p) same_path is); given = given }

pub implied_led : (asked : List Asked) (root : List ℕ) (instances : List Instance) (texts : List Text) (number : ℕ) (e : Enumerated) (opened : Opened) (target : Instance) →
    LeadsTo (IsAnswered asked root) instances (codes "ordering") (codes "util/ordering") opened target → target.arguments ≡ Some (record { instance = number; sig = e.sig }) ∷ [] →
    IsLed (IsAnswered asked root) instances texts number (implied e) opened
implied_led asked root instances texts number e opened target is given = record { target = target; leads = is; given = given }

pub leads_to : (asked : List Asked) (root : List ℕ) (instances : List Instance) (alias path : List ℕ) (opened : Opened) (target : Instance) → opened.alias ≡ alias → slice_get instances opened.instance ≡ Some target →
    IsAnswered asked root path target.text → LeadsTo (IsAnswered asked root) instances alias path opened target
leads_to asked root instances alias path opened target named here found = record { named = named; reached = here; found = found }

pub ends_here : (asked : List Asked) (root : List ℕ) (instances : List Instance) (count : ℕ) (opens : List Opened) → length opens ≡ count → IsEnd (IsAnswered asked root) instances count opens
ends_here asked root instances count opens same = no_more same

pub integers_led : (asked : List Asked) (root : List ℕ) (instances : List Instance) (opened : Opened) (target : Instance) →
    LeadsTo (IsAnswered asked root) instances (codes "integer") (codes "util/integer") opened target → length target.arguments ≡ 0 → IsOfIntegers (IsAnswered asked root) instances opened
integers_led asked root instances opened target leads none = record { target = target; leads = leads; none = none }

pub ends_after : (asked : List Asked) (root : List ℕ) (instances : List Instance) (count : ℕ) (opens : List Opened) (opened : Opened) → length opens ≡ count + 1 → opened ≡ get_or opens count opened →
    IsOfIntegers (IsAnswered asked root) instances opened → IsEnd (IsAnswered asked root) instances count opens
ends_after asked root instances count opens opened same here is = integers opened same (slice_get_read opens (length opens) count opened refl (omega (arith, same)) here) is

-- the opens of an instance, one after another
pub are_led_by : (asked : List Asked) (root : List ℕ) (instances : List Instance) (texts : List Text) (number count : ℕ) (tree : Module) (opens : List Opened) → count ≡ length (openings_of tree) →
    ((k : ℕ) (o : Opening) → k < count → slice_get (openings_of tree) k ≡ Some o → (d : Opened) × (slice_get opens k ≡ Some d) × IsLed (IsAnswered asked root) instances texts number o d) →
    IsEnd (IsAnswered asked root) instances count opens → AreLed (IsAnswered asked root) instances texts number tree opens
are_led_by asked root instances texts number count tree opens same led ends = record {
  led = λ k o here. led k o (omega (arith, same, slice_get_within (openings_of tree) k o here)) here;
  ends = subst (λ (n : ℕ). IsEnd (IsAnswered asked root) instances n opens) same ends;
}

-- a text among the texts
pub instance_led : (asked : List Asked) (root : List ℕ) (instances : List Instance) (sources : List Source) (number : ℕ) (instance : Instance) (source : Source) → slice_get sources instance.text ≡ Some source →
    AreLed (IsAnswered asked root) instances (texts_of sources) number source.text.tree instance.opens → IsInstanceLed (IsAnswered asked root) instances (texts_of sources) number instance
instance_led asked root instances sources number instance source here are t at =
    let found : slice_get (texts_of sources) instance.text ≡ Some source.text =
    slice_get-map (λ (s : Source). s.text) sources instance.text ∙ ap (λ (x : Option Source). option_map (λ (s : Source). s.text) x) here in
    subst (λ (x : Text). AreLed (IsAnswered asked root) instances (texts_of sources) number x.tree instance.opens) (same_Some source.text t (sym found ∙ at)) are

-- the same under other names
pub led_texts : (asked given : List Asked) (root : List ℕ) (instances : List Instance) (sources shown : List Source) (texts : List Text) → AllLed (IsAnswered given root) instances (texts_of shown) → given ≡ asked → shown ≡ sources →
    texts ≡ texts_of sources → AllLed (IsAnswered asked root) instances texts
led_texts asked given root instances sources shown texts all same_asked same_sources are =
    let P : List Asked → List Text → Type 0 = λ a ts. AllLed (IsAnswered a root) instances ts in
    subst (λ (ts : List Text). P asked ts) (ap texts_of same_sources ∙ sym are) (subst (λ (a : List Asked). P a (texts_of shown)) same_asked all)

up_to : (P : ℕ → Type 0) (place next k : ℕ) → ((j : ℕ) → j < place → P j) → P place → next ≡ place + 1 → k < next → (k ≡ place) ⊎ (k ≡ place → ⊥) → P k
up_to P place next k before here is below (inl same) = subst P (sym same) here
up_to P place next k before here is below (inr other) = before k (omega (arith, is, below, other))

-- one argument more
pub arguments_next : (instances : List Instance) (texts : List Text) (number : ℕ) (names : List SigName) (arguments : List (Option SigRef)) (place next : ℕ) (name : SigName) (argument : Option SigRef) →
    ((k : ℕ) (n : SigName) (a : Option SigRef) → k < place → slice_get names k ≡ Some n → slice_get arguments k ≡ Some a → IsArgument instances texts number n a) → slice_get names place ≡ Some name →
    slice_get arguments place ≡ Some argument → IsArgument instances texts number name argument → next ≡ place + 1 →
    (k : ℕ) (n : SigName) (a : Option SigRef) → k < next → slice_get names k ≡ Some n → slice_get arguments k ≡ Some a → IsArgument instances texts number n a
arguments_next instances texts number names arguments place next name argument before is_name is_argument right is k n a below here there =
    let P : SigName → Option SigRef → Type 0 = λ m b. IsArgument instances texts number m b in
    up_to (λ j. (m : SigName) (b : Option SigRef) → slice_get names j ≡ Some m → slice_get arguments j ≡ Some b → P m b) place next k
    (λ j under m b x y. before j m b under x y)
    (λ m b x y. subst (λ (o : Option SigRef). P m o) (same_Some argument b (sym is_argument ∙ y)) (subst (λ (o : SigName). P o argument) (same_Some name m (sym is_name ∙ x)) right))
    is below (cases_eq k place) n a here there

-- an open that leads where the asking of its place says
pub led_here : (asked : List Asked) (root : List ℕ) (instances : List Instance) (texts : List Text) (number place : ℕ) (tree : Module) (opened : Opened) (right : Opening) → slice_get (openings_of tree) place ≡ Some right →
    IsLed (IsAnswered asked root) instances texts number right opened → (o : Opening) → slice_get (openings_of tree) place ≡ Some o → IsLed (IsAnswered asked root) instances texts number o opened
led_here asked root instances texts number place tree opened right here led o at =
    subst (λ (x : Opening). IsLed (IsAnswered asked root) instances texts number x opened) (same_Some right o (sym here ∙ at)) led

-- one open more
pub led_next : (asked : List Asked) (root : List ℕ) (instances : List Instance) (texts : List Text) (number place next : ℕ) (tree : Module) (opens : List Opened) (opened : Opened) →
    ((k : ℕ) (o : Opening) → k < place → slice_get (openings_of tree) k ≡ Some o → (d : Opened) × (slice_get opens k ≡ Some d) × IsLed (IsAnswered asked root) instances texts number o d) →
    slice_get opens place ≡ Some opened → ((o : Opening) → slice_get (openings_of tree) place ≡ Some o → IsLed (IsAnswered asked root) instances texts number o opened) → next ≡ place + 1 →
    (k : ℕ) (o : Opening) → k < next → slice_get (openings_of tree) k ≡ Some o → (d : Opened) × (slice_get opens k ≡ Some d) × IsLed (IsAnswered asked root) instances texts number o d
led_next asked root instances texts number place next tree opens opened before here led is k o below at =
    up_to (λ j. (p : Opening) → slice_get (openings_of tree) j ≡ Some p → (d : Opened) × (slice_get opens j ≡ Some d) × IsLed (IsAnswered asked root) instances texts number p d) place next k
    (λ j under p x. before j p under x) (λ p x. (opened, here, led p x)) is below (cases_eq k place) o at

-- one instance more
pub instances_next : (asked : List Asked) (root : List ℕ) (instances : List Instance) (texts : List Text) (place next number : ℕ) (instance : Instance) →
    ((k : ℕ) (i : Instance) → k < place → slice_get instances k ≡ Some i → IsInstanceLed (IsAnswered asked root) instances texts k i) →
    slice_get instances place ≡ Some instance → IsInstanceLed (IsAnswered asked root) instances texts number instance → number ≡ place → next ≡ place + 1 →
    (k : ℕ) (i : Instance) → k < next → slice_get instances k ≡ Some i → IsInstanceLed (IsAnswered asked root) instances texts k i
instances_next asked root instances texts place next number instance before here led same is k i below at =
    let P : ℕ → Instance → Type 0 = λ n x. IsInstanceLed (IsAnswered asked root) instances texts n x in
    up_to (λ j. (x : Instance) → slice_get instances j ≡ Some x → P j x) place next k (λ j under x a. before j x under a)
    (λ x a. subst (λ (y : Instance). P place y) (same_Some instance x (sym here ∙ a)) (subst (λ (n : ℕ). P n instance) same led))
    is below (cases_eq k place) i at
