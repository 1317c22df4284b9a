-- The commands of a model, as the text of its root declares them.
use Rattle.std.specs.Prelude.{◌≡◌, ℕ, Bool, true, false, List, [], ◌∷◌, ◌++◌, map, codes, Option, Some, None, Contains, option_map, flat_map, slice_get}
use Rattle.base_types.specs.declared.place.Position.{Position}
use Rattle.syntax_tree.specs.declared.expr.Named.{Named}
use Rattle.syntax_tree.specs.declared.expr.QualName.{QualName}
use Rattle.syntax_tree.specs.declared.expr.Expr.{Expr}
use Rattle.syntax_tree.specs.declared.module.SigName.TheVariants as written
use Rattle.syntax_tree.specs.declared.module.Numeral.{Numeral}
use Rattle.syntax_tree.specs.declared.module.ScopeTarget.{ScopeTarget}
use Rattle.syntax_tree.specs.declared.module.ScopeTarget.TheVariants as target
use Rattle.syntax_tree.specs.declared.module.ScopeEntry.{ScopeEntry as Number}
use Rattle.syntax_tree.specs.declared.module.Scope.{Scope}
use Rattle.syntax_tree.specs.declared.module.Scope.TheVariants as scope
use Rattle.syntax_tree.specs.declared.module.Subject.{Subject}
use Rattle.syntax_tree.specs.declared.module.Subject.TheVariants as subject
use Rattle.syntax_tree.specs.declared.module.Claim.{Claim as Block}
use Rattle.syntax_tree.specs.declared.module.Pred.{Pred}
use Rattle.syntax_tree.specs.declared.module.Command.{Command as Written}
use Rattle.syntax_tree.specs.declared.module.Paragraph.{Paragraph}
use Rattle.syntax_tree.specs.declared.module.Paragraph.TheVariants as paragraph
use Rattle.syntax_tree.specs.declared.instance.Text.{Text}
use Rattle.syntax_tree.specs.declared.instance.Instance.{Instance}
use Rattle.core_tree.specs.declared.operators.Quantity.TheVariants as quantity
use Rattle.core_tree.specs.declared.model.CommandKind.{CommandKind}
use Rattle.core_tree.specs.declared.model.CommandKind.TheVariants as kind
use Rattle.core_tree.specs.declared.model.ScopeSubject.{ScopeSubject}
use Rattle.core_tree.specs.declared.model.ScopeSubject.TheVariants as counts
use Rattle.core_tree.specs.declared.model.ScopeEntry.{ScopeEntry}
use Rattle.core_tree.specs.declared.model.Command.{Command}
use Rattle.core_tree.specs.declared.model.Model.{Model}
use Rattle.core_tree.specs.Trees.{Term, Claim, Binder, name, counted, negation, call_claim, claim_of, term_list, variable_list}
use Rattle.resolve_names.specs.declared.table.Decl.TheVariants as decl
use Rattle.resolve_names.specs.declared.table.Namespace.{Namespace}
use Rattle.resolve_names.specs.Visible.{Declaration as Seen, Sees, Leads, path_of, last_of}
use Rattle.resolve_types.specs.declared.member.Member.TheVariants as member
use Rattle.resolve_hierarchy.specs.Rules.{Names, paragraphs_in}
use Rattle.resolve_said.specs.Said.{Standing, SaysSet}
use Rattle.resolve_told.specs.Lists.{OneByOne}
use Rattle.resolve_read.specs.declared.types.Readings.{Readings}
use Rattle.resolve_told_sigs.specs.Says.{outside, SaysAlone}
use Rattle.resolve_told.specs.Bodies.{Declared, bodies_from, parameters_of}

-- the commands among paragraphs, in their order
abbrev pub commands_by : Paragraph → List Written
commands_by (paragraph.Command c) = c ∷ []
commands_by _ = []

-- the commands of the root, which is the first instance
abbrev pub root_commands : List Text → List Instance → List Written
root_commands texts [] = []
root_commands texts (root ∷ others) = flat_map commands_by (paragraphs_in texts root)

abbrev pub kind_of : Bool → CommandKind
kind_of true = kind.Check
kind_of false = kind.Run

-- the name behind `run` or `check`
abbrev pub subject_name : Subject → Option QualName
subject_name (subject.Name q) = Some q
subject_name (subject.Labelled q e) = Some q
subject_name (subject.Block e) = None

abbrev pub place_of_name : QualName → Position
place_of_name q = q.place

-- a name with its path, without blanks
abbrev pub with_slash : List ℕ → List ℕ
with_slash part = codes "/" ++ part

abbrev pub own_path : Bool → List ℕ
own_path true = codes "this/"
own_path false = []

abbrev pub parts_spelled : List (List ℕ) → List ℕ
parts_spelled [] = []
parts_spelled (part ∷ parts) = part ++ flat_map with_slash parts

abbrev pub spelled : QualName → List ℕ
spelled q = own_path q.is_own ++ parts_spelled q.parts

-- what a command is called: its label, or else the name that it runs or checks
abbrev pub label_or : Option Named → Option QualName → Option (List ℕ)
label_or (Some label) q = Some label.name
label_or None q = option_map spelled q

-- a number of a scope: that of all top-level sigs, or one for what it names
pub data Count : Type 0 where
  overall : Numeral → Count
  for : Number → Count

abbrev pub counts_of : Option Scope → List Count
counts_of None = []
counts_of (Some (scope.Overall n)) = overall n ∷ []
counts_of (Some (scope.But n ns)) = overall n ∷ map for ns
counts_of (Some (scope.Entries ns)) = map for ns

-- the place of what a number is for
abbrev pub target_place : ScopeTarget → Position
target_place (target.Bits place) = place
target_place (target.Sig (written.Int place)) = place
target_place (target.Sig (written.Name q)) = q.place

abbrev pub IsSteps : QualName → Type 0
IsSteps q = (q.is_own ≡ false) × (q.parts ≡ codes "steps" ∷ [])

-- What the name stands for in a scope of the root: the steps, or the one sig of that name, or else nothing that is known.
pub data IsFor (scopes : List Namespace) (q : QualName) : ScopeSubject → Type 0 where
  steps : IsSteps q → IsFor scopes q counts.Steps
  sig : {s : ℕ} → (IsSteps q → ⊥) → Names scopes 0 (written.Name q) (member.Sig s) → IsFor scopes q (counts.Sig s)
  unknown : (IsSteps q → ⊥) → ((s : ℕ) → Names scopes 0 (written.Name q) (member.Sig s) → ⊥) → IsFor scopes q counts.Unknown

abbrev pub IsTarget : List Namespace → ScopeTarget → ScopeSubject → Type 0
IsTarget scopes (target.Bits place) s = s ≡ counts.Int
IsTarget scopes (target.Sig (written.Int place)) s = s ≡ counts.Int
IsTarget scopes (target.Sig (written.Name q)) s = IsFor scopes q s

pub record IsEntry (scopes : List Namespace) (n : Number) (e : ScopeEntry) : Type 0 where
  pub number_place : e.number_place ≡ n.number.place
  pub name_place : e.name_place ≡ target_place n.target
  pub number : e.number ≡ n.number.value
  pub exactly : e.exactly ≡ n.is_exact
  pub subject : IsTarget scopes n.target e.subject

pub record IsOverall (n : Numeral) (e : ScopeEntry) : Type 0 where
  pub number_place : e.number_place ≡ n.place
  pub name_place : e.name_place ≡ n.place
  pub number : e.number ≡ n.value
  pub exactly : e.exactly ≡ false
  pub subject : e.subject ≡ counts.Overall

abbrev pub IsCount : List Namespace → Count → ScopeEntry → Type 0
IsCount scopes (overall n) e = IsOverall n e
IsCount scopes (for n) e = IsEntry scopes n e

-- the entries of a command's scope
abbrev pub IsScope : List Namespace → Option Scope → List ScopeEntry → Type 0
IsScope scopes s es = OneByOne (λ n c e. IsCount scopes c e) (counts_of s) es

abbrev pub HasName : Block → List ℕ → Type 0
HasName a text = (label : Named) × (a.name ≡ Some label) × (label.name ≡ text)

-- the paragraph is the assertion of that name
abbrev pub IsCalled : List ℕ → Paragraph → Block → Type 0
IsCalled text p a = (p ≡ paragraph.Assert a) × HasName a text

-- an assertion of that name stands among the paragraphs
abbrev pub Declares : List Paragraph → List ℕ → Block → Type 0
Declares ps text a = (p : Paragraph) × Contains ps p × IsCalled text p a

-- a formula that denies one of which P holds
abbrev pub Denies : (Claim → Type 0) → Claim → Type 0
Denies P c = (f : Claim) × (c ≡ negation f) × P f

-- a call of body b, to which each of its parameters is given by its own name, which is its number
abbrev pub IsOwnCall : ℕ → List Declared → Claim → Type 0
IsOwnCall b ds c = (ts : List Term) × OneByOne (λ n d t. t ≡ name n) ds ts × (c ≡ call_claim b (term_list ts))

module _ (at : Standing) where
  -- a variable for parameter n of a body: its bound says what the parameter's does
  pub record IsVariable (n : ℕ) (d : Declared) (v : Binder) : Type 0 where
    pub number : v.name ≡ n
    pub apart : v.apart ≡ d.apart
    pub bound : SaysSet at d.scope d.bound v.bound

  -- there are values of the parameters for which body b holds
  abbrev pub RunsSome : ℕ → List Declared → Claim → Type 0
  RunsSome b ds c =
      (vs : List Binder) × (call : Claim) × OneByOne IsVariable ds vs × IsOwnCall b ds call × (c ≡ counted quantity.Some (variable_list vs) call)

  -- the same, where there may be no parameters
  abbrev pub RunsWith : ℕ → List Declared → Claim → Type 0
  RunsWith b [] c = IsOwnCall b [] c
  RunsWith b (d ∷ ds) c = RunsSome b (d ∷ ds) c

-- the name stands for body b in the root
abbrev pub IsSeenBody : List Namespace → QualName → ℕ → Type 0
IsSeenBody scopes q b = (d : Seen) × Sees scopes 0 q d × (d.1.what ≡ decl.Body b)

module _ (texts : List Text) (instances : List Instance) where
  -- instance k has that assertion of that name
  pub record IsAssertion (k : ℕ) (text : List ℕ) (a : Block) : Type 0 where
    pub instance : Instance
    pub there : slice_get instances k ≡ Some instance
    pub declared : Declares (paragraphs_in texts instance) text a

  module _ (scopes : List Namespace) (model : Model) (readings : Readings) where
    -- body b is a predicate, and it is run
    pub record RunsBody (b : ℕ) (c : Claim) : Type 0 where
      pub instance : ℕ
      pub predicate : Pred
      pub declared : slice_get (bodies_from texts 0 instances) b ≡ Some (instance, paragraph.Pred predicate)
      pub runs : RunsWith (outside scopes model readings instance) b (parameters_of predicate.receiver predicate.parameters) c

    -- the name stands for an assertion, and this says what its block does
    pub record Asserts (q : QualName) (c : Claim) : Type 0 where
      pub instance : ℕ
      pub assertion : Block
      pub led : Leads scopes 0 q.is_own (path_of q.parts) instance
      pub declared : IsAssertion instance (last_of q.parts) assertion
      pub said : SaysAlone scopes model readings instance assertion.block c

    -- `run` and `check` with a name: a predicate, whose number stands beside it, holds for some values of its parameters; an
    -- assertion does not hold
    abbrev pub AsksName : Bool → QualName → Option ℕ → Claim → Type 0
    AsksName false q body c = (b : ℕ) × (body ≡ Some b) × IsSeenBody scopes q b × RunsBody b c
    AsksName true q body c = (body ≡ None) × Denies (Asserts q) c

    -- the same with a block, which holds or does not hold
    abbrev pub BlockAsks : Bool → Expr → Claim → Type 0
    BlockAsks false e c = SaysAlone scopes model readings 0 e c
    BlockAsks true e c = Denies (SaysAlone scopes model readings 0 e) c

    abbrev pub AsksBlock : Bool → Expr → Option ℕ → Claim → Type 0
    AsksBlock is_check e body c = (body ≡ None) × BlockAsks is_check e c

    abbrev pub Asks : Bool → Subject → Option ℕ → Claim → Type 0
    Asks is_check (subject.Name q) body c = AsksName is_check q body c
    Asks is_check (subject.Block e) body c = AsksBlock is_check e body c
    Asks is_check (subject.Labelled q e) body c = AsksBlock is_check e body c

    pub record IsCommand (w : Written) (c : Command) : Type 0 where
      pub kind : c.kind ≡ kind_of w.is_check
      pub keyword : c.keyword ≡ w.keyword
      pub first : c.first ≡ w.place
      pub name_place : c.name_place ≡ option_map place_of_name (subject_name w.subject)
      pub label : c.label ≡ label_or w.label (subject_name w.subject)
      pub scope : IsScope scopes w.scope c.scope
      pub asks : Asks w.is_check w.subject c.body (claim_of c.formula)

    -- the commands of the model are just those of the root, one by one in their order
    abbrev pub AreCommandsTold : Type 0
    AreCommandsTold = OneByOne (λ n w c. IsCommand w c) (root_commands texts instances) model.commands
