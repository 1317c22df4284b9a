-- The opens of an instance, gone through once more.
use Rattle.std.proofs.Common.{◌≡◌, ◌⊎◌, inl, inr, ◌↔◌, ℕ, zero, suc, ◌+◌, ◌<◌, Bool, false, List, [], ◌∷◌, ◌++◌, map, length, slice_get, Contains, Option, Some, None, refl, sym, ap, subst, ◌∙◌, arith}
use Rattle.std.specs.HashMap.{get_by_text}
use Rattle.std.proofs.lemmas.Bool.{cases_eq}
use Rattle.std.proofs.lemmas.List.{length-map}
use Rattle.std.proofs.lemmas.List.Elements.{Contains-append_cases, Contains-append_left}
use Rattle.std.proofs.lemmas.Option.{none-some, same_Some, slice_get_within}
use Rattle.syntax_tree.specs.declared.instance.Instance.{Instance}
use Rattle.syntax_tree.specs.declared.instance.Opened.{Opened}
use Rattle.syntax_tree.specs.declared.instance.Text.{Text}
use Rattle.syntax_tree.specs.declared.expr.QualName.{QualName}
use Rattle.syntax_tree.specs.declared.instance.SigRef.{SigRef}
use Rattle.syntax_tree.specs.Instances.{parameter_count}
use Rattle.syntax_tree.specs.declared.module.Header.{Header}
use Rattle.syntax_tree.specs.declared.module.Module.{Module}
use Rattle.syntax_tree.specs.declared.module.Parameter.{Parameter}
use Rattle.syntax_tree.specs.declared.module.Open.{Open}
use Rattle.syntax_tree.specs.declared.module.SigName.{SigName}
use Rattle.load_state.specs.Doors.{Has, TellsOf, LeadsOn, AreDoors, IsReplaying, IsReplayed, AreReplayed}
use Rattle.load_state.specs.Leads.{IsInstanceOf}
use Rattle.load_state.specs.Named.{IsOpen, Stands, Names, IsOne, Reaches, AreGiven, AreNamed, AllNamed}
use Rattle.load_state.specs.Opens.{Opening, written, implied, enums_of, openings_of, is_hidden}
use Rattle.load_state.specs.Sets.{IsIn, IsJust, reach_or}
use Rattle.load_state.specs.declared.loading.Doors.{Doors}
use Rattle.load_state.specs.declared.loading.Finished.{Finished}
use Rattle.load_state.specs.Sigs.{header_names, parameters_of}
use Rattle.load_state.specs.declared.table.Enumerated.{Enumerated}
use Rattle.load_state.specs.declared.reach.Reach.{Reach}
use Rattle.load_state.proofs.Noted.{open_same, doors_none, doors_more, reached_beyond}
use Rattle.load_state.proofs.Opens.{written_at}

module _ (instances : List Instance) (texts : List Text) where
  pub replaying_first : (finished : List Finished) (number : ℕ) (i : Instance) (t : Text) (reach : Reach) (find : List ℕ → Option Reach) → reach ≡ reach_or None → ((alias : List ℕ) → find alias ≡ None) →
      IsReplaying instances texts finished number i t 0 reach find
  replaying_first finished number i t reach find none nothing = record {
    noted = subst (λ r. AreDoors instances texts number 0 r find) (sym none) (doors_none instances texts number find nothing);
    behind = λ e o h under. absurd (omega (arith, under));
    named = λ e target o d under. absurd (omega (arith, under));
  }

  -- the open of this number is this one
  open_here : (number k : ℕ) (i : Instance) (t : Text) (o : Opened) (h : Bool) → IsInstanceOf instances texts number i t → k < length (openings_of t.tree) → slice_get i.opens k ≡ Some o →
      ((a : Opening) → slice_get (openings_of t.tree) k ≡ Some a → is_hidden a ≡ h) → IsOpen instances texts number k o h
  open_here number k i t o h is inside at hidden =
      let (a, asks) = there (openings_of t.tree) k inside in
      record { instance = i; text = t; is = is; opening = a; asks = asks; leads = at; private = hidden a asks }
    where
      there : (xs : List Opening) (n : ℕ) → n < length xs → (a : Opening) × (slice_get xs n ≡ Some a)
      there [] n under = absurd (omega (arith, under))
      there (x ∷ xs) zero under = (x, refl)
      there (x ∷ xs) (suc n) under = there xs n (omega (arith, under))

  pub replaying_next : (finished : List Finished) (number k : ℕ) (i : Instance) (t : Text) (opened : Opened) (hidden : Bool) (old new : Reach) (before after : List ℕ → Option Reach) → IsInstanceOf instances texts number i t →
      k < length (openings_of t.tree) → slice_get i.opens k ≡ Some opened → ((a : Opening) → slice_get (openings_of t.tree) k ≡ Some a → is_hidden a ≡ hidden) → AreReplayed instances texts finished →
      LeadsOn finished opened hidden old new before after →
      ((o : Open) (target : Instance) → slice_get t.tree.opens k ≡ Some o → slice_get instances opened.instance ≡ Some target → AreGiven instances texts number k i.arguments o.arguments target.arguments) →
      IsReplaying instances texts finished number i t k old before → IsReplaying instances texts finished number i t (k + 1) new after
  unfolding AreReplayed
  replaying_next finished number k i t opened hidden old new before after is inside at private replayed leads given replaying = record {
    noted =
        doors_more instances texts number k opened hidden leads.f.doors.reach.public old new before after here leads.room
        (subst (λ n. (l : ℕ) → (IsIn leads.f.doors.reach.public l ⊎ IsJust n l) ↔ Reaches instances texts n l) leads.same
        (reached_beyond instances texts finished leads.f.instance leads.f.doors (omega (arith, leads.same, leads.room.0), omega (arith, leads.same, leads.room.1)) (replayed leads.f leads.has)))
        leads.noted replaying.noted;
    behind = λ e o h under is_open. behind e o h under is_open (cases_eq e k);
    named = λ e target o d under asks there to. named e target o d under asks there to (cases_eq e k);
  }
    where
      here : IsOpen instances texts number k opened hidden
      here = open_here number k i t opened hidden is inside at private

      behind : (e : ℕ) (o : Opened) (h : Bool) → e < k + 1 → IsOpen instances texts number e o h → (e ≡ k) ⊎ (e ≡ k → ⊥) → Has finished o.instance
      behind e o h under is_open (inl same) =
          let same_open = open_same instances texts number k o opened h hidden (subst (λ n. IsOpen instances texts number n o h) same is_open) here in
          (leads.f, leads.has, leads.same ∙ ap (λ (x : Opened). x.instance) (sym same_open.0))
      behind e o h under is_open (inr other) = replaying.behind e o h (omega (arith, under, other)) is_open

      named : (e : ℕ) (target : Instance) (o : Open) (d : Opened) → e < k + 1 → slice_get t.tree.opens e ≡ Some o → slice_get i.opens e ≡ Some d → slice_get instances d.instance ≡ Some target → (e ≡ k) ⊎ (e ≡ k → ⊥) →
          AreGiven instances texts number e i.arguments o.arguments target.arguments
      named e target o d under asks there to (inl same) =
          let d_is : d ≡ opened = same_Some d opened (sym there ∙ (ap (λ (n : ℕ). slice_get i.opens n) same ∙ at)) in
          subst (λ n. AreGiven instances texts number n i.arguments o.arguments target.arguments) (sym same)
          (given o target (ap (λ (n : ℕ). slice_get t.tree.opens n) (sym same) ∙ asks) (ap (λ (x : Opened). slice_get instances x.instance) (sym d_is) ∙ to))
      named e target o d under asks there to (inr other) = replaying.named e target o d (omega (arith, under, other)) asks there to

  pub replaying_all : (finished : List Finished) (number count k : ℕ) (i : Instance) (t : Text) (doors : Doors) → IsInstanceOf instances texts number i t → count ≡ length (openings_of t.tree) → (k < count → ⊥) →
      IsReplaying instances texts finished number i t k doors.reach (get_by_text doors.aliases) → IsReplayed instances texts finished number doors
  replaying_all finished number count k i t doors is counted end replaying = record {
    count = k;
    noted = replaying.noted;
    whole = λ e o h is_open. inside e o h is_open;
    behind = λ e o h is_open. replaying.behind e o h (inside e o h is_open) is_open;
    named = record { each = λ e j target u o d is_j asks there to. each e j target u o d is_j asks there to };
  }
    where
      same_instance : (j : Instance) (u : Text) → IsInstanceOf instances texts number j u → j ≡ i
      same_instance j u is_j = same_Some j i (sym is_j.is_instance ∙ is.is_instance)

      same_text : (j : Instance) (u : Text) → IsInstanceOf instances texts number j u → u ≡ t
      same_text j u is_j = same_Some u t (sym is_j.is_text ∙ (ap (λ (x : Instance). slice_get texts x.text) (same_instance j u is_j) ∙ is.is_text))

      inside : (e : ℕ) (o : Opened) (h : Bool) → IsOpen instances texts number e o h → e < k
      inside e o h is_open =
          let asks : slice_get (openings_of t.tree) e ≡ Some is_open.opening = ap (λ (x : Text). slice_get (openings_of x.tree) e) (sym (same_text is_open.instance is_open.text is_open.is)) ∙ is_open.asks in
          omega (arith, slice_get_within (openings_of t.tree) e is_open.opening asks, counted, end)

      each : (e : ℕ) (j target : Instance) (u : Text) (o : Open) (d : Opened) → IsInstanceOf instances texts number j u → slice_get u.tree.opens e ≡ Some o → slice_get j.opens e ≡ Some d →
          slice_get instances d.instance ≡ Some target → AreGiven instances texts number e j.arguments o.arguments target.arguments
      each e j target u o d is_j asks there to =
          let j_is = same_instance j u is_j in
          let u_is = same_text j u is_j in
          let asked : slice_get t.tree.opens e ≡ Some o = ap (λ (x : Text). slice_get x.tree.opens e) (sym u_is) ∙ asks in
          let under = slice_get_within (openings_of t.tree) e (written o) (written_at t.tree e o asked) in
          subst (λ (x : Instance). AreGiven instances texts number e x.arguments o.arguments target.arguments) (sym j_is)
          (replaying.named e target o d (omega (arith, under, counted, end)) asked (ap (λ (x : Instance). slice_get x.opens e) (sym j_is) ∙ there) to)

  -- the opens of one instance more
  pub replayed_none : AreReplayed instances texts []
  unfolding AreReplayed
  replayed_none = λ f has. absurd (omega (arith, has.1))

  pub replayed_next : (finished more : List Finished) (number : ℕ) (doors : Doors) → AreReplayed instances texts finished → IsReplayed instances texts finished number doors →
      more ≡ finished ++ record { instance = number; doors = doors } ∷ [] → AreReplayed instances texts more
  unfolding AreReplayed
  replayed_next finished more number doors replayed next is = subst (λ fs. (f : Finished) → Contains fs f → IsReplayed instances texts fs f.instance f.doors) (sym is) each
    where
      last : Finished
      last = record { instance = number; doors = doors }

      grown : (n : ℕ) (d : Doors) → IsReplayed instances texts finished n d → IsReplayed instances texts (finished ++ last ∷ []) n d
      grown n d one = record {
        count = one.count;
        noted = one.noted;
        whole = one.whole;
        behind = λ k o h is_open. let (f, has, same) = one.behind k o h is_open in (f, Contains-append_left finished (last ∷ []) f has, same);
        named = one.named;
      }

      alone : (f : Finished) → Contains (last ∷ []) f → last ≡ f
      alone f (zero, l, e) = e
      alone f (suc k, l, e) = absurd (omega (arith, l))

      by_place : (f : Finished) → Contains finished f ⊎ Contains (last ∷ []) f → IsReplayed instances texts (finished ++ last ∷ []) f.instance f.doors
      by_place f (inl before) = grown f.instance f.doors (replayed f before)
      by_place f (inr here) = subst (λ (x : Finished). IsReplayed instances texts (finished ++ last ∷ []) x.instance x.doors) (alone f here) (grown number doors next)

      each : (f : Finished) → Contains (finished ++ last ∷ []) f → IsReplayed instances texts (finished ++ last ∷ []) f.instance f.doors
      each f has = by_place f (Contains-append_cases finished (last ∷ []) f has)

  pub named_all : (finished : List Finished) → AreReplayed instances texts finished → ((n : ℕ) → n < length instances → Has finished n) → AllNamed instances texts
  unfolding AreReplayed
  named_all finished replayed all = λ number inside.
      let (f, has, same) = all number inside in
      subst (λ n. AreNamed instances texts n) same (replayed f has).named

-- one instance more whose opens are followed
pub has_next : (finished : List Finished) (number : ℕ) → ((n : ℕ) → n < number → Has finished n) → Has finished number → (n : ℕ) → n < number + 1 → Has finished n
has_next finished number before here n under = by_place (cases_eq n number)
  where
    by_place : (n ≡ number) ⊎ (n ≡ number → ⊥) → Has finished n
    by_place (inl same) = subst (Has finished) (sym same) here
    by_place (inr other) = before n (omega (arith, under, other))

-- one argument more
pub given_next : (P : SigName → Option SigRef → Type 0) (names : List SigName) (given : List (Option SigRef)) (place next : ℕ) (name : SigName) (argument : Option SigRef) →
    ((n : ℕ) (m : SigName) (b : Option SigRef) → n < place → slice_get names n ≡ Some m → slice_get given n ≡ Some b → P m b) → slice_get names place ≡ Some name → slice_get given place ≡ Some argument →
    P name argument → next ≡ place + 1 → (n : ℕ) (m : SigName) (b : Option SigRef) → n < next → slice_get names n ≡ Some m → slice_get given n ≡ Some b → P m b
given_next P names given place next name argument before is_name is_argument right is n m b under here there = by_place (cases_eq n place)
  where
    by_place : (n ≡ place) ⊎ (n ≡ place → ⊥) → P m b
    by_place (inl same) =
        let m_is : name ≡ m = same_Some name m (sym is_name ∙ (ap (λ (i : ℕ). slice_get names i) (sym same) ∙ here)) in
        let b_is : argument ≡ b = same_Some argument b (sym is_argument ∙ (ap (λ (i : ℕ). slice_get given i) (sym same) ∙ there)) in
        subst (λ (x : SigName). P x b) m_is (subst (λ (y : Option SigRef). P name y) b_is right)
    by_place (inr other) = before n m b (omega (arith, under, is, other)) here there

pub one_named : (instances : List Instance) (texts : List Text) (number k : ℕ) (arguments : List (Option SigRef)) (name : QualName) (argument : Option SigRef) (count : ℕ) (last : Option SigRef) →
    TellsOf (Names instances texts number k name) arguments count last → (count ≡ 1) × (last ≡ argument) → IsOne instances texts number k arguments name argument
one_named instances texts number k arguments name argument count last tells is =
    let (c, names, stands, only) = tells.one is.0 in
    record { one = c; names = names; only = only; stands = subst (Stands arguments c) is.1 stands }

-- how many parameters a header has, as the definition has it
abbrev header_parameters : Option Header → ℕ
header_parameters None = 0
header_parameters (Some h) = length h.parameters

headers_counted : (header : Option Header) → header_parameters header ≡ length (header_names header)
headers_counted None = refl
headers_counted (Some h) = sym (length-map h.parameters (λ (p : Parameter). p.name.name))

-- a module has as many parameters as are counted
pub parameters_counted : (m : Module) → parameter_count m ≡ length (parameters_of m)
parameters_counted m = headers_counted m.header

-- an open that isn't written isn't private
pub private_written : (m : Module) (k : ℕ) (open_here : Open) (o : Opening) → slice_get m.opens k ≡ Some open_here → slice_get (openings_of m) k ≡ Some o → is_hidden o ≡ open_here.is_private
private_written m k open_here o at is = ap is_hidden (same_Some o (written open_here) (sym is ∙ written_at m k open_here at))

pub private_implied : (m : Module) (k : ℕ) (o : Opening) → slice_get m.opens k ≡ None → slice_get (openings_of m) k ≡ Some o → is_hidden o ≡ false
private_implied m k o none is = behind m.opens (enums_of m) k o none is
  where
    alone : (es : List Enumerated) (n : ℕ) (p : Opening) → slice_get (map implied es) n ≡ Some p → is_hidden p ≡ false
    alone [] n p at = absurd (none-some p at)
    alone (e ∷ es) zero p at = ap is_hidden (sym (same_Some (implied e) p at))
    alone (e ∷ es) (suc n) p at = alone es n p at

    behind : (os : List Open) (es : List Enumerated) (n : ℕ) (p : Opening) → slice_get os n ≡ None → slice_get (map written os ++ map implied es) n ≡ Some p → is_hidden p ≡ false
    behind [] es n p out at = alone es n p at
    behind (x ∷ os) es zero p out at = absurd (none-some x (sym out))
    behind (x ∷ os) es (suc n) p out at = behind os es n p out at
