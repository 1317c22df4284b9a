-- What opens ask for.
use Rattle.std.proofs.Common.{◌≡◌, ℕ, zero, suc, ◌+◌, ◌<◌, List, [], ◌∷◌, ◌++◌, map, length, take, Option, Some, None, option_map, sym, ap, subst, ◌∙◌, arith, slice_get, append_assoc, get_or}
use Rattle.std.proofs.lemmas.List.{length-map, length-append}
use Rattle.std.proofs.lemmas.Option.{slice_get-map, slice_get-get_or, none-some}
use Rattle.std.proofs.Math.Seq.{take-suc}
use Rattle.syntax_tree.specs.Instances.{sigs_in}
use Rattle.syntax_tree.specs.declared.instance.SigRef.{SigRef}
use Rattle.syntax_tree.specs.declared.instance.Text.{Text}
use Rattle.syntax_tree.specs.declared.module.Module.{Module}
use Rattle.syntax_tree.specs.declared.module.Open.{Open}
use Rattle.syntax_tree.specs.declared.module.Paragraph.{Paragraph}
use Rattle.syntax_tree.specs.declared.module.SigName.{SigName}
use Rattle.load_state.specs.Keys.{texts_of, text_of_key, text_at}
use Rattle.load_state.specs.Opens.{enum_in, enums_from, enums_of, written, implied, openings_of, Fits, AreFits, AsksFor, IsAsked, IsPlaceOf, IsOpenCount, of_opening}
use Rattle.load_state.specs.declared.loading.Key.{Key}
use Rattle.load_state.specs.declared.request.Request.{Request}
use Rattle.load_state.specs.declared.source.Source.{Source}
use Rattle.load_state.specs.declared.table.Enumerated.{Enumerated}

pub fits_push : (names : List SigName) (arguments : List (Option SigRef)) (name : SigName) (argument : Option SigRef) → AreFits names arguments → Fits name argument →
    AreFits (names ++ name ∷ []) (arguments ++ argument ∷ [])
fits_push [] [] name argument are is = (is, tt)
fits_push (n ∷ names) (a ∷ arguments) name argument are is = (are.0, fits_push names arguments name argument are.1 is)
fits_push [] (a ∷ arguments) name argument are is = absurd are
fits_push (n ∷ names) [] name argument are is = absurd are

-- one argument more
pub fits_step : (names : List SigName) (place next : ℕ) (arguments more : List (Option SigRef)) (found : Option SigRef) → place < length names → next ≡ place + 1 → AreFits (take place names) arguments →
    ((name : SigName) → slice_get names place ≡ Some name → Fits name found) → more ≡ arguments ++ found ∷ [] → AreFits (take next names) more
fits_step [] place next arguments more found inside is are fits grown = absurd (omega (arith, inside))
fits_step (n ∷ names) place next arguments more found inside is are fits grown =
    let d : SigName = n in
    let name : SigName = get_or (n ∷ names) place d in
    let after : next ≡ suc place = omega (arith, is) in
    let here : take next (n ∷ names) ≡ take place (n ∷ names) ++ name ∷ [] = ap (λ (i : ℕ). take i (n ∷ names)) after ∙ take-suc (n ∷ names) place d inside in
    subst (λ (ns : List SigName). AreFits ns more) (sym here)
    (subst (AreFits (take place (n ∷ names) ++ name ∷ [])) (sym grown)
    (fits_push (take place (n ∷ names)) arguments name found are (fits name (slice_get-get_or (n ∷ names) place d inside))))

slice_get-front : {A : Type 0} (xs ys : List A) (n : ℕ) (x : A) → slice_get xs n ≡ Some x → slice_get (xs ++ ys) n ≡ Some x
slice_get-front [] ys n x is = absurd (none-some x is)
slice_get-front (a ∷ xs) ys zero x is = is
slice_get-front (a ∷ xs) ys (suc n) x is = slice_get-front xs ys n x is

slice_get-back : {A : Type 0} (xs ys : List A) (n k : ℕ) → n ≡ length xs + k → slice_get (xs ++ ys) n ≡ slice_get ys k
slice_get-back [] ys n k is =
    let same : n ≡ k = omega (arith, is) in
    ap (λ (i : ℕ). slice_get ys i) same
slice_get-back (a ∷ xs) ys zero k is = absurd (omega (arith, is))
slice_get-back (a ∷ xs) ys (suc n) k is = slice_get-back xs ys n k (omega (arith, is))

pub written_at : (m : Module) (n : ℕ) (o : Open) → slice_get m.opens n ≡ Some o → slice_get (openings_of m) n ≡ Some (written o)
written_at m n o is =
    slice_get-front (map written m.opens) (map implied (enums_of m)) n (written o) (slice_get-map written m.opens n ∙ ap (λ (x : Option Open). option_map written x) is)

pub implied_at : (m : Module) (n k : ℕ) (e : Enumerated) → n ≡ length m.opens + k → slice_get (enums_of m) k ≡ Some e → slice_get (openings_of m) n ≡ Some (implied e)
implied_at m n k e at is =
    slice_get-back (map written m.opens) (map implied (enums_of m)) n k (omega (arith, at, length-map m.opens written))
    ∙ (slice_get-map implied (enums_of m) k ∙ ap (λ (x : Option Enumerated). option_map implied x) is)

-- what is asked for by a written open, and by an enum
pub asked_written : (t : Text) (found : Option Text) (instance n : ℕ) (o : Open) (r : Request) → found ≡ Some t → slice_get t.tree.opens n ≡ Some o → AsksFor instance (written o) r → IsAsked found instance n r
asked_written t found instance n o r is at asks =
    subst (λ (x : Option Text). IsAsked x instance n r) (sym is) (written o, written_at t.tree n o at, asks)

pub asked_implied : (t : Text) (found : Option Text) (instance n k : ℕ) (e : Enumerated) (r : Request) (answer : Option Enumerated) (enums : List Enumerated) → found ≡ Some t → answer ≡ slice_get enums k → answer ≡ Some e →
    enums ≡ enums_of t.tree → n ≡ length t.tree.opens + k → AsksFor instance (implied e) r → IsAsked found instance n r
asked_implied t found instance n k e r answer enums is answered some same at asks =
    let here : slice_get (enums_of t.tree) k ≡ Some e = ap (λ (es : List Enumerated). slice_get es k) (sym same) ∙ (sym answered ∙ some) in
    subst (λ (x : Option Text). IsAsked x instance n r) (sym is) (implied e, implied_at t.tree n k e at here, asks)

-- the place of what is asked for is one of the text
pub place_of_asked : (found : Option Text) (instance n : ℕ) (r : Request) → IsAsked found instance n r → IsPlaceOf found r.place
place_of_asked None instance n r asked = absurd asked
place_of_asked (Some t) instance n r asked = of_opening n asked.0 asked.1 asked.2.place

-- the text of an instance, by the texts that were read
pub text_here : (keys : List Key) (sources : List Source) (n : ℕ) (k : Key) (s : Source) → slice_get keys n ≡ Some k → slice_get sources k.text ≡ Some s → text_at keys (texts_of sources) n ≡ Some s.text
text_here keys sources n k s is here =
    ap (text_of_key (texts_of sources)) is ∙ (slice_get-map (λ (x : Source). x.text) sources k.text ∙ ap (λ (x : Option Source). option_map (λ (y : Source). y.text) x) here)

-- the enums of one paragraph more
pub enums_next : (p : Paragraph) (ps : List Paragraph) (n next : ℕ) (all old new : List Enumerated) → all ≡ old ++ enums_from n (p ∷ ps) → new ≡ old ++ enum_in n p → next ≡ n + sigs_in p → all ≡ new ++ enums_from next ps
enums_next p ps n next all old new is grown counted =
    is ∙ (sym (append_assoc old (enum_in n p) (enums_from (n + sigs_in p) ps))
    ∙ (ap (λ (x : List Enumerated). x ++ enums_from (n + sigs_in p) ps) (sym grown) ∙ ap (λ (i : ℕ). new ++ enums_from i ps) (sym counted)))

-- how many opens a text has
pub opens_counted : (found : Option Text) (t : Text) (enums : List Enumerated) (count : ℕ) → found ≡ Some t → count ≡ length t.tree.opens + length enums → enums ≡ enums_of t.tree → IsOpenCount found count
opens_counted found t enums count is counted same =
    let P : Option Text → Type 0 = λ x. IsOpenCount x count in
    let all : count ≡ length (openings_of t.tree) =
    omega (arith, counted, ap length same, length-append (map written t.tree.opens) (map implied (enums_of t.tree)), length-map t.tree.opens written, length-map (enums_of t.tree) implied) in
    subst P (sym is) all

pub openings_counted : (m : Module) (enums : List Enumerated) (count : ℕ) → count ≡ length m.opens + length enums → enums ≡ enums_of m → count ≡ length (openings_of m)
openings_counted m enums count counted same =
    omega (arith, counted, ap length same, length-append (map written m.opens) (map implied (enums_of m)), length-map m.opens written, length-map (enums_of m) implied)
