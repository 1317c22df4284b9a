-- The texts of atoms.
use Rattle.std.proofs.Common.{◌≡◌, ℕ, ◌<◌, Bool, true, false, List, [], ◌∷◌, ◌++◌, length, Some, sym, ap, ◌∙◌, subst, eqb-true}
use Rattle.std.specs.List.{list_any}
use Rattle.answer_trace.specs.Text.{atom_text}
use Rattle.answer_trace.specs.Reading.{number_of}
use Rattle.answer_laws.specs.Form.{is_quote, is_stop, IsAtomText, quoted, plain}
use Rattle.answer_checks.specs.Parts.{IsClosed, AreApart}

pub closed_by : (rest body : List ℕ) (last : ℕ) (b : Bool) → rest ≡ body ++ last ∷ [] → list_any is_quote body ≡ false → b ≡ is_quote last → b ≡ true → IsClosed rest
closed_by rest body last b is none quote t =
    let same : last ≡ 34 = eqb-true last 34 (sym quote ∙ t) in
    record { body = body; is = is ∙ ap (λ (n : ℕ). body ++ n ∷ []) same; closed = none }

pub literal_by : (text rest : List ℕ) (first : ℕ) (b : Bool) → text ≡ first ∷ rest → b ≡ is_quote first → b ≡ true → IsClosed rest → IsAtomText text
literal_by text rest first b is quote t closed =
    let same : first ≡ 34 = eqb-true first 34 (sym quote ∙ t) in
    subst IsAtomText (sym (is ∙ ap (λ (n : ℕ). n ∷ rest) same ∙ ap (λ (r : List ℕ). 34 ∷ r) closed.is)) (quoted closed.body closed.closed)

pub plain_by : (text rest : List ℕ) (first : ℕ) (b : Bool) → text ≡ first ∷ rest → b ≡ is_quote first → b ≡ false → list_any is_stop rest ≡ false → IsAtomText text
plain_by text rest first b is quote f none = subst IsAtomText (sym is) (plain first rest (sym quote ∙ f) none)

-- atoms of which each has its place for its number differ
pub apart_by : (index atoms : List (List ℕ)) → ((k : ℕ) → k < length atoms → number_of index (atom_text atoms k) ≡ Some k) → AreApart atoms
apart_by index atoms found i j low up same =
    let one : number_of index (atom_text atoms i) ≡ Some i = found i low in
    let two : number_of index (atom_text atoms j) ≡ Some j = found j up in
    let both : Some i ≡ Some j = sym one ∙ ap (number_of index) same ∙ two in
    cc
