-- What is gathered of the trees that count, as the program lends them.
use Rattle.std.proofs.Common.{◌≡◌, ℕ, ◌+◌, ◌≤◌, nat_lt, Bool, List, [], ◌∷◌, ◌++◌, map, take, length, Option, None, sym, ap, ◌∙◌}
use Rattle.std.proofs.lemmas.List.{append-nil, append_assoc, map-append}
use Rattle.core_tree.specs.declared.model.Origin.{Origin}
use Rattle.core_tree.specs.declared.model.Body.{Body}
use Rattle.core_tree.specs.declared.model.Model.{Model}
use Rattle.core_tree.specs.declared.model.Sig.{Sig}
use Rattle.core_tree.specs.declared.model.Field.{Field}
use Rattle.core_tree.specs.declared.model.Fact.{Fact}
use Rattle.core_tree.specs.declared.model.Command.{Command}
use Rattle.core_tree.specs.Trees.{Term, Claim}
use Rattle.core_tree.specs.Past.{no_depths}
use Rattle.bound_definitions.specs.declared.mention.Mention.{Mention}
use Rattle.bound_definitions.specs.Places.{place_if, each, first_from}
use Rattle.bound_definitions.specs.Trees.{formula, expression, Counted, mentions_by, mentions_of_tree, counted_sig, counted_field, counted_fact, counted_command, counted}
use Rattle.bound_definitions.proofs.Firsts.{first_whole, each_end, each_map}
use Rattle.form_measures.specs.declared.forms.Measure.{Measure}
use Rattle.form_measures.specs.declared.forms.Measure.TheVariants.{Past, Depth}
use Rattle.form_measures.specs.Measured.{measured_in, measured_of, measured_within}
use Rattle.bound_scopes.specs.declared.counted.Root.{Root}
use Rattle.bound_scopes.specs.Roots.{counted_tree, counted_root}
use Rattle.bound_scopes.specs.Deep.{limit_of, is_deep, deep_places}

-- a tree that is over its limit
pub formula_deep : (m : Measure) (list : List Body) (f : Claim) (limit : ℕ) (b : Bool) → limit ≡ limit_of m → b ≡ nat_lt limit (measured_of m (measured_within m list (length list)) f no_depths) → b ≡ is_deep m list (formula f)
formula_deep Past list f limit b e is = is ∙ ap (λ (n : ℕ). nat_lt n (measured_of Past (measured_within Past list (length list)) f no_depths)) e
formula_deep Depth list f limit b e is = is ∙ ap (λ (n : ℕ). nat_lt n (measured_of Depth (measured_within Depth list (length list)) f no_depths)) e

pub term_deep : (m : Measure) (list : List Body) (t : Term) (limit : ℕ) (b : Bool) → limit ≡ limit_of m → b ≡ nat_lt limit (measured_in m (measured_within m list (length list)) t no_depths) → b ≡ is_deep m list (expression t)
term_deep Past list t limit b e is = is ∙ ap (λ (n : ℕ). nat_lt n (measured_in Past (measured_within Past list (length list)) t no_depths)) e
term_deep Depth list t limit b e is = is ∙ ap (λ (n : ℕ). nat_lt n (measured_in Depth (measured_within Depth list (length list)) t no_depths)) e

-- the beginning of a tree that is over its limit
abbrev pub deep_root : Measure → List Body → Root → List Origin
deep_root m list root = place_if (is_deep m list (counted_tree root.tree)) root.at

pub deep_end : (m : Measure) (list : List Body) (roots : List Root) (i : ℕ) (found : Option Origin) → length roots ≤ i → found ≡ first_from None (each (deep_root m list) (take i roots)) → found ≡ first_from None (deep_places m list (map counted_root roots))
deep_end m list roots i found far is =
    is ∙ first_whole (deep_root m list) None roots i far ∙ ap (first_from None) (sym (each_map (λ (c : Counted). place_if (is_deep m list c.tree) c.at) counted_root roots))

-- what a tree that counts mentions
abbrev pub mentions_of_root : Root → List Mention
mentions_of_root root = mentions_by root.at.instance (counted_tree root.tree)

pub mentioned_end : (roots : List Root) (i : ℕ) (all : List Mention) → length roots ≤ i → all ≡ [] ++ each mentions_of_root (take i roots) → all ≡ each mentions_of_tree (map counted_root roots)
mentioned_end roots i all far is = each_end mentions_of_root roots i [] all far is ∙ sym (each_map mentions_of_tree counted_root roots)

-- a tree more
pub added_root : (old new : List Root) (root : Root) (more : List Counted) → new ≡ old ++ root ∷ [] → counted_root root ∷ [] ≡ more → map counted_root new ≡ map counted_root old ++ more
added_root old new root more pushed is = ap (map counted_root) pushed ∙ map-append counted_root old (root ∷ []) ∙ ap (λ l. map counted_root old ++ l) is

pub no_root : (old : List Root) (more : List Counted) → more ≡ [] → map counted_root old ≡ map counted_root old ++ more
no_root old more none = sym (ap (λ l. map counted_root old ++ l) none ∙ append-nil (map counted_root old))

-- all trees that count for a command
pub four_parts : (start a b c d p q r s : List Counted) → start ≡ [] → a ≡ start ++ p → b ≡ a ++ q → c ≡ b ++ r → d ≡ c ++ s → d ≡ p ++ (q ++ (r ++ s))
four_parts start a b c d p q r s none first second third fourth =
    fourth ∙ ap (λ l. l ++ s) (third ∙ ap (λ l. l ++ r) (second ∙ ap (λ l. l ++ q) (first ∙ ap (λ l. l ++ p) none)))
    ∙ append_assoc (p ++ q) r s ∙ append_assoc p q (r ++ s)

pub counted_all : (model : Model) (command : Command) (sigs : List Sig) (fields : List Field) (facts : List Fact) → sigs ≡ model.sigs → fields ≡ model.fields → facts ≡ model.facts → (each counted_sig sigs ++ (each (counted_field sigs) fields ++ (each counted_fact facts ++ counted_command command))) ≡ counted model command
counted_all model command sigs fields facts same_sigs same_fields same_facts =
    ap (λ (l : List Sig). each counted_sig l ++ (each (counted_field l) fields ++ (each counted_fact facts ++ counted_command command))) same_sigs
    ∙ ap (λ (l : List Field). each counted_sig model.sigs ++ (each (counted_field model.sigs) l ++ (each counted_fact facts ++ counted_command command))) same_fields
    ∙ ap (λ (l : List Fact). each counted_sig model.sigs ++ (each (counted_field model.sigs) model.fields ++ (each counted_fact l ++ counted_command command))) same_facts
