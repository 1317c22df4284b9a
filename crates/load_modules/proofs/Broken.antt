-- What a text breaks by itself.
use Rattle.std.proofs.Common.{◌≡◌, ℕ, ◌+◌, ◌<◌, ◌≤◌, List, take, length, true, Ok, Err, IsTrue, refl, sym, ap, subst, ◌∙◌}
use Rattle.base_types.specs.declared.limits.TheConstants.{MODULE_BYTES}
use Rattle.base_types.specs.declared.place.Position.{Position}
use Rattle.base_types.specs.declared.place.Refusal.{Refusal}
use Rattle.base_types.specs.declared.place.Rule.{Rule}
use Rattle.base_types.specs.declared.place.Rule.TheVariants as rule
use Rattle.syntax_lexer.specs.Tokens.{tokens_of}
use Rattle.syntax_tree.specs.declared.token.Token.{Token}
use Rattle.syntax_tree.specs.Spelling.{kinds}
use Rattle.syntax_machine.specs.declared.thread.Root.TheVariants as root
use Rattle.syntax_parser.specs.Refuses.{is_of_grammar, AccordsWith, BreaksTokens}
use Rattle.load_state.specs.Causes.{IsRefusal, IsQuietFault}
use Rattle.load_state.specs.Refusals.{is_of_loading, start_of, refusal_at}
use Rattle.load_state.specs.declared.fault.LoadFault.{LoadFault}
use Rattle.load_state.specs.declared.fault.LoadFault.TheVariants.{Refused, Read, Memory}
use Rattle.load_state.proofs.Faults.{refusal_is_quiet}
use Rattle.load_modules.specs.Refused.{large, uncut, at_token, IsOfText, IsUncut, IsAtToken}
use Rattle.load_modules.proofs.Bytes.{uncut_loads}

-- the refusal of the lexer is by a rule of loading
pub uncut_quiet : (bytes text : List ℕ) (number : ℕ) (r : Refusal) (fault : LoadFault) → IsRefusal r.rule r.place text fault → tokens_of number bytes ≡ Err r → IsQuietFault fault
uncut_quiet bytes text number r fault is broken = refusal_is_quiet r.rule r.place text fault is (uncut_loads number bytes r broken)

pub uncut_refused : (bytes text : List ℕ) (number : ℕ) (r : Refusal) (fault : LoadFault) → IsRefusal r.rule r.place text fault → tokens_of number bytes ≡ Err r → IsUncut bytes number text fault
unfolding IsRefusal IsUncut
uncut_refused bytes text number r (Refused refusal name) is broken = (is.1, broken ∙ ap (λ (x : Refusal). Err x) (sym is.0))
uncut_refused bytes text number r (Read name) is broken = absurd is
uncut_refused bytes text number r Memory is broken = tt

-- a refusal with the same rule and place
same_breaks : (tokens : List Token) (a b : Refusal) → a.rule ≡ b.rule → a.place ≡ b.place → BreaksTokens tokens b → BreaksTokens tokens a
same_breaks tokens a b rule place breaks = record {
  number = breaks.number;
  token = breaks.token;
  there = breaks.there;
  same = place ∙ breaks.same;
  begins = breaks.begins;
  ends = breaks.ends;
  grammar = subst (λ (r : Rule). IsTrue (is_of_grammar r)) (sym rule) breaks.grammar;
  accords = subst (λ (r : Rule). AccordsWith r root.Module (take (breaks.number + 1) (kinds tokens))) (sym rule) breaks.accords;
}

-- the refusal of the parser
pub token_refused : (tokens : List Token) (text : List ℕ) (refusal : Refusal) (fault : LoadFault) → IsRefusal refusal.rule refusal.place text fault → BreaksTokens tokens refusal → IsAtToken tokens text fault
unfolding IsRefusal IsAtToken
token_refused tokens text refusal (Refused r name) is breaks = (is.1, same_breaks tokens r refusal (ap (λ (x : Refusal). x.rule) is.0) (ap (λ (x : Refusal). x.place) is.0) breaks)
token_refused tokens text refusal (Read name) is breaks = absurd is
token_refused tokens text refusal Memory is breaks = tt

-- the rules of the grammar are rules of loading
grammar_loads : (r : Rule) → is_of_grammar r ≡ true → is_of_loading r ≡ true
grammar_loads rule.BadByte e = absurd cc
grammar_loads rule.OpenComment e = absurd cc
grammar_loads rule.LongNumber e = absurd cc
grammar_loads rule.LargeFile e = absurd cc
grammar_loads rule.Syntax e = refl
grammar_loads rule.TooDeep e = refl
grammar_loads rule.NoModule e = absurd cc
grammar_loads rule.ModuleCycle e = absurd cc
grammar_loads rule.ModuleArguments e = absurd cc
grammar_loads rule.AliasTwice e = absurd cc
grammar_loads rule.TooManyModules e = absurd cc
grammar_loads rule.NameTwice e = absurd cc
grammar_loads rule.NoParent e = absurd cc
grammar_loads rule.ParentCycle e = absurd cc
grammar_loads rule.ExtendsSubset e = absurd cc
grammar_loads rule.FieldTwice e = absurd cc
grammar_loads rule.UnknownName e = absurd cc
grammar_loads rule.Ambiguous e = absurd cc
grammar_loads rule.NoReading e = absurd cc
grammar_loads rule.TooManyReadings e = absurd cc
grammar_loads rule.RecursiveCall e = absurd cc
grammar_loads rule.HigherOrder e = absurd cc
grammar_loads rule.Literal e = absurd cc
grammar_loads rule.ArityLimit e = absurd cc
grammar_loads rule.PastDepth e = absurd cc
grammar_loads rule.DeepCalls e = absurd cc
grammar_loads rule.NoCommand e = absurd cc
grammar_loads rule.BadScope e = absurd cc
grammar_loads rule.ExactVar e = absurd cc
grammar_loads rule.ScopeConflict e = absurd cc
grammar_loads rule.Bitwidth e = absurd cc
grammar_loads rule.Steps e = absurd cc
grammar_loads rule.Atoms e = absurd cc
grammar_loads rule.Cells e = absurd cc

pub token_quiet : (tokens : List Token) (text : List ℕ) (refusal : Refusal) (fault : LoadFault) → IsRefusal refusal.rule refusal.place text fault → BreaksTokens tokens refusal → IsQuietFault fault
token_quiet tokens text refusal fault is breaks = refusal_is_quiet refusal.rule refusal.place text fault is (grammar_loads refusal.rule breaks.grammar)

pub large_refused : (bytes text : List ℕ) (number : ℕ) (place : Position) (fault : LoadFault) → IsRefusal rule.LargeFile place text fault → place ≡ start_of number → MODULE_BYTES < length bytes →
    IsOfText bytes number text fault
unfolding IsRefusal IsOfText
large_refused bytes text number place (Refused refusal name) is at many = (is.1, large many (is.0 ∙ ap (λ (p : Position). refusal_at rule.LargeFile p) at))
large_refused bytes text number place (Read name) is at many = absurd is
large_refused bytes text number place Memory is at many = tt

pub text_uncut : (bytes text : List ℕ) (number : ℕ) (fault : LoadFault) → IsUncut bytes number text fault → length bytes ≤ MODULE_BYTES → IsOfText bytes number text fault
unfolding IsUncut IsOfText
text_uncut bytes text number (Refused refusal name) is small = (is.0, uncut small is.1)
text_uncut bytes text number (Read name) is small = absurd is
text_uncut bytes text number Memory is small = tt

pub text_token : (bytes text : List ℕ) (number : ℕ) (tokens given : List Token) (fault : LoadFault) → IsAtToken given text fault → given ≡ tokens → tokens_of number bytes ≡ Ok tokens → length bytes ≤ MODULE_BYTES →
    IsOfText bytes number text fault
unfolding IsAtToken IsOfText
text_token bytes text number tokens given (Refused refusal name) is same cut small =
    (is.0, at_token given small (cut ∙ ap (λ (ts : List Token). Ok ts) (sym same)) is.1)
text_token bytes text number tokens given (Read name) is same cut small = absurd is
text_token bytes text number tokens given Memory is same cut small = tt

pub text_memory : (bytes text : List ℕ) (number : ℕ) (fault : LoadFault) → fault ≡ Memory → IsOfText bytes number text fault
unfolding IsOfText
text_memory bytes text number fault same = let P : LoadFault → Type 0 = λ f. IsOfText bytes number text f in subst P (sym same) tt

pub uncut_memory : (bytes text : List ℕ) (number : ℕ) (fault : LoadFault) → fault ≡ Memory → IsUncut bytes number text fault
unfolding IsUncut
uncut_memory bytes text number fault same = let P : LoadFault → Type 0 = λ f. IsUncut bytes number text f in subst P (sym same) tt

pub token_memory : (tokens : List Token) (text : List ℕ) (fault : LoadFault) → fault ≡ Memory → IsAtToken tokens text fault
unfolding IsAtToken
token_memory tokens text fault same = let P : LoadFault → Type 0 = λ f. IsAtToken tokens text f in subst P (sym same) tt
