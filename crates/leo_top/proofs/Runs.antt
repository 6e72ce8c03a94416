-- How a run comes to its end, and what its book says then.
use Rattle.std.proofs.Common.{◌≡◌, ℕ, ◌<◌, ◌≤◌, ◌⊎◌, inl, inr, List, [], ◌∷◌, length, map, Option, Some, None, Result, Ok, Err, IfOk, refl, sym, ap, subst, ◌∙◌, arith}
use Rattle.std.specs.Option.{option_map}
use Rattle.std.proofs.lemmas.Option.{slice_get-map}
use Rattle.leo_q0.specs.Terms.{SimpleType}
use Rattle.leo_terms.specs.Contents.{Contents, IsBank, tree_at}
use Rattle.leo_terms.specs.Tree.{Tree, symbol}
use Rattle.leo_terms.proofs.CallerLemmas.{extends-itself, extends-trans, new_bank}
use Rattle.leo_clause.specs.declared.clause.Lit.{Lit}
use Rattle.leo_clause.specs.declared.record.Rule.{Rule}
use Rattle.leo_clause.specs.declared.record.Rule.TheVariants as rule
use Rattle.leo_clause.specs.declared.record.StepRecord.{StepRecord}
use Rattle.leo_clause.specs.Trees.{ClauseTree, Literal, clause_at, literal_at}
use Rattle.leo_clause.specs.Typed.{AreLiteralsOf}
use Rattle.leo_kernel.specs.Acceptance.{Accepts, AreAccepted}
use Rattle.leo_kernel.specs.Conclusions.{HasShape}
use Rattle.leo_kernel.specs.Records.{IsStepOf, AreStepsOf}
use Rattle.leo_kernel.specs.Shapes.{equal}
use Rattle.leo_kernel.specs.Steps.{Line, line_at, rule_at}
use Rattle.leo_kernel.specs.Symbols.{LacksSymbol}
use Rattle.leo_elab.specs.Problem.{Declared}
use Rattle.leo_elab.specs.Table.{declared_in}
use Rattle.leo_clausify.proofs.Picks.{lacks-new}
use Rattle.leo_elab.proofs.Places.{declared-kept}
use Rattle.leo_problem.specs.declared.loaded.Problem.{Problem}
use Rattle.leo_problem.specs.Loading.{IsProblem, theory_of, hypothesis_in}
use Rattle.leo_problem.specs.Theories.{Theory, Hypothesis, says}
use Rattle.leo_problem.proofs.Assumed.{hypotheses-kept}
use Rattle.leo_core.specs.declared.event.Cause.{Cause}
use Rattle.leo_core.specs.declared.event.Owed.TheVariants as owed
use Rattle.leo_core.specs.declared.settings.Settings.{Settings}
use Rattle.leo_core.specs.Books.{Pages, HasGrown, IsBook, IsNew}
use Rattle.leo_core.specs.Machine.{Standing, IsOwed, due, MayEnd, as_due}
use Rattle.leo_tstp.specs.Records.{AreSymbolsOf, IsSymbolOfRule}
use Rattle.leo_top.specs.declared.searching.Answer.{Answer}
use Rattle.leo_top.specs.Answers.{AnswersProblem, IsMadeOf, IsRunEnded}

-- ---- what is due

-- an end that is owed may come
pub owed_may : {limit : ℕ} {s : Standing} {cause : Cause} → IsOwed limit s (Some (owed.End cause)) → MayEnd limit s.state cause
owed_may {cause = cause} (due what e d) = as_due cause d

-- what is no cause is none
pub none_left : (o : Option Cause) → ((cause : Cause) → o ≡ Some cause → ⊥) → o ≡ None
none_left None f = refl
none_left (Some cause) f = absurd (f cause refl)

-- ---- problems that grew

pub grown_twice : {p q r : Problem} → HasGrown p q → HasGrown q r → HasGrown p r
grown_twice {p} {q} {r} a b = record {
  bank = extends-trans a.bank b.bank;
  rest = b.rest ∙ ap (λ (x : Problem). record { bank = r.bank; names = x.names; hyps = x.hyps; conjecture = x.conjecture; statements = x.statements }) a.rest;
}

-- a problem that is left alone has grown by nothing
pub grown_itself : {p : Problem} → IsBank p.bank → HasGrown p p
grown_itself b = record { bank = extends-itself b; rest = refl }

pub grown_same : {p q : Problem} → IsBank p.bank → q ≡ p → HasGrown p q
grown_same {p} b e = subst (HasGrown p) (sym e) (grown_itself b)

abbrev theory_by : Declared → List Hypothesis → Problem → Theory
theory_by d hs p = record { declared = d; hypotheses = hs; conjecture = p.conjecture; statements = p.statements }

-- a problem says the same in a bank that grew
pub theory_kept : {p q : Problem} → IsProblem p → HasGrown p q → theory_of q ≡ theory_of p
theory_kept {p} {q} h grown =
    let d : declared_in q.bank p.names ≡ declared_in p.bank p.names = (declared-kept grown.bank p.names h.names).0 in
    let k : map (hypothesis_in q.bank) p.hyps ≡ map (hypothesis_in p.bank) p.hyps = hypotheses-kept p.hyps grown.bank h.closed in
    ap theory_of grown.rest ∙ ap (λ (x : Declared). theory_by x (map (hypothesis_in q.bank) p.hyps) p) d ∙ ap (λ (hs : List Hypothesis). theory_by (declared_in p.bank p.names) hs p) k

-- ---- the symbols that a derivation abbreviates

-- a term that is a symbol is one of the bank
symbol_below : (c : Contents) → IsBank c → (s t : ℕ) (a : SimpleType) → t < length c.terms → tree_at c t ≡ symbol s a → s < length c.symbols
symbol_below c b s t a l e = elim (order s (length c.symbols)) [
  | inl k ↦ k
  | inr k ↦ absurd (subst (LacksSymbol s) e (lacks-new c b s t k l) refl)
]
  where
    order : (m n : ℕ) → (m < n) ⊎ (n ≤ m)
    order m n = grind arith

literal_below : (c : Contents) → IsBank c → (s : ℕ) (ls : List Lit) (a : SimpleType) (t : Tree) → AreLiteralsOf c ls → map (literal_at c) ls ≡ equal (symbol s a) t ∷ [] → s < length c.symbols
literal_below c b s [] a t h e = absurd (cc)
literal_below c b s (l ∷ ls) a t h e =
    let k : literal_at c l ≡ equal (symbol s a) t = cc in
    symbol_below c b s l.left a h.0 (ap (λ (x : Literal). x.left) k)

-- what an accepted line abbreviates is a symbol of the bank
symbol_of : {hypotheses : List Tree} {c : Contents} {lines : List Line} (b : IsBank c) (s : StepRecord) → IsStepOf c s → Accepts hypotheses lines (line_at c s) → (r : Rule) → s.rule ≡ r → IsSymbolOfRule c r
symbol_of {hypotheses} {c} {lines} b s h a (rule.Abbreviate n) e =
    let P : Rule → Type 0 = λ r. HasShape hypotheses lines (clause_at c s.clause) (rule_at c r) in
    let shape = subst P e a.shape in
    literal_below c b n s.clause.lits shape.0 shape.1.0 h.clause_of.literals_of (ap (λ (k : ClauseTree). k.literals) shape.1.1)
symbol_of b s h a (rule.Axiom n) e = tt
symbol_of b s h a (rule.Convert p) e = tt
symbol_of b s h a (rule.Inst p sigma) e = tt
symbol_of b s h a (rule.Para p i side q j place_side path) e = tt
symbol_of b s h a (rule.Arrange p) e = tt
symbol_of b s h a (rule.Drop p i) e = tt
symbol_of b s h a (rule.Logic p i kind n) e = tt
symbol_of b s h a (rule.BoolExt p i half) e = tt
symbol_of b s h a (rule.FuncExt p i n) e = tt
symbol_of b s h a (rule.Decompose p i) e = tt
symbol_of b s h a rule.Refl e = tt
symbol_of b s h a rule.Choice e = tt
symbol_of b s h a (rule.Factor p i j) e = tt

pub symbols_of : {hypotheses : List Tree} {c : Contents} (steps : List StepRecord) → IsBank c → AreStepsOf c steps → AreAccepted hypotheses (map (line_at c) steps) → AreSymbolsOf c steps
symbols_of {hypotheses} {c} steps b are accepted n s e =
    symbol_of b s (are n s e) (accepted n (line_at c s) (slice_get-map (line_at c) steps n ∙ ap (option_map (line_at c)) e)) s.rule refl

pub symbols_shown : {p q : Problem} {steps shown : List StepRecord} → q ≡ p → shown ≡ steps → AreSymbolsOf p.bank steps → AreSymbolsOf q.bank shown
symbols_shown {p} {q} {steps} {shown} same all h =
    let P : Problem → Type 0 = λ r. AreSymbolsOf r.bank shown in
    let Q : List StepRecord → Type 0 = λ x. AreSymbolsOf p.bank x in
    subst P (sym same) (subst Q (sym all) h)

-- ---- runs from a problem

-- a run of a problem that has ended
pub run_ended : (p q : Pages) {cause : Cause} → IsProblem p.problem → HasGrown p.problem q.problem → q.settings ≡ p.settings → q.ending ≡ Some cause → IsBook q →
    IsRunEnded (theory_of p.problem) p.settings q cause
run_ended p q h grown same cause_is book = record { book = book; theory_is = theory_kept h grown; settings_are = same; ended = cause_is }

pub turns_same : (p q : Pages) {limit : ℕ} → p.settings.turns ≡ limit → q.settings ≡ p.settings → q.settings.turns ≡ limit
turns_same p q e same = ap (λ (s : Settings). s.turns) same ∙ e

pub new_bank_of : {problem : Problem} {settings : Settings} {p : Pages} → IsNew problem settings p → IsBank p.problem.bank
new_bank_of new = new_bank new.problem_grew.bank

pub bank_of : {p q : Problem} → HasGrown p q → IsBank q.bank
bank_of grown = new_bank grown.bank

pub new_limit : {problem : Problem} {settings : Settings} {p : Pages} → IsNew problem settings p → p.settings.turns ≡ settings.turns
new_limit new = ap (λ (s : Settings). s.turns) new.settings_are

-- an answer to a new book's problem is one to the problem of which the book was made
pub new_answered : {E : Type 0} {problem : Problem} {settings : Settings} {p : Pages} (file : List ℕ) (r : Result Answer E) → IsProblem problem → IsNew problem settings p →
    IfOk r (λ a. IsMadeOf (AnswersProblem file p.settings (says (theory_of p.problem)) a.status) a.text.items) → IfOk r (λ a. IsMadeOf (AnswersProblem file settings (says (theory_of problem)) a.status) a.text.items)
new_answered file (Err e) h new m = tt
new_answered {E} {problem} {settings} {p} file (Ok a) h new m =
    let P : Settings → Type 0 = λ s. AnswersProblem file s (says (theory_of p.problem)) a.status m.lines in
    let Q : Theory → Type 0 = λ t. AnswersProblem file settings (says t) a.status m.lines in
    record { lines = m.lines; holds = subst Q (theory_kept h new.problem_grew) (subst P new.settings_are m.holds); text_is = m.text_is }
