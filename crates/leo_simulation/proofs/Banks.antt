-- The lines of a bank: their terms are well typed, and each symbol has the bank's type for it.
use Rattle.std.proofs.Common.{◌≡◌, ℕ, zero, suc, ◌<◌, ◌≤◌, List, [], ◌∷◌, length, map, slice_get, Option, Some, None, refl, sym, ap, ◌∙◌, subst, arith}
use Rattle.std.specs.Option.{option_map}
use Rattle.leo_q0.specs.Terms.{SimpleType}
use Rattle.leo_terms.specs.Tree.{Tree}
use Rattle.leo_terms.specs.declared.node.View.{View}
use Rattle.leo_terms.specs.declared.node.View.TheVariants.{Var, Bound, Sym, App, Lam, Logic}
use Rattle.leo_terms.specs.Contents.{Contents, Symbol, IsSound, IsBank, IsSymbolOf, AreTerms, IsArgumentBelow, argument, tree_at, type_at, type_number, symbol_type}
use Rattle.leo_terms.proofs.Growth.{slice_get-some, tree-node, type_number-node}
use Rattle.leo_terms.proofs.Making.{symbol_type-node}
use Rattle.leo_terms.proofs.Rebuild.{HasView, tree-app, tree-lam, tree-logic, parts-app, parts-lam, parts-logic, view_sound}
use Rattle.leo_terms.proofs.TypingLemmas.{tree_at-present, tree_at-typed}
use Rattle.leo_terms.proofs.CallerLemmas.{sound}
use Rattle.leo_clause.specs.declared.clause.Lit.{Lit}
use Rattle.leo_clause.specs.declared.record.Rule.{Rule}
use Rattle.leo_clause.specs.declared.record.Rule.TheVariants as record_of
use Rattle.leo_clause.specs.declared.record.StepRecord.{StepRecord}
use Rattle.leo_clause.specs.Trees.{Literal, literal_at}
use Rattle.leo_clause.specs.Typed.{AreLiteralsOf}
use Rattle.leo_kernel.specs.Steps.{Line, rule_at, line_at}
use Rattle.leo_kernel.specs.Records.{AreTermsOfRule, AreStepsOf}
use Rattle.leo_simulation.specs.Proper.{IsTermTree, AreTermTrees, AreLiteralTrees, rule_terms, AreProper}
use Rattle.leo_simulation.specs.Abbreviations.{HasSymbolTypes, LiteralsHaveSymbolTypes, LinesHaveSymbolTypes}
use Rattle.leo_simulation.specs.Laws.{BankLinesAreProper}

module _ (c : Contents) (s : IsSound c) where
  -- the type of a symbol of the bank
  abbrev types : ℕ → SimpleType
  types n = type_at c (symbol_type c n)

  symbol_known : (n i : ℕ) (o : Option Symbol) → slice_get c.symbols n ≡ o → option_map (λ x. x.ty) o ≡ Some i → symbol_type c n ≡ i
  symbol_known n i None e h = cc
  symbol_known n i (Some x) e h = symbol_type-node c n x e ∙ some_number h
    where
      some_number : {x y : ℕ} → Some x ≡ Some y → x ≡ y
      some_number e = cc

  argument_symbols : (t : ℕ) → ((u : ℕ) → u < t → HasSymbolTypes types (tree_at c u)) → (x : Option ℕ) → IsArgumentBelow t x → HasSymbolTypes types (argument (tree_at c) x)
  argument_symbols t ih None h = tt
  argument_symbols t ih (Some x) h = ih x h

  view_symbols : (t : ℕ) (v : View) → ((u : ℕ) → u < t → HasSymbolTypes types (tree_at c u)) → HasView c t v → HasSymbolTypes types (tree_at c t)
  view_symbols t (Var n) ih v = rw (tree-node c s t (Var n) (type_number c t) v) tt
  view_symbols t (Bound n) ih v = rw (tree-node c s t (Bound n) (type_number c t) v) tt
  view_symbols t (Sym n) ih v =
      let p = view_sound c s t (Sym n) v in
      let e : symbol_type c n ≡ type_number c t = symbol_known n (type_number c t) (slice_get c.symbols n) refl p.0.symbol_type in
      rw (tree-node c s t (Sym n) (type_number c t) v) (ap (type_at c) (sym e))
  view_symbols t (App f x) ih v = let u = parts-app c s t f x v in rw (tree-app c s t f x v) (ih f u.0, ih x u.1)
  view_symbols t (Lam a b) ih v = let u = parts-lam c s t a b v in rw (tree-lam c s t a b v) (ih b u.0)
  view_symbols t (Logic o x y) ih v =
      let u = parts-logic c s t o x y v in
      rw (tree-logic c s t o x y v) (argument_symbols t ih x u.0, argument_symbols t ih y u.1)

  symbols_below : (n t : ℕ) → t < n → t < length c.terms → HasSymbolTypes types (tree_at c t)
  symbols_below zero t p q = absurd (let f : ⊥ = omega (arith, p) in f)
  symbols_below (suc n) t p q =
      let w = slice_get-some c.terms t q in
      view_symbols t w.0.view (λ u h. symbols_below n u (omega (arith, h, p)) (omega (arith, h, q))) (rw (type_number-node c t w.0 w.1) w.1)

  term_tree : (t : ℕ) → t < length c.terms → IsTermTree (tree_at c t)
  term_tree t l = record { typed = tree_at-typed c s t l; present = tree_at-present c s t l }

  literal_trees : (ls : List Lit) → AreLiteralsOf c ls → AreLiteralTrees (map (literal_at c) ls) × LiteralsHaveSymbolTypes types (map (literal_at c) ls)
  literal_trees [] h = (tt, tt)
  literal_trees (l ∷ ls) h =
      let rest = literal_trees ls h.2 in
      ((term_tree l.left h.0, term_tree l.right h.1, rest.0), (symbols_below (suc l.left) l.left (omega arith) h.0, symbols_below (suc l.right) l.right (omega arith) h.1, rest.1))

  terms_listed : (ts : List ℕ) → AreTerms c ts → AreTermTrees (map (tree_at c) ts)
  terms_listed [] h = tt
  terms_listed (t ∷ ts) h = (term_tree t (h 0 t refl), terms_listed ts (λ n u e. h (suc n) u e))

  rule_trees : (rule : Rule) → AreTermsOfRule c rule → AreTermTrees (rule_terms (rule_at c rule))
  rule_trees (record_of.Inst p sigma) h = terms_listed sigma h
  rule_trees (record_of.Axiom x) h = tt
  rule_trees (record_of.Convert p) h = tt
  rule_trees (record_of.Para p i a q j b path) h = tt
  rule_trees (record_of.Arrange p) h = tt
  rule_trees (record_of.Drop p i) h = tt
  rule_trees (record_of.Logic p i k a) h = tt
  rule_trees (record_of.BoolExt p i k) h = tt
  rule_trees (record_of.FuncExt p i a) h = tt
  rule_trees (record_of.Decompose p i) h = tt
  rule_trees record_of.Refl h = tt
  rule_trees record_of.Choice h = tt
  rule_trees (record_of.Factor p i j) h = tt
  rule_trees (record_of.Abbreviate x) h = tt

  lines_proper : (steps : List StepRecord) → AreStepsOf c steps → AreProper (map (line_at c) steps) × LinesHaveSymbolTypes types (map (line_at c) steps)
  lines_proper [] h = (tt, tt)
  lines_proper (x ∷ xs) h =
      let here = h 0 x refl in
      let lits = literal_trees x.clause.lits here.clause_of.literals_of in
      let rest = lines_proper xs (λ n y e. h (suc n) y e) in
      ((lits.0, rule_trees x.rule here.terms_of, rest.0), (lits.1, rest.1))

pub bank_lines_are_proper : BankLinesAreProper
bank_lines_are_proper c steps bank h = lines_proper c (sound c bank) steps h
