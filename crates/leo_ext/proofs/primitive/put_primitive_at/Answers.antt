use Rattle.std.proofs.Common.{◌≡◌, ◌∙◌, slice_get, Some, sym, subst}
use Rattle.leo_terms.proofs.CallerLemmas.{extends-itself}
use Rattle.leo_clause.specs.declared.clause.Lit.{Lit}
use Rattle.leo_clause.specs.Trees.{clause_at, literal_at}
use Rattle.leo_ext.specs.Listing.{Adds}
use Rattle.leo_ext.specs.Members.{primitive_at}
use Rattle.leo_ext.proofs.Adding.{adds-as, adds-none, lit-stands, stands-at}
use Rattle.leo_ext.proofs.BoundMembers.{at-none, at-other, at-variable, head-in}
use Rattle.leo_ext.proofs.ChoiceMembers.{of-none}
use Rattle.leo_ext.proofs.primitive.put_primitive_at.Goals as goal

pub is_formula-requires-clause-right : goal.is_formula-requires-clause-right
is_formula-requires-clause-right c =
    let at : slice_get c.args.clause.now.lits c.args.at ≡ Some c.index-as_slice-at.result = stands-at c.args.clause.now.lits c.args.at c.index-as_slice-at.result c.requires.at (rw c.as_slice.ensures at c.index-as_slice-at.is) in
    let w = lit-stands c.args.bank.now c.args.clause.now.lits c.args.at c.index-as_slice-at.result c.requires.clause.of_bank.literals_of at in
    w.1

pub returns-then-not-is_formula-clause-adds : goal.returns-then-not-is_formula-clause-adds
returns-then-not-is_formula-clause-adds c = λ l e. (
    let at : slice_get c.args.clause.now.lits c.args.at ≡ Some c.index-as_slice-at.result = stands-at c.args.clause.now.lits c.args.at c.index-as_slice-at.result c.requires.at (rw c.as_slice.ensures at c.index-as_slice-at.is) in
    let w = lit-stands c.args.bank.now c.args.clause.now.lits c.args.at c.index-as_slice-at.result c.requires.clause.of_bank.literals_of at in
    let same : c.index-as_slice-at.result ≡ l = (let f : Some c.index-as_slice-at.result ≡ Some l = sym at ∙ e in cc) in
    subst (λ (x : Lit). Adds c.args.bank.now c.args.bank.now c.args.dues.now.items c.args.dues.now.items (primitive_at c.args.before (clause_at c.args.bank.now c.args.clause.now) c.args.at (literal_at c.args.bank.now x))) same
    (adds-none (extends-itself c.is_sound.ensures.sound) c.args.dues.now.items _ (at-other c.args.bank.now c.is_sound.ensures.sound c.args.clause.now c.requires.clause c.args.at c.index-as_slice-at.result at w.0 c.args.before (sym c.is_formula.ensures ∙ c.if-not-is_formula.true)))
    )

pub returns-then-not-is_formula-clause-grows : goal.returns-then-not-is_formula-clause-grows
returns-then-not-is_formula-clause-grows c = extends-itself c.is_sound.ensures.sound

pub head_term-head-requires : goal.head_term-head-requires
head_term-head-requires c =
    let at : slice_get c.args.clause.now.lits c.args.at ≡ Some c.index-as_slice-at.result = stands-at c.args.clause.now.lits c.args.at c.index-as_slice-at.result c.requires.at (rw c.as_slice.ensures at c.index-as_slice-at.is) in
    let w = lit-stands c.args.bank.now c.args.clause.now.lits c.args.at c.index-as_slice-at.result c.requires.clause.of_bank.literals_of at in
    w.0

pub returns-in_default-clause-adds : goal.returns-in_default-clause-adds
returns-in_default-clause-adds c = λ l e. (
    let at : slice_get c.args.clause.now.lits c.args.at ≡ Some c.index-as_slice-at.result = stands-at c.args.clause.now.lits c.args.at c.index-as_slice-at.result c.requires.at (rw c.as_slice.ensures at c.index-as_slice-at.is) in
    let w = lit-stands c.args.bank.now c.args.clause.now.lits c.args.at c.index-as_slice-at.result c.requires.clause.of_bank.literals_of at in
    let same : c.index-as_slice-at.result ≡ l = (let f : Some c.index-as_slice-at.result ≡ Some l = sym at ∙ e in cc) in
    let none = of-none c.variable_at.result _ _ c.in_default.not-Some c.variable_at.ensures in
    subst (λ (x : Lit). Adds c.args.bank.now c.args.bank.now c.args.dues.now.items c.args.dues.now.items (primitive_at c.args.before (clause_at c.args.bank.now c.args.clause.now) c.args.at (literal_at c.args.bank.now x))) same
    (adds-none (extends-itself c.is_sound.ensures.sound) c.args.dues.now.items _ (at-none c.args.bank.now c.is_sound.ensures.sound c.args.clause.now c.requires.clause c.args.at c.index-as_slice-at.result at w.0 c.args.before c.head_term-head.result c.head_term-head.ensures.reads (sym c.is_formula.ensures ∙ c.if-not-is_formula.false) none))
    )

pub returns-in_default-clause-grows : goal.returns-in_default-clause-grows
returns-in_default-clause-grows c = extends-itself c.is_sound.ensures.sound

pub put_primitive_by-requires-clause-variable : goal.put_primitive_by-requires-clause-variable
put_primitive_by-requires-clause-variable c =
    let at : slice_get c.args.clause.now.lits c.args.at ≡ Some c.index-as_slice-at.result = stands-at c.args.clause.now.lits c.args.at c.index-as_slice-at.result c.requires.at (rw c.as_slice.ensures at c.index-as_slice-at.is) in
    let w = lit-stands c.args.bank.now c.args.clause.now.lits c.args.at c.index-as_slice-at.result c.requires.clause.of_bank.literals_of at in
    head-in c.args.bank.now c.is_sound.ensures.sound c.args.clause.now c.requires.clause c.args.at c.index-as_slice-at.result at w.0 c.head_term-head.result c.in-Some.variable c.head_term-head.ensures.reads (sym c.is_formula.ensures ∙ c.if-not-is_formula.false) c.in-Some.ensures

pub returns-clause-adds : goal.returns-clause-adds
returns-clause-adds c = λ l e. (
    let at : slice_get c.args.clause.now.lits c.args.at ≡ Some c.index-as_slice-at.result = stands-at c.args.clause.now.lits c.args.at c.index-as_slice-at.result c.requires.at (rw c.as_slice.ensures at c.index-as_slice-at.is) in
    let w = lit-stands c.args.bank.now c.args.clause.now.lits c.args.at c.index-as_slice-at.result c.requires.clause.of_bank.literals_of at in
    let same : c.index-as_slice-at.result ≡ l = (let f : Some c.index-as_slice-at.result ≡ Some l = sym at ∙ e in cc) in
    subst (λ (x : Lit). Adds c.args.bank.now c.put_primitive_by.new.bank c.args.dues.now.items c.put_primitive_by.new.dues.items (primitive_at c.args.before (clause_at c.args.bank.now c.args.clause.now) c.args.at (literal_at c.args.bank.now x))) same
    (adds-as c.args.dues.now.items c.put_primitive_by.new.dues.items _ _ c.in_ok-put_primitive_by.ensures.adds
    (at-variable c.args.bank.now c.is_sound.ensures.sound c.args.clause.now c.requires.clause c.args.at c.index-as_slice-at.result at w.0 c.args.before c.head_term-head.result c.in-Some.variable c.head_term-head.ensures.reads (sym c.is_formula.ensures ∙ c.if-not-is_formula.false) c.in-Some.ensures))
    )
