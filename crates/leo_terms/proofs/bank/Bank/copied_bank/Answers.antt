use Rattle.std.proofs.Common.{◌≡◌, ◌∙◌, rules, map, ap}
use Rattle.leo_terms.specs.SymbolView.{symbol_of}
use Rattle.leo_terms.proofs.NodeEq.{node_same}
use Rattle.leo_terms.proofs.MemoLemmas.{AreRight-none}
use Rattle.leo_terms.proofs.bank.Bank.copied_bank.Goals as goal

pub invariant_of-result : goal.invariant_of-result
invariant_of-result c =
    let t : c.in_ok-copied.field-0.keys ≡ c.self.inside.types.keys = c.in_ok-copied.ensures (λ x y e. search rules) in
    let u : c.in_ok-copied-2.field-0.keys ≡ c.self.inside.terms.keys = c.in_ok-copied-2.ensures node_same in
    let s : map symbol_of c.in_ok-copied_symbols.field-0.items ≡ map symbol_of c.self.inside.symbols.items = c.in_ok-copied_symbols.ensures ∙ ap (map symbol_of) c.deref.ensures.value in
    record {
      sound = rw (t, s, u) c.self.invariant.sound;
      facts = rw (t, s, u, c.in_ok-to_vec.ensures.items_if_clones_equal (λ x y e. e), c.deref-2.ensures.value) c.self.invariant.facts;
      right = AreRight-none _ _ _ _ _ c.new.ensures.empty c.new-2.ensures.empty c.new-3.ensures.empty c.new-4.ensures.empty;
    }

pub returns-clause-equal : goal.returns-clause-equal
returns-clause-equal c =
    let t : c.in_ok-copied.field-0.keys ≡ c.self.inside.types.keys = c.in_ok-copied.ensures (λ x y e. search rules) in
    let u : c.in_ok-copied-2.field-0.keys ≡ c.self.inside.terms.keys = c.in_ok-copied-2.ensures node_same in
    let s : map symbol_of c.in_ok-copied_symbols.field-0.items ≡ map symbol_of c.self.inside.symbols.items = c.in_ok-copied_symbols.ensures ∙ ap (map symbol_of) c.deref.ensures.value in
    rw (t, s, u) c.self.view_is
