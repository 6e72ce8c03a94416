use Rattle.std.proofs.Common.{◌≡◌, ◌∙◌, [], rules, map, ap}
use Rattle.leo_terms.specs.Contents.{Contents}
use Rattle.leo_terms.specs.SymbolView.{symbol_of}
use Rattle.leo_terms.proofs.MemoLemmas.{AreRight-none}
use Rattle.leo_terms.proofs.FactLemmas.{facts-of_none}
use Rattle.leo_terms.proofs.Parts.{without_terms-sound}
use Rattle.leo_terms.proofs.bank.Bank.without_terms.Goals as goal

pub invariant_of-result : goal.invariant_of-result
invariant_of-result c =
    let t : c.in_ok-copied.field-0.keys ≡ c.self.inside.types.keys = c.in_ok-copied.ensures (λ x y e. search rules) in
    let s : map symbol_of c.in_ok-copied_symbols.field-0.items ≡ map symbol_of c.self.inside.symbols.items = c.in_ok-copied_symbols.ensures ∙ ap (map symbol_of) c.deref.ensures.value in
    record {
      sound = rw (t, s, c.new.ensures.empty) (without_terms-sound _ c.self.invariant.sound);
      facts = facts-of_none _ _ c.new.ensures.empty c.new-2.ensures.items;
      right = AreRight-none _ _ _ _ _ c.new-3.ensures.empty c.new-4.ensures.empty c.new-5.ensures.empty c.new-6.ensures.empty;
    }

pub returns-clause-bank : goal.returns-clause-bank
returns-clause-bank c =
    let t : c.in_ok-copied.field-0.keys ≡ c.self.inside.types.keys = c.in_ok-copied.ensures (λ x y e. search rules) in
    let s : map symbol_of c.in_ok-copied_symbols.field-0.items ≡ map symbol_of c.self.inside.symbols.items = c.in_ok-copied_symbols.ensures ∙ ap (map symbol_of) c.deref.ensures.value in
    rw (t, s, c.new.ensures.empty) (ap (λ (v : Contents). record v { terms = [] }) c.self.view_is)

pub returns-clause-sound : goal.returns-clause-sound
returns-clause-sound c =
    let t : c.in_ok-copied.field-0.keys ≡ c.self.inside.types.keys = c.in_ok-copied.ensures (λ x y e. search rules) in
    let s : map symbol_of c.in_ok-copied_symbols.field-0.items ≡ map symbol_of c.self.inside.symbols.items = c.in_ok-copied_symbols.ensures ∙ ap (map symbol_of) c.deref.ensures.value in
    rw (t, s, c.new.ensures.empty) (without_terms-sound _ c.self.invariant.sound)
