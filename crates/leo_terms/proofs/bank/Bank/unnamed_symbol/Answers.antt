use Rattle.std.proofs.Common.{◌≡◌, ◌<◌, ◌++◌, ◌∷◌, [], List, sym, subst, refl, length, None}
use Rattle.std.proofs.lemmas.List.{map-append}
use Rattle.leo_terms.specs.Contents.{Contents, Symbol, Grows}
use Rattle.leo_terms.specs.BankView.{contents_of}
use Rattle.leo_terms.proofs.Growth.{grows_by_symbol}
use Rattle.leo_terms.proofs.MemoLemmas.{AreRight-grows}
use Rattle.leo_terms.proofs.FactLemmas.{facts-kept}
use Rattle.leo_terms.proofs.bank.Bank.unnamed_symbol.Goals as goal
use Rattle.leo_terms.proofs.bank.Bank.unnamed_symbol.Goals.{In_ok-push}

grows_inside : (c : In_ok-push) → Grows (contents_of c.self.inside) (contents_of (record c.self.inside { symbols = c.push.new.self }))
grows_inside c =
    let row : Symbol = record { name = None; ty = c.args.ty } in
    let g = grows_by_symbol (contents_of c.self.inside) row c.self.invariant.sound (subst (λ (v : Contents). c.args.ty < length v.types) (sym c.self.view_is) c.requires) in
    let e : (contents_of (record c.self.inside { symbols = c.push.new.self })).symbols ≡ (contents_of c.self.inside).symbols ++ row ∷ [] = rw c.in_ok-push.ensures.items (rw map-append refl) in
    subst (λ (xs : List Symbol). Grows (contents_of c.self.inside) (record (contents_of c.self.inside) { symbols = xs })) (sym e) g

pub invariant_of-self-2 : goal.invariant_of-self-2
invariant_of-self-2 c =
    let at = (goal.at.invariant_of-self-2 c).In_ok-push in
    let g = grows_inside at in
    record { sound = g.new_sound; facts = facts-kept _ _ _ g refl at.self.invariant.facts; right = AreRight-grows _ _ g _ _ _ _ at.self.invariant.right }

pub returns-clause-grows : goal.returns-clause-grows
returns-clause-grows c = rw (← c.self.view_is) (grows_inside (goal.at.returns-clause-grows c).In_ok-push)
