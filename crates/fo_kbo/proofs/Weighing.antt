-- What the lengths and the first nodes of two terms' lists say of their order.
use Rattle.std.proofs.Common.{ℕ, ◌≡◌, ◌<◌, List, length, Some, sym, ◌∙◌, ap, arith}
use Rattle.std.specs.Prelude.{slice_get}
use Rattle.fo_terms.specs.declared.term.FoNode.{FoNode}
use Rattle.fo_terms.specs.declared.term.FoNode.TheVariants.{Var, Sym}
use Rattle.fo_terms.specs.Terms.{Terms, variable, symbol, size}
use Rattle.fo_terms.specs.Prefix.{term_of, IsPrefix}
use Rattle.fo_kbo.specs.declared.heads.Heads.TheVariants.{First, Second, Apart, Same}
use Rattle.fo_kbo.specs.Heads.{IsHeads}
use Rattle.fo_kbo.proofs.Ordering.{heavier_wins, variable_is_least}
use Rattle.fo_kbo.proofs.CountedNodes.{length-IsPrefix, term_of-symbol, term_of-variable}
use Rattle.fo_kbo.proofs.Levels.{not_heavier, not_over_variable, larger_head, not_smaller_head}

module _ (ns ms : List FoNode) (p : IsPrefix ns) (q : IsPrefix ms) where
  left_size : length ns ≡ size (term_of ns)
  left_size = length-IsPrefix ns p

  right_size : length ms ≡ size (term_of ms)
  right_size = length-IsPrefix ms q

  pub heads-longer : length ms < length ns → IsHeads (term_of ns) (term_of ms) First
  heads-longer l =
      let a = left_size in
      let b = right_size in
      let heavier : size (term_of ms) < size (term_of ns) = omega arith in
      ((λ c. heavier_wins (term_of ns) (term_of ms) c heavier), not_heavier (term_of ms) (term_of ns) heavier)

  pub heads-shorter : length ns < length ms → IsHeads (term_of ns) (term_of ms) Second
  heads-shorter l =
      let a = left_size in
      let b = right_size in
      let heavier : size (term_of ns) < size (term_of ms) = omega arith in
      ((λ c. heavier_wins (term_of ms) (term_of ns) c heavier), not_heavier (term_of ns) (term_of ms) heavier)

  module _ (same : length ns ≡ length ms) where
    same_size : size (term_of ns) ≡ size (term_of ms)
    same_size = sym left_size ∙ same ∙ right_size

    pub heads-left_variable : (v : ℕ) → slice_get ns 0 ≡ Some (Var v) → IsHeads (term_of ns) (term_of ms) Apart
    heads-left_variable v h =
        let is : term_of ns ≡ variable v = term_of-variable ns p v h in
        rw is (variable_is_least v (term_of ms), not_over_variable (term_of ms) v (sym same_size ∙ ap size is))

    pub heads-right_variable : (v : ℕ) → slice_get ms 0 ≡ Some (Var v) → IsHeads (term_of ns) (term_of ms) Apart
    heads-right_variable v h =
        let is : term_of ms ≡ variable v = term_of-variable ms q v h in
        rw is (not_over_variable (term_of ns) v (same_size ∙ ap size is), variable_is_least v (term_of ns))

    module _ (f k g m : ℕ) (h : slice_get ns 0 ≡ Some (Sym f k)) (j : slice_get ms 0 ≡ Some (Sym g m)) where
      left : (ts : Terms) × (term_of ns ≡ symbol f ts)
      left = term_of-symbol ns p f k h

      right : (ts : Terms) × (term_of ms ≡ symbol g ts)
      right = term_of-symbol ms q g m j

      sizes : size (symbol f left.0) ≡ size (symbol g right.0)
      sizes = sym (ap size left.1) ∙ same_size ∙ ap size right.1

      pub heads-first : g < f → IsHeads (term_of ns) (term_of ms) First
      heads-first l = rw (left.1, right.1) (larger_head f g left.0 right.0 sizes l, not_smaller_head g f right.0 left.0 (sym sizes) l)

      pub heads-second : f < g → IsHeads (term_of ns) (term_of ms) Second
      heads-second l = rw (left.1, right.1) (larger_head g f right.0 left.0 (sym sizes) l, not_smaller_head f g left.0 right.0 sizes l)

      pub heads-same : f ≡ g → IsHeads (term_of ns) (term_of ms) Same
      heads-same e = record { number = f; left = left.0; right = right.0; left_is = left.1; right_is = right.1 ∙ ap (λ (n : ℕ). symbol n right.0) (sym e); same_size = same_size }
