-- Instances whose variables are numbered by their names.
use Rattle.std.proofs.Common.{ℕ, ◌≡◌, ◌∙◌, List, [], ◌∷◌, ◌++◌, length, map, refl, sym, ap, subst}
use Rattle.std.specs.Prelude.{remove}
use Rattle.std.specs.List.{AllByRecursion, fold}
use Rattle.fo_terms.specs.Terms.{Term, Terms, variable, symbol, none, more}
use Rattle.fo_terms.specs.Substitutions.{Substitution, apply, apply_to_all}
use Rattle.fo_terms.proofs.Substituting.{apply-apply}
use Rattle.fo_text.specs.declared.problem.FoSym.{FoSym}
use Rattle.fo_text.specs.declared.problem.FoLit.{FoLit}
use Rattle.fo_text.specs.Problems.{HasSort, IsLiteral}
use Rattle.fo_replay.specs.Replays.{images, applied_literal}
use Rattle.fo_super.specs.Numbering.{variables, variables_of_all, literal_variables, clause_variables, with_name, renumbered, renaming, IsNumbered}
use Rattle.fo_super.specs.Conclusions.{images_from}
use Rattle.fo_super.proofs.Naming.{numbered}
use Rattle.fo_super.proofs.Resolutions.{images-apply, images-after, instance_lits, remove-map, remove-all}

map-both : (f : ℕ → ℕ) (xs ys : List ℕ) → map f (xs ++ ys) ≡ map f xs ++ map f ys
map-both f [] ys = refl
map-both f (x ∷ xs) ys = ap (λ (zs : List ℕ). f x ∷ zs) (map-both f xs ys)

join : (a b c d : List ℕ) → a ≡ b → c ≡ d → a ++ c ≡ b ++ d
join a b c d e f = ap (λ (xs : List ℕ). xs ++ c) e ∙ ap (λ (xs : List ℕ). b ++ xs) f

-- the variables of a renamed term
mutual
  variables-renamed : (ns : List ℕ) (t : Term) → variables (apply (renaming ns) t) ≡ map (renumbered ns) (variables t)
  variables-renamed ns (variable v) = refl
  variables-renamed ns (symbol f ts) = all-variables-renamed ns ts

  all-variables-renamed : (ns : List ℕ) (ts : Terms) → variables_of_all (apply_to_all (renaming ns) ts) ≡ map (renumbered ns) (variables_of_all ts)
  all-variables-renamed ns none = refl
  all-variables-renamed ns (more t ts) = join _ _ _ _ (variables-renamed ns t) (all-variables-renamed ns ts) ∙ sym (map-both (renumbered ns) (variables t) (variables_of_all ts))

module _ (vars : List ℕ) (syms : List FoSym) (s : Substitution) (ns : List ℕ) where
  abbrev renamed : Substitution
  renamed v = apply (renaming ns) (s v)

  abbrev old : Terms
  old = images_from s 0 (length vars)

  abbrev new : Terms
  new = images_from (λ v. apply (renaming ns) (s v)) 0 (length vars)

  side-renamed : (u : Term) (x : ℕ) → HasSort vars syms u x → variables (apply (images new) u) ≡ map (renumbered ns) (variables (apply (images old) u))
  side-renamed u x h =
      ap variables (images-apply vars syms renamed u x h ∙ sym (apply-apply (renaming ns) s u) ∙ ap (apply (renaming ns)) (sym (images-apply vars syms s u x h)))
      ∙ variables-renamed ns (apply (images old) u)

  lits-renamed : (ls : List FoLit) → AllByRecursion (IsLiteral vars syms) ls → clause_variables (instance_lits new ls) ≡ map (renumbered ns) (clause_variables (instance_lits old ls))
  lits-renamed [] h = refl
  lits-renamed (l ∷ ls) h =
      join _ _ _ _ (join _ _ _ _ (side-renamed l.left h.0.0 h.0.1) (side-renamed l.right h.0.0 h.0.2) ∙ sym (map-both (renumbered ns) (variables (apply (images old) l.left)) (variables (apply (images old) l.right)))) (lits-renamed ls h.1)
      ∙ sym (map-both (renumbered ns) (literal_variables (applied_literal (images old) l)) (clause_variables (instance_lits old ls)))

-- names of an instance number it
pub numbered-by-names : (vars : List ℕ) (syms : List FoSym) (s : Substitution) (ns : List ℕ) (ls : List FoLit) (k : ℕ) (olds terms : Terms) (rest : List FoLit) → AllByRecursion (IsLiteral vars syms) ls → olds ≡ images_from s 0 (length vars) →
    rest ≡ remove (map (applied_literal (images olds)) ls) k → ns ≡ fold with_name [] (clause_variables rest ++ variables_of_all olds) → terms ≡ apply_to_all (renaming ns) olds →
    (terms ≡ images_from (λ v. apply (renaming ns) (s v)) 0 (length vars)) × IsNumbered 0 (clause_variables (remove (map (applied_literal (images terms)) ls) k) ++ variables_of_all terms) (length ns)
numbered-by-names vars syms s ns ls k olds terms rest h e f g i =
    let a : terms ≡ images_from (λ v. apply (renaming ns) (s v)) 0 (length vars) = i ∙ ap (apply_to_all (renaming ns)) e ∙ sym (images-after (renaming ns) s (λ v. apply (renaming ns) (s v)) (λ v. refl) 0 (length vars)) in
    let b : variables_of_all terms ≡ map (renumbered ns) (variables_of_all olds) = ap variables_of_all i ∙ all-variables-renamed ns olds in
    let c : clause_variables (remove (map (applied_literal (images terms)) ls) k) ≡ map (renumbered ns) (clause_variables rest)
    = ap clause_variables (ap (λ x. remove (map (applied_literal (images x)) ls) k) a ∙ remove-map (applied_literal (images (images_from (λ v. apply (renaming ns) (s v)) 0 (length vars)))) ls k)
    ∙ lits-renamed vars syms s ns (remove ls k) (remove-all (IsLiteral vars syms) ls k h)
    ∙ ap (λ (x : List FoLit). map (renumbered ns) (clause_variables x)) (sym (remove-map (applied_literal (images (images_from s 0 (length vars)))) ls k) ∙ ap (λ x. remove (map (applied_literal (images x)) ls) k) (sym e) ∙ sym f) in
    let d : clause_variables (remove (map (applied_literal (images terms)) ls) k) ++ variables_of_all terms ≡ map (renumbered ns) (clause_variables rest ++ variables_of_all olds)
    = join _ _ _ _ c b ∙ sym (map-both (renumbered ns) (clause_variables rest) (variables_of_all olds)) in
    let n : IsNumbered 0 (map (renumbered ns) (clause_variables rest ++ variables_of_all olds)) (length ns)
    = subst (λ (x : List ℕ). IsNumbered 0 (map (renumbered x) (clause_variables rest ++ variables_of_all olds)) (length x)) (sym g) (numbered (clause_variables rest ++ variables_of_all olds)) in
    (a, subst (λ (x : List ℕ). IsNumbered 0 x (length ns)) (sym d) n)
