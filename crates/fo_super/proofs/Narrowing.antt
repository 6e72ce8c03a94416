-- How bindings are narrowed, step by step.
use Rattle.std.proofs.Common.{ℕ, ◌≡◌, ◌∙◌, Bool, true, false, List, [], ◌++◌, append_assoc, sym, ap}
use Rattle.std.specs.Bool.{Decides}
use Rattle.std.proofs.lemmas.List.{append-nil}
use Rattle.fo_terms.specs.Substitutions.{Substitution}
use Rattle.fo_text.specs.declared.problem.FoSym.{FoSym}
use Rattle.fo_super.specs.declared.matching.Binding.{Binding}
use Rattle.fo_super.specs.Matching.{AreBindings, Narrows, Obeys}
use Rattle.fo_super.proofs.Answering.{refuted}
use Rattle.fo_super.proofs.Bindings.{obeys-front}

module _ (vars news : List ℕ) (syms : List FoSym) where
  -- where what is asked does not depend on the substitution
  pub decided : (old : List Binding) (r : Bool) (P : Type 0) (Asked : Substitution → Type 0) → AreBindings vars news syms old → Decides r P →
      ((s : Substitution) → Obeys old s → P → Asked s) → ((s : Substitution) → Obeys old s → Asked s → P) → Narrows vars news syms old old r Asked
  decided old r P Asked h d to from = record {
    more = [];
    extends = sym (append-nil old);
    sound = h;
    gained = λ e s o. to s o (d.0 e);
    kept = λ e s o q. o;
    refused = λ e s o q. refuted r d e (from s o q);
  }

  pub never : (old : List Binding) (Asked : Substitution → Type 0) → AreBindings vars news syms old → ((s : Substitution) → Obeys old s → Asked s → ⊥) → Narrows vars news syms old old false Asked
  never old Asked h f = record {
    more = [];
    extends = sym (append-nil old);
    sound = h;
    gained = λ e. (let g : ⊥ = cc in absurd g);
    kept = λ e s o q. o;
    refused = λ e s o q. f s o q;
  }

  pub always : (old : List Binding) (Asked : Substitution → Type 0) → AreBindings vars news syms old → ((s : Substitution) → Obeys old s → Asked s) → Narrows vars news syms old old true Asked
  always old Asked h f = record {
    more = [];
    extends = sym (append-nil old);
    sound = h;
    gained = λ e s o. f s o;
    kept = λ e s o q. o;
    refused = λ e. (let g : ⊥ = cc in absurd g);
  }

  -- a first part that cannot be met, and two parts
  pub first_fails : {old new : List Binding} (r : Bool) (P Q : Substitution → Type 0) → r ≡ false → ((s : Substitution) → Q s → P s) → Narrows vars news syms old new r P → Narrows vars news syms old new false Q
  first_fails r P Q f from n = record {
    more = n.more;
    extends = n.extends;
    sound = n.sound;
    gained = λ e. (let g : ⊥ = cc in absurd g);
    kept = λ e. (let g : ⊥ = cc in absurd g);
    refused = λ e s o q. n.refused f s o (from s q);
  }

  pub both : {old middle new : List Binding} (r x : Bool) (P Q R : Substitution → Type 0) → r ≡ true → Narrows vars news syms old middle r P → Narrows vars news syms middle new x Q →
      ((s : Substitution) → P s → Q s → R s) → ((s : Substitution) → R s → P s × Q s) → Narrows vars news syms old new x R
  both {old} {middle} {new} r x P Q R t m n to from = record {
    more = m.more ++ n.more;
    extends = n.extends ∙ ap (λ (xs : List Binding). xs ++ n.more) m.extends ∙ append_assoc old m.more n.more;
    sound = n.sound;
    gained = λ e s o. to s (m.gained t s (before s o)) (n.gained e s o);
    kept = λ e s o q. (let h = from s q in n.kept e s (m.kept t s o h.0) h.1);
    refused = λ e s o q. (let h = from s q in n.refused e s (m.kept t s o h.0) h.1);
  }
    where
      before : (s : Substitution) → Obeys new s → Obeys middle s
      before s o = obeys-front middle n.more s (rw n.extends at o)
