-- How bindings are narrowed, step by step.
use Rattle.std.proofs.Common.{◌≡◌, ◌∙◌, Bool, true, false, List, [], ◌++◌, append_assoc, sym, ap}
use Rattle.std.specs.Bool.{Decides}
use Rattle.std.proofs.lemmas.List.{append-nil}
use Rattle.leo_q0.specs.Terms.{SimpleType}
use Rattle.leo_terms.specs.Tree.{Tree}
use Rattle.leo_terms.specs.Contents.{Contents}
use Rattle.leo_keep.specs.declared.matching.Binding.{Binding}
use Rattle.leo_keep.specs.Subsumption.{AreReplacements}
use Rattle.leo_keep.specs.Matching.{AreBindings, Narrows, Obey}
use Rattle.leo_keep.proofs.Numbers.{refuted}
use Rattle.leo_keep.proofs.Bindings.{obey-front}

module _ (c : Contents) (variables : List SimpleType) where
  -- where what is asked does not depend on the terms
  pub decided : (old : List Binding) (r : Bool) (P : Type 0) (Asked : List Tree → Type 0) → AreBindings c variables old → Decides r P →
      ((terms : List Tree) → AreReplacements variables terms → Obey c old terms → P → Asked terms) →
      ((terms : List Tree) → AreReplacements variables terms → Obey c old terms → Asked terms → P) → Narrows c variables old old r Asked
  decided old r P Asked h d to from = record {
    more = [];
    extends = sym (append-nil old);
    sound = h;
    gained = λ e terms a o. to terms a o (d.0 e);
    kept = λ e terms a o q. o;
    refused = λ e terms a o q. refuted r d e (from terms a o q);
  }

  pub never : (old : List Binding) (Asked : List Tree → Type 0) → AreBindings c variables old → ((terms : List Tree) → AreReplacements variables terms → Obey c old terms → Asked terms → ⊥) → Narrows c variables old old false Asked
  never old Asked h f = record {
    more = [];
    extends = sym (append-nil old);
    sound = h;
    gained = λ e. (let g : ⊥ = cc in absurd g);
    kept = λ e terms a o q. o;
    refused = λ e terms a o q. f terms a o q;
  }

  pub always : (old : List Binding) (Asked : List Tree → Type 0) → AreBindings c variables old → ((terms : List Tree) → AreReplacements variables terms → Obey c old terms → Asked terms) → Narrows c variables old old true Asked
  always old Asked h f = record {
    more = [];
    extends = sym (append-nil old);
    sound = h;
    gained = λ e terms a o. f terms a o;
    kept = λ e terms a o q. o;
    refused = λ e. (let g : ⊥ = cc in absurd g);
  }

  -- the same asked in other words
  pub like : {old new : List Binding} {r : Bool} (P Q : List Tree → Type 0) → ((terms : List Tree) → AreReplacements variables terms → P terms → Q terms) → ((terms : List Tree) → AreReplacements variables terms → Q terms → P terms) → Narrows c variables old new r P → Narrows c variables old new r Q
  like P Q to from n = record {
    more = n.more;
    extends = n.extends;
    sound = n.sound;
    gained = λ e terms a o. to terms a (n.gained e terms a o);
    kept = λ e terms a o q. n.kept e terms a o (from terms a q);
    refused = λ e terms a o q. n.refused e terms a o (from terms a q);
  }

  -- a first part that cannot be met, and two parts
  pub first_fails : {old new : List Binding} (r : Bool) (P Q : List Tree → Type 0) → r ≡ false → ((terms : List Tree) → AreReplacements variables terms → Q terms → P terms) → Narrows c variables old new r P → Narrows c variables old new false Q
  first_fails r P Q f from n = record {
    more = n.more;
    extends = n.extends;
    sound = n.sound;
    gained = λ e. (let g : ⊥ = cc in absurd g);
    kept = λ e. (let g : ⊥ = cc in absurd g);
    refused = λ e terms a o q. n.refused f terms a o (from terms a q);
  }

  pub both : {old middle new : List Binding} (r s : Bool) (P Q R : List Tree → Type 0) → r ≡ true → Narrows c variables old middle r P → Narrows c variables middle new s Q →
      ((terms : List Tree) → AreReplacements variables terms → P terms → Q terms → R terms) →
      ((terms : List Tree) → AreReplacements variables terms → R terms → P terms × Q terms) → Narrows c variables old new s R
  both {old} {middle} {new} r s P Q R t m n to from = record {
    more = m.more ++ n.more;
    extends = n.extends ∙ ap (λ (xs : List Binding). xs ++ n.more) m.extends ∙ append_assoc old m.more n.more;
    sound = n.sound;
    gained = λ e terms a o. to terms a (m.gained t terms a (before terms o)) (n.gained e terms a o);
    kept = λ e terms a o q. (let h = from terms a q in n.kept e terms a (m.kept t terms a o h.0) h.1);
    refused = λ e terms a o q. (let h = from terms a q in n.refused e terms a (m.kept t terms a o h.0) h.1);
  }
    where
      before : (terms : List Tree) → Obey c new terms → Obey c middle terms
      before terms o = obey-front c middle n.more terms (rw n.extends at o)
