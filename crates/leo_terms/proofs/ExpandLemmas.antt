-- Eta expansion of a head with arguments, and the normal form of a term from those of its parts.
use Rattle.std.proofs.Common.{ℕ, ◌≡◌, ◌^◌, ◌<◌, false, length, slice_get, Option, Some, refl, sym, ◌∙◌, ap, arith}
use Rattle.leo_terms.specs.declared.node.TyView.TheVariants.{Base, Arrow}
use Rattle.leo_terms.specs.declared.node.Op.{Op}
use Rattle.leo_terms.specs.declared.node.View.{View}
use Rattle.leo_terms.specs.declared.node.View.TheVariants.{App, Lam, Logic}
use Rattle.leo_q0.specs.Terms.{SimpleType, base, arrow}
use Rattle.leo_terms.specs.Tree.{Tree, variable, bound, symbol, app, lam, logic, absent, type_of, IsBoundAt, lifted}
use Rattle.leo_terms.specs.Reduction.{Reduces, nothing, andthen, in_app, in_lam, in_logic, beta, eta, IsBase, IsNormal, IsNeutral}
use Rattle.leo_terms.specs.NormalForm.{eta_long, normal_form}
use Rattle.leo_terms.specs.Normal.{IsPut, IsFormOf, IsNormalFormOf, IsExpansionOf, IsNormalArgumentOf}
use Rattle.leo_terms.specs.Contents.{Contents, node, type_at, tree_at, connective, argument, argument_type, type_number, IsArrow, IsArgumentBelow, IsSoundNode, IsSound, Grows, IsTerm, IsArgumentTerm}
use Rattle.leo_terms.proofs.Growth.{arrow-below, ty-base, ty-arrow, ty-keeps, tree-keeps, type_number-keeps, argument_type-keeps, argument-same, IsKept-length, Grows-trans, IsArrow-keeps}
use Rattle.leo_terms.proofs.Rebuild.{HasView, view_sound, tree-app, tree-lam, tree-logic, bound-lam, IsTerm-keeps, IsArgumentBelow-length}
use Rattle.leo_terms.proofs.ReductionLemmas.{IsForm-lifted, IsBoundAt-reduces, IsBoundAt-gap}
use Rattle.leo_terms.proofs.TypeLemmas.{arrow-same}
use Rattle.leo_terms.proofs.NormalLemmas.{type_of-tree, view-of_function}
use Rattle.leo_terms.proofs.FormLemmas.{expanded-arrow, normal-app}

-- a head with arguments, of a base type, is normal
IsNormal-base : (t : Tree) → IsNeutral t → IsBase (type_of t) → IsNormal t
IsNormal-base (variable n a) h b = b
IsNormal-base (bound i a) h b = b
IsNormal-base (symbol s a) h b = b
IsNormal-base (app f x) h b = (h.0, h.1, b)
IsNormal-base (lam a t) h b = absurd h
IsNormal-base (logic c x y) h b = (h.0, h.1, b)
IsNormal-base absent h b = tt

pub IsExpansionOf-base : (c : Contents) → IsSound c → (t n : ℕ) → t < length c.terms → IsNeutral (tree_at c t) → slice_get c.types (type_number c t) ≡ Some (Base n) → IsExpansionOf c c t t
IsExpansionOf-base c s t n l h e =
    let b : type_of (tree_at c t) ≡ base n = type_of-tree c s t l ∙ ty-base c (type_number c t) n e in
    record {
      within = l;
      type_is = refl;
      value = rw b refl;
      reduces = nothing (tree_at c t);
      normal = IsNormal-base (tree_at c t) h (rw b tt);
    }

pub IsSoundNode-app_of : (c : Contents) → IsSound c → (f x i : ℕ) → f < length c.terms → x < length c.terms → IsArrow c (type_number c f) (type_number c x) i → IsSoundNode c (length c.terms) (node (App f x) i)
IsSoundNode-app_of c s f x i p q h =
    let b = arrow-below c s (type_number c f) (type_number c x) i h in
    record { type_below = omega arith; view_sound = record { function_below = p; argument_below = q; typed = h } }

pub IsSoundNode-lam_of : (c : Contents) → IsSound c → (a t i : ℕ) → t < length c.terms → IsArrow c i a (type_number c t) → IsBoundAt 0 (type_at c a) (tree_at c t) → IsSoundNode c (length c.terms) (node (Lam a t) i)
IsSoundNode-lam_of c s a t i p h b =
    record { type_below = (arrow-below c s i a (type_number c t) h).0; view_sound = record { body_below = p; typed = h; bound_typed = b } }

pub index-neutral : (c : Contents) (x i k : ℕ) (a : SimpleType) → IsTerm c x i (bound k a) → IsNeutral (tree_at c x)
index-neutral c x i k a p = rw p.reads tt

-- the parts of a type of functions stand in a bank that grew
pub IsArrow-parts : (a b : Contents) → Grows a b → (t i j : ℕ) → slice_get a.types t ≡ Some (Arrow i j) → (i < length b.types) × (i < t) × (j < t)
IsArrow-parts a b g t i j e =
    let p = arrow-below a g.old_sound t i j (record { arrow_node = e }) in
    let k = IsKept-length a.types b.types g.keeps.types in
    (omega arith, p.1, p.2)

-- the steps of an expansion at a type of functions, of which each names the bank after it:
-- the term is lifted (b), the index is made (c) and expanded (d), the application is made (e) and expanded (f), and the lambda is made (g)
module _ (a b c d : Contents) (ab : Grows a b) (bc : Grows b c) (cd : Grows c d) (t i j u x x' : ℕ) (l : t < length a.terms) (neutral : IsNeutral (tree_at a t)) (ty : slice_get a.types (type_number a t) ≡ Some (Arrow i j)) (raised : IsTerm b u (type_number a t) (lifted 0 1 (tree_at a t))) (index : IsTerm c x i (bound 0 (type_at b i))) (expansion : IsExpansionOf c d x x') where
  expand_arrow : IsArrow a (type_number a t) i j
  expand_arrow = record { arrow_node = ty }

  expand_below : (type_number a t < length a.types) × (i < type_number a t) × (j < type_number a t)
  expand_below = arrow-below a ab.old_sound (type_number a t) i j expand_arrow

  expand_b_d : Grows b d
  expand_b_d = Grows-trans b c d bc cd

  expand_raised : IsTerm d u (type_number a t) (lifted 0 1 (tree_at a t))
  expand_raised = IsTerm-keeps b d expand_b_d u (type_number a t) (lifted 0 1 (tree_at a t)) raised

  pub expand_app-sound : IsSoundNode d (length d.terms) (node (App u x') j)
  expand_app-sound =
      let ad = Grows-trans a b d ab expand_b_d in
      let h : IsArrow d (type_number a t) i j = IsArrow-keeps a d ad.keeps _ _ _ expand_arrow in
      let k : type_number d x' ≡ i = expansion.type_is ∙ index.type_is in
      IsSoundNode-app_of d cd.new_sound u x' j expand_raised.within expansion.within (rw (expand_raised.type_is, k) h)

  module _ (e : Contents) (de : Grows d e) (y : ℕ) (applied : IsTerm e y j (app (tree_at d u) (tree_at d x'))) where
    expand_reads : tree_at e y ≡ app (lifted 0 1 (tree_at a t)) (tree_at d x')
    expand_reads = rw expand_raised.reads at applied.reads

    pub expand_app-neutral : IsNeutral (tree_at e y)
    expand_app-neutral = rw expand_reads (IsForm-lifted (tree_at a t) false 0 1 neutral, expansion.normal, tt)

    pub expand_app-falls : type_number e y < type_number a t
    expand_app-falls = let k = applied.type_is in let m = expand_below in omega arith

    index_type : type_at b i ≡ type_at a i
    index_type = ty-keeps a b ab.old_sound ab.keeps.types i (let m = expand_below in omega arith)

    -- eta, and then the reduction of the index
    expand_reduces : Reduces (tree_at a t) (lam (type_at a i) (tree_at e y))
    expand_reduces =
        let q : type_of (tree_at a t) ≡ arrow (type_at a i) (type_at a j) = type_of-tree a ab.old_sound t l ∙ ty-arrow a ab.old_sound (type_number a t) i j ty in
        let p : Reduces (bound 0 (type_at a i)) (tree_at d x') = rw (← index_type, ← index.reads) expansion.reduces in
        rw expand_reads (andthen _ _ _ (eta (type_at a i) (type_at a j) (tree_at a t) q) (in_lam (type_at a i) _ _ (in_app _ _ _ _ (nothing (lifted 0 1 (tree_at a t))) p)))

    expand_bound : IsBoundAt 0 (type_at a i) (tree_at e y)
    expand_bound =
        let p : Reduces (bound 0 (type_at a i)) (tree_at d x') = rw (← index_type, ← index.reads) expansion.reduces in
        rw expand_reads (IsBoundAt-gap (tree_at a t) 0 0 1 (type_at a i) (omega arith) (omega arith), IsBoundAt-reduces (bound 0 (type_at a i)) (tree_at d x') p 0 (type_at a i) (λ _. refl))

    module _ (f : Contents) (ef : Grows e f) (y' : ℕ) (body : IsExpansionOf e f y y') where
      expand_a_f : Grows a f
      expand_a_f = Grows-trans a d f (Grows-trans a b d ab expand_b_d) (Grows-trans d e f de ef)

      expand_type : type_at f i ≡ type_at a i
      expand_type = ty-keeps a f ab.old_sound expand_a_f.keeps.types i (let m = expand_below in omega arith)

      pub expand_lam-sound : IsSoundNode f (length f.terms) (node (Lam i y') (type_number a t))
      expand_lam-sound =
          let h : IsArrow f (type_number a t) i j = IsArrow-keeps a f expand_a_f.keeps _ _ _ expand_arrow in
          let k : type_number f y' ≡ j = body.type_is ∙ applied.type_is in
          IsSoundNode-lam_of f ef.new_sound i y' (type_number a t) body.within (rw k h) (rw expand_type (IsBoundAt-reduces (tree_at e y) (tree_at f y') body.reduces 0 (type_at a i) expand_bound))

      pub IsExpansionOf-expanded : (g : Contents) (r : ℕ) → IsTerm g r (type_number a t) (lam (type_at f i) (tree_at f y')) → IsExpansionOf a g t r
      IsExpansionOf-expanded g r m =
          let q : tree_at g r ≡ lam (type_at a i) (tree_at f y') = rw expand_type at m.reads in
          let o : type_of (tree_at a t) ≡ arrow (type_at a i) (type_at a j) = type_of-tree a ab.old_sound t l ∙ ty-arrow a ab.old_sound (type_number a t) i j ty in
          let u : tree_at d x' ≡ eta_long (bound 0 (type_at a i)) = rw (index.reads, index_type) at expansion.value in
          record {
            within = m.within;
            type_is = m.type_is;
            value = q ∙ expanded-arrow (tree_at a t) (tree_at d x') (tree_at e y) (tree_at f y') (type_at a i) (type_at a j) o u expand_reads body.value;
            reduces = rw q (andthen _ _ _ expand_reduces (in_lam (type_at a i) _ _ body.reduces));
            normal = rw q body.normal;
          }

-- normal forms as the bank grows
pub IsFormOf-grows : {form : Tree → Tree} (a b c : Contents) → Grows b c → (t r : ℕ) → IsFormOf form a b t r → IsFormOf form a c t r
IsFormOf-grows a b c g t r p =
    let e : tree_at c r ≡ tree_at b r = tree-keeps b c g.old_sound g.keeps r p.within in
    let l = IsKept-length b.terms c.terms g.keeps.terms in
    let w = p.within in
    record {
      within = omega arith;
      type_is = type_number-keeps b c g.keeps r p.within ∙ p.type_is;
      value = rw e p.value;
      reduces = rw e p.reduces;
      normal = rw e p.normal;
    }

pub IsFormOf-from : {form : Tree → Tree} (a b c : Contents) → Grows a b → (t r : ℕ) → t < length a.terms → IsFormOf form b c t r → IsFormOf form a c t r
IsFormOf-from a b c g t r l p =
    let e : tree_at b t ≡ tree_at a t = tree-keeps a b g.old_sound g.keeps t l in
    record {
      within = p.within;
      type_is = p.type_is ∙ type_number-keeps a b g.keeps t l;
      value = rw (← e) p.value;
      reduces = rw (← e) p.reduces;
      normal = p.normal;
    }

pub IsNormalArgumentOf-grows : (a b c : Contents) → Grows b c → (x r : Option ℕ) → IsNormalArgumentOf a b x r → IsNormalArgumentOf a c x r
IsNormalArgumentOf-grows a b c g x r p =
    let e : argument (tree_at c) r ≡ argument (tree_at b) r = argument-same (tree_at b) (tree_at c) (length b.terms) (tree-keeps b c g.old_sound g.keeps) r p.within in
    record {
      within = IsArgumentBelow-length (length b.terms) (length c.terms) (IsKept-length b.terms c.terms g.keeps.terms) r p.within;
      type_is = argument_type-keeps b c g.keeps (length b.terms) (omega arith) r p.within ∙ p.type_is;
      value = rw e p.value;
      reduces = rw e p.reduces;
      normal = rw e p.normal;
    }

pub IsNormalArgumentOf-from : (a b c : Contents) → Grows a b → (x r : Option ℕ) → IsArgumentBelow (length a.terms) x → IsNormalArgumentOf b c x r → IsNormalArgumentOf a c x r
IsNormalArgumentOf-from a b c g x r l p =
    let e : argument (tree_at b) x ≡ argument (tree_at a) x = argument-same (tree_at a) (tree_at b) (length a.terms) (tree-keeps a b g.old_sound g.keeps) x l in
    record {
      within = p.within;
      type_is = p.type_is ∙ argument_type-keeps a b g.keeps (length a.terms) (omega arith) x l;
      value = rw (← e) p.value;
      reduces = rw (← e) p.reduces;
      normal = p.normal;
    }

pub IsTerm-normal : (a b : Contents) (t r : ℕ) → IsNormalFormOf a b t r → IsTerm b r (type_number a t) (tree_at b r)
IsTerm-normal a b t r p = record { within = p.within; type_is = p.type_is; reads = refl }

pub IsArgumentTerm-normal : (a b : Contents) (x r : Option ℕ) → IsNormalArgumentOf a b x r → IsArgumentTerm b r (argument_type a x) (argument (tree_at b) r)
IsArgumentTerm-normal a b x r p = record { within = p.within; type_is = p.type_is; reads = refl }

-- the expansion of what a term reduces to, where the definition says the same
pub IsNormalFormOf-after : (a b c : Contents) (t r u : ℕ) → type_number b r ≡ type_number a t → Reduces (tree_at a t) (tree_at b r) → normal_form (tree_at a t) ≡ eta_long (tree_at b r) → IsExpansionOf b c r u → IsNormalFormOf a c t u
IsNormalFormOf-after a b c t r u e d v p = record {
  within = p.within;
  type_is = p.type_is ∙ e;
  value = p.value ∙ sym v;
  reduces = andthen _ _ _ d p.reduces;
  normal = p.normal;
}

-- the normal form of an application, whose function's normal form is a lambda
module _ (a c : Contents) (g : Grows a c) (t f x f' x' : ℕ) (v : HasView a t (App f x)) (p : IsNormalFormOf a c f f') (q : IsNormalFormOf a c x x') where
  normal_arrow : IsArrow c (type_number c f') (type_number c x') (type_number a t)
  normal_arrow =
      let u = view_sound a g.old_sound t (App f x) v in
      rw (p.type_is, q.type_is) (IsArrow-keeps a c g.keeps _ _ _ u.0.typed)

  pub normal_function : (w : View) → HasView c f' w → (i : ℕ) × (j : ℕ) × (w ≡ Lam i j)
  normal_function w h = view-of_function c g.new_sound f' w h p.normal (type_number c x') (type_number a t) normal_arrow

  module _ (i b : ℕ) (h : HasView c f' (Lam i b)) where
    normal_types : (i ≡ type_number c x') × (type_number c b ≡ type_number a t)
    normal_types = arrow-same c (type_number c f') _ _ _ _ (view_sound c g.new_sound f' (Lam i b) h).0.typed normal_arrow

    pub normal_body : IsNormal (tree_at c b)
    normal_body = rw (tree-lam c g.new_sound f' i b h) at p.normal

    pub normal_body-within : (b < length c.terms) × (b < 2 ^ 64)
    normal_body-within =
        let u = view_sound c g.new_sound f' (Lam i b) h in
        let l = u.0.body_below in
        let m = u.1 in
        let n = g.new_sound.terms_fit in
        (omega arith, omega arith)

    pub normal_body-bound : IsBoundAt 0 (type_at c (type_number c x')) (tree_at c b)
    normal_body-bound = rw (← normal_types.0) (bound-lam c g.new_sound f' i b h)

    pub IsNormalFormOf-app : (d : Contents) (r : ℕ) → IsPut c d b 0 x' r → IsNormalFormOf a d t r
    IsNormalFormOf-app d r m =
        let e = tree-lam c g.new_sound f' i b h in
        let w : type_of (tree_at c x') ≡ type_at c i = type_of-tree c g.new_sound x' q.within ∙ ap (type_at c) (sym normal_types.0) in
        let s : Reduces (tree_at a t) (app (lam (type_at c i) (tree_at c b)) (tree_at c x')) = rw (tree-app a g.old_sound t f x v, ← e) (in_app _ _ _ _ p.reduces q.reduces) in
        record {
          within = m.within;
          type_is = m.type_is ∙ normal_types.1;
          value = rw (tree-app a g.old_sound t f x v) (normal-app (tree_at a f) (tree_at a x) (type_at c i) (tree_at c b) (tree_at c x') (tree_at d r) (sym e ∙ p.value) q.value m.value);
          reduces = andthen _ _ _ s (andthen _ _ _ (beta (type_at c i) (tree_at c b) (tree_at c x') (bound-lam c g.new_sound f' i b h) w) m.reduces);
          normal = m.normal normal_body;
        }

-- and that of a lambda
pub normal_lam-bound : (a b : Contents) → Grows a b → (t i x x' : ℕ) → HasView a t (Lam i x) → IsNormalFormOf a b x x' → IsBoundAt 0 (type_at a i) (tree_at b x')
normal_lam-bound a b g t i x x' v p = IsBoundAt-reduces (tree_at a x) (tree_at b x') p.reduces 0 (type_at a i) (bound-lam a g.old_sound t i x v)

pub IsNormalFormOf-lam : (a b d : Contents) → Grows a b → (t i x x' r : ℕ) → HasView a t (Lam i x) → IsNormalFormOf a b x x' → IsTerm d r (type_number a t) (lam (type_at a i) (tree_at b x')) → IsNormalFormOf a d t r
IsNormalFormOf-lam a b d g t i x x' r v p m = record {
  within = m.within;
  type_is = m.type_is;
  value = rw (m.reads, tree-lam a g.old_sound t i x v) (ap (lam (type_at a i)) p.value);
  reduces = rw (m.reads, tree-lam a g.old_sound t i x v) (in_lam (type_at a i) _ _ p.reduces);
  normal = rw m.reads p.normal;
}

-- and that of a logical constant, which is expanded afterwards
pub normal_logic-neutral : (a c d : Contents) (o : Op) (x y x' y' : Option ℕ) (i r : ℕ) → IsNormalArgumentOf a c x x' → IsNormalArgumentOf a c y y' → IsTerm d r i (logic (connective a o) (argument (tree_at c) x') (argument (tree_at c) y')) → IsNeutral (tree_at d r)
normal_logic-neutral a c d o x y x' y' i r p q m = rw m.reads (p.normal, q.normal, tt)

pub normal_logic-reduces : (a c d : Contents) → IsSound a → (t : ℕ) (o : Op) (x y x' y' : Option ℕ) (i r : ℕ) → HasView a t (Logic o x y) → IsNormalArgumentOf a c x x' → IsNormalArgumentOf a c y y' → IsTerm d r i (logic (connective a o) (argument (tree_at c) x') (argument (tree_at c) y')) → Reduces (tree_at a t) (tree_at d r)
normal_logic-reduces a c d s t o x y x' y' i r v p q m = rw (m.reads, tree-logic a s t o x y v) (in_logic (connective a o) _ _ _ _ p.reduces q.reduces)

pub normal_logic-value : (a c d : Contents) → IsSound a → (t : ℕ) (o : Op) (x y x' y' : Option ℕ) (i r : ℕ) → HasView a t (Logic o x y) → IsNormalArgumentOf a c x x' → IsNormalArgumentOf a c y y' → IsTerm d r i (logic (connective a o) (argument (tree_at c) x') (argument (tree_at c) y')) → normal_form (tree_at a t) ≡ eta_long (tree_at d r)
normal_logic-value a c d s t o x y x' y' i r v p q m = rw (m.reads, tree-logic a s t o x y v, p.value, q.value) refl

-- and that of a term without parts
pub IsNormalFormOf-leaf : (a c : Contents) (t u : ℕ) → normal_form (tree_at a t) ≡ eta_long (tree_at a t) → IsExpansionOf a c t u → IsNormalFormOf a c t u
IsNormalFormOf-leaf a c t u v p = IsNormalFormOf-after a a c t t u refl (nothing (tree_at a t)) v p
