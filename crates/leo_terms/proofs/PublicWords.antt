-- The words of public contracts, opened and made.
use Rattle.std.proofs.Common.{ℕ, ◌≡◌, ◌≤◌, List, length, Result, IfOk, refl, arith}
use Rattle.std.proofs.lemmas.Option.{slice_get_within}
use Rattle.std.proofs.lemmas.Result.{IfOk-weaker}
use Rattle.leo_terms.specs.Contents.{Contents, IsSound, Soundness, IsBank, Grows, Growth, Extends, AddsShared, Addition, IsAdded, IsSoundView, IsTypedView}
use Rattle.leo_terms.specs.declared.node.View.{View}
use Rattle.leo_terms.specs.declared.node.View.TheVariants.{Var, Bound, Sym, App, Lam, Logic}
use Rattle.leo_terms.specs.Tree.{Tree, lifted, raised, substituted, put_in}
use Rattle.leo_terms.specs.Normal.{IsNormalFormOf, Normality, HasNormalForm}
use Rattle.leo_terms.proofs.Growth.{IsKept-length}

two_types : (c : Contents) → IsSound c → 2 ≤ length c.types
two_types c s = let l = slice_get_within c.types 1 _ s.thing_second in omega arith

pub is_bank : (c : Contents) → IsSound c → IsBank c
unfolding Soundness
is_bank c s = record { soundness = s; base_types = two_types c s }

pub sound : (c : Contents) → IsBank c → IsSound c
unfolding Soundness
sound c b = b.soundness

pub extends : (c d : Contents) → Grows c d → Extends c d
unfolding Growth
extends c d g = record {
  growth = g;
  base_types = two_types c g.old_sound;
  types_more = IsKept-length c.types d.types g.keeps.types;
  symbols_more = IsKept-length c.symbols d.symbols g.keeps.symbols;
  terms_more = IsKept-length c.terms d.terms g.keeps.terms;
}

pub grown : (c d : Contents) → Extends c d → Grows c d
unfolding Growth
grown c d e = e.growth

pub is_added : {X : Type 0} (old new : List X) (x : X) (n : ℕ) → AddsShared old new x n → IsAdded old new x n
unfolding Addition
is_added old new x n a = record { stored = a.stored; addition = a }

pub added : {X : Type 0} (old new : List X) (x : X) (n : ℕ) → IsAdded old new x n → AddsShared old new x n
unfolding Addition
added old new x n a = a.addition

pub if_added : {X E : Type 0} (r : Result ℕ E) (old new : List X) (x : X) → IfOk r (AddsShared old new x) → IfOk r (IsAdded old new x)
if_added r old new x = IfOk-weaker r (AddsShared old new x) (IsAdded old new x) (is_added old new x)

pub has_normal_form : (old new : Contents) (t r : ℕ) → IsNormalFormOf old new t r → HasNormalForm old new t r
unfolding Normality
has_normal_form old new t r n = record { within = n.within; type_is = n.type_is; value = n.value; normality = n }

pub normal_form : (old new : Contents) (t r : ℕ) → HasNormalForm old new t r → IsNormalFormOf old new t r
unfolding Normality
normal_form old new t r n = n.normality

pub raised-is : (by : ℕ) (t : Tree) → raised by t ≡ lifted 0 by t
unfolding raised
raised-is by t = refl

pub put_in-is : (given : List Tree) (t : Tree) → put_in given t ≡ substituted given 0 t
unfolding put_in
put_in-is given t = refl

pub typed_view : (c : Contents) (n : ℕ) (v : View) (i : ℕ) → IsSoundView c n v i → IsTypedView c n v i
typed_view c n (Var v) i h = h
typed_view c n (Bound b) i h = h
typed_view c n (Sym s) i h = h
typed_view c n (App f x) i h = h
typed_view c n (Lam a t) i h = record { body_below = h.body_below; typed = h.typed }
typed_view c n (Logic o x y) i h = h
