-- The variables of a binder, one after the other.
use Rattle.std.proofs.Common.{◌≡◌, ℕ, zero, suc, ◌-◌, ◌<◌, ◌≤◌, true, false, List, [], ◌∷◌, ◌++◌, length, refl, ap, sym, ◌∙◌, append_assoc, arith}
use Rattle.std.specs.Prelude.{Ok, Err}
use Rattle.std.proofs.lemmas.List.{length-drop, length-map}
use Rattle.leo_lex.specs.declared.mark.Mark.TheVariants.{Comma}
use Rattle.leo_syntax.specs.declared.refusal.ReadRefusal.{ReadRefusal}
use Rattle.leo_syntax.specs.declared.refusal.ReadRefusal.TheVariants.{Syntax}
use Rattle.leo_syntax.specs.declared.source.Source.{Source}
use Rattle.leo_syntax.specs.declared.tree.Variable.{Variable}
use Rattle.leo_syntax.specs.Lexemes.{Ahead}
use Rattle.leo_syntax.specs.Grammar.{sees}
use Rattle.leo_syntax.specs.Reading as read
use Rattle.leo_syntax.specs.Reading.{Read, and_then, rest}
use Rattle.leo_syntax.specs.Source.{ahead, end_of}

abbrev pub prefixed : List Variable → Read (List Variable) → Read (List Variable)
prefixed found r = and_then r (λ vs after. Ok (found ++ vs, after))

pub ahead_length : (s : Source) (at : ℕ) → length (ahead s at) ≡ length s.tokens.now - at
unfolding ahead
ahead_length s at = simp length-map (length-drop at s.tokens.now)

-- what was read up to a place
pub record Going (s : Source) (left start at : ℕ) (found : List Variable) : Type 0 where
  pub fuel : ℕ
  pub enough : length (ahead s at) ≤ fuel
  pub same : read.variables (length (ahead s start)) (end_of s) left (ahead s start) ≡ prefixed found (read.variables fuel (end_of s) left (ahead s at))
  pub forward : start ≤ at

pub going_start : (s : Source) (left start : ℕ) → Going s left start start []
going_start s left start = record { fuel = length (ahead s start); enough = omega arith; same = itself (read.variables (length (ahead s start)) (end_of s) left (ahead s start)); forward = omega arith }
  where
    itself : (r : Read (List Variable)) → r ≡ prefixed [] r
    itself (Ok p) = refl
    itself (Err e) = refl

no_variable : (end left : ℕ) → read.variable end left [] ≡ Err (Syntax end)
unfolding read.variable read.said_at read.refusal_at
no_variable end left = refl

none_ahead : (ls : Ahead) → length ls ≤ 0 → ls ≡ []
none_ahead [] h = refl
none_ahead (l ∷ ls) h = absurd (omega arith)

refused_by : (n end left : ℕ) (ls : Ahead) (e : ReadRefusal) → length ls ≤ n → read.variable end left ls ≡ Err e → read.variables n end left ls ≡ Err e
unfolding read.variables
refused_by zero end left ls e h r = let f : read.variable end left ls ≡ Err (Syntax end) = ap (read.variable end left) (none_ahead ls h) ∙ no_variable end left in cc
refused_by (suc n) end left ls e h r = rw r refl

last_by : (n end left : ℕ) (ls l1 : Ahead) (v : Variable) → length ls ≤ n → read.variable end left ls ≡ Ok (v, l1) → sees Comma l1 ≡ false → read.variables n end left ls ≡ Ok (v ∷ [], l1)
unfolding read.variables
last_by zero end left ls l1 v h r c = let f : read.variable end left ls ≡ Err (Syntax end) = ap (read.variable end left) (none_ahead ls h) ∙ no_variable end left in absurd cc
last_by (suc n) end left ls l1 v h r c = rw (r, c) refl

next_by : (n end left : ℕ) (ls l1 : Ahead) (v : Variable) → read.variable end left ls ≡ Ok (v, l1) → sees Comma l1 ≡ true → read.variables (suc n) end left ls ≡ and_then (read.variables n end left (rest l1)) (λ vs after. Ok (v ∷ vs, after))
unfolding read.variables
next_by n end left ls l1 v r c = rw (r, c) refl

regroup : (found : List Variable) (v : Variable) (r : Read (List Variable)) → prefixed found (and_then r (λ vs after. Ok (v ∷ vs, after))) ≡ prefixed (found ++ v ∷ []) r
regroup found v (Ok p) = ap (λ xs. Ok (xs, p.1)) (sym (append_assoc found (v ∷ []) p.0))
regroup found v (Err e) = refl

pub going_refused : (s : Source) (left start at : ℕ) (found : List Variable) (e : ReadRefusal) → read.variable (end_of s) left (ahead s at) ≡ Err e → Going s left start at found → read.variables (length (ahead s start)) (end_of s) left (ahead s start) ≡ Err e
going_refused s left start at found e r h = h.same ∙ ap (prefixed found) (refused_by h.fuel (end_of s) left (ahead s at) e h.enough r)

pub going_last : (s : Source) (left start at : ℕ) (found : List Variable) (v : Variable) (l1 : Ahead) → read.variable (end_of s) left (ahead s at) ≡ Ok (v, l1) → sees Comma l1 ≡ false → Going s left start at found → read.variables (length (ahead s start)) (end_of s) left (ahead s start) ≡ Ok (found ++ v ∷ [], l1)
going_last s left start at found v l1 r c h = h.same ∙ ap (prefixed found) (last_by h.fuel (end_of s) left (ahead s at) l1 v h.enough r c)

going_by : (s : Source) (left start at next : ℕ) (found : List Variable) (v : Variable) (l1 : Ahead) (fuel : ℕ) → at < length s.tokens.now → at < next → read.variable (end_of s) left (ahead s at) ≡ Ok (v, l1) → sees Comma l1 ≡ true → ahead s next ≡ rest l1
    → length (ahead s at) ≤ fuel → read.variables (length (ahead s start)) (end_of s) left (ahead s start) ≡ prefixed found (read.variables fuel (end_of s) left (ahead s at)) → start ≤ at → Going s left start next (found ++ v ∷ [])
going_by s left start at next found v l1 zero within further r c a enough same forward = absurd (omega (arith, ahead_length s at))
going_by s left start at next found v l1 (suc n) within further r c a enough same forward = record {
  fuel = n;
  enough = omega (arith, ahead_length s at, ahead_length s next);
  same = same ∙ ap (prefixed found) (next_by n (end_of s) left (ahead s at) l1 v r c) ∙ regroup found v (read.variables n (end_of s) left (rest l1)) ∙ ap (λ ls. prefixed (found ++ v ∷ []) (read.variables n (end_of s) left ls)) (sym a);
  forward = omega arith;
}

pub going_step : (s : Source) (left start at next : ℕ) (found : List Variable) (v : Variable) (l1 : Ahead) → at < length s.tokens.now → at < next → read.variable (end_of s) left (ahead s at) ≡ Ok (v, l1) → sees Comma l1 ≡ true → ahead s next ≡ rest l1 → Going s left start at found → Going s left start next (found ++ v ∷ [])
going_step s left start at next found v l1 within further r c a h = going_by s left start at next found v l1 h.fuel within further r c a h.enough h.same h.forward
