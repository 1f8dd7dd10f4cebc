-- What spells an expression is read as it.

use Rattle.std.proofs.Common.{◌≡◌, ℕ, suc, ◌+◌, ◌<◌, ◌≤◌, Bool, false, List, [], ◌∷◌, ◌++◌, refl, ◌∙◌, ap, append_assoc, arith, Ok, Err, inl, inr}
use Rattle.rv_list_laws.proofs.NumbersLemmas.{le_true, le_false, lt_true}
use Rattle.rv_expression_laws.specs.declared.operator.BinaryOperator.{BinaryOperator}
use Rattle.rv_expression_laws.specs.declared.operator.BinaryOperator.TheVariants.{Multiply, Divide, Remainder, ShiftLeft, ShiftRight, Or, And, ExclusiveOr, Add, Subtract}
use Rattle.rv_expression_laws.specs.declared.operator.Frame.{Frame}
use Rattle.rv_expression_laws.specs.declared.operator.Frame.TheVariants.{Parenthesis, Prefix, Infix}
use Rattle.rv_expression_laws.specs.Grammar.{Kind, Bad_byte, Bad_token, End}
use Rattle.rv_expression_laws.specs.Lexing.{Token, is_last}
use Rattle.rv_expression_laws.specs.Expression.{Tree, Leaf, Unary, Paren, Binary, level_of, begins, follows, No_operand, Nothing_more, SpellsTree, IsAt, nesting, deepest, Node, Primary_node, Unary_node, Binary_node, postfix, EndsBefore, ReadsTree}
use Rattle.rv_expression_laws.specs.ExpressionAt.{Stage, Wants, Has, depth, settle, Goes, Ends, Fails, step, step_wants, step_has, end, read_from, expression_at}
use Rattle.rv_expression_laws.specs.ExpressionFault.{unclosed}
use Rattle.rv_expression_laws.specs.SyntaxError.{wrong}

pub level_small : (o : BinaryOperator) → level_of o < 3
level_small Multiply = omega arith
level_small Divide = omega arith
level_small Remainder = omega arith
level_small ShiftLeft = omega arith
level_small ShiftRight = omega arith
level_small Or = omega arith
level_small And = omega arith
level_small ExclusiveOr = omega arith
level_small Add = omega arith
level_small Subtract = omega arith

-- what may stand at a level may stand at each looser one
pub looser : (t : Tree) (l m : ℕ) → l ≤ m → IsAt m t → IsAt l t
looser (Leaf p) l m le at = tt
looser (Unary o x) l m le at = at
looser (Paren x) l m le at = at
looser (Binary o x y) l m le at = (omega (arith, at.0), at.1, at.2)

-- what waits for an operand, and the nodes, once a tree is passed
after : Tree → List Frame → List Node → List Frame × List Node
after (Leaf p) fs ns = (fs, ns ++ Primary_node p ∷ [])
after (Unary o x) fs ns = after x (Prefix o ∷ fs) ns
after (Paren x) fs ns = (fs, ns ++ postfix x)
after (Binary o x y) fs ns = after y (Infix o ∷ fs) (ns ++ postfix x)

-- then the operators that bind as tight as its level take their operands
settled : (t : Tree) (l : ℕ) (fs : List Frame) (ns : List Node) → IsAt l t → l ≤ 3
    → settle l (after t fs ns).0 (after t fs ns).1 ≡ settle l fs (ns ++ postfix t)
unfolding after
settled (Leaf p) l fs ns at le = refl
settled (Unary o x) l fs ns at le =
    settled x l (Prefix o ∷ fs) ns (looser x l 3 le at) le
    ∙ ap (settle l fs) (append_assoc ns (postfix x) (Unary_node o ∷ []))
settled (Paren x) l fs ns at le = refl
settled (Binary o x y) l fs ns at le =
    settled y l (Infix o ∷ fs) (ns ++ postfix x) (looser y l (suc (level_of o)) (omega (arith, at.0)) at.2) le
    ∙ rw (le_true l (level_of o) at.0)
    (ap (settle l fs) (append_assoc (ns ++ postfix x) (postfix y) (Binary_node o ∷ []) ∙ append_assoc ns (postfix x) (postfix y ++ Binary_node o ∷ [])))

-- nothing that waits takes its operand before an operator of this level or a tighter one
Free : ℕ → List Frame → Type 0
Free l fs = (o : BinaryOperator) (ns : List Node) → l ≤ level_of o → settle (level_of o) fs ns ≡ (fs, ns)

free_sign : (fs : List Frame) → Free 3 fs
unfolding Free
free_sign fs o ns le = absurd (omega (arith, level_small o, le))

free_tighter : (l m : ℕ) (fs : List Frame) → l ≤ m → Free l fs → Free m fs
unfolding Free
free_tighter l m fs le free o ns lo = free o ns (omega (arith, lo))

free_open : (l : ℕ) (fs : List Frame) → Free l (Parenthesis ∷ fs)
unfolding Free
free_open l fs o ns le = refl

free_none : (l : ℕ) → Free l []
unfolding Free
free_none l o ns le = refl

free_infix : (o : BinaryOperator) (fs : List Frame) → Free (suc (level_of o)) (Infix o ∷ fs)
unfolding Free
free_infix o fs p ns le = rw (le_false (level_of p) (level_of o) (omega (arith, le))) refl

module _ (r : List ℕ → Bool) where
  -- one token
  pub goes : (s u : Stage) (t : Token) (ts : List Token) → step r s t.kind ≡ Goes u → read_from r s (t ∷ ts) ≡ read_from r u ts
  goes s u t ts e = rw (e, read_from) refl

  pub ends : (s : Stage) (ns : List Node) (t : Token) (ts : List Token) → step r s t.kind ≡ Ends ns → read_from r s (t ∷ ts) ≡ Ok (ns, t ∷ ts)
  ends s ns t ts e = rw (e, read_from) refl

  pub fails : (s : Stage) (code : ℕ) (t : Token) (ts : List Token) → step r s t.kind ≡ Fails code → read_from r s (t ∷ ts) ≡ Err (wrong t code)
  fails s code t ts e = rw (e, read_from) refl

  passed : (t : Tree) (l : ℕ) (fs : List Frame) (ns : List Node) (ts rest : List Token) → IsAt l t → SpellsTree r t ts → Free l fs → l ≤ 3 → depth fs + nesting t ≤ deepest
      → read_from r (Wants fs ns) (ts ++ rest) ≡ read_from r (Has (after t fs ns).0 (after t fs ns).1) rest
  unfolding after Free
  passed (Leaf p) l fs ns ts rest at (t, e, b) free small within =
      rw e (goes (Wants fs ns) (Has fs (ns ++ Primary_node p ∷ [])) t rest (rw b refl))
  passed (Unary o x) l fs ns ts rest at (t, us, e, b, s) free small within =
      rw e
      (goes (Wants fs ns) (Wants (Prefix o ∷ fs) ns) t (us ++ rest) (rw (b, lt_true (depth fs) 64 (omega (arith, within))) refl)
      ∙ passed x 3 (Prefix o ∷ fs) ns us rest at s (free_sign (Prefix o ∷ fs)) (omega arith) (omega (arith, within)))
  passed (Paren x) l fs ns ts rest at (t, u, us, e, b, c, s) free small within =
      rw (e, append_assoc us (u ∷ []) rest)
      (goes (Wants fs ns) (Wants (Parenthesis ∷ fs) ns) t (us ++ (u ∷ rest)) (rw (b, lt_true (depth fs) 64 (omega (arith, within))) refl)
      ∙ passed x 0 (Parenthesis ∷ fs) ns us (u ∷ rest) at s (free_open 0 fs) (omega arith) (omega (arith, within))
      ∙ goes (Has (after x (Parenthesis ∷ fs) ns).0 (after x (Parenthesis ∷ fs) ns).1) (Has fs (ns ++ postfix x)) u rest (rw (c, settled x 0 (Parenthesis ∷ fs) ns at (omega arith)) refl))
  passed (Binary o x y) l fs ns ts rest at (us, vs, t, e, b, sx, sy) free small within =
      rw (e, append_assoc us (t ∷ vs) rest)
      (passed x (level_of o) fs ns us (t ∷ (vs ++ rest)) at.1 sx (free_tighter l (level_of o) fs at.0 free) (omega (arith, level_small o)) (omega (arith, within))
      ∙ goes (Has (after x fs ns).0 (after x fs ns).1) (Wants (Infix o ∷ fs) (ns ++ postfix x)) t (vs ++ rest) (rw (b, settled x (level_of o) fs ns at.1 (omega (arith, level_small o)), free o (ns ++ postfix x) at.0) refl)
      ∙ passed y (suc (level_of o)) (Infix o ∷ fs) (ns ++ postfix x) vs rest at.2 sy (free_infix o fs) (omega (arith, level_small o)) (omega (arith, within)))

  -- the end of an expression, where no parenthesis is open
  ended : (fs : List Frame) (ns ms : List Node) (ts : List Token) → settle 0 fs ns ≡ ([], ms) → EndsBefore ts → read_from r (Has fs ns) ts ≡ Ok (ms, ts)
  ended fs ns ms ts e (t, us, w, inl f) = rw w (ends (Has fs ns) ms t us (rw (f, e) refl))
  ended fs ns ms ts e (t, us, w, inr f) = rw w (ends (Has fs ns) ms t us (rw (f, e) refl))

  pub expression_is : (ts : List Token) (t : Tree) (rest : List Token) → ReadsTree r ts t rest → expression_at r ts ≡ Ok (postfix t, rest)
  unfolding expression_at
  expression_is ts t rest reads =
      ap (read_from r (Wants [] [])) reads.whole
      ∙ passed t 0 [] [] reads.tokens rest reads.ordered reads.spelled (free_none 0) (omega arith) (omega (arith, reads.within))
      ∙ ended _ _ (postfix t) rest (settled t 0 [] [] reads.ordered (omega arith)) reads.ends

  -- a token that is taken is not the last
  pub end_goes : (code : ℕ) (fs : List Frame) (ns : List Node) (u : Stage) → end code fs ns ≡ Goes u → ⊥
  end_goes code [] ns u e = cc
  end_goes code (f ∷ fs) ns u e = cc

  no_step : (s u : Stage) (k : Kind) (code : ℕ) → begins r k ≡ No_operand code → follows k ≡ Nothing_more → step r s k ≡ Goes u → ⊥
  no_step (Wants fs ns) u k code b f e = let g : step_wants fs ns (No_operand code) ≡ Goes u = rw b at e in absurd (cc g)
  no_step (Has fs ns) u k code b f e = let g : step_has k fs ns Nothing_more ≡ Goes u = rw f at e in end_goes (unclosed k) (settle 0 fs ns).0 (settle 0 fs ns).1 u g

  pub taken_no_last : (s u : Stage) (k : Kind) → step r s k ≡ Goes u → is_last k ≡ false
  taken_no_last s u Bad_byte e = absurd (no_step s u Bad_byte 1 refl refl e)
  taken_no_last s u Bad_token e = absurd (no_step s u Bad_token 2 refl refl e)
  taken_no_last s u End e = absurd (no_step s u End 7 refl refl e)
  taken_no_last s u _ e = refl
