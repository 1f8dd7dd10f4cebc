-- The first token with which no expression goes on.

use Rattle.std.proofs.Common.{◌≡◌, ℕ, ◌≤◌, Bool, true, false, List, [], ◌∷◌, ◌++◌, append_assoc, Some, None, Ok, Err, refl, sym, ◌∙◌, ap, subst, arith, ◌⊎◌, inl, inr}
use Rattle.std.proofs.lemmas.List.{append_cancel_right}
use Rattle.rv_list_laws.proofs.NumbersLemmas.{le_true}
use Rattle.rv_expression_laws.specs.declared.punct.Punct.TheVariants.{Close}
use Rattle.rv_expression_laws.specs.declared.operator.Frame.{Frame}
use Rattle.rv_expression_laws.specs.declared.operator.Frame.TheVariants.{Parenthesis, Prefix, Infix}
use Rattle.rv_expression_laws.specs.Grammar.{Kind, Punctuation, Number, End}
use Rattle.rv_expression_laws.specs.Lexing.{Token, is_last, is_ended}
use Rattle.rv_expression_laws.specs.SyntaxError.{SyntaxError, wrong, Read}
use Rattle.rv_expression_laws.specs.Expression.{Literal, Tree, level_of, follows, A_closing, Nothing_more, SpellsTree, IsAt, nesting, deepest, Node, Primary_node, Unary_node, Binary_node, postfix, EndsBefore, ReadsTree}
use Rattle.rv_expression_laws.specs.ExpressionAt.{Stage, Wants, Has, settle, Step, Goes, Ends, Fails, step, step_has, close, end, read_from, expression_at, after_tokens, EndsAt}
use Rattle.rv_expression_laws.specs.ExpressionFault.{unclosed}
use Rattle.rv_expression_laws.proofs.ExpressionsLemmas.{goes, ends, fails, expression_is, taken_no_last}
use Rattle.rv_expression_laws.proofs.ExpressionFoundLemmas.{expression_found}

pub ended_more : (t : Token) (ts : List Token) → is_last t.kind ≡ false → is_ended (t ∷ ts) ≡ true → is_ended ts ≡ true
ended_more t [] no_last h = absurd (cc)
ended_more t (u ∷ ts) no_last h = h

-- the last of a list is the last of its end
pub ended_behind : (front : List Token) (t : Token) (more : List Token) → is_ended (front ++ t ∷ more) ≡ is_ended (t ∷ more)
ended_behind [] t more = refl
ended_behind (x ∷ []) t more = refl
ended_behind (x ∷ y ∷ ys) t more = ended_behind (y ∷ ys) t more

no_both : (x : List Node × List Token) (w : SyntaxError) → ◌≡◌ {A = Read (List Node)} (Ok x) (Err w) → ⊥
no_both x w e = cc

same_wrong : (v w : SyntaxError) → ◌≡◌ {A = Read (List Node)} (Err v) (Err w) → v ≡ w
same_wrong v w e = cc

-- a literal, a closing parenthesis and the end, wherever they stand
placed : Kind → Token
placed k = record { kind = k; start = 0; stop = 0; line = 0 }

-- what makes what is read so far an expression: a closing parenthesis for each open one
closings : List Frame → List Token
closings [] = []
closings (Parenthesis ∷ fs) = placed (Punctuation Close) ∷ closings fs
closings (Prefix o ∷ fs) = closings fs
closings (Infix o ∷ fs) = closings fs

finish : Stage → List Token
finish (Wants fs ns) = placed (Number [] 0) ∷ closings fs
finish (Has fs ns) = closings fs

-- neither a closing parenthesis nor the end goes on with an operand
Settles : Token → Type 0
Settles t = (follows t.kind ≡ A_closing) ⊎ (follows t.kind ≡ Nothing_more)

some_close : (fs : List Frame) → (t : Token) × (ts : List Token) × (closings fs ++ placed End ∷ [] ≡ t ∷ ts) × Settles t
unfolding closings placed Settles
some_close [] = (placed End, [], refl, inr refl)
some_close (Parenthesis ∷ fs) = (placed (Punctuation Close), closings fs ++ placed End ∷ [], refl, inl refl)
some_close (Prefix o ∷ fs) = some_close fs
some_close (Infix o ∷ fs) = some_close fs

-- the tokens are taken, and the one after them is wrong with this code
pub record StuckAt (r : List ℕ → Bool) (front : List Token) (at : Token) (code : ℕ) : Type 0 where
  pub stage : Stage
  pub taken : after_tokens r (Wants [] []) front ≡ Some stage
  pub fails : step r stage at.kind ≡ Fails code

module _ (r : List ℕ → Bool) where
  -- the tokens that are taken, and then the others
  pub onward : (ts us : List Token) (s u : Stage) → after_tokens r s ts ≡ Some u → read_from r s (ts ++ us) ≡ read_from r u us
  onward [] us s u e = let same : s ≡ u = cc in ap (λ (v : Stage). read_from r v us) same
  onward (t ∷ ts) us s u e = go (step r s t.kind) refl e (λ (v : Stage). onward ts us v u)
    where
      go : (p : Step) → step r s t.kind ≡ p → elim p [ Goes v ↦ after_tokens r v ts | Ends ns ↦ None | Fails code ↦ None ] ≡ Some u
          → ((v : Stage) → after_tokens r v ts ≡ Some u → read_from r v (ts ++ us) ≡ read_from r u us) → read_from r s (t ∷ (ts ++ us)) ≡ read_from r u us
      go (Goes v) is e further = goes r s v t (ts ++ us) is ∙ further v e
      go (Ends ns) is e further = absurd (cc)
      go (Fails code) is e further = absurd (cc)

  alike : (s u : Stage) (t : Token) (ts : List Token) → step r s t.kind ≡ step r u t.kind → read_from r s (t ∷ ts) ≡ read_from r u (t ∷ ts)
  alike s u t ts e = rw (e, read_from) refl

  -- an operator whose operand is complete, before a token that settles it
  settled_first : (f : Frame) (fs : List Frame) (ns ms : List Node) (t : Token) (ts : List Token) → settle 0 (f ∷ fs) ns ≡ settle 0 fs ms → Settles t
      → read_from r (Has (f ∷ fs) ns) (t ∷ ts) ≡ read_from r (Has fs ms) (t ∷ ts)
  unfolding Settles
  settled_first f fs ns ms t ts same (inl e) =
      alike (Has (f ∷ fs) ns) (Has fs ms) t ts
      (ap (step_has t.kind (f ∷ fs) ns) e ∙ ap (λ (s : List Frame × List Node). close s.0 s.1) same ∙ sym (ap (step_has t.kind fs ms) e))
  settled_first f fs ns ms t ts same (inr e) =
      alike (Has (f ∷ fs) ns) (Has fs ms) t ts
      (ap (step_has t.kind (f ∷ fs) ns) e ∙ ap (λ (s : List Frame × List Node). end (unclosed t.kind) s.0 s.1) same ∙ sym (ap (step_has t.kind fs ms) e))

  settled_close : (f : Frame) (fs : List Frame) (ns ms : List Node) → settle 0 (f ∷ fs) ns ≡ settle 0 fs ms
      → read_from r (Has (f ∷ fs) ns) (closings fs ++ placed End ∷ []) ≡ read_from r (Has fs ms) (closings fs ++ placed End ∷ [])
  settled_close f fs ns ms same =
      let c = some_close fs in rw (c.2) (settled_first f fs ns ms c.0 c.1 same c.3)

  -- what is read so far is an expression, once it is finished
  closed : (fs : List Frame) (ns : List Node) → (ms : List Node) × (read_from r (Has fs ns) (closings fs ++ placed End ∷ []) ≡ Ok (ms, placed End ∷ []))
  unfolding closings placed
  closed [] ns = (ns, refl)
  closed (Parenthesis ∷ fs) ns = closed fs ns
  closed (Prefix o ∷ fs) ns =
      let c = closed fs (ns ++ Unary_node o ∷ []) in (c.0, settled_close (Prefix o) fs ns (ns ++ Unary_node o ∷ []) refl ∙ c.1)
  closed (Infix o ∷ fs) ns =
      let c = closed fs (ns ++ Binary_node o ∷ []) in (c.0, settled_close (Infix o) fs ns (ns ++ Binary_node o ∷ []) (rw (le_true 0 (level_of o) (omega arith)) refl) ∙ c.1)

  finished : (s : Stage) → (ms : List Node) × (read_from r s (finish s ++ placed End ∷ []) ≡ Ok (ms, placed End ∷ []))
  unfolding finish placed
  finished (Wants fs ns) = closed fs (ns ++ Primary_node (Literal 0) ∷ [])
  finished (Has fs ns) = closed fs ns

  -- tokens that are taken can go on as an expression
  pub can_go_on : (front : List Token) (s : Stage) → after_tokens r (Wants [] []) front ≡ Some s
      → (more : List Token) × (tree : Tree) × SpellsTree r tree (front ++ more) × IsAt 0 tree × (nesting tree ≤ deepest)
  unfolding expression_at
  can_go_on front s e =
      let f = finished s in
      let found = expression_found r (front ++ (finish s ++ placed End ∷ [])) f.0 (placed End ∷ []) (onward front (finish s ++ placed End ∷ []) (Wants [] []) s e ∙ f.1) in
      let reads = found.1 in
      let same : front ++ finish s ≡ reads.tokens = append_cancel_right (front ++ finish s) reads.tokens (placed End ∷ []) (append_assoc front (finish s) (placed End ∷ []) ∙ reads.whole) in
      (finish s, found.0, subst (SpellsTree r found.0) (sym same) reads.spelled, reads.ordered, reads.within)

  -- the reading is wrong at that token, whatever stands after it
  pub stuck_there : (front : List Token) (at : Token) (code : ℕ) (more : List Token) → StuckAt r front at code → expression_at r (front ++ at ∷ more) ≡ Err (wrong at code)
  unfolding expression_at
  stuck_there front at code more f = onward front (at ∷ more) (Wants [] []) f.stage f.taken ∙ fails r f.stage code at more f.fails

  pub ends_there : (front : List Token) (at : Token) (nodes : List Node) (more : List Token) → EndsAt r front at nodes → expression_at r (front ++ at ∷ more) ≡ Ok (nodes, at ∷ more)
  unfolding expression_at
  ends_there front at nodes more f = onward front (at ∷ more) (Wants [] []) f.stage f.taken ∙ ends r f.stage nodes at more f.ends

  -- so no expression stands there
  pub never_read : (front : List Token) (at : Token) (code : ℕ) (more : List Token) → StuckAt r front at code
      → (tree : Tree) (rest : List Token) → ReadsTree r (front ++ at ∷ more) tree rest → ⊥
  never_read front at code more f tree rest reads =
      no_both (postfix tree, rest) (wrong at code) (sym (expression_is r (front ++ at ∷ more) tree rest reads) ∙ stuck_there front at code more f)

  -- and none goes on with that token
  pub stuck_stops : (front : List Token) (at : Token) (code : ℕ) (more : List Token) → StuckAt r front at code
      → (tree : Tree) → SpellsTree r tree (front ++ at ∷ more) → IsAt 0 tree → nesting tree ≤ deepest → ⊥
  unfolding placed
  stuck_stops front at code more f tree spelled ordered within =
      never_read front at code (more ++ placed End ∷ []) f tree (placed End ∷ [])
      (record { tokens = front ++ at ∷ more; whole = sym (append_assoc front (at ∷ more) (placed End ∷ [])); spelled = spelled; ordered = ordered; within = within; ends = the_end })
    where
      the_end : EndsBefore (placed End ∷ [])
      the_end = (placed End, [], refl, inl refl)

  -- before the end of an expression stands the expression alone
  pub whole_there : (front : List Token) (at : Token) (nodes : List Node) → EndsAt r front at nodes
      → (tree : Tree) × SpellsTree r tree front × IsAt 0 tree × (nesting tree ≤ deepest) × (nodes ≡ postfix tree)
  whole_there front at nodes f =
      let found = expression_found r (front ++ at ∷ []) nodes (at ∷ []) (ends_there front at nodes [] f) in
      let reads = found.1 in
      let same : front ≡ reads.tokens = append_cancel_right front reads.tokens (at ∷ []) reads.whole in
      (found.0, subst (SpellsTree r found.0) (sym same) reads.spelled, reads.ordered, reads.within, found.2)

  -- each expression that stands there ends there
  pub ends_alike : (front : List Token) (at : Token) (nodes : List Node) (more : List Token) → EndsAt r front at nodes
      → (tree : Tree) (rest : List Token) → ReadsTree r (front ++ at ∷ more) tree rest → (rest ≡ at ∷ more) × (nodes ≡ postfix tree)
  ends_alike front at nodes more f tree rest reads =
      let both : (postfix tree, rest) ≡ (nodes, at ∷ more) = cc (sym (expression_is r (front ++ at ∷ more) tree rest reads) ∙ ends_there front at nodes more f) in
      (ap (λ (q : List Node × List Token). q.1) both, sym (ap (λ (q : List Node × List Token). q.0) both))

  -- one token more at the front
  pub taken_first : (s u : Stage) (t : Token) (front : List Token) → step r s t.kind ≡ Goes u → after_tokens r s (t ∷ front) ≡ after_tokens r u front
  taken_first s u t front e = rw (e, after_tokens) refl

  -- where a reading from a stage on is wrong
  record WrongFrom (s : Stage) (ts : List Token) (w : SyntaxError) : Type 0 where
    pub front : List Token
    pub at : Token
    pub more : List Token
    pub code : ℕ
    pub stage : Stage
    pub whole : ts ≡ front ++ at ∷ more
    pub taken : after_tokens r s front ≡ Some stage
    pub fails : step r stage at.kind ≡ Fails code
    pub is : w ≡ wrong at code

  wrong_from : (ts : List Token) (s : Stage) (w : SyntaxError) → is_ended ts ≡ true → read_from r s ts ≡ Err w → WrongFrom s ts w
  wrong_from [] s w end e = absurd (cc)
  wrong_from (t ∷ ts) s w end e = go (step r s t.kind) refl (λ (u : Stage). wrong_from ts u w)
    where
      go : (p : Step) → step r s t.kind ≡ p → ((u : Stage) → is_ended ts ≡ true → read_from r u ts ≡ Err w → WrongFrom u ts w) → WrongFrom s (t ∷ ts) w
      go (Goes u) is further =
          let f = further u (ended_more t ts (taken_no_last r s u t.kind is) end) (sym (goes r s u t ts is) ∙ e) in
          record {
            front = t ∷ f.front;
            at = f.at;
            more = f.more;
            code = f.code;
            stage = f.stage;
            whole = ap (λ (l : List Token). t ∷ l) f.whole;
            taken = taken_first s u t f.front is ∙ f.taken;
            fails = f.fails;
            is = f.is;
          }
      go (Ends ns) is further = absurd (no_both (ns, t ∷ ts) w (sym (ends r s ns t ts is) ∙ e))
      go (Fails code) is further =
          record {
            front = [];
            at = t;
            more = ts;
            code = code;
            stage = s;
            whole = refl;
            taken = refl;
            fails = is;
            is = sym (same_wrong (wrong t code) w (sym (fails r s code t ts is) ∙ e));
          }

  -- a reading is wrong at a token
  pub stuck_found : (ts : List Token) (w : SyntaxError) → is_ended ts ≡ true → expression_at r ts ≡ Err w
      → (front : List Token) × (at : Token) × (more : List Token) × (code : ℕ) × (ts ≡ front ++ at ∷ more) × StuckAt r front at code × (w ≡ wrong at code)
  unfolding expression_at
  stuck_found ts w end e =
      let f = wrong_from ts (Wants [] []) w end e in
      (f.front, f.at, f.more, f.code, f.whole, record { stage = f.stage; taken = f.taken; fails = f.fails }, f.is)

  -- where a reading from a stage on ends
  record EndFrom (s : Stage) (ts : List Token) (nodes : List Node) (rest : List Token) : Type 0 where
    pub front : List Token
    pub at : Token
    pub more : List Token
    pub stage : Stage
    pub whole : ts ≡ front ++ at ∷ more
    pub taken : after_tokens r s front ≡ Some stage
    pub ends : step r stage at.kind ≡ Ends nodes
    pub is : rest ≡ at ∷ more

  end_from : (ts : List Token) (s : Stage) (nodes : List Node) (rest : List Token) → read_from r s ts ≡ Ok (nodes, rest) → EndFrom s ts nodes rest
  end_from [] s nodes rest e = absurd (cc)
  end_from (t ∷ ts) s nodes rest e = go (step r s t.kind) refl (λ (u : Stage). end_from ts u nodes rest)
    where
      go : (p : Step) → step r s t.kind ≡ p → ((u : Stage) → read_from r u ts ≡ Ok (nodes, rest) → EndFrom u ts nodes rest) → EndFrom s (t ∷ ts) nodes rest
      go (Goes u) is further =
          let f = further u (sym (goes r s u t ts is) ∙ e) in
          record {
            front = t ∷ f.front;
            at = f.at;
            more = f.more;
            stage = f.stage;
            whole = ap (λ (l : List Token). t ∷ l) f.whole;
            taken = taken_first s u t f.front is ∙ f.taken;
            ends = f.ends;
            is = f.is;
          }
      go (Ends ns) is further =
          let both : (ns, t ∷ ts) ≡ (nodes, rest) = cc (sym (ends r s ns t ts is) ∙ e) in
          record {
            front = [];
            at = t;
            more = ts;
            stage = s;
            whole = refl;
            taken = refl;
            ends = is ∙ ap (λ (q : List Node × List Token). Ends q.0) both;
            is = sym (ap (λ (q : List Node × List Token). q.1) both);
          }
      go (Fails code) is further = absurd (no_both (nodes, rest) (wrong t code) (sym e ∙ fails r s code t ts is))

  -- a reading ends before a token
  pub end_at : (ts : List Token) (nodes : List Node) (rest : List Token) → expression_at r ts ≡ Ok (nodes, rest)
      → (front : List Token) × (at : Token) × (more : List Token) × (ts ≡ front ++ at ∷ more) × (rest ≡ at ∷ more) × EndsAt r front at nodes
  unfolding expression_at
  end_at ts nodes rest e =
      let f = end_from ts (Wants [] []) nodes rest e in
      (f.front, f.at, f.more, f.whole, f.is, record { stage = f.stage; taken = f.taken; ends = f.ends })
