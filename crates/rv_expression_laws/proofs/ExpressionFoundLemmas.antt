-- What is read is an expression: the tokens passed so far, as trees that wait for an operand.

use Rattle.std.proofs.Common.{◌≡◌, ℕ, suc, ◌+◌, ◌<◌, ◌≤◌, Bool, true, false, cond, nat_le, nat_lt, List, [], ◌∷◌, ◌++◌, refl, sym, ◌∙◌, ap, subst, append_assoc, arith, Ok, ◌⊎◌, inl, inr}
use Rattle.std.proofs.lemmas.Bool.{ltb-true, leb-true, leb-false}
use Rattle.rv_list_laws.proofs.NumbersLemmas.{le_true}
use Rattle.rv_expression_laws.specs.declared.operator.BinaryOperator.{BinaryOperator}
use Rattle.rv_expression_laws.specs.declared.operator.Frame.{Frame}
use Rattle.rv_expression_laws.specs.declared.operator.Frame.TheVariants.{Parenthesis, Prefix, Infix}
use Rattle.rv_expression_laws.specs.Lexing.{Token}
use Rattle.rv_expression_laws.specs.Expression.{Tree, Leaf, Unary, Paren, Binary, level_of, Begin, Follow, begins, follows, A_primary, A_prefix, An_opening, No_operand, An_operator, A_closing, A_comparison, Nothing_more, SpellsTree, IsAt, nesting, deepest, Node, Primary_node, Unary_node, Binary_node, postfix, ReadsTree}
use Rattle.rv_expression_laws.specs.ExpressionAt.{Stage, Wants, Has, depth, binds, settle, deeper, Step, Goes, Ends, Fails, step, step_wants, step_has, close, end, read_from, expression_at}
use Rattle.rv_expression_laws.specs.ExpressionFault.{unclosed}
use Rattle.rv_expression_laws.proofs.ExpressionsLemmas.{level_small, looser, goes, ends, fails}

-- the last frame takes no operand before an operator of this level does
abbrev Under : ℕ → List Frame → Type 0
Under l [] = Unit {0}
Under l (f ∷ fs) = binds l f ≡ false

-- the tree may be the operand of the last frame
abbrev Fits : Tree → List Frame → Type 0
Fits x [] = Unit {0}
Fits x (Parenthesis ∷ fs) = Unit {0}
Fits x (Prefix o ∷ fs) = IsAt 3 x
Fits x (Infix o ∷ fs) = IsAt (suc (level_of o)) x

fits_operand : (x : Tree) (fs : List Frame) → ((l : ℕ) → l ≤ 3 → IsAt l x) → Fits x fs
fits_operand x [] at = tt
fits_operand x (Parenthesis ∷ fs) at = tt
fits_operand x (Prefix o ∷ fs) at = at 3 (omega arith)
fits_operand x (Infix o ∷ fs) at = at (suc (level_of o)) (omega (arith, level_small o))

fits_binary : (o : BinaryOperator) (x y : Tree) (fs : List Frame) → Under (level_of o) fs → IsAt (level_of o) x → IsAt (suc (level_of o)) y → Fits (Binary o x y) fs
fits_binary o x y [] under a b = tt
fits_binary o x y (Parenthesis ∷ fs) under a b = tt
fits_binary o x y (Prefix p ∷ fs) under a b = absurd (cc)
fits_binary o x y (Infix p ∷ fs) under a b = (leb-false (level_of o) (level_of p) under, a, b)

regrouped : (used before tokens us vs : List Token) (t : Token) → used ≡ before ++ tokens → before ≡ us ++ (vs ++ t ∷ []) → used ≡ us ++ (vs ++ t ∷ tokens)
regrouped used before tokens us vs t w e =
    w ∙ ap (λ (v : List Token). v ++ tokens) e ∙ append_assoc us (vs ++ t ∷ []) tokens ∙ ap (λ (v : List Token). us ++ v) (append_assoc vs (t ∷ []) tokens)

joined : (ns written ms x y : List Node) (n : Node) → ns ≡ written ++ y → written ≡ ms ++ x → ns ++ n ∷ [] ≡ ms ++ (x ++ (y ++ n ∷ []))
joined ns written ms x y n e w =
    ap (λ (v : List Node). v ++ n ∷ []) (e ∙ ap (λ (v : List Node). v ++ y) w)
    ∙ append_assoc (ms ++ x) y (n ∷ []) ∙ append_assoc ms x (y ++ n ∷ [])

module _ (r : List ℕ → Bool) where
  -- these tokens and nodes wait for an operand
  abbrev Stacked : List Frame → List Token → List Node → Type 0
  Stacked [] used ns = (used ≡ []) × (ns ≡ [])
  Stacked (Parenthesis ∷ fs) used ns = (us : List Token) × (t : Token) × (used ≡ us ++ t ∷ []) × (begins r t.kind ≡ An_opening) × Stacked fs us ns
  Stacked (Prefix o ∷ fs) used ns = (us : List Token) × (t : Token) × (used ≡ us ++ t ∷ []) × (begins r t.kind ≡ A_prefix o) × Stacked fs us ns
  Stacked (Infix o ∷ fs) used ns =
      (x : Tree) × (us vs : List Token) × (t : Token) × (ms : List Node) × (used ≡ us ++ (vs ++ t ∷ [])) × (ns ≡ ms ++ postfix x) × (follows t.kind ≡ An_operator o)
      × SpellsTree r x vs × IsAt (level_of o) x × (depth fs + nesting x ≤ deepest) × Under (level_of o) fs × Stacked fs us ms

  -- a tree after what waits
  record Current (fs : List Frame) (used : List Token) (ns : List Node) : Type 0 where
    pub tree : Tree
    pub before : List Token
    pub tokens : List Token
    pub written : List Node
    pub whole : used ≡ before ++ tokens
    pub nodes : ns ≡ written ++ postfix tree
    pub spelled : SpellsTree r tree tokens
    pub fits : Fits tree fs
    pub within : depth fs + nesting tree ≤ deepest
    pub stacked : Stacked fs before written

  -- a tree of this level, once all that binds as tight has its operand
  abbrev Settled : ℕ → List Frame × List Node → List Token → Type 0
  Settled l s used = (c : Current s.0 used s.1) × IsAt l c.tree × Under l s.0

  settled : (fs : List Frame) (l : ℕ) (used : List Token) (ns : List Node) (c : Current fs used ns) → l ≤ 3 → IsAt l c.tree → Settled l (settle l fs ns) used
  settled [] l used ns c le at = (c, at, tt)
  settled (Parenthesis ∷ fs) l used ns c le at = (c, at, refl)
  settled (Prefix o ∷ fs) l used ns c le at = go c.stacked (λ (d : Current fs used (ns ++ Unary_node o ∷ [])). settled fs l used (ns ++ Unary_node o ∷ []) d le)
    where
      go : Stacked (Prefix o ∷ fs) c.before c.written → ((d : Current fs used (ns ++ Unary_node o ∷ [])) → IsAt l d.tree → Settled l (settle l fs (ns ++ Unary_node o ∷ [])) used)
          → Settled l (settle l fs (ns ++ Unary_node o ∷ [])) used
      go (us, t, e, b, s) further =
          further (record {
            tree = Unary o c.tree;
            before = us;
            tokens = t ∷ c.tokens;
            written = c.written;
            whole = c.whole ∙ ap (λ (v : List Token). v ++ c.tokens) e ∙ append_assoc us (t ∷ []) c.tokens;
            nodes = ap (λ (v : List Node). v ++ Unary_node o ∷ []) c.nodes ∙ append_assoc c.written (postfix c.tree) (Unary_node o ∷ []);
            spelled = (t, c.tokens, refl, b, c.spelled);
            fits = fits_operand (Unary o c.tree) fs (λ m _. c.fits);
            within = omega (arith, c.within);
            stacked = s;
          }) c.fits
  settled (Infix o ∷ fs) l used ns c le at = go (nat_le l (level_of o)) refl c.stacked (λ (d : Current fs used (ns ++ Binary_node o ∷ [])). settled fs l used (ns ++ Binary_node o ∷ []) d le)
    where
      go : (b : Bool) → nat_le l (level_of o) ≡ b → Stacked (Infix o ∷ fs) c.before c.written
          → ((d : Current fs used (ns ++ Binary_node o ∷ [])) → IsAt l d.tree → Settled l (settle l fs (ns ++ Binary_node o ∷ [])) used)
          → Settled l (cond b (settle l fs (ns ++ Binary_node o ∷ [])) (Infix o ∷ fs, ns)) used
      go false e s further = (c, at, e)
      go true e (x, us, vs, t, ms, w, n, f, sx, ax, deep, under, s) further =
          further (record {
            tree = Binary o x c.tree;
            before = us;
            tokens = vs ++ t ∷ c.tokens;
            written = ms;
            whole = regrouped used c.before c.tokens us vs t c.whole w;
            nodes = joined ns c.written ms (postfix x) (postfix c.tree) (Binary_node o) c.nodes n;
            spelled = (vs, c.tokens, t, refl, f, sx, c.spelled);
            fits = fits_binary o x c.tree fs under ax c.fits;
            within = omega (arith, c.within, deep);
            stacked = s;
          }) (leb-true l (level_of o) e, ax, c.fits)

  -- the tokens passed make this stage
  abbrev Made : Stage → List Token → Type 0
  Made (Wants fs ns) used = Stacked fs used ns × (depth fs ≤ deepest)
  Made (Has fs ns) used = (c : Current fs used ns) × IsAt 3 c.tree

  made_by : (s u : Stage) (used : List Token) → s ≡ u → Made s used → Made u used
  made_by s u used e m = subst (λ (v : Stage). Made v used) e m

  deeper_goes : (f : Frame) (fs : List Frame) (ns : List Node) (used : List Token) (u : Stage) → deeper f fs ns ≡ Goes u → depth (f ∷ fs) ≡ suc (depth fs)
      → Stacked (f ∷ fs) used ns → Made u used
  deeper_goes f fs ns used u e one s = go (nat_lt (depth fs) 64) refl e
    where
      go : (b : Bool) → nat_lt (depth fs) 64 ≡ b → cond b (Goes (Wants (f ∷ fs) ns)) (Fails 3) ≡ Goes u → Made u used
      go true lt g =
          let same : Wants (f ∷ fs) ns ≡ u = cc in
          let below : depth fs < 64 = ltb-true (depth fs) 64 lt in
          made_by (Wants (f ∷ fs) ns) u used same (s, omega (arith, one, below))
      go false lt g = absurd (cc)

  wants_goes : (fs : List Frame) (ns : List Node) (used : List Token) (t : Token) (u : Stage) (b : Begin) → begins r t.kind ≡ b → step_wants fs ns b ≡ Goes u
      → Made (Wants fs ns) used → Made u (used ++ t ∷ [])
  wants_goes fs ns used t u (A_primary p) e g (s, deep) =
      let same : Has fs (ns ++ Primary_node p ∷ []) ≡ u = cc in
      made_by (Has fs (ns ++ Primary_node p ∷ [])) u (used ++ t ∷ []) same (
        record {
          tree = Leaf p;
          before = used;
          tokens = t ∷ [];
          written = ns;
          whole = refl;
          nodes = refl;
          spelled = (t, refl, e);
          fits = fits_operand (Leaf p) fs (λ m _. tt);
          within = omega (arith, deep);
          stacked = s;
        },
        tt,
      )
  wants_goes fs ns used t u (A_prefix o) e g (s, deep) = deeper_goes (Prefix o) fs ns (used ++ t ∷ []) u g refl (used, t, refl, e, s)
  wants_goes fs ns used t u An_opening e g (s, deep) = deeper_goes Parenthesis fs ns (used ++ t ∷ []) u g refl (used, t, refl, e, s)
  wants_goes fs ns used t u (No_operand code) e g m = absurd (cc)

  operator_goes : (o : BinaryOperator) (s : List Frame × List Node) (used : List Token) (t : Token) → follows t.kind ≡ An_operator o → Settled (level_of o) s used
      → Made (Wants (Infix o ∷ s.0) s.1) (used ++ t ∷ [])
  operator_goes o s used t e (c, at, under) = (
    (
      c.tree,
      c.before,
      c.tokens,
      t,
      c.written,
      ap (λ (v : List Token). v ++ t ∷ []) c.whole ∙ append_assoc c.before c.tokens (t ∷ []),
      c.nodes,
      e,
      c.spelled,
      at,
      c.within,
      under,
      c.stacked,
    ),
    omega (arith, c.within),
  )

  closing_goes : (fs : List Frame) (ns : List Node) (used : List Token) (t : Token) (u : Stage) → follows t.kind ≡ A_closing → close fs ns ≡ Goes u → Settled 0 (fs, ns) used
      → Made u (used ++ t ∷ [])
  closing_goes [] ns used t u e g m = absurd (cc)
  closing_goes (Prefix o ∷ fs) ns used t u e g (c, at, under) = absurd (cc)
  closing_goes (Infix o ∷ fs) ns used t u e g (c, at, under) = let true_of : nat_le 0 (level_of o) ≡ true = le_true 0 (level_of o) (omega arith) in absurd (cc)
  closing_goes (Parenthesis ∷ fs) ns used t u e g (c, at, under) = go c.stacked
    where
      go : Stacked (Parenthesis ∷ fs) c.before c.written → Made u (used ++ t ∷ [])
      go (us, v, w, b, s) =
          let same : Has fs ns ≡ u = cc in
          made_by (Has fs ns) u (used ++ t ∷ []) same (
            record {
              tree = Paren c.tree;
              before = us;
              tokens = v ∷ (c.tokens ++ t ∷ []);
              written = c.written;
              whole = ap (λ (x : List Token). x ++ t ∷ []) (c.whole ∙ ap (λ (x : List Token). x ++ c.tokens) w ∙ append_assoc us (v ∷ []) c.tokens) ∙ append_assoc us (v ∷ c.tokens) (t ∷ []);
              nodes = c.nodes;
              spelled = (v, t, c.tokens, refl, b, e, c.spelled);
              fits = fits_operand (Paren c.tree) fs (λ m _. at);
              within = omega (arith, c.within);
              stacked = s;
            },
            at,
          )

  has_goes : (fs : List Frame) (ns : List Node) (used : List Token) (t : Token) (u : Stage) (f : Follow) → follows t.kind ≡ f → step_has t.kind fs ns f ≡ Goes u
      → Made (Has fs ns) used → Made u (used ++ t ∷ [])
  has_goes fs ns used t u (An_operator o) e g (c, at) =
      let s = settle (level_of o) fs ns in
      let same : Wants (Infix o ∷ s.0) s.1 ≡ u = cc in
      made_by (Wants (Infix o ∷ s.0) s.1) u (used ++ t ∷ []) same
      (operator_goes o s used t e (settled fs (level_of o) used ns c (omega (arith, level_small o)) (looser c.tree (level_of o) 3 (omega (arith, level_small o)) at)))
  has_goes fs ns used t u A_closing e g (c, at) =
      let s = settle 0 fs ns in
      closing_goes s.0 s.1 used t u e g (settled fs 0 used ns c (omega arith) (looser c.tree 0 3 (omega arith) at))
  has_goes fs ns used t u A_comparison e g m = absurd (cc)
  has_goes fs ns used t u Nothing_more e g m = go (settle 0 fs ns).0 g
    where
      go : (gs : List Frame) → end (unclosed t.kind) gs (settle 0 fs ns).1 ≡ Goes u → Made u (used ++ t ∷ [])
      go [] h = absurd (cc)
      go (_ ∷ _) h = absurd (cc)

  made_on : (s u : Stage) (used : List Token) (t : Token) → step r s t.kind ≡ Goes u → Made s used → Made u (used ++ t ∷ [])
  made_on (Wants fs ns) u used t e m = wants_goes fs ns used t u (begins r t.kind) refl e m
  made_on (Has fs ns) u used t e m = has_goes fs ns used t u (follows t.kind) refl e m

  -- an expression that stands before this token
  record Whole (used : List Token) (t : Token) (ns : List Node) : Type 0 where
    pub tree : Tree
    pub spelled : SpellsTree r tree used
    pub ordered : IsAt 0 tree
    pub within : nesting tree ≤ deepest
    pub stops : (follows t.kind ≡ Nothing_more) ⊎ (follows t.kind ≡ A_closing)
    pub nodes : ns ≡ postfix tree

  -- where nothing waits
  whole_at : (fs : List Frame) (ns ms : List Node) (used : List Token) (t : Token) → fs ≡ [] → ns ≡ ms → (c : Current fs used ns) → IsAt 0 c.tree
      → (follows t.kind ≡ Nothing_more) ⊎ (follows t.kind ≡ A_closing) → Whole used t ms
  whole_at [] ns ms used t e same c at stops = record {
    tree = c.tree;
    spelled = subst (SpellsTree r c.tree) (sym (c.whole ∙ ap (λ (v : List Token). v ++ c.tokens) c.stacked.0)) c.spelled;
    ordered = at;
    within = omega (arith, c.within);
    stops = stops;
    nodes = sym same ∙ c.nodes ∙ ap (λ (v : List Node). v ++ postfix c.tree) c.stacked.1;
  }
  whole_at (f ∷ fs) ns ms used t e same c at stops = absurd (cc)

  wants_ends : (fs : List Frame) (ns ms : List Node) (b : Begin) → step_wants fs ns b ≡ Ends ms → ⊥
  wants_ends fs ns ms (A_primary p) e = cc
  wants_ends fs ns ms (A_prefix o) e = go (nat_lt (depth fs) 64) e
    where
      go : (b : Bool) → cond b (Goes (Wants (Prefix o ∷ fs) ns)) (Fails 3) ≡ Ends ms → ⊥
      go true h = cc
      go false h = cc
  wants_ends fs ns ms An_opening e = go (nat_lt (depth fs) 64) e
    where
      go : (b : Bool) → cond b (Goes (Wants (Parenthesis ∷ fs) ns)) (Fails 3) ≡ Ends ms → ⊥
      go true h = cc
      go false h = cc
  wants_ends fs ns ms (No_operand code) e = cc

  close_ends : (fs : List Frame) (ns ms : List Node) → close fs ns ≡ Ends ms → (fs ≡ []) × (ns ≡ ms)
  close_ends [] ns ms e = (refl, cc)
  close_ends (f ∷ fs) ns ms e = absurd (cc)

  end_ends : (code : ℕ) (fs : List Frame) (ns ms : List Node) → end code fs ns ≡ Ends ms → (fs ≡ []) × (ns ≡ ms)
  end_ends code [] ns ms e = (refl, cc)
  end_ends code (f ∷ fs) ns ms e = absurd (cc)

  has_ends : (fs : List Frame) (ns ms : List Node) (used : List Token) (t : Token) (f : Follow) → follows t.kind ≡ f → step_has t.kind fs ns f ≡ Ends ms
      → Made (Has fs ns) used → Whole used t ms
  has_ends fs ns ms used t (An_operator o) e h m = absurd (cc)
  has_ends fs ns ms used t A_closing e h (c, at) =
      let s = settle 0 fs ns in
      let last = close_ends s.0 s.1 ms h in
      let d = settled fs 0 used ns c (omega arith) (looser c.tree 0 3 (omega arith) at) in
      whole_at s.0 s.1 ms used t last.0 last.1 d.0 d.1 (inr e)
  has_ends fs ns ms used t A_comparison e h m = absurd (cc)
  has_ends fs ns ms used t Nothing_more e h (c, at) =
      let s = settle 0 fs ns in
      let last = end_ends (unclosed t.kind) s.0 s.1 ms h in
      let d = settled fs 0 used ns c (omega arith) (looser c.tree 0 3 (omega arith) at) in
      whole_at s.0 s.1 ms used t last.0 last.1 d.0 d.1 (inl e)

  made_ends : (s : Stage) (ms : List Node) (used : List Token) (t : Token) → step r s t.kind ≡ Ends ms → Made s used → Whole used t ms
  made_ends (Wants fs ns) ms used t e m = absurd (wants_ends fs ns ms (begins r t.kind) e)
  made_ends (Has fs ns) ms used t e m = has_ends fs ns ms used t (follows t.kind) refl e m

  -- what a read answers
  abbrev Answer : List Token → List Node → List Token → Type 0
  Answer all ns rest = (tree : Tree) × ReadsTree r all tree rest × (ns ≡ postfix tree)

  found_from : (ts : List Token) (s : Stage) (used : List Token) (ns : List Node) (rest : List Token) → Made s used → read_from r s ts ≡ Ok (ns, rest) → Answer (used ++ ts) ns rest
  found_from [] s used ns rest m e = absurd (cc)
  found_from (t ∷ ts) s used ns rest m e = go (step r s t.kind) refl (λ (u : Stage). found_from ts u (used ++ t ∷ []) ns rest)
    where
      go : (p : Step) → step r s t.kind ≡ p → ((u : Stage) → Made u (used ++ t ∷ []) → read_from r u ts ≡ Ok (ns, rest) → Answer ((used ++ t ∷ []) ++ ts) ns rest)
          → Answer (used ++ t ∷ ts) ns rest
      go (Goes u) is further =
          subst (λ (v : List Token). Answer v ns rest) (append_assoc used (t ∷ []) ts) (further u (made_on s u used t is m) (sym (goes r s u t ts is) ∙ e))
      go (Ends ms) is further =
          let both : (ms, t ∷ ts) ≡ (ns, rest) = cc (sym (ends r s ms t ts is) ∙ e) in
          let here : t ∷ ts ≡ rest = ap (λ (q : List Node × List Token). q.1) both in
          let w = made_ends s ms used t is m in (
            w.tree,
            record {
              tokens = used;
              whole = ap (λ (v : List Token). used ++ v) here;
              spelled = w.spelled;
              ordered = w.ordered;
              within = w.within;
              ends = (t, ts, sym here, w.stops);
            },
            sym (ap (λ (q : List Node × List Token). q.0) both) ∙ w.nodes,
          )
      go (Fails code) is further = absurd (cc (sym (fails r s code t ts is) ∙ e))

  pub expression_found : (ts : List Token) (ns : List Node) (rest : List Token) → expression_at r ts ≡ Ok (ns, rest) → Answer ts ns rest
  unfolding expression_at
  expression_found ts ns rest e = found_from ts (Wants [] []) [] ns rest ((refl, refl), omega arith) e
