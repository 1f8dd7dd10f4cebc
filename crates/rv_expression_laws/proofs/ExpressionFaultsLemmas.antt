-- A reading is stuck at a token with a code exactly where the grammar says that it is wrong so.

use Rattle.std.proofs.Common.{◌≡◌, ℕ, Bool, true, false, cond, nat_lt, List, [], ◌∷◌, ◌++◌, ◌≤◌, refl, sym, ◌∙◌, ap, subst, append_assoc, Option, Some, None, Err, inl}
use Rattle.std.proofs.lemmas.List.{append_cancel_right}
use Rattle.rv_expression_laws.specs.declared.punct.Punct.TheVariants.{Star, Close}
use Rattle.rv_expression_laws.specs.declared.operator.BinaryOperator.TheVariants.{Multiply}
use Rattle.rv_expression_laws.specs.declared.operator.Frame.{Frame}
use Rattle.rv_expression_laws.specs.declared.operator.Frame.TheVariants.{Parenthesis, Prefix, Infix}
use Rattle.rv_expression_laws.specs.Grammar.{Kind, Punctuation, Number, End}
use Rattle.rv_expression_laws.specs.Lexing.{Token, is_ended}
use Rattle.rv_expression_laws.specs.SyntaxError.{SyntaxError, wrong}
use Rattle.rv_expression_laws.specs.Codes.{nesting_too_deep}
use Rattle.rv_expression_laws.specs.Expression.{Literal, Tree, level_of, Begin, A_primary, A_prefix, An_opening, No_operand, begins, Follow, An_operator, A_closing, A_comparison, Nothing_more, follows, SpellsTree, IsAt, nesting, deepest, Node, Primary_node, postfix}
use Rattle.rv_expression_laws.specs.ExpressionFault.{Begins, WantsOperand, HasOperand, IsOpen, nests_more, unclosed, FailsAt, Is_no_operand, Nests_too_deep, Compares, Leaves_open}
use Rattle.rv_expression_laws.specs.ExpressionAt.{Stage, Wants, Has, depth, settle, deeper, Step, Goes, Ends, Fails, step, step_wants, step_has, close, end, expression_at, after_tokens}
use Rattle.rv_expression_laws.proofs.ExpressionsLemmas.{end_goes, expression_is}
use Rattle.rv_expression_laws.proofs.ExpressionWrongLemmas.{StuckAt, taken_first, can_go_on, end_at, stuck_there, stuck_found, stuck_stops}

abbrev pub of_kind : Kind → Token
of_kind k = record { kind = k; start = 0; stop = 0; line = 0 }

module _ (r : List ℕ → Bool) where
  abbrev Taken : List Token → Stage → Type 0
  Taken front s = after_tokens r (Wants [] []) front ≡ Some s

  -- tokens after tokens
  abbrev then_tokens : List Token → Option Stage → Option Stage
  then_tokens us o = elim o [ Some u ↦ after_tokens r u us | None ↦ None ]

  parts : (ts us : List Token) (s : Stage) → after_tokens r s (ts ++ us) ≡ then_tokens us (after_tokens r s ts)
  parts [] us s = refl
  parts (t ∷ ts) us s = go (step r s t.kind) (λ (u : Stage). parts ts us u)
    where
      go : (p : Step) → ((u : Stage) → after_tokens r u (ts ++ us) ≡ then_tokens us (after_tokens r u ts))
          → elim p [ Goes u ↦ after_tokens r u (ts ++ us) | Ends ns ↦ None | Fails code ↦ None ]
          ≡ then_tokens us (elim p [ Goes u ↦ after_tokens r u ts | Ends ns ↦ None | Fails code ↦ None ])
      go (Goes u) further = further u
      go (Ends ns) further = refl
      go (Fails code) further = refl

  -- a token that goes on with what is taken begins an expression with it
  next : (front : List Token) (s u : Stage) (t : Token) → Taken front s → step r s t.kind ≡ Goes u → Begins r (front ++ t ∷ [])
  next front s u t e g =
      can_go_on r (front ++ t ∷ []) u (parts front (t ∷ []) (Wants [] []) ∙ ap (then_tokens (t ∷ [])) e ∙ taken_first r s u t [] g)

  first_part : (front us : List Token) (v : Stage) → Taken (front ++ us) v → (s : Stage) × Taken front s × (after_tokens r s us ≡ Some v)
  first_part front us v e = go (after_tokens r (Wants [] []) front) refl (sym (parts front us (Wants [] [])) ∙ e)
    where
      go : (o : Option Stage) → after_tokens r (Wants [] []) front ≡ o → then_tokens us o ≡ Some v → (s : Stage) × Taken front s × (after_tokens r s us ≡ Some v)
      go (Some s) is h = (s, is, h)
      go None is h = absurd (cc)

  -- what an expression begins with is taken
  pub begins_taken : (front : List Token) → Begins r front → (s : Stage) × Taken front s
  begins_taken front (more, tree, spelled, ordered, within) =
      let last = of_kind End in
      let read = expression_is r ((front ++ more) ++ last ∷ []) tree (last ∷ []) (record { tokens = front ++ more; whole = refl; spelled = spelled; ordered = ordered; within = within; ends = (last, [], refl, inl refl) }) in
      let f = end_at r ((front ++ more) ++ last ∷ []) (postfix tree) (last ∷ []) read in
      let same : front ++ more ≡ f.0 = append_cancel_right (front ++ more) f.0 (last ∷ []) (f.3 ∙ ap (λ (us : List Token). f.0 ++ us) (sym f.4)) in
      let p = first_part front more f.5.stage (ap (after_tokens r (Wants [] [])) same ∙ f.5.taken) in
      (p.0, p.1)

  -- the stage before a token that an expression goes on with
  goes_of : (front : List Token) (t : Token) → Begins r (front ++ t ∷ []) → (s u : Stage) × Taken front s × (step r s t.kind ≡ Goes u)
  goes_of front t b =
      let v = begins_taken (front ++ t ∷ []) b in
      let p = first_part front (t ∷ []) v.0 v.1 in
      go p.0 p.1 v.0 (step r p.0 t.kind) refl p.2
    where
      go : (s : Stage) → Taken front s → (v : Stage) (p : Step) → step r s t.kind ≡ p → elim p [ Goes u ↦ Some u | Ends ns ↦ None | Fails code ↦ None ] ≡ Some v
          → (s u : Stage) × Taken front s × (step r s t.kind ≡ Goes u)
      go s e v (Goes u) is h = (s, u, e, is)
      go s e v (Ends ns) is h = absurd (cc)
      go s e v (Fails code) is h = absurd (cc)

  wanted : (front : List Token) → WantsOperand r front → (fs : List Frame) × (ns : List Node) × Taken front (Wants fs ns)
  wanted front w =
      let t = of_kind (Number [] 0) in
      let g = goes_of front t (w t (Literal 0) refl) in
      go g.0 g.1 g.2 g.3
    where
      go : (s u : Stage) → Taken front s → step r s (Number [] 0) ≡ Goes u → (fs : List Frame) × (ns : List Node) × Taken front (Wants fs ns)
      go (Wants fs ns) u e h = (fs, ns, e)
      go (Has fs ns) u e h = absurd (end_goes r 7 (settle 0 fs ns).0 (settle 0 fs ns).1 u h)

  had : (front : List Token) → HasOperand r front → (fs : List Frame) × (ns : List Node) × Taken front (Has fs ns)
  had front w =
      let t = of_kind (Punctuation Star) in
      let g = goes_of front t (w t Multiply refl) in
      go g.0 g.1 g.2 g.3
    where
      go : (s u : Stage) → Taken front s → step r s (Punctuation Star) ≡ Goes u → (fs : List Frame) × (ns : List Node) × Taken front (Has fs ns)
      go (Wants fs ns) u e h = absurd (cc)
      go (Has fs ns) u e h = (fs, ns, e)

  opened : (front : List Token) → IsOpen r front
      → (fs : List Frame) × (ns : List Node) × (f : Frame) × (gs : List Frame) × Taken front (Has fs ns) × ((settle 0 fs ns).0 ≡ f ∷ gs)
  opened front w =
      let t = of_kind (Punctuation Close) in
      let g = goes_of front t (w t refl) in
      go g.0 g.1 g.2 g.3
    where
      closes : (hs : List Frame) (ns : List Node) (u : Stage) → close hs ns ≡ Goes u → (f : Frame) × (gs : List Frame) × (hs ≡ f ∷ gs)
      closes [] ns u h = absurd (cc)
      closes (f ∷ gs) ns u h = (f, gs, refl)

      go : (s u : Stage) → Taken front s → step r s (Punctuation Close) ≡ Goes u
          → (fs : List Frame) × (ns : List Node) × (f : Frame) × (gs : List Frame) × Taken front (Has fs ns) × ((settle 0 fs ns).0 ≡ f ∷ gs)
      go (Wants fs ns) u e h = absurd (cc)
      go (Has fs ns) u e h =
          let c = closes (settle 0 fs ns).0 (settle 0 fs ns).1 u h in (fs, ns, c.0, c.1, e, c.2)

  -- a token that nests too deep
  too_deep : (front : List Token) (at : Token) (fs : List Frame) (ns : List Node) → Taken front (Wants fs ns) → (Begins r (front ++ at ∷ []) → ⊥)
      → (b : Begin) → begins r at.kind ≡ b → nests_more b ≡ true → step_wants fs ns b ≡ Fails nesting_too_deep
  too_deep front at fs ns e none (A_primary p) is n = absurd (cc)
  too_deep front at fs ns e none (No_operand code) is n = absurd (cc)
  too_deep front at fs ns e none (A_prefix o) is n = go (nat_lt (depth fs) 64) refl
    where
      go : (b : Bool) → nat_lt (depth fs) 64 ≡ b → deeper (Prefix o) fs ns ≡ Fails nesting_too_deep
      go false lt = rw lt refl
      go true lt = absurd (none (next front (Wants fs ns) (Wants (Prefix o ∷ fs) ns) at e (ap (step_wants fs ns) is ∙ rw lt refl)))
  too_deep front at fs ns e none An_opening is n = go (nat_lt (depth fs) 64) refl
    where
      go : (b : Bool) → nat_lt (depth fs) 64 ≡ b → deeper Parenthesis fs ns ≡ Fails nesting_too_deep
      go false lt = rw lt refl
      go true lt = absurd (none (next front (Wants fs ns) (Wants (Parenthesis ∷ fs) ns) at e (ap (step_wants fs ns) is ∙ rw lt refl)))

  -- what the grammar says is wrong stops a reading
  pub stuck : (front : List Token) (at : Token) (code : ℕ) → FailsAt r front at code → StuckAt r front at code
  stuck front at _ (Is_no_operand code w is) =
      let s = wanted front w in record { stage = Wants s.0 s.1; taken = s.2; fails = ap (step_wants s.0 s.1) is }
  stuck front at _ (Nests_too_deep w n none) =
      let s = wanted front w in
      record { stage = Wants s.0 s.1; taken = s.2; fails = too_deep front at s.0 s.1 s.2 none (begins r at.kind) refl n }
  stuck front at _ (Compares w is) =
      let s = had front w in record { stage = Has s.0 s.1; taken = s.2; fails = ap (step_has at.kind s.0 s.1) is }
  stuck front at _ (Leaves_open w is) =
      let s = opened front w in
      record {
        stage = Has s.0 s.1;
        taken = s.4;
        fails = ap (step_has at.kind s.0 s.1) is ∙ ap (λ (hs : List Frame). end (unclosed at.kind) hs (settle 0 s.0 s.1).1) s.5;
      }

  -- no expression begins with the token at which a reading is stuck
  none_begins : (front : List Token) (at : Token) (code : ℕ) → StuckAt r front at code → Begins r (front ++ at ∷ []) → ⊥
  none_begins front at code f (more, tree, spelled, ordered, within) =
      stuck_stops r front at code more f tree (subst (SpellsTree r tree) (append_assoc front (at ∷ []) more) spelled) ordered within

  deeper_fails : (f : Frame) (fs : List Frame) (ns : List Node) (code : ℕ) → deeper f fs ns ≡ Fails code → nesting_too_deep ≡ code
  deeper_fails f fs ns code e = go (nat_lt (depth fs) 64) e
    where
      go : (b : Bool) → cond b (Goes (Wants (f ∷ fs) ns)) (Fails 3) ≡ Fails code → nesting_too_deep ≡ code
      go true h = absurd (cc)
      go false h = cc

  wants_fails : (front : List Token) (at : Token) (code : ℕ) (fs : List Frame) (ns : List Node) → Taken front (Wants fs ns) → (Begins r (front ++ at ∷ []) → ⊥)
      → (b : Begin) → begins r at.kind ≡ b → step_wants fs ns b ≡ Fails code → FailsAt r front at code
  wants_fails front at code fs ns e none b is h = go b is h (λ t p k. next front (Wants fs ns) (Has fs (ns ++ Primary_node p ∷ [])) t e (ap (step_wants fs ns) k))
    where
      deep : (f : Frame) → WantsOperand r front → nests_more (begins r at.kind) ≡ true → deeper f fs ns ≡ Fails code → FailsAt r front at code
      deep f w n h = subst (FailsAt r front at) (deeper_fails f fs ns code h) (Nests_too_deep w n none)

      go : (b : Begin) → begins r at.kind ≡ b → step_wants fs ns b ≡ Fails code → WantsOperand r front → FailsAt r front at code
      go (A_primary p) is h w = absurd (cc)
      go (A_prefix o) is h w = deep (Prefix o) w (ap nests_more is) h
      go An_opening is h w = deep Parenthesis w (ap nests_more is) h
      go (No_operand c) is h w = let same : c ≡ code = cc in subst (FailsAt r front at) same (Is_no_operand c w is)

  has_fails : (front : List Token) (at : Token) (code : ℕ) (fs : List Frame) (ns : List Node) → Taken front (Has fs ns)
      → (f : Follow) → follows at.kind ≡ f → step_has at.kind fs ns f ≡ Fails code → FailsAt r front at code
  has_fails front at code fs ns e (An_operator o) is h = absurd (cc)
  has_fails front at code fs ns e A_closing is h = go (settle 0 fs ns).0 h
    where
      go : (hs : List Frame) → close hs (settle 0 fs ns).1 ≡ Fails code → FailsAt r front at code
      go [] g = absurd (cc)
      go (_ ∷ _) g = absurd (cc)
  has_fails front at code fs ns e A_comparison is h =
      let same : 9 ≡ code = cc in
      subst (FailsAt r front at) same
      (Compares (λ t o k. let s = settle (level_of o) fs ns in next front (Has fs ns) (Wants (Infix o ∷ s.0) s.1) t e (ap (step_has t.kind fs ns) k)) is)
  has_fails front at code fs ns e Nothing_more is h = go (settle 0 fs ns).0 refl h
    where
      go : (hs : List Frame) → (settle 0 fs ns).0 ≡ hs → end (unclosed at.kind) hs (settle 0 fs ns).1 ≡ Fails code → FailsAt r front at code
      go [] s g = absurd (cc)
      go (f ∷ gs) s g =
          let same : unclosed at.kind ≡ code = cc in
          subst (FailsAt r front at) same
          (Leaves_open
          (λ t k. next front (Has fs ns) (Has gs (settle 0 fs ns).1) t e (ap (step_has t.kind fs ns) k ∙ ap (λ (us : List Frame). close us (settle 0 fs ns).1) s)) is)

  -- what stops a reading is what the grammar says is wrong
  said : (front : List Token) (at : Token) (code : ℕ) → StuckAt r front at code → FailsAt r front at code
  said front at code f = go f.stage f.taken f.fails
    where
      go : (s : Stage) → Taken front s → step r s at.kind ≡ Fails code → FailsAt r front at code
      go (Wants fs ns) e h = wants_fails front at code fs ns e (none_begins front at code f) (begins r at.kind) refl h
      go (Has fs ns) e h = has_fails front at code fs ns e (follows at.kind) refl h

  pub fails_there : (front : List Token) (at : Token) (code : ℕ) (more : List Token) → FailsAt r front at code → expression_at r (front ++ at ∷ more) ≡ Err (wrong at code)
  fails_there front at code more f = stuck_there r front at code more (stuck front at code f)

  pub wrong_at : (ts : List Token) (w : SyntaxError) → is_ended ts ≡ true → expression_at r ts ≡ Err w
      → (front : List Token) × (at : Token) × (more : List Token) × (code : ℕ) × (ts ≡ front ++ at ∷ more) × FailsAt r front at code × (w ≡ wrong at code)
  wrong_at ts w end e =
      let f = stuck_found r ts w end e in (f.0, f.1, f.2, f.3, f.4, said f.0 f.1 f.3 f.5, f.6)

  pub stops_there : (front : List Token) (at : Token) (code : ℕ) (more : List Token) → FailsAt r front at code
      → (tree : Tree) → SpellsTree r tree (front ++ at ∷ more) → IsAt 0 tree → nesting tree ≤ deepest → ⊥
  stops_there front at code more f = stuck_stops r front at code more (stuck front at code f)
