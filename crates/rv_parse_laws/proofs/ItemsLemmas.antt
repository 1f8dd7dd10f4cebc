-- Items of one kind with commas between, and tokens that are not looked at.

use Rattle.std.proofs.Common.{◌≡◌, ℕ, zero, suc, ◌<◌, ◌≤◌, Bool, true, false, cond, ◌||◌, not, List, [], ◌∷◌, ◌++◌, length, Ok, Err, refl, sym, ◌∙◌, ap, subst, arith, ◌⊎◌, inl, inr}
use Rattle.std.specs.List.{list_all}
use Rattle.std.proofs.lemmas.List.{append-nil}
use Rattle.std.proofs.lemmas.Bool.{and_parts, and_from}
use Rattle.rv_expression_laws.specs.declared.punct.Punct.TheVariants.{Comma, Semicolon}
use Rattle.rv_expression_laws.specs.Grammar.{Kind, Newline, Punctuation, End}
use Rattle.rv_expression_laws.specs.Lexing.{Token, is_ended}
use Rattle.rv_expression_laws.specs.SyntaxError.{SyntaxError, wrong, Read, nowhere, is_long}
use Rattle.rv_expression_laws.specs.Joined.{joined_at}
use Rattle.rv_expression_laws.proofs.ExpressionWrongLemmas.{ended_more}
use Rattle.rv_statement_laws.specs.Statement.{Operand}
use Rattle.rv_parse_laws.specs.Syntax.{is_comma, is_end, is_wrong, is_any, Slot, A_value, An_address_by, A_callee, A_section, IsOperand, TakesSlot, IsFurther, AreItems, EndsHere}
use Rattle.rv_parse_laws.specs.Faults.{wrong_after, wrong_any}
use Rattle.rv_parse_laws.specs.Parsing.{◌>>=◌, seen_as, operand_at, end_at, ended_at, taking, further, items_in, items_at, any_at}
use Rattle.rv_parse_laws.proofs.StepsLemmas.{bind_ok, tested_ok, pair_parts, bind_err, tested_err}
use Rattle.rv_parse_laws.proofs.FailingLemmas.{Failing, at_once, behind, alike, heads, never, wrongs}
use Rattle.rv_parse_laws.proofs.LastTokensLemmas.{comma_no_last, any_no_last}
use Rattle.rv_parse_laws.proofs.ValuesLemmas.{closes, Closes}
use Rattle.rv_parse_laws.proofs.OperandsLemmas.{Ready, operand_is, operand_shorter, taken_is, FoundTo, taken_found, taken_wrong}

pub end_no_comma : (k : Kind) → is_end k ≡ true → is_comma k ≡ false
end_no_comma (Punctuation Comma) h = absurd (cc)
end_no_comma (Punctuation _) h = refl
end_no_comma _ h = refl

pub end_closes : (k : Kind) → is_end k ≡ true → closes k ≡ true
end_closes Newline h = refl
end_closes (Punctuation Semicolon) h = refl
end_closes End h = refl
end_closes (Punctuation _) h = absurd (cc)
end_closes _ h = absurd (cc)

comma_closes : (k : Kind) → is_comma k ≡ true → closes k ≡ true
comma_closes (Punctuation Comma) h = refl
comma_closes (Punctuation _) h = absurd (cc)
comma_closes _ h = absurd (cc)

pub ended_closes : (rest : List Token) → EndsHere rest → Closes rest
ended_closes rest (t, us, e, h) = (t, us, e, end_closes t.kind h)

pub ready : (s : Slot) (rest : List Token) → Closes rest → Ready s rest
ready (A_value role) rest h = h
ready A_section rest h = h
ready A_callee rest h = h
ready _ rest h = tt

-- the end
pub end_is : (s : Slot) (rest : List Token) → EndsHere rest → ended_at s rest ≡ Ok ([], rest)
end_is s rest (t, us, e, h) = rw e (rw h refl)

pub end_found : (s : Slot) (ts rest : List Token) → end_at s ts ≡ Ok rest → (ts ≡ rest) × EndsHere rest
end_found s [] rest e = absurd (cc)
end_found s (t ∷ ts) rest e =
    let k = tested_ok (is_end t.kind) (t ∷ ts) rest (wrong t (wrong_after s t.kind)) e in
    (k.1, (t, ts, sym k.1, k.0))

pub ended_found : (s : Slot) (ts : List Token) (os : List Operand) (rest : List Token) → ended_at s ts ≡ Ok (os, rest) → (ts ≡ rest) × (os ≡ []) × EndsHere rest
ended_found s ts os rest e =
    let b = bind_ok (end_at s ts) (λ r. Ok ([], r)) (os, rest) e in
    let p = pair_parts _ _ _ _ _ refl b.2 in
    let f = end_found s ts b.0 b.1 in
    (f.0 ∙ p.1, sym p.0, subst EndsHere p.1 f.1)

pub ended_err : (s : Slot) (ts : List Token) (w : SyntaxError) → is_ended ts ≡ true → ended_at s ts ≡ Err w
    → (t : Token) × (us : List Token) × (ts ≡ t ∷ us) × (is_end t.kind ≡ false) × (w ≡ wrong t (wrong_after s t.kind))
ended_err s [] w end e = absurd (cc)
ended_err s (t ∷ ts) w end e = elim (bind_err (end_at s (t ∷ ts)) (λ r. Ok ([], r)) w e) [
  | inl f ↦ (let k = tested_err (is_end t.kind) (t ∷ ts) (wrong t (wrong_after s t.kind)) w f in (t, ts, refl, k.0, k.1))
  | inr good ↦ absurd (never ([], good.0) w good.2)
]

-- equal readings behind a place
taking_same : (s : Slot) (ts : List Token) (R Q : List Token → Read (List Operand)) → ((o : List Operand) (rest : List Token) → operand_at s ts ≡ Ok (o, rest) → R rest ≡ Q rest)
    → taking s R ts ≡ taking s Q ts
taking_same s ts R Q h = go (operand_at s ts) refl
  where
    go : (r : Read (List Operand)) → operand_at s ts ≡ r → (r >>= λ o. seen_as (λ os. o.0 ++ os) (R o.1)) ≡ (r >>= λ o. seen_as (λ os. o.0 ++ os) (Q o.1))
    go (Ok o) e = ap (seen_as (λ os. o.0 ++ os)) (h o.0 o.1 e)
    go (Err w) e = refl

further_same : (s : Slot) (ts : List Token) (R Q : List Token → Read (List Operand)) → ((t : Token) (us : List Token) → ts ≡ t ∷ us → R us ≡ Q us) → further s R ts ≡ further s Q ts
further_same s [] R Q h = refl
further_same s (t ∷ us) R Q h = ap (λ x. cond (is_comma t.kind) x (ended_at s (t ∷ us))) (h t us refl)

operand_none : (s : Slot) → operand_at s [] ≡ Err nowhere
unfolding joined_at
operand_none (A_value role) = refl
operand_none (An_address_by set) = refl
operand_none A_callee = refl
operand_none A_section = refl
operand_none _ = refl

-- room enough makes no difference
same_room : (n m : ℕ) (s : Slot) (ts : List Token) → length ts ≤ n → length ts ≤ m → items_in n s ts ≡ items_in m s ts
same_room zero zero s ts a b = refl
same_room zero (suc m) s [] a b = rw (operand_none s) refl
same_room zero (suc m) s (t ∷ ts) a b = absurd (omega (arith, a))
same_room (suc n) zero s [] a b = rw (operand_none s) refl
same_room (suc n) zero s (t ∷ ts) a b = absurd (omega (arith, b))
same_room (suc n) (suc m) s ts a b =
    taking_same s ts (further s (λ us. items_in n s us)) (further s (λ us. items_in m s us))
    (λ o rest e. further_same s rest (λ us. items_in n s us) (λ us. items_in m s us)
    (λ t us is. let lt = operand_shorter s ts o rest e in
    let one : length rest ≡ suc (length us) = ap (λ (xs : List Token). length xs) is in
    same_room n m s us (omega (arith, a, lt, one)) (omega (arith, b, lt, one))))

-- an item, and then a comma and items, or the end
pub items_step : (s : Slot) (ts : List Token) → items_at s ts ≡ taking s (further s (λ us. items_at s us)) ts
unfolding items_at
items_step s [] = rw (operand_none s) refl
items_step s (t ∷ ts) =
    taking_same s (t ∷ ts) (further s (λ us. items_in (length ts) s us)) (further s (λ us. items_in (length us) s us))
    (λ o rest e. further_same s rest (λ us. items_in (length ts) s us) (λ us. items_in (length us) s us)
    (λ u us is. let lt = operand_shorter s (t ∷ ts) o rest e in
    let one : length rest ≡ suc (length us) = ap (λ (xs : List Token). length xs) is in
    same_room (length ts) (length us) s us (omega (arith, lt, one)) (omega arith)))

-- items, whatever their number
abbrev pub Items : Slot → List Token → List Operand → Type 0
Items s us os = (n : ℕ) × AreItems n s us os

-- what stands behind an item
abbrev pub Behind : Slot → List Token → List Operand → Type 0
Behind s us os = ((us ≡ []) × (os ≡ [])) ⊎ IsFurther (λ vs ps. Items s vs ps) us os

to_items : (s : Slot) (ts : List Token) (os : List Operand) → TakesSlot s (λ us ps. Behind s us ps) ts os → Items s ts os
to_items s ts os (one, rest, now, later, w, is, inl (none, nil), v) =
    let text : one ≡ ts = sym (w ∙ ap (λ us. one ++ us) none ∙ append-nil one) in
    let same : now ≡ os = sym (v ∙ ap (λ ps. now ++ ps) nil ∙ append-nil now) in
    (1, subst (λ us. IsOperand s us os) text (subst (IsOperand s one) same is))
to_items s ts os (one, rest, now, later, w, is, inr (c, after, x, comma, (zero, none)), v) = absurd none
to_items s ts os (one, rest, now, later, w, is, inr (c, after, x, comma, (suc n, items)), v) = (suc (suc n), (one, rest, now, later, w, is, (c, after, x, comma, items), v))

pub comma_next : (s : Slot) (R : List Token → Read (List Operand)) (c : Token) (us : List Token) → is_comma c.kind ≡ true → further s R (c ∷ us) ≡ R us
comma_next s R c us comma = rw comma refl

end_next : (s : Slot) (R : List Token → Read (List Operand)) (rest : List Token) → EndsHere rest → further s R rest ≡ Ok ([], rest)
end_next s R rest (t, us, e, h) = rw e (rw (end_no_comma t.kind h, h) refl)

pub items_is : (n : ℕ) (s : Slot) (text : List Token) (os : List Operand) → AreItems n s text os → (rest : List Token) → EndsHere rest → items_at s (text ++ rest) ≡ Ok (os, rest)
items_is zero s text os none rest ends = absurd none
items_is (suc zero) s text os is rest ends =
    items_step s (text ++ rest)
    ∙ ap (λ x. x >>= λ o. seen_as (λ os. o.0 ++ os) (further s (λ us. items_at s us) o.1)) (operand_is s text os is rest (ready s rest (ended_closes rest ends)))
    ∙ ap (seen_as (λ ps. os ++ ps)) (end_next s (λ us. items_at s us) rest ends)
    ∙ ap (λ (x : List Operand). Ok (x, rest)) (append-nil os)
items_is (suc (suc n)) s text os (one, more, now, later, w, is, (c, after, x, comma, items), v) rest ends =
    let closed : Closes (more ++ rest) = (c, after ++ rest, ap (λ us. us ++ rest) x, comma_closes c.kind comma) in
    let next : further s (λ us. items_at s us) (more ++ rest) ≡ Ok (later, rest) =
    ap (λ us. further s (λ us. items_at s us) (us ++ rest)) x ∙ comma_next s (λ us. items_at s us) c (after ++ rest) comma ∙ items_is (suc n) s after later items rest ends in
    items_step s (text ++ rest) ∙ ap (λ us. taking s (further s (λ us. items_at s us)) (us ++ rest)) w
    ∙ taken_is s (further s (λ us. items_at s us)) one more rest now later is (ready s (more ++ rest) closed) next
    ∙ ap (λ (x : List Operand). Ok (x, rest)) (sym v)

items_found_in : (room : ℕ) (s : Slot) (ts : List Token) (os : List Operand) (rest : List Token) → length ts ≤ room → items_at s ts ≡ Ok (os, rest) → FoundTo (λ us ps. Items s us ps) ts os rest
items_found_in zero s ts os rest le e = absurd (none ts le (sym (items_step s ts) ∙ e))
  where
    none : (ts : List Token) → length ts ≤ 0 → taking s (further s (λ us. items_at s us)) ts ≡ Ok (os, rest) → ⊥
    none [] le h = never (os, rest) nowhere (sym h ∙ ap (λ x. x >>= λ o. seen_as (λ os. o.0 ++ os) (further s (λ us. items_at s us) o.1)) (operand_none s))
    none (t ∷ ts) le h = omega (arith, le)
items_found_in (suc room) s ts os rest le e = finish
    (taken_found s (further s (λ us. items_at s us)) (λ us ps. Behind s us ps) ts os rest (λ now us h ps f. next us ps (operand_shorter s ts now us h) f (λ vs ps less g. items_found_in room s vs ps rest less g)) (sym (items_step s ts) ∙ e))
  where
    finish : FoundTo (TakesSlot s (λ us ps. Behind s us ps)) ts os rest → FoundTo (λ us ps. Items s us ps) ts os rest
    finish (text, whole, is, ends) = (text, whole, to_items s text os is, ends)

    next : (us : List Token) (ps : List Operand) → length us < length ts → further s (λ us. items_at s us) us ≡ Ok (ps, rest)
        → ((vs : List Token) (ps : List Operand) → length vs ≤ room → items_at s vs ≡ Ok (ps, rest) → FoundTo (λ us ps. Items s us ps) vs ps rest)
        → FoundTo (λ us ps. Behind s us ps) us ps rest
    next [] ps lt f ih = absurd (cc)
    next (t ∷ us) ps lt f ih = go (is_comma t.kind) refl f
      where
        go : (b : Bool) → is_comma t.kind ≡ b → cond b (items_at s us) (ended_at s (t ∷ us)) ≡ Ok (ps, rest) → FoundTo (λ us ps. Behind s us ps) (t ∷ us) ps rest
        go true comma f = let g = ih us ps (omega (arith, lt, le)) f in (t ∷ g.0, ap (λ xs. t ∷ xs) g.1, inr (t, g.0, refl, comma, g.2), g.3)
        go false comma f = let g = ended_found s (t ∷ us) ps rest f in ([], g.0, inl (refl, g.1), g.2)

pub items_found : (s : Slot) (ts : List Token) (os : List Operand) (rest : List Token) → items_at s ts ≡ Ok (os, rest) → FoundTo (λ us ps. Items s us ps) ts os rest
items_found s ts os rest e = items_found_in (length ts) s ts os rest (omega arith) e

items_wrong_in : (room : ℕ) (s : Slot) (ts : List Token) (w : SyntaxError) → length ts ≤ room → is_ended ts ≡ true → items_at s ts ≡ Err w → Failing (List Operand) (λ us ps. Items s us ps) (λ us. items_at s us) ts w
items_wrong_in zero s [] w le end e = absurd (cc)
items_wrong_in zero s (t ∷ ts) w le end e = absurd (omega (arith, le))
items_wrong_in (suc room) s ts w le end e =
    alike (List Operand) (List Operand) (λ us ps. Items s us ps) (TakesSlot s (λ us ps. Behind s us ps)) (λ us. items_at s us) (taking s (further s (λ us. items_at s us))) ts w
    (λ us ps is. (ps, to_items s us ps is)) (λ us first h. items_step s us ∙ h)
    (taken_wrong s (further s (λ us. items_at s us)) (λ us ps. Behind s us ps) ts w ([], [], inl (refl, refl)) end (sym (items_step s ts) ∙ e)
    (λ os rest h last f. next rest (operand_shorter s ts os rest h) last f (λ us less last g. items_wrong_in room s us w less last g)))
  where
    next : (us : List Token) → length us < length ts → is_ended us ≡ true → further s (λ us. items_at s us) us ≡ Err w
        → ((vs : List Token) → length vs ≤ room → is_ended vs ≡ true → items_at s vs ≡ Err w → Failing (List Operand) (λ us ps. Items s us ps) (λ us. items_at s us) vs w)
        → Failing (List Operand) (λ us ps. Behind s us ps) (further s (λ us. items_at s us)) us w
    next [] lt last f ih = absurd (cc)
    next (t ∷ us) lt last f ih = go (is_comma t.kind) refl f
      where
        go : (b : Bool) → is_comma t.kind ≡ b → cond b (items_at s us) (ended_at s (t ∷ us)) ≡ Err w → Failing (List Operand) (λ us ps. Behind s us ps) (further s (λ us. items_at s us)) (t ∷ us) w
        go true comma f =
            behind (List Operand) (List Operand) (λ us ps. Behind s us ps) (λ us ps. Items s us ps) (further s (λ us. items_at s us)) (λ us. items_at s us) (t ∷ []) us w
            (λ vs ps items. (ps, inr (t, vs, refl, comma, items))) (λ vs first h. comma_next s (λ us. items_at s us) t vs comma ∙ h)
            (ih us (omega (arith, lt, le)) (ended_more t us (comma_no_last t.kind comma) last) f)
        go false comma f =
            let k = ended_err s (t ∷ us) w last f in
            let same : k.0 ≡ t = heads (sym k.2) in
            none (ap (λ (x : Token). is_end x.kind) (sym same) ∙ k.3) (k.4 ∙ ap (λ (x : Token). wrong x (wrong_after s x.kind)) same)
          where
            none : is_end t.kind ≡ false → w ≡ wrong t (wrong_after s t.kind) → Failing (List Operand) (λ us ps. Behind s us ps) (further s (λ us. items_at s us)) (t ∷ us) w
            none no_end is = record {
              before = [];
              at = t;
              more = us;
              whole = refl;
              is_wrong = at_once [] t _ w is;
              fails = λ text. rw (comma, no_end, is) refl;
              goes = ([], [], inl (refl, refl));
            }

pub items_wrong : (s : Slot) (ts : List Token) (w : SyntaxError) → is_ended ts ≡ true → items_at s ts ≡ Err w → Failing (List Operand) (λ us ps. Items s us ps) (λ us. items_at s us) ts w
items_wrong s ts w end e = items_wrong_in (length ts) s ts w (omega arith) end e

-- tokens that are not looked at
abbrev pub AreAny : List Token → List Operand → Type 0
AreAny ts os = (list_all (λ (t : Token). is_any t.kind) ts ≡ true) × (os ≡ [])

pub any_no_end : (k : Kind) → is_any k ≡ true → is_end k ≡ false
any_no_end k h = go (is_end k) h
  where
    go : (b : Bool) → not (b || is_wrong k || is_long k) ≡ true → b ≡ false
    go true h = absurd (cc)
    go false h = refl

pub any_is : (text : List Token) (os : List Operand) → AreAny text os → (rest : List Token) → EndsHere rest → any_at (text ++ rest) ≡ Ok (os, rest)
any_is [] os (all, is) rest (t, us, e, h) = rw (e, is) (rw h refl)
any_is (t ∷ text) os (all, is) rest ends =
    let p = and_parts (is_any t.kind) (list_all (λ (t : Token). is_any t.kind) text) all in
    rw (p.0, any_no_end t.kind p.0) (any_is text os (p.1, is) rest ends)

pub any_found : (ts : List Token) (os : List Operand) (rest : List Token) → any_at ts ≡ Ok (os, rest) → FoundTo AreAny ts os rest
any_found [] os rest e = absurd (cc)
any_found (t ∷ ts) os rest e = go (is_end t.kind) refl e (any_found ts os rest)
  where
    go : (b : Bool) → is_end t.kind ≡ b → cond b (Ok ([], t ∷ ts)) (cond (is_any t.kind) (any_at ts) (Err (wrong t (wrong_any t.kind)))) ≡ Ok (os, rest)
        → (any_at ts ≡ Ok (os, rest) → FoundTo AreAny ts os rest) → FoundTo AreAny (t ∷ ts) os rest
    go true h e ih = let p = pair_parts _ _ _ _ _ refl e in ([], p.1, (refl, sym p.0), (t, ts, sym p.1, h))
    go false h e ih = more (is_any t.kind) refl e
      where
        more : (b : Bool) → is_any t.kind ≡ b → cond b (any_at ts) (Err (wrong t (wrong_any t.kind))) ≡ Ok (os, rest) → FoundTo AreAny (t ∷ ts) os rest
        more true any e = let f = ih e in (t ∷ f.0, ap (λ xs. t ∷ xs) f.1, (and_from (is_any t.kind) (list_all (λ (t : Token). is_any t.kind) f.0) any f.2.0, f.2.1), f.3)
        more false any e = absurd (cc)

pub any_wrong : (ts : List Token) (w : SyntaxError) → is_ended ts ≡ true → any_at ts ≡ Err w → Failing (List Operand) AreAny any_at ts w
any_wrong [] w end e = absurd (cc)
any_wrong (t ∷ ts) w end e = go (is_end t.kind) refl e (any_wrong ts w)
  where
    go : (b : Bool) → is_end t.kind ≡ b → cond b (Ok ([], t ∷ ts)) (cond (is_any t.kind) (any_at ts) (Err (wrong t (wrong_any t.kind)))) ≡ Err w
        → (is_ended ts ≡ true → any_at ts ≡ Err w → Failing (List Operand) AreAny any_at ts w) → Failing (List Operand) AreAny any_at (t ∷ ts) w
    go true h e ih = absurd (never ([], t ∷ ts) w e)
    go false h e ih = more (is_any t.kind) refl e
      where
        more : (b : Bool) → is_any t.kind ≡ b → cond b (any_at ts) (Err (wrong t (wrong_any t.kind))) ≡ Err w → Failing (List Operand) AreAny any_at (t ∷ ts) w
        more true any e =
            behind (List Operand) (List Operand) AreAny AreAny any_at any_at (t ∷ []) ts w
            (λ us ps is. (ps, (and_from (is_any t.kind) (list_all (λ (t : Token). is_any t.kind) us) any is.0, is.1))) (λ us first f. rw (any, h) f)
            (ih (ended_more t ts (any_no_last t.kind any) end) e)
        more false any e = record {
          before = [];
          at = t;
          more = ts;
          whole = refl;
          is_wrong = at_once [] t _ w (sym (wrongs _ w e));
          fails = λ text. rw (any, h) (ap (λ (x : SyntaxError). Err x) (wrongs _ w e));
          goes = ([], [], (refl, refl));
        }
