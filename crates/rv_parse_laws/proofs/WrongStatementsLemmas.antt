-- A statement is wrong at the token, and with the code, that specs/Wrong says.

use Rattle.std.proofs.Common.{◌≡◌, ℕ, zero, suc, ◌<◌, ◌≤◌, Bool, true, false, cond, ◌&&◌, List, [], ◌∷◌, ◌++◌, Some, Ok, Err, refl, sym, ◌∙◌, ap, subst, inl, inr, length, arith}
use Rattle.std.specs.List.{list_all}
use Rattle.rv_expression_laws.specs.Lexing.{Token, is_ended}
use Rattle.rv_expression_laws.specs.SyntaxError.{SyntaxError, wrong, Read}
use Rattle.rv_expression_laws.specs.Expression.{Leaf, Symbol}
use Rattle.rv_expression_laws.proofs.ExpressionWrongLemmas.{ended_more}
use Rattle.rv_statement_laws.specs.Statement.{Operand, Target, Word, Instruction, Directs}
use Rattle.rv_parse_laws.specs.declared.role.Role.TheVariants as roles
use Rattle.rv_parse_laws.specs.declared.beginning.Beginning.{Beginning}
use Rattle.rv_parse_laws.specs.declared.beginning.Beginning.TheVariants as beginnings
use Rattle.rv_parse_laws.specs.Syntax.{token_symbol, is_at_sign, label_of, begins, is_comma, is_end, is_any, Slot, A_value, A_target, An_address_by, An_address, A_callee, A_section, A_plt, front_begins, Slots, Stops, Takes, Chooses, Locates, Lists, Anything, slots, operand_slots, directed, colon_next, SourcePart, Ends, Says}
use Rattle.rv_parse_laws.specs.Faults.{wrong_after, wrong_any, wrong_start, wrong_label}
use Rattle.rv_parse_laws.specs.Wrong.{IsWrongFirst, IsWrongCallee, IsTargetNext, IsWrongOperand, Passes, IsWrongTaken, IsNoEnd, IsWrongNext, IsWrongItem, IsWrongAny, IsWrongIn, IsWrongAfter, IsWrongStatement}
use Rattle.rv_parse_laws.specs.Parsing.{seen_as, taken, single_at, value_at, value_operand_at, is_target_next, target_next, plt_next, plt_at, section_name_at, operand_at, ended_at, taking, further, items_at, any_at, operands_at, begun_at, after_first, statement_at, part_at}
use Rattle.rv_parse_laws.proofs.StepsLemmas.{seen_ok, bind_err, seen_err, taken_err}
use Rattle.rv_parse_laws.proofs.FailingLemmas.{heads, tails, never, wrongs}
use Rattle.rv_parse_laws.proofs.LastTokensLemmas.{comma_no_last, symbol_no_last, at_no_last, any_no_last}
use Rattle.rv_parse_laws.proofs.SinglesLemmas.{single_found}
use Rattle.rv_parse_laws.proofs.ValuesLemmas.{value_before, value_ended}
use Rattle.rv_parse_laws.proofs.ArgumentsLemmas.{value_found}
use Rattle.rv_parse_laws.proofs.CalleesLemmas.{linked_is, plt_parts, plt_is, plt_step}
use Rattle.rv_parse_laws.proofs.LocatedLemmas.{target_parts}
use Rattle.rv_parse_laws.proofs.OperandsLemmas.{operand_is, operand_found, operand_shorter, operand_ended, operand_err}
use Rattle.rv_parse_laws.proofs.ItemsLemmas.{items_step, ended_err, any_no_end, comma_next}
use Rattle.rv_parse_laws.proofs.PartsLemmas.{begins_no_last}
use Rattle.rv_parse_laws.proofs.WrongsLemmas.{SaidBy, first_is, first_said, ends_before, value_is, value_said, value_passed, value_ends, address_wrongs, address_said}
use Rattle.rv_parse_laws.proofs.WrongSectionsLemmas.{section_wrongs, section_said, section_passed, section_ends}

-- what a call calls
callee_wrongs : (ts : List Token) (t : Token) (code : ℕ) → IsWrongCallee ts t code → operand_at A_callee ts ≡ Err (wrong t code)
callee_wrongs ts t code (inl (next, (f, a, us, w, x))) =
    let p = plt_parts ts next in
    let same : us ≡ p.2 = tails (tails (sym w ∙ p.4)) in
    rw next (ap plt_at p.4 ∙ plt_step p.0 p.1 p.2 p.3 p.5 p.6
    ∙ ap (seen_as (λ none. Target (Leaf (Symbol p.3)) ∷ [])) (first_is A_plt p.2 t code (subst (λ vs. IsWrongFirst A_plt vs t code) same x)))
callee_wrongs ts t code (inr (next, x)) = rw next (ap (seen_as (λ o. o ∷ [])) (value_is roles.Target ts t code x))

callee_said : (ts : List Token) (w : SyntaxError) → is_ended ts ≡ true → operand_at A_callee ts ≡ Err w → SaidBy IsWrongCallee ts w
callee_said ts w end e = go (plt_next ts) refl e
  where
    linked : plt_next ts ≡ true → plt_at ts ≡ Err w → SaidBy IsWrongCallee ts w
    linked next e =
        let p = plt_parts ts next in
        let last : is_ended p.2 ≡ true = ended_more p.1 p.2 (at_no_last p.1.kind p.6) (ended_more p.0 (p.1 ∷ p.2) (symbol_no_last p.0.kind p.3 p.5) (ap is_ended (sym p.4) ∙ end)) in
        let k = first_said A_plt p.2 w last (seen_err (λ none. Target (Leaf (Symbol p.3)) ∷ []) (single_at A_plt p.2) w (sym (ap plt_at p.4 ∙ plt_step p.0 p.1 p.2 p.3 p.5 p.6) ∙ e)) in
        (k.0, k.1, inl (next, (p.0, p.1, p.2, p.4, k.2)), k.3)

    go : (b : Bool) → plt_next ts ≡ b → cond b (plt_at ts) (seen_as (λ o. o ∷ []) (value_operand_at roles.Target ts)) ≡ Err w → SaidBy IsWrongCallee ts w
    go true next e = linked next e
    go false next e = let k = value_said roles.Target ts w end (seen_err (λ o. o ∷ []) (value_operand_at roles.Target ts) w e) in (k.0, k.1, inr (next, k.2), k.3)

-- what stands in a slot
operand_wrongs : (s : Slot) (ts : List Token) (t : Token) (code : ℕ) → IsWrongOperand s ts t code → operand_at s ts ≡ Err (wrong t code)
operand_wrongs (A_value role) ts t code x = ap (seen_as (λ o. o ∷ [])) (value_is role ts t code x)
operand_wrongs (An_address_by set) ts t code x = address_wrongs set ts t code x
operand_wrongs A_callee ts t code x = callee_wrongs ts t code x
operand_wrongs A_section ts t code x = ap (seen_as (λ name. Word name ∷ [])) (section_wrongs ts t code x)
operand_wrongs s ts t code x = first_is s ts t code x

operand_said : (s : Slot) (ts : List Token) (w : SyntaxError) → is_ended ts ≡ true → operand_at s ts ≡ Err w → SaidBy (IsWrongOperand s) ts w
operand_said (A_value role) ts w end e = value_said role ts w end (seen_err (λ o. o ∷ []) (value_operand_at role ts) w e)
operand_said (An_address_by set) ts w end e = address_said set ts w end e
operand_said A_callee ts w end e = callee_said ts w end e
operand_said A_section ts w end e = section_said ts w (seen_err (λ name. Word name ∷ []) (section_name_at ts) w e) end
operand_said s ts w end e = first_said s ts w end e

-- what passes is read, up to the rest
abbrev Read_up_to : Slot → List Token → List Token → Type 0
Read_up_to s one rest = (os : List Operand) × (operand_at s (one ++ rest) ≡ Ok (os, rest))

plain_callee : (ts rest : List Token) (o : Operand) → plt_next ts ≡ false → value_operand_at roles.Target ts ≡ Ok (o, rest) → operand_at A_callee ts ≡ Ok (o ∷ [], rest)
plain_callee ts rest o next read = rw (next, read) refl

operand_passed : (s : Slot) (one rest : List Token) → Passes s one rest → Read_up_to s one rest
operand_passed (A_value role) one rest (o, is, ends) = (o ∷ [], ap (seen_as (λ o. o ∷ [])) (value_passed role one rest o is ends))
operand_passed A_callee one rest (inl (o, is, ends, next)) = (o ∷ [], plain_callee (one ++ rest) rest o next (value_passed roles.Target one rest o is ends))
operand_passed A_callee one rest (inr (os, linked)) = (os, linked_is one os linked rest)
operand_passed A_section one rest (name, joined, good, longest) = (Word name ∷ [], ap (seen_as (λ name. Word name ∷ [])) (section_passed one rest name joined good longest))
operand_passed s one rest x = (x.0, operand_is s one x.0 x.1 rest tt)

-- what is read passes
abbrev Passing : Slot → List Token → List Token → Type 0
Passing s ts rest = (one : List Token) × (ts ≡ one ++ rest) × Passes s one rest

linked_ends : (ts : List Token) (os : List Operand) (rest : List Token) → plt_next ts ≡ true → plt_at ts ≡ Ok (os, rest) → Passing A_callee ts rest
linked_ends ts os rest next e = let p = plt_parts ts next in go p.0 p.1 p.2 p.3 p.4 p.5 p.6 (sym (ap plt_at p.4) ∙ e)
  where
    go : (f a : Token) (us : List Token) (name : List ℕ) → ts ≡ f ∷ a ∷ us → token_symbol f.kind ≡ Some name → is_at_sign a.kind ≡ true → plt_at (f ∷ a ∷ us) ≡ Ok (os, rest) → Passing A_callee ts rest
    go f a us name whole symbol at e =
        let s = seen_ok (λ none. Target (Leaf (Symbol name)) ∷ []) (single_at A_plt us) os rest (sym (plt_step f a us name symbol at) ∙ e) in
        let k = single_found A_plt us s.0 rest s.1 in (
          f ∷ a ∷ k.0 ∷ [],
          whole ∙ ap (λ xs. f ∷ a ∷ xs) k.1,
          inr (os, (f, a, k.0, name, refl, symbol, at, plt_is k.0.kind s.0 k.2, s.2)),
        )

target_ends : (ts : List Token) (os : List Operand) (rest : List Token) → plt_next ts ≡ false → seen_as (λ o. o ∷ []) (value_operand_at roles.Target ts) ≡ Ok (os, rest) → Passing A_callee ts rest
target_ends ts os rest next e =
    let s = seen_ok (λ o. o ∷ []) (value_operand_at roles.Target ts) os rest e in
    let f = value_found roles.Target ts s.0 rest s.1 in
    (f.text, f.whole, inl (s.0, f.is, value_ends roles.Target ts s.0 rest s.1, ap plt_next (sym f.whole) ∙ next))

callee_ends : (ts : List Token) (os : List Operand) (rest : List Token) → operand_at A_callee ts ≡ Ok (os, rest) → Passing A_callee ts rest
callee_ends ts os rest e = go (plt_next ts) refl e
  where
    go : (b : Bool) → plt_next ts ≡ b → cond b (plt_at ts) (seen_as (λ o. o ∷ []) (value_operand_at roles.Target ts)) ≡ Ok (os, rest) → Passing A_callee ts rest
    go true next e = linked_ends ts os rest next e
    go false next e = target_ends ts os rest next e

operand_ends : (s : Slot) (ts : List Token) (os : List Operand) (rest : List Token) → operand_at s ts ≡ Ok (os, rest) → Passing s ts rest
operand_ends (A_value role) ts os rest e =
    let s = seen_ok (λ o. o ∷ []) (value_operand_at role ts) os rest e in
    let f = value_found role ts s.0 rest s.1 in
    (f.text, f.whole, (s.0, f.is, value_ends role ts s.0 rest s.1))
operand_ends A_callee ts os rest e = callee_ends ts os rest e
operand_ends A_section ts os rest e = let s = seen_ok (λ name. Word name ∷ []) (section_name_at ts) os rest e in section_ends ts s.0 rest s.1
operand_ends s ts os rest e = let f = operand_found s ts os rest e in (f.text, f.whole, (os, f.is))

taken_behind : (s : Slot) (R : List Token → Read (List Operand)) (ts rest : List Token) (os : List Operand) (w : SyntaxError) → operand_at s ts ≡ Ok (os, rest) → R rest ≡ Err w → taking s R ts ≡ Err w
taken_behind s R ts rest os w e f = rw (e, f) refl

taken_wrongs : (s : Slot) (R : List Token → Read (List Operand)) (W : List Token → Token → ℕ → Type 0) (ts : List Token) (t : Token) (code : ℕ)
    → ((us : List Token) → W us t code → R us ≡ Err (wrong t code)) → IsWrongTaken s W ts t code → taking s R ts ≡ Err (wrong t code)
taken_wrongs s R W ts t code ih (inl x) = operand_err s R ts (wrong t code) (operand_wrongs s ts t code x)
taken_wrongs s R W ts t code ih (inr (one, rest, w, is, x)) =
    let p = operand_passed s one rest is in
    taken_behind s R ts rest p.0 (wrong t code) (ap (operand_at s) w ∙ p.1) (ih rest x)

taken_said : (s : Slot) (R : List Token → Read (List Operand)) (W : List Token → Token → ℕ → Type 0) (ts : List Token) (w : SyntaxError) → is_ended ts ≡ true
    → ((os : List Operand) (rest : List Token) → operand_at s ts ≡ Ok (os, rest) → is_ended rest ≡ true → R rest ≡ Err w → SaidBy W rest w) → taking s R ts ≡ Err w → SaidBy (IsWrongTaken s W) ts w
taken_said s R W ts w end ih e = elim (bind_err (operand_at s ts) (λ o. seen_as (λ os. o.0 ++ os) (R o.1)) w e) [
  | inl f ↦ (let k = operand_said s ts w end f in (k.0, k.1, inl k.2, k.3))
  | inr a ↦ (let p = operand_ends s ts a.0.0 a.0.1 a.1 in
      let k = ih a.0.0 a.0.1 a.1 (operand_ended s ts a.0.0 a.0.1 end a.1) (seen_err (λ os. a.0.0 ++ os) (R a.0.1) w a.2) in
      (k.0, k.1, inr (p.0, a.0.1, p.1, p.2, k.2), k.3))
]

-- the end
no_end_wrongs : (s : Slot) (ts : List Token) (t : Token) (code : ℕ) → IsNoEnd s ts t code → ended_at s ts ≡ Err (wrong t code)
no_end_wrongs s ts t code (us, w, no_end, is) = ap (ended_at s) w ∙ rw (no_end, is) refl

no_end_said : (s : Slot) (ts : List Token) (w : SyntaxError) → is_ended ts ≡ true → ended_at s ts ≡ Err w → SaidBy (IsNoEnd s) ts w
no_end_said s ts w end e = let k = ended_err s ts w end e in (k.0, wrong_after s k.0.kind, (k.1, k.2, k.3, refl), k.4)

-- items
next_end : (s : Slot) (R : List Token → Read (List Operand)) (t : Token) (us : List Token) → is_comma t.kind ≡ false → further s R (t ∷ us) ≡ ended_at s (t ∷ us)
next_end s R t us other = rw other refl

next_wrongs : (s : Slot) (R : List Token → Read (List Operand)) (W : List Token → Token → ℕ → Type 0) (ts : List Token) (t : Token) (code : ℕ)
    → ((us : List Token) → W us t code → R us ≡ Err (wrong t code)) → IsWrongNext s W ts t code → further s R ts ≡ Err (wrong t code)
next_wrongs s R W ts t code ih (inl (c, us, w, comma, x)) = ap (further s R) w ∙ comma_next s R c us comma ∙ ih us x
next_wrongs s R W ts t code ih (inr (other, (us, w, no_end, is))) =
    ap (further s R) w ∙ next_end s R t us other ∙ no_end_wrongs s (t ∷ us) t code (us, refl, no_end, is)

item_wrongs : (n : ℕ) (s : Slot) (ts : List Token) (t : Token) (code : ℕ) → IsWrongItem n s ts t code → items_at s ts ≡ Err (wrong t code)
item_wrongs zero s ts t code none = absurd none
item_wrongs (suc n) s ts t code x =
    items_step s ts
    ∙ taken_wrongs s (further s (λ us. items_at s us)) (IsWrongNext s (λ us u d. IsWrongItem n s us u d)) ts t code
    (λ us y. next_wrongs s (λ vs. items_at s vs) (λ vs u d. IsWrongItem n s vs u d) us t code (λ vs z. item_wrongs n s vs t code z) y) x

-- items, whatever their number
abbrev Wrong_items : Slot → List Token → Token → ℕ → Type 0
Wrong_items s ts t code = (n : ℕ) × IsWrongItem n s ts t code

item_said : (room : ℕ) (s : Slot) (ts : List Token) (w : SyntaxError) → length ts ≤ room → is_ended ts ≡ true → items_at s ts ≡ Err w → SaidBy (Wrong_items s) ts w
item_said zero s [] w le end e = absurd (cc)
item_said zero s (t ∷ ts) w le end e = absurd (omega (arith, le))
item_said (suc room) s ts w le end e =
    let k = taken_said s (further s (λ us. items_at s us)) (IsWrongNext s (λ us u d. Wrong_items s us u d)) ts w end
    (λ os rest read last f. next rest (operand_shorter s ts os rest read) last f (λ us less last g. item_said room s us w less last g)) (sym (items_step s ts) ∙ e) in
    finish k
  where
    next : (us : List Token) → length us < length ts → is_ended us ≡ true → further s (λ us. items_at s us) us ≡ Err w
        → ((vs : List Token) → length vs ≤ room → is_ended vs ≡ true → items_at s vs ≡ Err w → SaidBy (Wrong_items s) vs w)
        → SaidBy (IsWrongNext s (λ us u d. Wrong_items s us u d)) us w
    next [] lt last f ih = absurd (cc)
    next (t ∷ us) lt last f ih = go (is_comma t.kind) refl f
      where
        go : (b : Bool) → is_comma t.kind ≡ b → cond b (items_at s us) (ended_at s (t ∷ us)) ≡ Err w → SaidBy (IsWrongNext s (λ us u d. Wrong_items s us u d)) (t ∷ us) w
        go true comma f =
            let k = ih us (omega (arith, lt, le)) (ended_more t us (comma_no_last t.kind comma) last) f in
            (k.0, k.1, inl (t, us, refl, comma, k.2), k.3)
        go false comma f =
            let k = no_end_said s (t ∷ us) w last f in
            other k.0 k.1 k.2 k.3
          where
            other : (u : Token) (code : ℕ) → IsNoEnd s (t ∷ us) u code → w ≡ wrong u code → SaidBy (IsWrongNext s (λ us u d. Wrong_items s us u d)) (t ∷ us) w
            other u code (vs, whole, no_end, is) shown =
                (u, code, inr (ap (λ (x : Token). is_comma x.kind) (sym (heads whole)) ∙ comma, (vs, whole, no_end, is)), shown)

    finish : SaidBy (IsWrongTaken s (IsWrongNext s (λ us u d. Wrong_items s us u d))) ts w → SaidBy (Wrong_items s) ts w
    finish (t, code, inl x, is) = (t, code, (1, inl x), is)
    finish (t, code, inr (one, rest, whole, passes, inl (c, us, v, comma, (n, y))), is) = (t, code, (suc n, inr (one, rest, whole, passes, inl (c, us, v, comma, y))), is)
    finish (t, code, inr (one, rest, whole, passes, inr y), is) = (t, code, (1, inr (one, rest, whole, passes, inr y)), is)

-- tokens that are not looked at
any_wrongs : (front : List Token) (t : Token) (more : List Token) (code : ℕ) → list_all (λ (u : Token). is_any u.kind) front ≡ true → is_end t.kind ≡ false → is_any t.kind ≡ false
    → code ≡ wrong_any t.kind → any_at (front ++ t ∷ more) ≡ Err (wrong t code)
any_wrongs [] t more code all no_end other is = rw (other, no_end, is) refl
any_wrongs (u ∷ front) t more code all no_end other is =
    let p = and_parts (is_any u.kind) (list_all (λ (v : Token). is_any v.kind) front) all in
    rw (p.0, any_no_end u.kind p.0) (any_wrongs front t more code p.1 no_end other is)
  where
    and_parts : (a b : Bool) → (a && b) ≡ true → (a ≡ true) × (b ≡ true)
    and_parts true b h = (refl, h)
    and_parts false b h = absurd (cc)

any_said : (ts : List Token) (w : SyntaxError) → is_ended ts ≡ true → any_at ts ≡ Err w → SaidBy IsWrongAny ts w
any_said [] w end e = absurd (cc)
any_said (t ∷ ts) w end e = go (is_end t.kind) refl e (any_said ts w)
  where
    go : (b : Bool) → is_end t.kind ≡ b → cond b (Ok ([], t ∷ ts)) (cond (is_any t.kind) (any_at ts) (Err (wrong t (wrong_any t.kind)))) ≡ Err w
        → (is_ended ts ≡ true → any_at ts ≡ Err w → SaidBy IsWrongAny ts w) → SaidBy IsWrongAny (t ∷ ts) w
    go true h e ih = absurd (never ([], t ∷ ts) w e)
    go false h e ih = more (is_any t.kind) refl e
      where
        longer : is_any t.kind ≡ true → SaidBy IsWrongAny ts w → SaidBy IsWrongAny (t ∷ ts) w
        longer any (u, code, (front, more, whole, all, no_end, other, is), shown) = (u, code, (t ∷ front, more, ap (λ us. t ∷ us) whole, rw any all, no_end, other, is), shown)

        more : (b : Bool) → is_any t.kind ≡ b → cond b (any_at ts) (Err (wrong t (wrong_any t.kind))) ≡ Err w → SaidBy IsWrongAny (t ∷ ts) w
        more true any e = longer any (ih (ended_more t ts (any_no_last t.kind any) end) e)
        more false any e = (t, wrong_any t.kind, ([], ts, refl, refl, h, any, refl), sym (wrongs _ w e))

-- a target comes next
next_is_target : (ts : List Token) → IsTargetNext ts → target_next ts ≡ true
next_is_target ts (one, rest, e, w, v, ends, shut) = ap (λ us. is_target_next (value_at us)) w ∙ ap is_target_next (value_before one rest e v ends) ∙ rw shut refl

target_is_next : (ts : List Token) → target_next ts ≡ true → IsTargetNext ts
target_is_next ts next =
    let p = target_parts ts next in
    let x = value_ended ts p.0 p.1 p.2 in
    (x.text, p.1, p.0, x.whole, x.is, ends_before ts p.0 p.1 p.2, p.3)

no_target : (ts : List Token) → (IsTargetNext ts → ⊥) → target_next ts ≡ false
no_target ts other = go (target_next ts) refl
  where
    go : (b : Bool) → target_next ts ≡ b → b ≡ false
    go true h = absurd (other (target_is_next ts h))
    go false h = refl

-- operands
operands_wrongs : (ss : Slots) (ts : List Token) (t : Token) (code : ℕ) → IsWrongIn ss ts t code → operands_at ss ts ≡ Err (wrong t code)
unfolding operands_at
operands_wrongs (Stops s) ts t code x = no_end_wrongs s ts t code x
operands_wrongs (Takes s rest) ts t code x =
    taken_wrongs s (λ us. operands_at rest us) (λ us u d. IsWrongIn rest us u d) ts t code (λ us y. operands_wrongs rest us t code y) x
operands_wrongs (Chooses s rest others) ts t code (inl (begins, x)) =
    rw begins (taken_wrongs s (λ us. operands_at rest us) (λ us u d. IsWrongIn rest us u d) ts t code (λ us y. operands_wrongs rest us t code y) x)
operands_wrongs (Chooses s rest others) ts t code (inr (unbegun, x)) = rw unbegun (operands_wrongs others ts t code x)
operands_wrongs (Locates rest) ts t code (inl (next, x)) =
    rw (next_is_target ts next) (taken_wrongs A_target (λ us. operands_at rest us) (λ us u d. IsWrongIn rest us u d) ts t code (λ us y. operands_wrongs rest us t code y) x)
operands_wrongs (Locates rest) ts t code (inr (other, x)) =
    rw (no_target ts other) (taken_wrongs An_address (ended_at An_address) (λ us u d. IsNoEnd An_address us u d) ts t code (λ us y. no_end_wrongs An_address us t code y) x)
operands_wrongs (Lists s) ts t code (n, x) = item_wrongs n s ts t code x
operands_wrongs Anything ts t code (front, more, w, all, no_end, other, is) = ap any_at w ∙ any_wrongs front t more code all no_end other is

operands_said : (ss : Slots) (ts : List Token) (w : SyntaxError) → is_ended ts ≡ true → operands_at ss ts ≡ Err w → SaidBy (λ us u d. IsWrongIn ss us u d) ts w
unfolding operands_at
operands_said (Stops s) ts w end e = no_end_said s ts w end e
operands_said (Takes s rest) ts w end e =
    taken_said s (λ us. operands_at rest us) (λ us u d. IsWrongIn rest us u d) ts w end (λ os us read last f. operands_said rest us w last f) e
operands_said (Chooses s rest others) ts w end e =
    go (front_begins s ts) refl e (λ us last f. operands_said rest us w last f) (λ f. operands_said others ts w end f)
  where
    go : (b : Bool) → front_begins s ts ≡ b → cond b (taking s (λ us. operands_at rest us) ts) (operands_at others ts) ≡ Err w
        → ((us : List Token) → is_ended us ≡ true → operands_at rest us ≡ Err w → SaidBy (λ us u d. IsWrongIn rest us u d) us w)
        → (operands_at others ts ≡ Err w → SaidBy (λ us u d. IsWrongIn others us u d) ts w) → SaidBy (λ us u d. IsWrongIn (Chooses s rest others) us u d) ts w
    go true begins e ih other =
        let k = taken_said s (λ us. operands_at rest us) (λ us u d. IsWrongIn rest us u d) ts w end (λ os us read last f. ih us last f) e in
        (k.0, k.1, inl (begins, k.2), k.3)
    go false begins e ih other = let k = other e in (k.0, k.1, inr (begins, k.2), k.3)
operands_said (Locates rest) ts w end e = go (target_next ts) refl e (λ us last f. operands_said rest us w last f)
  where
    go : (b : Bool) → target_next ts ≡ b → cond b (taking A_target (λ us. operands_at rest us) ts) (taking An_address (ended_at An_address) ts) ≡ Err w
        → ((us : List Token) → is_ended us ≡ true → operands_at rest us ≡ Err w → SaidBy (λ us u d. IsWrongIn rest us u d) us w)
        → SaidBy (λ us u d. IsWrongIn (Locates rest) us u d) ts w
    go true next e ih =
        let k = taken_said A_target (λ us. operands_at rest us) (λ us u d. IsWrongIn rest us u d) ts w end (λ os us read last f. ih us last f) e in
        (k.0, k.1, inl (target_is_next ts next, k.2), k.3)
    go false next e ih =
        let k = taken_said An_address (ended_at An_address) (λ us u d. IsNoEnd An_address us u d) ts w end (λ os us read last f. no_end_said An_address us w last f) e in
        (k.0, k.1, inr (λ target. none (sym (next_is_target ts target) ∙ next), k.2), k.3)
      where
        none : true ≡ false → ⊥
        none h = cc
operands_said (Lists s) ts w end e = item_said (length ts) s ts w (omega arith) end e
operands_said Anything ts w end e = any_said ts w end e

-- statements
begun_wrongs : (b : Beginning) (first : Token) (us : List Token) (t : Token) (code : ℕ) → IsWrongAfter b first us t code → begun_at b first us ≡ Err (wrong t code)
unfolding begun_at
begun_wrongs (beginnings.Instruction m) first us t code x = ap (seen_as (Instruction m)) (operands_wrongs (slots m) us t code x)
begun_wrongs (beginnings.Directive word) first us t code x = ap (seen_as (λ os. Directs (directed word os))) (operands_wrongs (operand_slots word) us t code x)
begun_wrongs beginnings.Nothing first us t code (same, is) = rw (same, is) refl

begun_said : (b : Beginning) (first : Token) (us : List Token) (w : SyntaxError) → is_ended (first ∷ us) ≡ true → begins first.kind ≡ b → begun_at b first us ≡ Err w
    → SaidBy (IsWrongAfter b first) us w
unfolding begun_at
begun_said (beginnings.Instruction m) first us w end is e =
    operands_said (slots m) us w (ended_more first us (begins_no_last first.kind (beginnings.Instruction m) is (λ h. cc)) end) (seen_err (Instruction m) (operands_at (slots m) us) w e)
begun_said (beginnings.Directive word) first us w end is e =
    operands_said (operand_slots word) us w (ended_more first us (begins_no_last first.kind (beginnings.Directive word) is (λ h. cc)) end)
    (seen_err (λ os. Directs (directed word os)) (operands_at (operand_slots word) us) w e)
begun_said beginnings.Nothing first us w end is e = (first, wrong_start first.kind, (refl, refl), sym (wrongs _ w e))

pub statement_wrongs : (ts : List Token) (t : Token) (code : ℕ) → IsWrongStatement ts t code → part_at ts ≡ Err (wrong t code)
unfolding part_at statement_at
statement_wrongs ts t code (first, us, w, no_end, inl (colon, none, same, is)) = ap part_at w ∙ rw (no_end, colon, none, same, is) refl
statement_wrongs ts t code (first, us, w, no_end, inr (colon, x)) =
    ap part_at w ∙ rw (no_end, colon) (ap (seen_as Says) (begun_wrongs (begins first.kind) first us t code x))

pub statement_said : (ts : List Token) (w : SyntaxError) → is_ended ts ≡ true → part_at ts ≡ Err w → SaidBy IsWrongStatement ts w
unfolding part_at statement_at
statement_said [] w end e = absurd (cc)
statement_said (t ∷ ts) w end e = go (is_end t.kind) refl e
  where
    labelled : (b : Bool) → colon_next ts ≡ b → is_end t.kind ≡ false → cond b (taken t (after_first ts) (label_of t.kind) (wrong_label t.kind)) (begun_at (begins t.kind) t ts) ≡ Err w
        → SaidBy IsWrongStatement (t ∷ ts) w
    labelled true colon no_end e =
        let k = taken_err t (after_first ts) (label_of t.kind) (wrong_label t.kind) w e in
        (t, wrong_label t.kind, (t, ts, refl, no_end, inl (colon, k.0, refl, refl)), k.1)
    labelled false colon no_end e =
        let k = begun_said (begins t.kind) t ts w end refl e in
        (k.0, k.1, (t, ts, refl, no_end, inr (colon, k.2)), k.3)

    go : (b : Bool) → is_end t.kind ≡ b → cond {A = Read SourcePart} b (Ok (Ends, ts)) (seen_as Says (statement_at t ts)) ≡ Err w → SaidBy IsWrongStatement (t ∷ ts) w
    go true ends e = absurd (never (Ends, ts) w e)
    go false ends e = labelled (colon_next ts) refl ends (seen_err Says (statement_at t ts) w e)
