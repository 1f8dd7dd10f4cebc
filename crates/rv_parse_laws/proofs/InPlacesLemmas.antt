-- Operands in the places of a statement.

use Rattle.std.proofs.Common.{◌≡◌, Bool, true, false, cond, ◌||◌, ◌&&◌, not, List, [], ◌∷◌, ◌++◌, append_assoc, Option, Some, None, is_some, Ok, Err, refl, sym, ◌∙◌, ap, subst, inl, inr}
use Rattle.std.proofs.lemmas.Bool.{and_parts}
use Rattle.rv_expression_laws.specs.declared.punct.Punct.TheVariants.{Comma, Open}
use Rattle.rv_expression_laws.specs.Grammar.{Kind, Punctuation}
use Rattle.rv_expression_laws.specs.Lexing.{Token, is_ended}
use Rattle.rv_expression_laws.specs.SyntaxError.{SyntaxError, wrong}
use Rattle.rv_parcel.specs.declared.parcel.RegisterSet.{RegisterSet}
use Rattle.rv_parcel.specs.declared.parcel.RegisterSet.TheVariants.{Any}
use Rattle.rv_parcel.specs.declared.parcel.OperandShape.{OperandShape}
use Rattle.rv_parcel.specs.declared.parcel.OperandShape.TheVariants as shapes
use Rattle.rv_parcel.specs.Mnemonics.{register_sets, shape_of}
use Rattle.rv_statement_laws.specs.declared.mnemonic.Mnemonic.{Mnemonic}
use Rattle.rv_statement_laws.specs.declared.mnemonic.Mnemonic.TheVariants.{Registers, Parcel}
use Rattle.rv_statement_laws.specs.declared.directive.DirectiveWord.{DirectiveWord}
use Rattle.rv_statement_laws.specs.declared.directive.DirectiveWord.TheVariants as words
use Rattle.rv_statement_laws.specs.Statement.{Operand}
use Rattle.rv_parse_laws.specs.Syntax.{is_comma, is_end, is_opening, with_constant, source, registers_alone, registers_and_base, registers_before, parcel_slots, last, Slot, A_value, A_target, An_address_by, A_callee, A_section, A_comma, An_opening, single, front_begins, Slots, Stops, Takes, Chooses, Locates, Lists, Anything, slots, operand_slots, IsOperand, TakesSlot, AreOperands, colon_next, EndsHere}
use Rattle.rv_parse_laws.specs.Faults.{wrong_after}
use Rattle.rv_parse_laws.specs.declared.role.Role.TheVariants as roles
use Rattle.rv_parse_laws.specs.Parsing.{taking, operands_at}
use Rattle.rv_parse_laws.proofs.FailingLemmas.{Failing, at_once, alike, first_of, same_first}
use Rattle.rv_parse_laws.proofs.SinglesLemmas.{IsSingle, is_single, end_none}
use Rattle.rv_parse_laws.proofs.ValuesLemmas.{closes, Closes}
use Rattle.rv_parse_laws.proofs.OperandsLemmas.{Ready, operand_live, operand_goes, taken_is, FoundTo, taken_found, taken_wrong}
use Rattle.rv_parse_laws.proofs.AddressesLemmas.{address_live}
use Rattle.rv_parse_laws.proofs.LocatedLemmas.{Parted, address_there, target_there, located_found, located_wrong}
use Rattle.rv_parse_laws.proofs.ItemsLemmas.{end_closes, ended_closes, ready, end_is, ended_found, ended_err, items_is, items_found, items_wrong, any_is, any_found, any_wrong}

-- what stands here first is a comma, an opening parenthesis or the end
abbrev pub is_sign : Slot → Bool
is_sign (A_comma behind) = true
is_sign (An_opening behind) = true
is_sign _ = false

abbrev pub starts : Slots → Bool
starts (Stops behind) = true
starts (Takes s rest) = is_sign s
starts (Chooses s rest others) = is_sign s && starts others
starts _ = false

-- what stands here first is a comma or the end
abbrev pub parts : Slots → Bool
parts (Stops behind) = true
parts (Takes (A_comma behind) rest) = true
parts _ = false

-- an expression and a section's name have such a thing behind them; what is chosen is one token
abbrev pub needs : Slot → Bool
needs (A_value role) = true
needs A_section = true
needs A_callee = true
needs _ = false

abbrev pub sound : Slots → Bool
sound (Stops behind) = true
sound (Takes s rest) = (not (needs s) || starts rest) && sound rest
sound (Chooses s rest others) = is_single s && (sound rest && sound others)
sound (Locates rest) = parts rest && sound rest
sound (Lists s) = true
sound Anything = true

sound_source : (b : Bool) → sound (source b) ≡ true
sound_source true = refl
sound_source false = refl

alone_sound : (sets : List RegisterSet) → sound (registers_alone sets) ≡ true
alone_sound [] = refl
alone_sound (set ∷ []) = refl
alone_sound (set ∷ other ∷ sets) = alone_sound (other ∷ sets)

based_sound : (sets : List RegisterSet) → sound (registers_and_base sets) ≡ true
based_sound [] = refl
based_sound (set ∷ []) = refl
based_sound (set ∷ other ∷ sets) = based_sound (other ∷ sets)

before_sound : (sets : List RegisterSet) (rest : Slots) → sound rest ≡ true → sound (registers_before sets rest) ≡ true
before_sound [] rest h = h
before_sound (set ∷ sets) rest h = before_sound sets rest h

parcel_sound : (shape : OperandShape) (sets : List RegisterSet) → sound (parcel_slots shape sets) ≡ true
parcel_sound shapes.Registers sets = alone_sound sets
parcel_sound shapes.Number sets = before_sound sets (last (A_value roles.Operand)) refl
parcel_sound shapes.Address sets = based_sound sets
parcel_sound shapes.Target sets = before_sound sets (last A_target) refl

pub slots_sound : (m : Mnemonic) → sound (slots m) ≡ true
slots_sound (Registers operation) = sound_source (is_some (with_constant operation))
slots_sound (Parcel operation) = parcel_sound (shape_of operation) (register_sets operation)
slots_sound _ = refl

pub places_sound : (word : DirectiveWord) → sound (operand_slots word) ≡ true
places_sound (words.Enters section) = refl
places_sound _ = refl

-- the token at the front of a place for one token
pub one_begins : (s : Slot) (text more : List Token) (os : List Operand) → IsSingle s text os → front_begins s (text ++ more) ≡ true
one_begins s text more os (t, w, is) = rw w (rw is refl)

pub operand_begins : (s : Slot) (text more : List Token) (os : List Operand) → is_single s ≡ true → IsOperand s text os → front_begins s (text ++ more) ≡ true
operand_begins (A_value role) text more os one is = absurd (cc)
operand_begins (An_address_by set) text more os one is = absurd (cc)
operand_begins A_callee text more os one is = absurd (cc)
operand_begins A_section text more os one is = absurd (cc)
operand_begins s text more os one is = one_begins s text more os is

pub front_same : (s : Slot) (us ts : List Token) → first_of us ≡ first_of ts → front_begins s us ≡ front_begins s ts
front_same s [] [] e = refl
front_same s [] (t ∷ ts) e = absurd (cc)
front_same s (u ∷ us) [] e = absurd (cc)
front_same s (u ∷ us) (t ∷ ts) e = let same : u ≡ t = cc in ap (λ (x : Token). is_some (single s x.kind)) same

-- the end behind some tokens begins nothing more
front_ended : (s : Slot) (text rest : List Token) → front_begins s text ≡ false → EndsHere rest → front_begins s (text ++ rest) ≡ false
front_ended s [] rest h (t, us, e, is) = rw e (rw (end_none s t.kind is) refl)
front_ended s (t ∷ ts) rest h ends = h

-- where nothing begins at the front of all, nothing begins at the front of a part
front_of_part : (s : Slot) (text rest : List Token) → front_begins s (text ++ rest) ≡ false → front_begins s text ≡ false
front_of_part s [] rest h = refl
front_of_part s (t ∷ ts) rest h = h

comma_some : (k : Kind) (os : List Operand) → cond {A = Option (List Operand)} (is_comma k) (Some []) None ≡ Some os → closes k ≡ true
comma_some (Punctuation Comma) os h = refl
comma_some (Punctuation _) os h = absurd (cc)
comma_some _ os h = absurd (cc)

opening_some : (k : Kind) (os : List Operand) → cond {A = Option (List Operand)} (is_opening k) (Some []) None ≡ Some os → closes k ≡ true
opening_some (Punctuation Open) os h = refl
opening_some (Punctuation _) os h = absurd (cc)
opening_some _ os h = absurd (cc)

sign_closes : (s : Slot) (text : List Token) (os : List Operand) → is_sign s ≡ true → IsOperand s text os → Closes text
sign_closes (A_comma slot) text os sign is = (is.0, [], is.1, comma_some is.0.kind os is.2)
sign_closes (An_opening slot) text os sign is = (is.0, [], is.1, opening_some is.0.kind os is.2)
sign_closes s text os sign is = absurd (cc)

closes_more : (text more : List Token) → Closes text → Closes (text ++ more)
closes_more text more (t, us, e, h) = (t, us ++ more, ap (λ xs. xs ++ more) e, h)

starts_closes : (ss : Slots) (text : List Token) (os : List Operand) (rest : List Token) → starts ss ≡ true → AreOperands ss text os → EndsHere rest → Closes (text ++ rest)
starts_closes (Stops behind) text os rest h (none, nil) ends = subst (λ us. Closes (us ++ rest)) (sym none) (ended_closes rest ends)
starts_closes (Takes s more) text os rest h (one, others, now, later, w, is, are, v) ends =
    subst (λ us. Closes (us ++ rest)) (sym w) (subst Closes (sym (append_assoc one others rest)) (closes_more one (others ++ rest) (sign_closes s one now h is)))
starts_closes (Chooses s more others) text os rest h (inl (one, after, now, later, w, is, are, v)) ends =
    subst (λ us. Closes (us ++ rest)) (sym w) (subst Closes (sym (append_assoc one after rest)) (closes_more one (after ++ rest) (sign_closes s one now (and_parts (is_sign s) (starts others) h).0 is)))
starts_closes (Chooses s more others) text os rest h (inr (front, are)) ends = starts_closes others text os rest (and_parts (is_sign s) (starts others) h).1 are ends
starts_closes (Locates more) text os rest h are ends = absurd (cc)
starts_closes (Lists s) text os rest h are ends = absurd (cc)
starts_closes Anything text os rest h are ends = absurd (cc)

comma_is : (s : Slot) (text : List Token) (os : List Operand) (more : List Token) → IsOperand (A_comma s) text os → Parted (text ++ more)
comma_is s text os more (t, w, is) = (t, more, ap (λ us. us ++ more) w, comma_some t.kind os is, comma_shut t.kind os is)
  where
    comma_shut : (k : Kind) (os : List Operand) → cond {A = Option (List Operand)} (is_comma k) (Some []) None ≡ Some os → is_opening k ≡ false
    comma_shut (Punctuation Comma) os h = refl
    comma_shut (Punctuation _) os h = absurd (cc)
    comma_shut _ os h = absurd (cc)

end_parted : (rest : List Token) → EndsHere rest → Parted rest
end_parted rest (t, us, e, is) = (t, us, e, end_closes t.kind is, end_shut t.kind is)
  where
    end_shut : (k : Kind) → is_end k ≡ true → is_opening k ≡ false
    end_shut (Punctuation Open) h = absurd (cc)
    end_shut (Punctuation _) h = refl
    end_shut _ h = refl

parts_parted : (ss : Slots) (text : List Token) (os : List Operand) (rest : List Token) → parts ss ≡ true → AreOperands ss text os → EndsHere rest → Parted (text ++ rest)
parts_parted (Stops behind) text os rest h (none, nil) ends = subst (λ us. Parted (us ++ rest)) (sym none) (end_parted rest ends)
parts_parted (Takes (A_comma s) more) text os rest h (one, others, now, later, w, is, are, v) ends =
    subst (λ us. Parted (us ++ rest)) (sym w) (subst Parted (sym (append_assoc one others rest)) (comma_is s one now (others ++ rest) is))
parts_parted (Takes _ more) text os rest h are ends = absurd (cc)
parts_parted _ text os rest h are ends = absurd (cc)

-- what stands behind a place that needs it
ready_for : (s : Slot) (rest : List Token) → needs s ≡ false → Ready s rest
ready_for (A_value role) rest h = absurd (cc)
ready_for A_section rest h = absurd (cc)
ready_for A_callee rest h = absurd (cc)
ready_for _ rest h = tt

ready_one : (s : Slot) (rest : List Token) → is_single s ≡ true → Ready s rest
ready_one (A_value role) rest h = absurd (cc)
ready_one A_section rest h = absurd (cc)
ready_one A_callee rest h = absurd (cc)
ready_one _ rest h = tt

ready_behind : (s : Slot) (ss : Slots) (text : List Token) (os : List Operand) (rest : List Token) → (not (needs s) || starts ss) ≡ true → AreOperands ss text os → EndsHere rest → Ready s (text ++ rest)
ready_behind s ss text os rest h are ends = go (needs s) refl h
  where
    go : (b : Bool) → needs s ≡ b → (not b || starts ss) ≡ true → Ready s (text ++ rest)
    go true e h = ready s (text ++ rest) (starts_closes ss text os rest h are ends)
    go false e h = ready_for s (text ++ rest) e

pub operands_is : (ss : Slots) (text : List Token) (os : List Operand) → sound ss ≡ true → AreOperands ss text os → (rest : List Token) → EndsHere rest → operands_at ss (text ++ rest) ≡ Ok (os, rest)
unfolding operands_at
operands_is (Stops s) text os good (w, v) rest ends = rw (w, v) (end_is s rest ends)
operands_is (Takes s more) text os good (one, others, now, later, w, is, are, v) rest ends =
    let p = and_parts (not (needs s) || starts more) (sound more) good in
    rw (w, v) (taken_is s (λ us. operands_at more us) one others rest now later is (ready_behind s more others later rest p.0 are ends) (operands_is more others later p.1 are rest ends))
operands_is (Chooses s more other) text os good (inl (one, others, now, later, w, is, are, v)) rest ends =
    let p = and_parts (is_single s) (sound more && sound other) good in
    let r = and_parts (sound more) (sound other) p.1 in
    let front : front_begins s ((one ++ others) ++ rest) ≡ true = ap (front_begins s) (append_assoc one others rest) ∙ operand_begins s one (others ++ rest) now p.0 is in
    rw (w, v) (rw front (taken_is s (λ us. operands_at more us) one others rest now later is (ready_one s (others ++ rest) p.0) (operands_is more others later r.0 are rest ends)))
operands_is (Chooses s more other) text os good (inr (front, are)) rest ends =
    let p = and_parts (is_single s) (sound more && sound other) good in
    let r = and_parts (sound more) (sound other) p.1 in
    rw (front_ended s text rest front ends) (operands_is other text os r.1 are rest ends)
operands_is (Locates more) text os good (inl address) rest ends = address_there (λ us. operands_at more us) text os rest address ends
operands_is (Locates more) text os good (inr (one, others, now, later, w, is, are, v)) rest ends =
    let p = and_parts (parts more) (sound more) good in
    rw (w, v) (target_there (λ us. operands_at more us) one others rest now later is (parts_parted more others later rest p.0 are ends) (operands_is more others later p.1 are rest ends))
operands_is (Lists s) text os good (n, items) rest ends = items_is n s text os items rest ends
operands_is Anything text os good any rest ends = any_is text os any rest ends

pub operands_found : (ss : Slots) (ts : List Token) (os : List Operand) (rest : List Token) → operands_at ss ts ≡ Ok (os, rest) → FoundTo (λ us ps. AreOperands ss us ps) ts os rest
unfolding operands_at
operands_found (Stops s) ts os rest e = let f = ended_found s ts os rest e in ([], f.0, (refl, f.1), f.2)
operands_found (Takes s more) ts os rest e =
    taken_found s (λ us. operands_at more us) (λ us ps. AreOperands more us ps) ts os rest (λ now us h ps f. operands_found more us ps rest f) e
operands_found (Chooses s more others) ts os rest e =
    go (front_begins s ts) refl e (λ us ps f. operands_found more us ps rest f) (λ h. operands_found others ts os rest h)
  where
    go : (b : Bool) → front_begins s ts ≡ b → cond b (taking s (λ us. operands_at more us) ts) (operands_at others ts) ≡ Ok (os, rest)
        → ((us : List Token) (ps : List Operand) → operands_at more us ≡ Ok (ps, rest) → FoundTo (λ us ps. AreOperands more us ps) us ps rest)
        → (operands_at others ts ≡ Ok (os, rest) → FoundTo (λ us ps. AreOperands others us ps) ts os rest)
        → FoundTo (λ us ps. AreOperands (Chooses s more others) us ps) ts os rest
    go true begins e ih other =
        let f = taken_found s (λ us. operands_at more us) (λ us ps. AreOperands more us ps) ts os rest (λ now us h ps g. ih us ps g) e in
        (f.0, f.1, inl f.2, f.3)
    go false begins e ih other =
        let f = other e in
        (f.0, f.1, inr (front_of_part s f.0 rest (ap (front_begins s) (sym f.1) ∙ begins), f.2), f.3)
operands_found (Locates more) ts os rest e =
    located_found (λ us. operands_at more us) (λ us ps. AreOperands more us ps) ts os rest (λ us ps f. operands_found more us ps rest f) e
operands_found (Lists s) ts os rest e = items_found s ts os rest e
operands_found Anything ts os rest e = any_found ts os rest e

pub operands_go : (ss : Slots) → (text : List Token) × (os : List Operand) × AreOperands ss text os
operands_go (Stops s) = ([], [], (refl, refl))
operands_go (Takes s more) =
    let o = operand_goes s in
    let m = operands_go more in
    (o.0 ++ m.0, o.1 ++ m.1, (o.0, m.0, o.1, m.1, refl, o.2, m.2, refl))
operands_go (Chooses s more others) =
    let o = operand_goes s in
    let m = operands_go more in
    (o.0 ++ m.0, o.1 ++ m.1, inl (o.0, m.0, o.1, m.1, refl, o.2, m.2, refl))
operands_go (Locates more) = let a = address_live Any in (a.0 ∷ a.1, a.2, inl a.3)
operands_go (Lists s) = let o = operand_goes s in (o.0, o.1, (1, o.2))
operands_go Anything = ([], [], (refl, refl))

-- operands that do not begin with a colon
pub operands_live : (ss : Slots) → (text : List Token) × (os : List Operand) × AreOperands ss text os × (colon_next text ≡ false)
operands_live (Stops s) = ([], [], (refl, refl), refl)
operands_live (Takes s more) =
    let o = operand_live s in
    let m = operands_go more in
    (o.0 ∷ (o.1 ++ m.0), o.2 ++ m.1, (o.0 ∷ o.1, m.0, o.2, m.1, refl, o.3, m.2, refl), o.4)
operands_live (Chooses s more others) =
    let o = operand_live s in
    let m = operands_go more in
    (o.0 ∷ (o.1 ++ m.0), o.2 ++ m.1, inl (o.0 ∷ o.1, m.0, o.2, m.1, refl, o.3, m.2, refl), o.4)
operands_live (Locates more) = let a = address_live Any in (a.0 ∷ a.1, a.2, inl a.3, a.4)
operands_live (Lists s) = let o = operand_live s in (o.0 ∷ o.1, o.2, (1, o.3), o.4)
operands_live Anything = ([], [], (refl, refl), refl)

-- where a choice is made
chosen_wrong : (s : Slot) (more others : Slots) (ts : List Token) (w : SyntaxError) → front_begins s ts ≡ true
    → Failing (List Operand) (TakesSlot s (λ us ps. AreOperands more us ps)) (taking s (λ us. operands_at more us)) ts w
    → Failing (List Operand) (λ us ps. AreOperands (Chooses s more others) us ps) (λ us. operands_at (Chooses s more others) us) ts w
unfolding operands_at
chosen_wrong s more others ts w begins x =
    alike (List Operand) (List Operand) (λ us ps. AreOperands (Chooses s more others) us ps) (TakesSlot s (λ us ps. AreOperands more us ps))
    (λ us. operands_at (Chooses s more others) us) (taking s (λ us. operands_at more us)) ts w
    (λ us ps taken. (ps, inl taken)) (λ us first h. rw (front_same s us ts first ∙ begins) h) x

other_wrong : (s : Slot) (more others : Slots) (ts : List Token) (w : SyntaxError) → front_begins s ts ≡ false
    → Failing (List Operand) (λ us ps. AreOperands others us ps) (λ us. operands_at others us) ts w
    → Failing (List Operand) (λ us ps. AreOperands (Chooses s more others) us ps) (λ us. operands_at (Chooses s more others) us) ts w
unfolding operands_at
other_wrong s more others ts w unbegun x = record {
  before = x.before;
  at = x.at;
  more = x.more;
  whole = x.whole;
  is_wrong = x.is_wrong;
  fails = λ text. rw (front_same s (x.before ++ x.at ∷ text) ts (same_first x.before x.at text x.more ∙ ap first_of (sym x.whole)) ∙ unbegun) (x.fails text);
  goes = goes x.before x.whole x.goes;
}
  where
    goes : (before : List Token) → ts ≡ before ++ x.at ∷ x.more → (text : List Token) × (os : List Operand) × AreOperands others (before ++ text) os
        → (text : List Token) × (os : List Operand) × AreOperands (Chooses s more others) (before ++ text) os
    goes [] whole live = operands_go (Chooses s more others)
    goes (t ∷ before) whole (text, os, are) = (text, os, inr (ap (front_begins s) (sym whole) ∙ unbegun, are))

stop_wrong : (s : Slot) (ts : List Token) (w : SyntaxError) → (t : Token) × (us : List Token) × (ts ≡ t ∷ us) × (is_end t.kind ≡ false) × (w ≡ wrong t (wrong_after s t.kind))
    → Failing (List Operand) (λ us ps. AreOperands (Stops s) us ps) (λ us. operands_at (Stops s) us) ts w
unfolding operands_at
stop_wrong s ts w (t, us, whole, no_end, is) = record {
  before = [];
  at = t;
  more = us;
  whole = whole;
  is_wrong = at_once [] t _ w is;
  fails = λ text. rw (no_end, is) refl;
  goes = ([], [], (refl, refl));
}

pub operands_wrong : (ss : Slots) (ts : List Token) (w : SyntaxError) → is_ended ts ≡ true → operands_at ss ts ≡ Err w
    → Failing (List Operand) (λ us ps. AreOperands ss us ps) (λ us. operands_at ss us) ts w
unfolding operands_at
operands_wrong (Stops s) ts w end e = stop_wrong s ts w (ended_err s ts w end e)
operands_wrong (Takes s more) ts w end e =
    alike (List Operand) (List Operand) (λ us ps. AreOperands (Takes s more) us ps) (TakesSlot s (λ us ps. AreOperands more us ps))
    (λ us. operands_at (Takes s more) us) (taking s (λ us. operands_at more us)) ts w (λ us ps taken. (ps, taken)) (λ us first h. h)
    (taken_wrong s (λ us. operands_at more us) (λ us ps. AreOperands more us ps) ts w (operands_go more) end e (λ os rest h last f. operands_wrong more rest w last f))
operands_wrong (Chooses s more others) ts w end e =
    go (front_begins s ts) refl e (λ rest last f. operands_wrong more rest w last f) (λ h. operands_wrong others ts w end h)
  where
    go : (b : Bool) → front_begins s ts ≡ b → cond b (taking s (λ us. operands_at more us) ts) (operands_at others ts) ≡ Err w
        → ((rest : List Token) → is_ended rest ≡ true → operands_at more rest ≡ Err w → Failing (List Operand) (λ us ps. AreOperands more us ps) (λ us. operands_at more us) rest w)
        → (operands_at others ts ≡ Err w → Failing (List Operand) (λ us ps. AreOperands others us ps) (λ us. operands_at others us) ts w)
        → Failing (List Operand) (λ us ps. AreOperands (Chooses s more others) us ps) (λ us. operands_at (Chooses s more others) us) ts w
    go true begins e ih other =
        chosen_wrong s more others ts w begins
        (taken_wrong s (λ us. operands_at more us) (λ us ps. AreOperands more us ps) ts w (operands_go more) end e (λ os rest h last f. ih rest last f))
    go false begins e ih other = other_wrong s more others ts w begins (other e)
operands_wrong (Locates more) ts w end e =
    located_wrong (λ us. operands_at more us) (λ us ps. AreOperands more us ps) ts w (operands_go more) end e (λ rest last f. operands_wrong more rest w last f)
operands_wrong (Lists s) ts w end e = items_wrong s ts w end e
operands_wrong Anything ts w end e = any_wrong ts w end e
