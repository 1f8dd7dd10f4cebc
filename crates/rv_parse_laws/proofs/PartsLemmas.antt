-- The reading of a part answers exactly what the syntax spells, and is wrong at the first token with which nothing can go on.

use Rattle.std.proofs.Common.{◌≡◌, Bool, true, false, cond, List, [], ◌∷◌, ◌++◌, append_assoc, Some, None, Ok, Err, refl, sym, ◌∙◌, ap, subst, codes}
use Rattle.rv_expression_laws.specs.declared.punct.Punct.TheVariants.{Colon}
use Rattle.rv_expression_laws.specs.Bytes.{is_decimal}
use Rattle.std.specs.List.{list_all}
use Rattle.rv_expression_laws.specs.Grammar.{Kind, Punctuation, Name as NameToken, Number, Bad_word}
use Rattle.rv_expression_laws.specs.Lexing.{Token, is_last, is_ended}
use Rattle.rv_expression_laws.specs.SyntaxError.{SyntaxError, wrong, Read}
use Rattle.rv_expression_laws.proofs.ExpressionWrongLemmas.{ended_more}
use Rattle.rv_statement_laws.specs.Statement.{Operand, StatementKind, Label, Numbered, Instruction, Directs}
use Rattle.rv_isa.specs.RegisterNames.{abi_names}
use Rattle.rv_parse_laws.specs.Words.{register_names, register}
use Rattle.rv_parse_laws.specs.Syntax.{is_symbol, label_of, begins, is_colon, is_end, Slots, slots, operand_slots, directed, AreOperands, colon_next, IsLabel, IsStatement, SourcePart, Ends, Says, IsPart, EndsHere, StopsPart}
use Rattle.rv_parse_laws.specs.Faults.{wrong_start, wrong_label}
use Rattle.rv_parse_laws.specs.Parsing.{seen_as, taken, operands_at, begun_at, after_first, statement_at, part_at}
use Rattle.rv_parse_laws.specs.Refusals.{is_label_part, begins_label}
use Rattle.rv_parse_laws.proofs.StepsLemmas.{seen_ok, taken_ok, pair_parts, seen_err, taken_err}
use Rattle.rv_parse_laws.proofs.FailingLemmas.{Failing, Shown, at_once, shown_behind, never, wrongs}
use Rattle.rv_parse_laws.proofs.SinglesLemmas.{some_token, a_symbol, a_newline}
use Rattle.rv_parse_laws.proofs.InPlacesLemmas.{slots_sound, places_sound, operands_is, operands_found, operands_wrong, operands_live}
use Rattle.rv_parse_laws.specs.declared.beginning.Beginning.{Beginning}
use Rattle.rv_parse_laws.specs.declared.beginning.Beginning.TheVariants as beginnings

end_no_colon : (k : Kind) → is_end k ≡ true → is_colon k ≡ false
end_no_colon (Punctuation Colon) h = absurd (cc)
end_no_colon (Punctuation _) h = refl
end_no_colon _ h = refl

label_no_end : (k : Kind) (s : StatementKind) → label_of k ≡ Some s → is_end k ≡ false
label_no_end (NameToken name) s h = refl
label_no_end (Number word number) s h = refl
label_no_end (Bad_word word) s h = refl
label_no_end _ s h = absurd (cc)

-- a label says one
abbrev pub IsLabelled : StatementKind → Type 0
IsLabelled s = is_label_part (Says s) ≡ true

labelled_if : (b : Bool) (t s : StatementKind) → IsLabelled t → cond b (Some t) None ≡ Some s → IsLabelled s
labelled_if true t s l h = let same : t ≡ s = cc in subst IsLabelled same l
labelled_if false t s l h = absurd (cc)

labels : (k : Kind) (s : StatementKind) → label_of k ≡ Some s → IsLabelled s
labels (NameToken name) s h = labelled_if (is_symbol name) (Label name) s refl h
labels (Number word number) s h = labelled_if (list_all is_decimal word) (Numbered _) s refl h
labels (Bad_word word) s h = labelled_if (list_all is_decimal word) (Numbered _) s refl h
labels _ s h = absurd (cc)

to_label : (ts : List Token) (s : StatementKind) → IsLabelled s → IsLabel ts s → IsStatement ts s
to_label ts (Label name) l h = h
to_label ts (Numbered number) l h = h
to_label ts (Instruction m os) l h = absurd (cc)
to_label ts (Directs d) l h = absurd (cc)

-- a token that begins something that is built
begins_no_end : (k : Kind) (b : Beginning) → begins k ≡ b → (b ≡ beginnings.Nothing → ⊥) → is_end k ≡ false
begins_no_end (NameToken word) b h some = refl
begins_no_end _ b h some = absurd (some (sym h))

pub begins_no_last : (k : Kind) (b : Beginning) → begins k ≡ b → (b ≡ beginnings.Nothing → ⊥) → is_last k ≡ false
begins_no_last (NameToken word) b h some = refl
begins_no_last _ b h some = absurd (some (sym h))

pub last_begins_nothing : (k : Kind) → is_last k ≡ true → begins k ≡ beginnings.Nothing
last_begins_nothing (NameToken word) h = absurd (cc)
last_begins_nothing _ h = refl

-- no colon behind what has none at its front, up to the end
colon_behind : (ts rest : List Token) → colon_next ts ≡ false → EndsHere rest → colon_next (ts ++ rest) ≡ false
colon_behind [] rest h (t, us, e, is) = rw e (end_no_colon t.kind is)
colon_behind (t ∷ ts) rest h ends = h

colon_of_part : (text rest : List Token) → colon_next (text ++ rest) ≡ false → colon_next text ≡ false
colon_of_part [] rest h = refl
colon_of_part (t ∷ ts) rest h = h

-- a statement behind its first token, no label
begun_is : (b : Beginning) (t : Token) (us : List Token) (s : StatementKind) (rest : List Token) → begins t.kind ≡ b → (b ≡ beginnings.Nothing → ⊥)
    → colon_next us ≡ false → begun_at b t us ≡ Ok (s, rest) → part_at (t ∷ us) ≡ Ok (Says s, rest)
unfolding part_at statement_at
begun_is b t us s rest is some no_colon e = rw (begins_no_end t.kind b is some, no_colon, is, e) refl

label_is : (text rest : List Token) (s : StatementKind) → IsLabel text s → part_at (text ++ rest) ≡ Ok (Says s, rest)
unfolding part_at statement_at
label_is text rest s (t, c, w, is, colon) = rw w (rw (label_no_end t.kind s is, colon, is) refl)

pub part_is : (p : SourcePart) (text rest : List Token) → IsPart p text → StopsPart p rest → part_at (text ++ rest) ≡ Ok (p, rest)
unfolding part_at begun_at
part_is Ends text rest (t, w, is) stops = rw w (rw is refl)
part_is (Says (Label name)) text rest label stops = label_is text rest (Label name) label
part_is (Says (Numbered number)) text rest label stops = label_is text rest (Numbered number) label
part_is (Says (Instruction m os)) text rest (t, more, w, colon, is, are) ends =
    rw w (begun_is (beginnings.Instruction m) t (more ++ rest) (Instruction m os) rest is (λ h. cc) (colon_behind more rest colon ends)
    (ap (seen_as (Instruction m)) (operands_is (slots m) more os (slots_sound m) are rest ends)))
part_is (Says (Directs d)) text rest (t, more, word, os, w, colon, is, are, v) ends =
    rw (w, v) (begun_is (beginnings.Directive word) t (more ++ rest) (Directs (directed word os)) rest is (λ h. cc) (colon_behind more rest colon ends)
    (ap (seen_as (λ os. Directs (directed word os))) (operands_is (operand_slots word) more os (places_sound word) are rest ends)))

-- a part, up to the rest
abbrev pub FoundPart : List Token → SourcePart → List Token → Type 0
FoundPart ts p rest = (text : List Token) × (ts ≡ text ++ rest) × IsPart p text × StopsPart p rest

begun_found : (b : Beginning) (t : Token) (ts : List Token) (s : StatementKind) (rest : List Token) → begins t.kind ≡ b → colon_next ts ≡ false → begun_at b t ts ≡ Ok (s, rest)
    → FoundPart (t ∷ ts) (Says s) rest
unfolding begun_at
begun_found (beginnings.Instruction m) t ts s rest is colon e =
    let v = seen_ok (Instruction m) (operands_at (slots m) ts) s rest e in
    let f = operands_found (slots m) ts v.0 rest v.1 in
    subst (λ s. FoundPart (t ∷ ts) (Says s) rest) (sym v.2)
    (t ∷ f.0, ap (λ us. t ∷ us) f.1, (t, f.0, refl, colon_of_part f.0 rest (ap colon_next (sym f.1) ∙ colon), is, f.2), f.3)
begun_found (beginnings.Directive word) t ts s rest is colon e =
    let v = seen_ok (λ os. Directs (directed word os)) (operands_at (operand_slots word) ts) s rest e in
    let f = operands_found (operand_slots word) ts v.0 rest v.1 in
    subst (λ s. FoundPart (t ∷ ts) (Says s) rest) (sym v.2)
    (t ∷ f.0, ap (λ us. t ∷ us) f.1, (t, f.0, word, v.0, refl, colon_of_part f.0 rest (ap colon_next (sym f.1) ∙ colon), is, f.2, refl), f.3)
begun_found beginnings.Nothing t ts s rest is colon e = absurd (cc)

any_stop : (s : StatementKind) (rest : List Token) → IsLabelled s → StopsPart (Says s) rest
any_stop (Label name) rest l = tt
any_stop (Numbered number) rest l = tt
any_stop (Instruction m os) rest l = absurd (cc)
any_stop (Directs d) rest l = absurd (cc)

statement_found : (t : Token) (ts : List Token) (s : StatementKind) (rest : List Token) → statement_at t ts ≡ Ok (s, rest) → FoundPart (t ∷ ts) (Says s) rest
unfolding statement_at
statement_found t ts s rest e = go (colon_next ts) refl e
  where
    labelled : (us : List Token) → ts ≡ us → colon_next us ≡ true → taken t (after_first us) (label_of t.kind) (wrong_label t.kind) ≡ Ok (s, rest) → FoundPart (t ∷ ts) (Says s) rest
    labelled [] same colon e = absurd (cc)
    labelled (c ∷ us) same colon e =
        let k = taken_ok t us (label_of t.kind) (wrong_label t.kind) s rest e in
        let l = labels t.kind s k.0 in
        (t ∷ c ∷ [], ap (λ xs. t ∷ xs) same ∙ ap (λ xs. t ∷ c ∷ xs) k.1, to_label (t ∷ c ∷ []) s l (t, c, refl, k.0, colon), any_stop s rest l)

    go : (b : Bool) → colon_next ts ≡ b → cond b (taken t (after_first ts) (label_of t.kind) (wrong_label t.kind)) (begun_at (begins t.kind) t ts) ≡ Ok (s, rest) → FoundPart (t ∷ ts) (Says s) rest
    go true colon e = labelled ts refl colon e
    go false colon e = begun_found (begins t.kind) t ts s rest refl colon e

pub part_found : (ts : List Token) (p : SourcePart) (rest : List Token) → part_at ts ≡ Ok (p, rest) → FoundPart ts p rest
unfolding part_at
part_found [] p rest e = absurd (cc)
part_found (t ∷ ts) p rest e = go (is_end t.kind) refl e
  where
    go : (b : Bool) → is_end t.kind ≡ b → cond {A = Read SourcePart} b (Ok (Ends, ts)) (seen_as Says (statement_at t ts)) ≡ Ok (p, rest) → FoundPart (t ∷ ts) p rest
    go true ends e =
        let q = pair_parts _ _ _ _ _ refl e in
        subst (λ p. FoundPart (t ∷ ts) p rest) q.0 (t ∷ [], ap (λ us. t ∷ us) q.1, (t, refl, ends), tt)
    go false ends e =
        let v = seen_ok Says (statement_at t ts) p rest e in
        subst (λ p. FoundPart (t ∷ ts) p rest) (sym v.2) (statement_found t ts v.0 rest v.1)

-- a part that a colon behind the rest's first token makes a label, and that is none without it
abbrev pub PartOf : List Token → List Token → SourcePart → Type 0
PartOf rest us p = (is_label_part p ≡ begins_label rest) × IsPart p us

-- where no part stands: a colon behind the first token makes it a label, and without one it is none
pub record WrongAt (ts : List Token) (w : SyntaxError) : Type 0 where
  pub before : List Token
  pub at : Token
  pub more : List Token
  pub whole : ts ≡ before ++ at ∷ more
  pub is_wrong : Shown before at w
  pub fails : (text : List Token) → begins_label (before ++ at ∷ text) ≡ begins_label ts → part_at (before ++ at ∷ text) ≡ Err w
  pub goes : (text : List Token) × (p : SourcePart) × PartOf ts (before ++ text) p

abbrev a_colon : Token
a_colon = some_token (Punctuation Colon)

begun_err : (b : Beginning) (t : Token) (us : List Token) (w : SyntaxError) → is_end t.kind ≡ false → begins t.kind ≡ b → colon_next us ≡ false → begun_at b t us ≡ Err w → part_at (t ∷ us) ≡ Err w
unfolding part_at statement_at
begun_err b t us w no_end is colon e = rw (no_end, colon, is, e) refl

-- what goes on where no colon comes next
plain_goes : (ss : Slots) (ts before : List Token) (at : Token) (more : List Token) → ts ≡ before ++ at ∷ more → colon_next ts ≡ false → (text : List Token) × (os : List Operand) × AreOperands ss (before ++ text) os
    → (text : List Token) × (os : List Operand) × AreOperands ss (before ++ text) os × (colon_next (before ++ text) ≡ false)
plain_goes ss ts [] at more whole colon live = operands_live ss
plain_goes ss ts (t ∷ before) at more whole colon (text, os, are) = (text, os, are, ap colon_next (sym whole) ∙ colon)

-- what is wrong behind the first token
begun_behind : (t : Token) (ts : List Token) (w : SyntaxError) (b : Beginning) (ss : Slots) (view : List Operand → StatementKind) → is_end t.kind ≡ false → begins t.kind ≡ b → colon_next ts ≡ false
    → ((us : List Token) → operands_at ss us ≡ Err w → begun_at b t us ≡ Err w)
    → ((us : List Token) (os : List Operand) → colon_next us ≡ false → AreOperands ss us os → PartOf (t ∷ ts) (t ∷ us) (Says (view os)))
    → Failing (List Operand) (λ us ps. AreOperands ss us ps) (λ us. operands_at ss us) ts w → WrongAt (t ∷ ts) w
begun_behind t ts w b ss view no_end is colon on to x =
    let g = plain_goes ss ts x.before x.at x.more x.whole colon x.goes in
    record {
      before = t ∷ x.before;
      at = x.at;
      more = x.more;
      whole = ap (λ us. t ∷ us) x.whole;
      is_wrong = shown_behind (t ∷ []) x.before x.at w x.is_wrong;
      fails = λ text label. begun_err b t (x.before ++ x.at ∷ text) w no_end is (label ∙ colon) (on (x.before ++ x.at ∷ text) (x.fails text));
      goes = (g.0, Says (view g.1), to (x.before ++ g.0) g.1 g.3 g.2);
    }

begun_wrong : (b : Beginning) (t : Token) (ts : List Token) (w : SyntaxError) → is_ended (t ∷ ts) ≡ true → begins t.kind ≡ b → is_end t.kind ≡ false → colon_next ts ≡ false → begun_at b t ts ≡ Err w
    → WrongAt (t ∷ ts) w
unfolding begun_at
begun_wrong (beginnings.Instruction m) t ts w end is no_end colon e =
    begun_behind t ts w (beginnings.Instruction m) (slots m) (Instruction m) no_end is colon (λ us h. ap (seen_as (Instruction m)) h)
    (λ us os plain are. (sym colon, (t, us, refl, plain, is, are)))
    (operands_wrong (slots m) ts w (ended_more t ts (begins_no_last t.kind (beginnings.Instruction m) is (λ h. cc)) end) (seen_err (Instruction m) (operands_at (slots m) ts) w e))
begun_wrong (beginnings.Directive word) t ts w end is no_end colon e =
    begun_behind t ts w (beginnings.Directive word) (operand_slots word) (λ os. Directs (directed word os)) no_end is colon (λ us h. ap (seen_as (λ os. Directs (directed word os))) h)
    (λ us os plain are. (sym colon, (t, us, word, os, refl, plain, is, are, refl)))
    (operands_wrong (operand_slots word) ts w (ended_more t ts (begins_no_last t.kind (beginnings.Directive word) is (λ h. cc)) end)
    (seen_err (λ os. Directs (directed word os)) (operands_at (operand_slots word) ts) w e))
begun_wrong beginnings.Nothing t ts w end is no_end colon e =
    let v : wrong t (wrong_start t.kind) ≡ w = wrongs _ w e in
    record {
      before = [];
      at = t;
      more = ts;
      whole = refl;
      is_wrong = at_once [] t _ w (sym v);
      fails = λ text label. begun_err beginnings.Nothing t text w no_end is (label ∙ colon) e;
      goes = (a_newline ∷ [], Ends, (sym colon, (a_newline, refl, refl)));
    }

label_err : (t : Token) (us : List Token) (w : SyntaxError) → is_end t.kind ≡ false → label_of t.kind ≡ None → w ≡ wrong t (wrong_label t.kind) → colon_next us ≡ true → part_at (t ∷ us) ≡ Err w
unfolding part_at statement_at
label_err t us w no_end none is colon = rw (no_end, colon) (rw (none, is) refl)

some_label : label_of a_symbol.kind ≡ Some (Label (codes "f"))
unfolding is_symbol register register_names abi_names
some_label = refl

pub part_wrong : (ts : List Token) (w : SyntaxError) → is_ended ts ≡ true → part_at ts ≡ Err w → WrongAt ts w
unfolding part_at statement_at
part_wrong [] w end e = absurd (cc)
part_wrong (t ∷ ts) w end e = go (is_end t.kind) refl e
  where
    labelled : (b : Bool) → colon_next ts ≡ b → is_end t.kind ≡ false → cond b (taken t (after_first ts) (label_of t.kind) (wrong_label t.kind)) (begun_at (begins t.kind) t ts) ≡ Err w
        → WrongAt (t ∷ ts) w
    labelled true colon no_end e =
        let k = taken_err t (after_first ts) (label_of t.kind) (wrong_label t.kind) w e in
        record {
          before = [];
          at = t;
          more = ts;
          whole = refl;
          is_wrong = at_once [] t _ w k.1;
          fails = λ text label. label_err t text w no_end k.0 k.1 (label ∙ colon);
          goes = (a_symbol ∷ a_colon ∷ [], Says (Label (codes "f")), (sym colon, (a_symbol, a_colon, refl, some_label, refl)));
        }
    labelled false colon no_end e = begun_wrong (begins t.kind) t ts w end refl no_end colon e

    go : (b : Bool) → is_end t.kind ≡ b → cond {A = Read SourcePart} b (Ok (Ends, ts)) (seen_as Says (statement_at t ts)) ≡ Err w → WrongAt (t ∷ ts) w
    go true ends e = absurd (never (Ends, ts) w e)
    go false ends e = labelled (colon_next ts) refl ends (seen_err Says (statement_at t ts) w e)

-- a part has a colon behind its first token exactly where it is a label
label_colon : (text : List Token) (s : StatementKind) → IsLabel text s → begins_label text ≡ true
label_colon text s (t, c, w, is, colon) = rw w colon

part_label : (p : SourcePart) (text : List Token) → IsPart p text → is_label_part p ≡ begins_label text
part_label Ends text (t, w, is) = rw w refl
part_label (Says (Label name)) text label = sym (label_colon text (Label name) label)
part_label (Says (Numbered number)) text label = sym (label_colon text (Numbered number) label)
part_label (Says (Instruction m os)) text (t, more, w, colon, is, are) = rw w (sym colon)
part_label (Says (Directs d)) text (t, more, word, os, w, colon, is, are, v) = rw w (sym colon)

pub part_nonempty : (p : SourcePart) (text : List Token) → IsPart p text → (t : Token) × (us : List Token) × (text ≡ t ∷ us)
part_nonempty Ends text (t, w, is) = (t, [], w)
part_nonempty (Says (Label name)) text (t, c, w, is, colon) = (t, c ∷ [], w)
part_nonempty (Says (Numbered number)) text (t, c, w, is, colon) = (t, c ∷ [], w)
part_nonempty (Says (Instruction m os)) text (t, more, w, colon, is, are) = (t, more, w)
part_nonempty (Says (Directs d)) text (t, more, word, os, w, colon, is, are, v) = (t, more, w)

newline_stops : (p : SourcePart) → StopsPart p (a_newline ∷ [])
newline_stops Ends = tt
newline_stops (Says (Label name)) = tt
newline_stops (Says (Numbered number)) = tt
newline_stops (Says (Instruction m os)) = (a_newline, [], refl, refl)
newline_stops (Says (Directs d)) = (a_newline, [], refl, refl)

label_behind : (t : Token) (us : List Token) → begins_label ((t ∷ us) ++ a_newline ∷ []) ≡ begins_label (t ∷ us)
label_behind t [] = refl
label_behind t (u ∷ us) = refl

-- with the wrong token no part goes on
pub stops_there : (ts : List Token) (w : SyntaxError) (x : WrongAt ts w) (p : SourcePart) (text : List Token) → PartOf ts (x.before ++ x.at ∷ text) p → ⊥
stops_there ts w x p text (label, is) =
    let all : List Token = x.before ++ x.at ∷ text in
    let n = part_nonempty p (x.before ++ x.at ∷ text) is in
    let same : begins_label ((x.before ++ x.at ∷ text) ++ a_newline ∷ []) ≡ begins_label ts =
    ap (λ us. begins_label (us ++ a_newline ∷ [])) n.2 ∙ label_behind n.0 n.1 ∙ ap begins_label (sym n.2) ∙ sym (part_label p (x.before ++ x.at ∷ text) is) ∙ label in
    let moved : (x.before ++ x.at ∷ text) ++ a_newline ∷ [] ≡ x.before ++ x.at ∷ (text ++ a_newline ∷ []) = append_assoc x.before (x.at ∷ text) (a_newline ∷ []) in
    let read : part_at ((x.before ++ x.at ∷ text) ++ a_newline ∷ []) ≡ Ok (p, a_newline ∷ []) = part_is p (x.before ++ x.at ∷ text) (a_newline ∷ []) is (newline_stops p) in
    never (p, a_newline ∷ []) w (sym read ∙ ap part_at moved ∙ x.fails (text ++ a_newline ∷ []) (ap begins_label (sym moved) ∙ same))
